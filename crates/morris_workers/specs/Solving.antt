-- What a solver answers of a graph, by so many workers and blocks.
use Rattle.std.specs.Prelude.{◌≡◌, ℕ, ◌<◌, None, Some, slice_index, Vec, vec_len}
use Rattle.std.specs.declared.alloc.Global.{Global}
use Rattle.morris_wave.specs.Nets.{Net}
use Rattle.morris_wave.specs.Values.{HasCode, IsTooDeep}
use Rattle.morris_workers.specs.Ranges.{range_fault}
use Rattle.morris_workers.specs.declared.fault.SolveFault.{SolveFault}
use Rattle.morris_workers.specs.declared.fault.SolveFault.TheVariants.{Workers, Blocks, Memory, Missing, TooDeep}

-- The codes of a graph: one of each node, 0 for a draw and otherwise one more than its depth. No
-- depth in the graph is too great for one.
pub record AreCodes (g : Net) (codes : Vec ℕ Global) : Type 0 where
  pub len : vec_len codes ≡ g.size
  pub each : (i : ℕ) → i < g.size → HasCode g i (slice_index codes.items i)
  pub not_too_deep : ¬ IsTooDeep g

-- Why there are none, and what is so then. Numbers of workers and blocks that are out of range are
-- refused, workers first, and refused before all else. A block that is missing is one of the
-- blocks, and a graph that is called too deep is.
abbrev pub IsRefusal : Net → ℕ → ℕ → SolveFault → Type 0
IsRefusal g workers blocks Workers = range_fault workers blocks ≡ Some Workers
IsRefusal g workers blocks Blocks = range_fault workers blocks ≡ Some Blocks
IsRefusal g workers blocks Memory = range_fault workers blocks ≡ None
IsRefusal g workers blocks (Missing number) = (range_fault workers blocks ≡ None) × (number < blocks)
IsRefusal g workers blocks TooDeep = (range_fault workers blocks ≡ None) × IsTooDeep g
