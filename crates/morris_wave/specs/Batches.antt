-- Fresh nodes, and the batches of nodes that lead to them.
use Rattle.std.specs.Prelude.{◌≡◌, ℕ, ◌<◌, ◌≤◌, Bool, not, ◌&&◌, nat_lt, List, take, drop, slice_index, ◌==◌, if◌then◌else◌}
use Rattle.std.specs.List.{count_by, All}
use Rattle.std.specs.List.Sorted.{IsNonDecreasing}
use Rattle.morris_wave.specs.Nets.{Net, times}
use Rattle.morris_wave.specs.Waves.{is_fresh}
use Rattle.morris_wave.specs.Blocks.{Parts, IsCut, IsIn, block_of}

-- What a block found at its wave, from node `low` up to, not including, node `high`: the level, the
-- cut and the wave, the block's number, and nodes.
pub record FreshState : Type 0 where
  pub level : ℕ
  pub cut : Parts
  pub wave : ℕ
  pub source : ℕ
  pub low : ℕ
  pub high : ℕ
  pub nodes : List ℕ

-- whether a node is one from `low` up to, not including, `high`
abbrev pub is_from_to : ℕ → ℕ → ℕ → Bool
is_from_to low high i = not (nat_lt i low) && nat_lt i high

-- Exactly the nodes of the block from `low` to `high` of a depth one less than the wave, each once,
-- in ascending order. Some node is from `low` to `high`, unless that is 0.
pub record FreshHolds (g : Net) (f : FreshState) : Type 0 where
  pub cut : IsCut f.cut
  pub size : g.size ≡ f.cut.size
  pub source : f.source < f.cut.blocks
  pub wave : f.wave ≤ 65534
  pub order : f.low ≤ f.high
  pub some : 0 < f.high → f.low < f.high
  pub inside : All (IsIn f.cut f.source) f.nodes
  pub between : All (λ i. (f.low ≤ i) × (i < f.high)) f.nodes
  pub once : (i : ℕ) → IsIn f.cut f.source i → times i f.nodes ≡ (if is_from_to f.low f.high i && is_fresh g f.wave i then 1 else 0)
  pub ascending : IsNonDecreasing f.nodes

-- The fresh nodes before a place among them, and those from it on. The node there is the first one
-- of the piece, and the one before which the rest ends.
abbrev pub rest_of : FreshState → ℕ → FreshState
rest_of f place = record f { high = slice_index f.nodes place; nodes = take place f.nodes }

abbrev pub piece_of : FreshState → ℕ → FreshState
piece_of f place = record f { low = slice_index f.nodes place; nodes = drop place f.nodes }

-- what is sent from one block to another at a wave, for the nodes from `low` up to, not including,
-- `high`
pub record BatchState : Type 0 where
  pub level : ℕ
  pub cut : Parts
  pub wave : ℕ
  pub source : ℕ
  pub low : ℕ
  pub high : ℕ
  pub target : ℕ
  pub nodes : List ℕ

-- whether a node is one of the source that the batch is for
abbrev pub is_sent : BatchState → ℕ → Bool
is_sent b j = (block_of b.cut j == b.source) && is_from_to b.low b.high j

-- For each node of the source from `low` to `high` of depth one less than the wave: its quiet
-- predecessors in the target, each as often as it leads there, in any order.
pub record BatchHolds (g : Net) (b : BatchState) : Type 0 where
  pub source : b.source < b.cut.blocks
  pub target : b.target < b.cut.blocks
  pub order : b.low ≤ b.high
  pub some : 0 < b.high → b.low < b.high
  pub inside : All (IsIn b.cut b.target) b.nodes
  pub often : (i : ℕ) → IsIn b.cut b.target i → times i b.nodes ≡ count_by (λ j. is_sent b j && is_fresh g b.wave j) (g.quiet i)
