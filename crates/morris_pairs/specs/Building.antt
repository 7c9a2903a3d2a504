-- What is built of a pair, and what a sweep answers.
use Rattle.std.specs.Prelude.{◌≡◌, Some, None}
use Rattle.morris_board.specs.Boards.{Shape}
use Rattle.morris_index.specs.Pairs.{Counts}
use Rattle.morris_wave.specs.Values.{IsTooDeep}
use Rattle.morris_wave.specs.declared.sweeping.SweepFault.{SweepFault}
use Rattle.morris_wave.specs.declared.sweeping.SweepFault.TheVariants as sweep
use Rattle.morris_pairs.specs.declared.layout.Layout.{Layout}
use Rattle.morris_pairs.specs.declared.layout.Layout.TheVariants.{Full}
use Rattle.morris_pairs.specs.declared.build_fault.BuildFault.{BuildFault}
use Rattle.morris_pairs.specs.declared.build_fault.BuildFault.TheVariants.{Needs, Workers, Blocks, Memory, Missing, TooDeep}
use Rattle.morris_pairs.specs.Known.{IsBeyondCodes}
use Rattle.morris_pairs.specs.PairNets.{level_of, net_at}
use Rattle.morris_pairs.specs.Shelves.{Stored, first_missing}
use Rattle.morris_pairs.specs.Tables.{Table, IsTable}

-- What is built: the exact table of the pair in the layout. Codes of 16 bits suffice for the pair,
-- by its graph and by the rules of the game.
pub record IsBuilt (board : Shape) (l : Layout) (c : Counts) (t : Table) : Type 0 where
  pub pair : t.pair ≡ c
  pub layout : t.layout ≡ l
  pub exact : IsTable board t
  pub not_too_deep : ¬ IsTooDeep (net_at board (level_of l c))
  pub within : ¬ IsBeyondCodes board c

-- codes of 16 bits don't suffice for it
pub record IsPastCodes (board : Shape) (l : Layout) (c : Counts) : Type 0 where
  pub too_deep : IsTooDeep (net_at board (level_of l c))
  pub beyond : IsBeyondCodes board c

-- Why a sweep doesn't make it, which has neither workers nor blocks.
abbrev pub IsUnswept : {B : Type 0} → Shape → Stored → Counts → BuildFault B → Type 0
IsUnswept board shelf c (Needs needs) = first_missing shelf c ≡ Some needs.0
IsUnswept board shelf c Workers = ⊥
IsUnswept board shelf c Blocks = ⊥
IsUnswept board shelf c Memory = first_missing shelf c ≡ None
IsUnswept board shelf c (Missing number) = ⊥
IsUnswept board shelf c TooDeep = (first_missing shelf c ≡ None) × IsPastCodes board Full c

-- ---- faults

-- what a refusal of the sweep is here
abbrev pub build_fault_of : {B : Type 0} → SweepFault → BuildFault B
build_fault_of sweep.TooDeep = TooDeep
build_fault_of sweep.Memory = Memory
