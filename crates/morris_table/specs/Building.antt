-- What a build of the table of a pair by several workers answers.
use Rattle.std.specs.Prelude.{◌≡◌, ℕ, ◌<◌, Option, Some, None}
use Rattle.morris_board.specs.Boards.{Shape}
use Rattle.morris_index.specs.Pairs.{Counts}
use Rattle.morris_workers.specs.Ranges.{range_fault}
use Rattle.morris_workers.specs.declared.fault.SolveFault.{SolveFault}
use Rattle.morris_workers.specs.declared.fault.SolveFault.TheVariants as solve
use Rattle.morris_pairs.specs.declared.layout.Layout.{Layout}
use Rattle.morris_pairs.specs.declared.layout.Layout.TheVariants.{Full, Classes}
use Rattle.morris_pairs.specs.declared.build_fault.BuildFault.{BuildFault}
use Rattle.morris_pairs.specs.declared.build_fault.BuildFault.TheVariants.{Needs, Workers, Blocks, Memory, Missing, TooDeep}
use Rattle.morris_pairs.specs.Building.{IsPastCodes}
use Rattle.morris_pairs.specs.Shelves.{Stored, first_missing}

-- when memory may be wanting: once the numbers of workers and blocks are in range; in layout
-- Classes it is asked for the classes before that
abbrev pub MayWantMemory : Layout → Option SolveFault → Type 0
MayWantMemory Full range = range ≡ None
MayWantMemory Classes range = Unit {0}

-- Why workers don't build it, and what is so then. A pair that is needed and isn't on the shelf is
-- named before all else, the first one. Then come numbers out of range, workers before blocks, and
-- then what the work itself refuses.
abbrev pub IsUnbuilt : {B : Type 0} → Shape → Stored → Layout → Counts → ℕ → ℕ → BuildFault B → Type 0
IsUnbuilt board shelf l c workers blocks (Needs needs) = first_missing shelf c ≡ Some needs.0
IsUnbuilt board shelf l c workers blocks Workers = (first_missing shelf c ≡ None) × (range_fault workers blocks ≡ Some solve.Workers)
IsUnbuilt board shelf l c workers blocks Blocks = (first_missing shelf c ≡ None) × (range_fault workers blocks ≡ Some solve.Blocks)
IsUnbuilt board shelf l c workers blocks Memory = (first_missing shelf c ≡ None) × MayWantMemory l (range_fault workers blocks)
IsUnbuilt board shelf l c workers blocks (Missing number) = (first_missing shelf c ≡ None) × (range_fault workers blocks ≡ None) × (number < blocks)
IsUnbuilt board shelf l c workers blocks TooDeep = (first_missing shelf c ≡ None) × (range_fault workers blocks ≡ None) × IsPastCodes board l c

-- what a refusal of the workers is here
abbrev pub build_fault_of : {B : Type 0} → SolveFault → BuildFault B
build_fault_of solve.Workers = Workers
build_fault_of solve.Blocks = Blocks
build_fault_of solve.Memory = Memory
build_fault_of (solve.Missing number) = Missing number
build_fault_of solve.TooDeep = TooDeep
