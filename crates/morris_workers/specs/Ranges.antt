-- How many workers and blocks there may be, and what a fault says.
use Rattle.std.specs.Prelude.{ℕ, ◌<◌, ◌||◌, ◌==◌, nat_lt, Option, Some, None, if◌then◌else◌}
use Rattle.morris_wave.specs.Nets.{Net}
use Rattle.morris_wave.specs.Values.{IsTooDeep}
use Rattle.morris_wave.specs.declared.gathering.GatherFault.{GatherFault}
use Rattle.morris_wave.specs.declared.gathering.GatherFault.TheVariants as gathering
use Rattle.morris_workers.specs.declared.fault.SolveFault.{SolveFault}
use Rattle.morris_workers.specs.declared.fault.SolveFault.TheVariants.{Workers, Blocks, Memory, Missing, TooDeep}

-- What is wrong with these numbers: workers are 1 to 64, and then blocks are 1 to 1,024.
abbrev pub range_fault : ℕ → ℕ → Option SolveFault
range_fault workers blocks =
    if (workers == 0) || nat_lt 64 workers
    then Some Workers
    else (if (blocks == 0) || nat_lt 1024 blocks then Some Blocks else None)

-- What a fault says that comes once the numbers are in range: the block that is missing is one of
-- the blocks, and where it says that the graph is too deep, it is.
abbrev pub Tells : Net → ℕ → SolveFault → Type 0
Tells g blocks Workers = ⊥
Tells g blocks Blocks = ⊥
Tells g blocks Memory = Unit {0}
Tells g blocks (Missing number) = number < blocks
Tells g blocks TooDeep = IsTooDeep g

-- what is answered where blocks aren't gathered: a block is missing, or memory is
abbrev pub solve_fault_of : GatherFault → SolveFault
solve_fault_of (gathering.Foreign place) = Missing place
solve_fault_of (gathering.Double number) = Missing number
solve_fault_of (gathering.Missing number) = Missing number
solve_fault_of gathering.Memory = Memory
