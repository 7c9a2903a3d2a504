-- Why the graph of a pair wasn't made.
use Rattle.std.specs.Prelude.{Bool, true, false, Option, Some, None}
use Rattle.morris_index.specs.Pairs.{Counts}
use Rattle.morris_pairs.specs.declared.build_fault.BuildFault.{BuildFault}
use Rattle.morris_pairs.specs.declared.build_fault.BuildFault.TheVariants.{Needs, Workers, Blocks, Memory, Missing, TooDeep}

-- the pair whose table is wanted, if that is the reason
abbrev pub needs_in : {B : Type 0} → BuildFault B → Option Counts
needs_in (Needs needs) = Some needs.0
needs_in Workers = None
needs_in Blocks = None
needs_in Memory = None
needs_in (Missing number) = None
needs_in TooDeep = None

-- whether it is a reason for a graph, which wants the tables and, for classes, memory
abbrev pub is_of_graph : {B : Type 0} → BuildFault B → Bool
is_of_graph (Needs needs) = true
is_of_graph Workers = false
is_of_graph Blocks = false
is_of_graph Memory = true
is_of_graph (Missing number) = false
is_of_graph TooDeep = false
