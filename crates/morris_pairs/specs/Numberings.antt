-- How the entries of a pair are numbered, and how the successors and predecessors of a position
-- are.
use Rattle.morris_index.specs.Pairs.{Counts}
use Rattle.morris_index.specs.Moves.{InPair}
use Rattle.morris_pairs.specs.declared.layout.Layout.{Layout}
use Rattle.morris_pairs.specs.declared.layout.Layout.TheVariants as layout
use Rattle.morris_pairs.specs.declared.numbering.Numbering.{Numbering}
use Rattle.morris_pairs.specs.declared.numbering.Numbering.TheVariants as numbering
use Rattle.morris_pairs.specs.declared.numbering.Successors.{Successors}
use Rattle.morris_pairs.specs.declared.numbering.Successors.TheVariants as successors
use Rattle.morris_pairs.specs.declared.numbering.Predecessors.{Predecessors}
use Rattle.morris_pairs.specs.declared.numbering.Predecessors.TheVariants as predecessors

-- the layout of a numbering, and its pair
abbrev pub layout_of : {B : Type 0} → Numbering B → Layout
layout_of (numbering.Full pair) = layout.Full
layout_of (numbering.Classes pair) = layout.Classes

abbrev pub pair_of : {B : Type 0} → Numbering B → Counts
pair_of (numbering.Full pair) = pair
pair_of (numbering.Classes pair) = pair

-- the layout in which the successors of a position are found, and the position in its pair
abbrev pub layout_after : {B : Type 0} → Successors B → Layout
layout_after (successors.Full from) = layout.Full
layout_after (successors.Classes from) = layout.Classes

abbrev pub position_before : {B : Type 0} → Successors B → InPair
position_before (successors.Full from) = from
position_before (successors.Classes from) = from

-- the layout in which the predecessors of a position are found, and the position in its pair
abbrev pub layout_before : {B : Type 0} → Predecessors B → Layout
layout_before (predecessors.Full to) = layout.Full
layout_before (predecessors.Classes to) = layout.Classes

abbrev pub position_after : {B : Type 0} → Predecessors B → InPair
position_after (predecessors.Full to) = to.now
position_after (predecessors.Classes to) = to.now
