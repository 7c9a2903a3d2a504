-- The sets with lesser ranks are in the table, and the next one is at hand.
use Rattle.std.proofs.Common.{◌<◌}
use Rattle.morris_index.specs.Binomials.{choose}
use Rattle.morris_index.specs.Numbering.{IsRanked}
use Rattle.morris_index.specs.Classes.{classes_in, canonicalizing_in, IsClassTable}
use Rattle.morris_index.proofs.classes.fill_table.Given as goal

abbrev pub invariant-loop-index : goal.invariant-loop-index
invariant-loop-index g l = record {
  table : IsClassTable g.B.Geometry.shape g.B.Geometry.POINTS l.count l.index (classes_in l.table.set_classes.items) (canonicalizing_in l.table.set_classes.items) l.table.representatives.items;
  next : l.index < choose g.B.Geometry.POINTS l.count → IsRanked g.B.Geometry.POINTS 0 l.count l.index l.set;
}
