use Rattle.std.proofs.Common.{arith}
use Rattle.morris_pairs.proofs.ShelfLaws.{empty-nothing, empty-push}
use Rattle.morris_pairs.proofs.TableSetLaws.{empty-tables}
use Rattle.morris_pairs.proofs.table_set.TableSet.new.Goals as goal

pub loop-preserved : goal.loop-preserved
loop-preserved g c = record {
  count = omega (arith, c.push_reserved.ensures.len, c.loop.invariant.count);
  room = omega (arith, c.push_reserved.ensures.capacity, c.loop.invariant.room);
  empty = rw c.push_reserved.ensures.items (empty-push c.loop.tables.items c.loop.invariant.empty);
}

pub invariant_of-result : goal.invariant_of-result
invariant_of-result g c = empty-tables _ c.loop.invariant.empty g.B.Geometry.shape (omega arith)

pub returns-clause-none : goal.returns-clause-none
returns-clause-none g c = empty-nothing _ c.loop.invariant.empty

pub returns-clause-lawful : goal.returns-clause-lawful
returns-clause-lawful g c = invariant_of-result g c
