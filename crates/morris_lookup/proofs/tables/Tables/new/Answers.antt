use Rattle.std.proofs.Common.{arith, None, [], ◌∷◌, ap, length, length-append}
use Rattle.morris_lookup.proofs.FileSetLaws.{none-nothing, none-lawful, none-push}
use Rattle.morris_lookup.proofs.tables.Tables.new.Goals as goal

pub invariant_of-result : goal.invariant_of-result
invariant_of-result g c = none-lawful _ c.loop.invariant.empty g.B.Geometry.shape (omega arith)

pub returns : goal.returns
returns g c = none-nothing _ c.loop.invariant.empty

pub loop-preserved : goal.loop-preserved
loop-preserved g c = record {
  count = omega (arith, ap length c.in_ok-push.ensures.items, length-append c.loop.files.items (None ∷ []), c.loop.invariant.count);
  empty = λ k. rw c.in_ok-push.ensures.items (none-push c.loop.files.items c.loop.invariant.empty k);
}
