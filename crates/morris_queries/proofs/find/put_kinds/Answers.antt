use Rattle.std.proofs.Common.{ℕ, Err, Ok, refl}
use Rattle.std.specs.Prelude.{IsOk}
use Rattle.std.proofs.lemmas.Result.{err_from_is_err_and}
use Rattle.morris_board.specs.declared.streams.Failed.{Failed}
use Rattle.morris_queries.proofs.FoundLaws.{not_ok, puts_first, puts_second}
use Rattle.morris_queries.proofs.find.put_kinds.Goals as goal

-- no code of the first kind's could be read
pub returns-in_err-left-clause-put : goal.returns-in_err-left-clause-put
returns-in_err-left-clause-put g c =
    let failed = err_from_is_err_and c.from_residual.result c.from_residual.ensures.1 in
    rw failed.1
    (puts_first g.S.Sink.contents g.S.Sink.failures g.B.Geometry.shape c.args.entries.now c.args.all c.args.kinds c.args.most c.args.out.now c.put_kind.new.out
    c.in_err-left.field-0.0 failed.0 c.in_err-left.ensures.put)

-- none of the second's
pub returns-in_err-put_kind-clause-put : goal.returns-in_err-put_kind-clause-put
returns-in_err-put_kind-clause-put g c =
    let failed = err_from_is_err_and c.from_residual-in_err-put_kind.result c.from_residual-in_err-put_kind.ensures.1 in
    rw failed.1
    (puts_second g.S.Sink.contents g.S.Sink.failures g.B.Geometry.shape c.args.entries.now c.args.all c.args.kinds c.args.most c.args.out.now c.put_kind.new.out
    c.put_kind-2.new.out c.in_ok-left.left c.in_ok-left.ensures.put (Err c.in_err-put_kind.field-0.0) (Err failed.0) (not_ok (Unit {0}) Failed (IsOk {T = ℕ} (Err c.in_err-put_kind.field-0.0)) failed.0)
    (rw c.put_kind.ensures.stays at c.in_err-put_kind.ensures.put))

-- both came to their end
pub returns-clause-put : goal.returns-clause-put
returns-clause-put g c =
    puts_second g.S.Sink.contents g.S.Sink.failures g.B.Geometry.shape c.args.entries.now c.args.all c.args.kinds c.args.most c.args.out.now c.put_kind.new.out
    c.put_kind-2.new.out c.in_ok-left.left c.in_ok-left.ensures.put (Ok c.in_ok-put_kind.field-0) (Ok (tt {0})) (λ ok. refl)
    (rw c.put_kind.ensures.stays at c.in_ok-put_kind.ensures.put)
