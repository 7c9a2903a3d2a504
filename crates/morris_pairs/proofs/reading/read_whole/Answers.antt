-- Where fewer bytes were read than the buffer has room for, these are all that there were.
use Rattle.std.proofs.Common.{◌-◌, length, take, refl, subst, arith, length-take}
use Rattle.std.proofs.lemmas.Result.{err_from_is_err_and}
use Rattle.std.proofs.lemmas.List.{take_all}
use Rattle.std.specs.Io.KnownBytes.{Consumes}
use Rattle.morris_pairs.proofs.ReadingLaws.{ends_failed, ends_short, counts_failed}
use Rattle.morris_pairs.proofs.PlaceLaws.{stands-take, stands-fewer}
use Rattle.morris_pairs.proofs.reading.read_whole.Goals as goal

pub returns-in_err-fill-clause-refused : goal.returns-in_err-fill-clause-refused
returns-in_err-fill-clause-refused g c =
    let failed = err_from_is_err_and c.from_residual.result c.from_residual.ensures.1 in
    rw failed.1 (ends_failed (length c.fill.new.buffer) (g.S.Source.remaining c.args.source.now) failed.0 failed.2)

pub returns-in_err-fill-clause-place : goal.returns-in_err-fill-clause-place
returns-in_err-fill-clause-place g c =
    let failed = err_from_is_err_and c.from_residual.result c.from_residual.ensures.1 in
    rw failed.1
    (stands-fewer (length c.fill.new.buffer - 1) (length c.fill.new.buffer) (g.S.Source.remaining c.args.source.now) (g.S.Source.remaining c.fill.new.source)
    (omega arith) c.in_err-fill.ensures.place)

pub returns-in_err-fill-clause-counted : goal.returns-in_err-fill-clause-counted
returns-in_err-fill-clause-counted g c =
    let failed = err_from_is_err_and c.from_residual.result c.from_residual.ensures.1 in
    rw failed.1
    (counts_failed (g.S.Source.failures c.args.source.now) (g.S.Source.failures c.args.source.now) (g.S.Source.failures c.fill.new.source) failed.0 failed.2 refl
    c.in_err-fill.ensures.counted)

pub returns-then-branch-wanted-clause-refused : goal.returns-then-branch-wanted-clause-refused
returns-then-branch-wanted-clause-refused g c =
    let part = take c.in_ok-fill.field-0 c.fill.new.buffer in
    ends_short (length c.fill.new.buffer) (g.S.Source.remaining c.args.source.now) (g.S.Source.remaining c.fill.new.source) part c.in_ok-fill.ensures.bytes
    (c.in_ok-fill.ensures.end (omega (arith, c.fill.auto.buffer)))
    (omega (arith, length-take c.in_ok-fill.field-0 c.fill.new.buffer, c.fill.auto.buffer))

pub returns-then-branch-wanted-clause-place : goal.returns-then-branch-wanted-clause-place
returns-then-branch-wanted-clause-place g c =
    stands-take (length c.fill.new.buffer) c.in_ok-fill.field-0 c.fill.new.buffer (g.S.Source.remaining c.args.source.now)
    (g.S.Source.remaining c.fill.new.source) c.in_ok-fill.ensures.within c.in_ok-fill.ensures.bytes

pub returns-then-branch-wanted-clause-counted : goal.returns-then-branch-wanted-clause-counted
returns-then-branch-wanted-clause-counted g c = c.in_ok-fill.ensures.counted

pub returns-clause-bytes : goal.returns-clause-bytes
returns-clause-bytes g c =
    subst (Consumes (g.S.Source.remaining c.args.source.now) (g.S.Source.remaining c.fill.new.source))
    (take_all c.in_ok-fill.field-0 c.fill.new.buffer (omega (arith, c.fill.auto.buffer))) c.in_ok-fill.ensures.bytes

pub returns-clause-counted : goal.returns-clause-counted
returns-clause-counted g c = c.in_ok-fill.ensures.counted
