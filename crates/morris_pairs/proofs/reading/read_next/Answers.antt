-- The header was read, or the source ended before.
use Rattle.std.proofs.Common.{◌≡◌, ◌-◌, ◌++◌, [], length, take, Some, None, Ok, Err, sym, ap, ◌∙◌, subst, refl, arith, length-take}
use Rattle.std.proofs.KnownBytes.{Consumes-trans}
use Rattle.std.proofs.lemmas.Result.{err_from_is_err_and}
use Rattle.std.proofs.lemmas.List.{take_all}
use Rattle.std.specs.Io.KnownBytes.{Consumes}
use Rattle.morris_pairs.specs.Tables.{Table}
use Rattle.morris_pairs.specs.FileReading.{file_in, next_file_in}
use Rattle.morris_pairs.specs.declared.file_faults.ReadFault.TheVariants as fault
use Rattle.morris_pairs.proofs.ReadingLaws.{reads_failed, counts_after, counts_failed, reads_none, reads_end, reads_on_err, reads_on_ok, may_take, next_file_in-short, next_file_in-err, next_file_in-ok}
use Rattle.morris_pairs.proofs.PlaceLaws.{stands-second_half, stands-short, stands-take}
use Rattle.morris_pairs.proofs.AcceptLaws.{accepts_next}
use Rattle.morris_pairs.proofs.reading.read_next.Goals as goal

pub returns-then-count-eq0-clause-outcome : goal.returns-then-count-eq0-clause-outcome
returns-then-count-eq0-clause-outcome g c =
    let none : take c.in_ok-count.count c.fill.new.buffer ≡ [] = ap (λ n. take n c.fill.new.buffer) c.if-count-eq0.true in
    reads_none g.B.Geometry.shape (g.S.Source.remaining c.args.source.now) (g.S.Source.remaining c.fill.new.source)
    (subst (Consumes (g.S.Source.remaining c.args.source.now) (g.S.Source.remaining c.fill.new.source)) none c.in_ok-count.ensures.bytes)
    (c.in_ok-count.ensures.end (omega (arith, c.fill.auto.buffer)))

pub returns-then-count-lt-HEADER-clause-outcome : goal.returns-then-count-lt-HEADER-clause-outcome
returns-then-count-lt-HEADER-clause-outcome g c =
    let front = take c.in_ok-count.count c.fill.new.buffer in
    let size : length front ≡ c.in_ok-count.count = omega (arith, length-take c.in_ok-count.count c.fill.new.buffer, c.in_ok-count.ensures.within) in
    reads_end (next_file_in g.B.Geometry.shape) (g.S.Source.remaining c.args.source.now) (g.S.Source.remaining c.fill.new.source) front fault.Short
    c.in_ok-count.ensures.bytes (c.in_ok-count.ensures.end (omega (arith, c.fill.auto.buffer)))
    (next_file_in-short g.B.Geometry.shape front (omega arith) (omega arith))

pub returns-in_err-read_after-clause-outcome : goal.returns-in_err-read_after-clause-outcome
returns-in_err-read_after-clause-outcome g c =
    let failed = err_from_is_err_and c.from_residual-in_err-read_after.result c.from_residual-in_err-read_after.ensures.1 in
    let board = g.B.Geometry.shape in
    let header = c.fill.new.buffer in
    let long : length header ≡ 16 = omega (arith, c.fill.auto.buffer) in
    let all : take c.in_ok-count.count header ≡ header = take_all c.in_ok-count.count header (omega arith) in
    let read = subst (Consumes (g.S.Source.remaining c.args.source.now) (g.S.Source.remaining c.fill.new.source)) all c.in_ok-count.ensures.bytes in
    rw (failed.1, failed.2)
    (reads_on_err {A = Table} (λ bytes. file_in board (header ++ bytes)) (next_file_in board) (g.S.Source.remaining c.args.source.now)
    (g.S.Source.remaining c.fill.new.source) (g.S.Source.remaining c.read_after.new.source) header c.in_err-read_after.field-0.0 read
    (λ bytes refused. next_file_in-err board header bytes c.in_err-read_after.field-0.0 long refused) c.in_err-read_after.ensures.outcome)

pub returns-in_err-read_after-clause-memory : goal.returns-in_err-read_after-clause-memory
returns-in_err-read_after-clause-memory g c = λ want.
    let failed = err_from_is_err_and c.from_residual-in_err-read_after.result c.from_residual-in_err-read_after.ensures.1 in
    let header = c.fill.new.buffer in
    let long : length header ≡ 16 = omega (arith, c.fill.auto.buffer) in
    let all : take c.in_ok-count.count header ≡ header = take_all c.in_ok-count.count header (omega arith) in
    let read = subst (Consumes (g.S.Source.remaining c.args.source.now) (g.S.Source.remaining c.fill.new.source)) all c.in_ok-count.ensures.bytes in
    let is_memory : c.in_err-read_after.field-0.0 ≡ fault.Memory = let e = sym failed.1 ∙ want in let k = failed.2 in cc in
    may_take g.B.Geometry.shape header long (g.S.Source.remaining c.args.source.now) (g.S.Source.remaining c.fill.new.source) read
    (c.in_err-read_after.ensures.memory (ap Err is_memory))

pub returns-clause-outcome : goal.returns-clause-outcome
returns-clause-outcome g c =
    let board = g.B.Geometry.shape in
    let header = c.fill.new.buffer in
    let long : length header ≡ 16 = omega (arith, c.fill.auto.buffer) in
    let all : take c.in_ok-count.count header ≡ header = take_all c.in_ok-count.count header (omega arith) in
    let read = subst (Consumes (g.S.Source.remaining c.args.source.now) (g.S.Source.remaining c.fill.new.source)) all c.in_ok-count.ensures.bytes in
    reads_on_ok (λ bytes. file_in board (header ++ bytes)) (next_file_in board) (g.S.Source.remaining c.args.source.now)
    (g.S.Source.remaining c.fill.new.source) (g.S.Source.remaining c.read_after.new.source) header c.in_ok-read_after.field-0 (Some c.in_ok-read_after.field-0) read
    (λ bytes left found. next_file_in-ok board header bytes left c.in_ok-read_after.field-0 long found) c.in_ok-read_after.ensures.outcome

pub returns-in_err-read_after-clause-place : goal.returns-in_err-read_after-clause-place
returns-in_err-read_after-clause-place g c =
    let header = c.fill.new.buffer in
    let long : length header ≡ 16 = omega (arith, c.fill.auto.buffer) in
    let all : take c.in_ok-count.count header ≡ header = take_all c.in_ok-count.count header (omega arith) in
    let read = subst (Consumes (g.S.Source.remaining c.args.source.now) (g.S.Source.remaining c.fill.new.source)) all c.in_ok-count.ensures.bytes in
    stands-second_half g.B.Geometry.shape 0 header long (g.S.Source.remaining c.args.source.now) (g.S.Source.remaining c.fill.new.source)
    (g.S.Source.remaining c.read_after.new.source) read c.in_err-read_after.ensures.place

pub returns-clause-place : goal.returns-clause-place
returns-clause-place g c =
    let header = c.fill.new.buffer in
    let long : length header ≡ 16 = omega (arith, c.fill.auto.buffer) in
    let all : take c.in_ok-count.count header ≡ header = take_all c.in_ok-count.count header (omega arith) in
    let read = subst (Consumes (g.S.Source.remaining c.args.source.now) (g.S.Source.remaining c.fill.new.source)) all c.in_ok-count.ensures.bytes in
    stands-second_half g.B.Geometry.shape 0 header long (g.S.Source.remaining c.args.source.now) (g.S.Source.remaining c.fill.new.source)
    (g.S.Source.remaining c.read_after.new.source) read c.in_ok-read_after.ensures.place

pub returns-in_err-count-clause-complete : goal.returns-in_err-count-clause-complete
returns-in_err-count-clause-complete g c = λ t after raw known.
    let failed = err_from_is_err_and c.from_residual.result c.from_residual.ensures.1 in
    rw (failed.1, failed.2) tt

pub returns-then-count-eq0-clause-complete : goal.returns-then-count-eq0-clause-complete
returns-then-count-eq0-clause-complete g c =
    accepts_next g.B.Geometry.shape (omega (arith, g.met.B.Geometry.few, g.met.B.Geometry.point_count)) g.met.B.Geometry.has_symmetries
    (g.S.Source.remaining c.args.source.now) (g.S.Source.remaining c.fill.new.source) (Ok None) (returns-then-count-eq0-clause-outcome g c)

pub returns-then-count-lt-HEADER-clause-complete : goal.returns-then-count-lt-HEADER-clause-complete
returns-then-count-lt-HEADER-clause-complete g c =
    accepts_next g.B.Geometry.shape (omega (arith, g.met.B.Geometry.few, g.met.B.Geometry.point_count)) g.met.B.Geometry.has_symmetries
    (g.S.Source.remaining c.args.source.now) (g.S.Source.remaining c.fill.new.source) (Err fault.Short) (returns-then-count-lt-HEADER-clause-outcome g c)

pub returns-in_err-read_after-clause-complete : goal.returns-in_err-read_after-clause-complete
returns-in_err-read_after-clause-complete g c =
    accepts_next g.B.Geometry.shape (omega (arith, g.met.B.Geometry.few, g.met.B.Geometry.point_count)) g.met.B.Geometry.has_symmetries
    (g.S.Source.remaining c.args.source.now) (g.S.Source.remaining c.read_after.new.source) c.from_residual-in_err-read_after.result (returns-in_err-read_after-clause-outcome g c)

pub returns-clause-complete : goal.returns-clause-complete
returns-clause-complete g c =
    accepts_next g.B.Geometry.shape (omega (arith, g.met.B.Geometry.few, g.met.B.Geometry.point_count)) g.met.B.Geometry.has_symmetries
    (g.S.Source.remaining c.args.source.now) (g.S.Source.remaining c.read_after.new.source) (Ok (Some c.in_ok-read_after.field-0)) (returns-clause-outcome g c)

pub returns-in_err-count-clause-outcome : goal.returns-in_err-count-clause-outcome
returns-in_err-count-clause-outcome g c =
    let failed = err_from_is_err_and c.from_residual.result c.from_residual.ensures.1 in
    rw failed.1 (reads_failed (next_file_in g.B.Geometry.shape) (g.S.Source.remaining c.args.source.now) (g.S.Source.remaining c.fill.new.source) failed.0 failed.2)

pub returns-in_err-count-clause-place : goal.returns-in_err-count-clause-place
returns-in_err-count-clause-place g c =
    stands-short g.B.Geometry.shape 0 (length c.fill.new.buffer - 1) (g.S.Source.remaining c.args.source.now) (g.S.Source.remaining c.fill.new.source)
    (omega (arith, c.fill.auto.buffer)) c.in_err-count.ensures.place

pub returns-then-count-eq0-clause-place : goal.returns-then-count-eq0-clause-place
returns-then-count-eq0-clause-place g c =
    stands-short g.B.Geometry.shape 0 (length c.fill.new.buffer) (g.S.Source.remaining c.args.source.now) (g.S.Source.remaining c.fill.new.source)
    (omega (arith, c.fill.auto.buffer))
    (stands-take (length c.fill.new.buffer) c.in_ok-count.count c.fill.new.buffer (g.S.Source.remaining c.args.source.now) (g.S.Source.remaining c.fill.new.source)
    c.in_ok-count.ensures.within c.in_ok-count.ensures.bytes)

pub returns-then-count-lt-HEADER-clause-place : goal.returns-then-count-lt-HEADER-clause-place
returns-then-count-lt-HEADER-clause-place g c =
    stands-short g.B.Geometry.shape 0 (length c.fill.new.buffer) (g.S.Source.remaining c.args.source.now) (g.S.Source.remaining c.fill.new.source)
    (omega (arith, c.fill.auto.buffer))
    (stands-take (length c.fill.new.buffer) c.in_ok-count.count c.fill.new.buffer (g.S.Source.remaining c.args.source.now) (g.S.Source.remaining c.fill.new.source)
    c.in_ok-count.ensures.within c.in_ok-count.ensures.bytes)

pub returns-then-count-eq0-clause-file : goal.returns-then-count-eq0-clause-file
returns-then-count-eq0-clause-file g c =
    let none : take c.in_ok-count.count c.fill.new.buffer ≡ [] = ap (λ n. take n c.fill.new.buffer) c.if-count-eq0.true in
    subst (Consumes (g.S.Source.remaining c.args.source.now) (g.S.Source.remaining c.fill.new.source)) none c.in_ok-count.ensures.bytes

pub returns-clause-file : goal.returns-clause-file
returns-clause-file g c =
    let header = c.fill.new.buffer in
    let all : take c.in_ok-count.count header ≡ header = take_all c.in_ok-count.count header (omega (arith, c.fill.auto.buffer)) in
    let read = subst (Consumes (g.S.Source.remaining c.args.source.now) (g.S.Source.remaining c.fill.new.source)) all c.in_ok-count.ensures.bytes in
    let after = c.in_ok-read_after.ensures.file in
    subst (Consumes (g.S.Source.remaining c.args.source.now) (g.S.Source.remaining c.read_after.new.source)) (sym after.2)
    (Consumes-trans (g.S.Source.remaining c.args.source.now) (g.S.Source.remaining c.fill.new.source) (g.S.Source.remaining c.read_after.new.source) header after.0
    read after.1)

pub returns-in_err-count-clause-counted : goal.returns-in_err-count-clause-counted
returns-in_err-count-clause-counted g c =
    let failed = err_from_is_err_and c.from_residual.result c.from_residual.ensures.1 in
    rw failed.1
    (counts_failed (g.S.Source.failures c.args.source.now) (g.S.Source.failures c.args.source.now) (g.S.Source.failures c.fill.new.source) failed.0 failed.2 refl
    c.in_err-count.ensures.counted)

pub returns-then-count-eq0-clause-counted : goal.returns-then-count-eq0-clause-counted
returns-then-count-eq0-clause-counted g c = c.in_ok-count.ensures.counted

pub returns-then-count-lt-HEADER-clause-counted : goal.returns-then-count-lt-HEADER-clause-counted
returns-then-count-lt-HEADER-clause-counted g c = c.in_ok-count.ensures.counted

pub returns-in_err-read_after-clause-counted : goal.returns-in_err-read_after-clause-counted
returns-in_err-read_after-clause-counted g c =
    let failed = err_from_is_err_and c.from_residual-in_err-read_after.result c.from_residual-in_err-read_after.ensures.1 in
    rw (failed.1, failed.2)
    (counts_after (g.S.Source.failures c.args.source.now) (g.S.Source.failures c.fill.new.source) (g.S.Source.failures c.read_after.new.source)
    c.in_err-read_after.field-0.0 c.in_ok-count.ensures.counted c.in_err-read_after.ensures.counted)

pub returns-clause-counted : goal.returns-clause-counted
returns-clause-counted g c = c.in_ok-read_after.ensures.counted ∙ c.in_ok-count.ensures.counted
