-- A file alone: what refuses the next file, and what follows it.
use Rattle.std.proofs.Common.{◌≡◌, ℕ, ◌-◌, [], length, take, Ok, Err, ap, ◌∙◌, subst, refl, arith, append-nil, length-take}
use Rattle.std.proofs.KnownBytes.{Consumes-trans}
use Rattle.morris_pairs.specs.TableFiles.{file_of, next_file_of}
use Rattle.std.proofs.lemmas.Result.{err_from_is_err_and}
use Rattle.std.specs.Io.KnownBytes.{Consumes}
use Rattle.morris_pairs.specs.FileReading.{Reads, bytes_past, next_file_in, only_file_in}
use Rattle.morris_pairs.specs.declared.file_faults.ReadFault.TheVariants as fault
use Rattle.morris_pairs.proofs.ReadingLaws.{reads_failed, counts_after, counts_failed, reads_only_err, reads_only_none, reads_only_trailing, reads_only_ok}
use Rattle.morris_pairs.proofs.PlaceLaws.{stands-here, stands-take, stands-past}
use Rattle.morris_pairs.proofs.AcceptLaws.{accepts_only}
use Rattle.morris_pairs.proofs.reading.read_table.Goals as goal

pub returns-in_err-raw-clause-outcome : goal.returns-in_err-raw-clause-outcome
returns-in_err-raw-clause-outcome g c =
    let failed = err_from_is_err_and c.from_residual.result c.from_residual.ensures.1 in
    rw (failed.1, failed.2)
    (reads_only_err g.B.Geometry.shape (g.S.Source.remaining c.args.source.now) (g.S.Source.remaining c.read_next.new.source) c.in_err-raw.field-0.0
    c.in_err-raw.ensures.outcome)

pub returns-in_default-clause-outcome : goal.returns-in_default-clause-outcome
returns-in_default-clause-outcome g c =
    reads_only_none g.B.Geometry.shape (g.S.Source.remaining c.args.source.now) (g.S.Source.remaining c.read_next.new.source)
    (subst (λ found. Reads (next_file_in g.B.Geometry.shape) (g.S.Source.remaining c.args.source.now) (g.S.Source.remaining c.read_next.new.source) (Ok found))
    c.in_default.is c.in_ok-raw.ensures.outcome)

pub returns-then-branch-gt0-clause-outcome : goal.returns-then-branch-gt0-clause-outcome
returns-then-branch-gt0-clause-outcome g c =
    let more = take c.in_ok-fill.field-0 c.fill.new.buffer in
    reads_only_trailing g.B.Geometry.shape (g.S.Source.remaining c.args.source.now) (g.S.Source.remaining c.read_next.new.source)
    (g.S.Source.remaining c.fill.new.source) c.in-Some.raw more
    (subst (λ found. Reads (next_file_in g.B.Geometry.shape) (g.S.Source.remaining c.args.source.now) (g.S.Source.remaining c.read_next.new.source) (Ok found))
    c.in-Some.is c.in_ok-raw.ensures.outcome)
    c.in_ok-fill.ensures.bytes
    (omega (arith, length-take c.in_ok-fill.field-0 c.fill.new.buffer, c.in_ok-fill.ensures.within))

pub returns-clause-outcome : goal.returns-clause-outcome
returns-clause-outcome g c =
    let zero_read : c.in_ok-fill.field-0 ≡ 0 = omega arith in
    let none : take c.in_ok-fill.field-0 c.fill.new.buffer ≡ [] = ap (λ n. take n c.fill.new.buffer) zero_read in
    reads_only_ok g.B.Geometry.shape (g.S.Source.remaining c.args.source.now) (g.S.Source.remaining c.read_next.new.source)
    (g.S.Source.remaining c.fill.new.source) c.in-Some.raw
    (subst (λ found. Reads (next_file_in g.B.Geometry.shape) (g.S.Source.remaining c.args.source.now) (g.S.Source.remaining c.read_next.new.source) (Ok found))
    c.in-Some.is c.in_ok-raw.ensures.outcome)
    (subst (Consumes (g.S.Source.remaining c.read_next.new.source) (g.S.Source.remaining c.fill.new.source)) none c.in_ok-fill.ensures.bytes)
    (c.in_ok-fill.ensures.end (omega (arith, c.fill.auto.buffer)))

pub returns-in_err-fill-clause-place : goal.returns-in_err-fill-clause-place
returns-in_err-fill-clause-place g c =
    let failed = err_from_is_err_and c.from_residual-in_err-fill.result c.from_residual-in_err-fill.ensures.1 in
    rw (failed.1, failed.2)
    (stands-past g.B.Geometry.shape (length c.fill.new.buffer - 1) 0 0 (g.S.Source.remaining c.args.source.now) (g.S.Source.remaining c.read_next.new.source)
    (g.S.Source.remaining c.fill.new.source) (omega (arith, c.fill.auto.buffer)) c.read_next.ensures.place c.in_err-fill.ensures.place)

pub returns-then-branch-gt0-clause-place : goal.returns-then-branch-gt0-clause-place
returns-then-branch-gt0-clause-place g c =
    stands-past g.B.Geometry.shape (length c.fill.new.buffer) 0 1 (g.S.Source.remaining c.args.source.now) (g.S.Source.remaining c.read_next.new.source)
    (g.S.Source.remaining c.fill.new.source) (omega (arith, c.fill.auto.buffer)) c.read_next.ensures.place
    (stands-take (length c.fill.new.buffer) c.in_ok-fill.field-0 c.fill.new.buffer (g.S.Source.remaining c.read_next.new.source)
    (g.S.Source.remaining c.fill.new.source) c.in_ok-fill.ensures.within c.in_ok-fill.ensures.bytes)

pub returns-in_err-raw-clause-complete : goal.returns-in_err-raw-clause-complete
returns-in_err-raw-clause-complete g c =
    accepts_only g.B.Geometry.shape (omega (arith, g.met.B.Geometry.few, g.met.B.Geometry.point_count)) g.met.B.Geometry.has_symmetries
    (g.S.Source.remaining c.args.source.now) (g.S.Source.remaining c.read_next.new.source) c.from_residual.result (returns-in_err-raw-clause-outcome g c)

pub returns-in_default-clause-complete : goal.returns-in_default-clause-complete
returns-in_default-clause-complete g c =
    accepts_only g.B.Geometry.shape (omega (arith, g.met.B.Geometry.few, g.met.B.Geometry.point_count)) g.met.B.Geometry.has_symmetries
    (g.S.Source.remaining c.args.source.now) (g.S.Source.remaining c.read_next.new.source) (Err fault.Short) (returns-in_default-clause-outcome g c)

pub returns-then-branch-gt0-clause-complete : goal.returns-then-branch-gt0-clause-complete
returns-then-branch-gt0-clause-complete g c =
    accepts_only g.B.Geometry.shape (omega (arith, g.met.B.Geometry.few, g.met.B.Geometry.point_count)) g.met.B.Geometry.has_symmetries
    (g.S.Source.remaining c.args.source.now) (g.S.Source.remaining c.fill.new.source) (Err fault.Trailing) (returns-then-branch-gt0-clause-outcome g c)

pub returns-clause-complete : goal.returns-clause-complete
returns-clause-complete g c =
    accepts_only g.B.Geometry.shape (omega (arith, g.met.B.Geometry.few, g.met.B.Geometry.point_count)) g.met.B.Geometry.has_symmetries
    (g.S.Source.remaining c.args.source.now) (g.S.Source.remaining c.fill.new.source) (Ok c.in-Some.raw) (returns-clause-outcome g c)

pub returns-in_err-fill-clause-complete : goal.returns-in_err-fill-clause-complete
returns-in_err-fill-clause-complete g c = λ t raw known.
    let failed = err_from_is_err_and c.from_residual-in_err-fill.result c.from_residual-in_err-fill.ensures.1 in
    rw (failed.1, failed.2) tt

pub returns-in_err-fill-clause-outcome : goal.returns-in_err-fill-clause-outcome
returns-in_err-fill-clause-outcome g c =
    let failed = err_from_is_err_and c.from_residual-in_err-fill.result c.from_residual-in_err-fill.ensures.1 in
    rw failed.1 (reads_failed (only_file_in g.B.Geometry.shape) (g.S.Source.remaining c.args.source.now) (g.S.Source.remaining c.fill.new.source) failed.0 failed.2)

pub returns-in_err-raw-clause-place : goal.returns-in_err-raw-clause-place
returns-in_err-raw-clause-place g c =
    let failed = err_from_is_err_and c.from_residual.result c.from_residual.ensures.1 in
    rw failed.1
    (stands-past g.B.Geometry.shape 0 0 (bytes_past {A = ℕ} (Err failed.0)) (g.S.Source.remaining c.args.source.now) (g.S.Source.remaining c.read_next.new.source)
    (g.S.Source.remaining c.read_next.new.source) (omega arith) c.read_next.ensures.place (stands-here 0 (g.S.Source.remaining c.read_next.new.source)))

pub returns-in_default-clause-place : goal.returns-in_default-clause-place
returns-in_default-clause-place g c = c.read_next.ensures.place

pub returns-clause-place : goal.returns-clause-place
returns-clause-place g c =
    let zero_read : c.in_ok-fill.field-0 ≡ 0 = omega arith in
    let none : take c.in_ok-fill.field-0 c.fill.new.buffer ≡ [] = ap (λ n. take n c.fill.new.buffer) zero_read in
    stands-past g.B.Geometry.shape 0 0 0 (g.S.Source.remaining c.args.source.now) (g.S.Source.remaining c.read_next.new.source)
    (g.S.Source.remaining c.fill.new.source) (omega arith) c.read_next.ensures.place
    ([], omega arith, subst (Consumes (g.S.Source.remaining c.read_next.new.source) (g.S.Source.remaining c.fill.new.source)) none c.in_ok-fill.ensures.bytes)

pub returns-clause-file : goal.returns-clause-file
returns-clause-file g c =
    let file = file_of g.B.Geometry.shape c.in-Some.raw in
    let zero_read : c.in_ok-fill.field-0 ≡ 0 = omega arith in
    let none : take c.in_ok-fill.field-0 c.fill.new.buffer ≡ [] = ap (λ n. take n c.fill.new.buffer) zero_read in
    let whole : Consumes (g.S.Source.remaining c.args.source.now) (g.S.Source.remaining c.read_next.new.source) file =
    subst (λ found. Consumes (g.S.Source.remaining c.args.source.now) (g.S.Source.remaining c.read_next.new.source) (next_file_of g.B.Geometry.shape found))
    c.in-Some.is c.in_ok-raw.ensures.file in
    subst (Consumes (g.S.Source.remaining c.args.source.now) (g.S.Source.remaining c.fill.new.source)) (append-nil file)
    (Consumes-trans (g.S.Source.remaining c.args.source.now) (g.S.Source.remaining c.read_next.new.source) (g.S.Source.remaining c.fill.new.source) file [] whole
    (subst (Consumes (g.S.Source.remaining c.read_next.new.source) (g.S.Source.remaining c.fill.new.source)) none c.in_ok-fill.ensures.bytes))

pub returns-in_err-raw-clause-counted : goal.returns-in_err-raw-clause-counted
returns-in_err-raw-clause-counted g c =
    let failed = err_from_is_err_and c.from_residual.result c.from_residual.ensures.1 in
    rw (failed.1, failed.2)
    (counts_after (g.S.Source.failures c.args.source.now) (g.S.Source.failures c.args.source.now) (g.S.Source.failures c.read_next.new.source)
    c.in_err-raw.field-0.0 refl c.in_err-raw.ensures.counted)

pub returns-in_default-clause-counted : goal.returns-in_default-clause-counted
returns-in_default-clause-counted g c = c.in_ok-raw.ensures.counted

pub returns-in_err-fill-clause-counted : goal.returns-in_err-fill-clause-counted
returns-in_err-fill-clause-counted g c =
    let failed = err_from_is_err_and c.from_residual-in_err-fill.result c.from_residual-in_err-fill.ensures.1 in
    rw failed.1
    (counts_failed (g.S.Source.failures c.args.source.now) (g.S.Source.failures c.read_next.new.source) (g.S.Source.failures c.fill.new.source) failed.0 failed.2
    c.in_ok-raw.ensures.counted c.in_err-fill.ensures.counted)

pub returns-then-branch-gt0-clause-counted : goal.returns-then-branch-gt0-clause-counted
returns-then-branch-gt0-clause-counted g c = c.in_ok-fill.ensures.counted ∙ c.in_ok-raw.ensures.counted

pub returns-clause-counted : goal.returns-clause-counted
returns-clause-counted g c = c.in_ok-fill.ensures.counted ∙ c.in_ok-raw.ensures.counted
