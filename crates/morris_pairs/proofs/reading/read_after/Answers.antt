-- What was read after a header, and what the steps of the format make of it.
use Rattle.std.proofs.Common.{◌≡◌, ℕ, Bool, true, false, not, ◌+◌, ◌*◌, List, ◌++◌, length, Option, Some, None, Ok, Err, sym, ap, ◌∙◌, subst, refl, arith}
use Rattle.std.proofs.KnownBytes.{Consumes-trans}
use Rattle.std.proofs.lemmas.Result.{err_from_is_err_and}
use Rattle.std.specs.Str.{bytes_eq}
use Rattle.std.proofs.lemmas.Slice.Eq.{bytes_eq-Decides}
use Rattle.sha2.specs.Sha256.{sha256}
use Rattle.morris_board.specs.Boards.{Shape}
use Rattle.morris_index.specs.Pairs.{Counts}
use Rattle.morris_pairs.specs.declared.layout.Layout.{Layout}
use Rattle.morris_pairs.specs.Entries.{entry_count}
use Rattle.morris_pairs.specs.Numberings.{layout_of, pair_of}
use Rattle.morris_pairs.specs.Tables.{Table, table}
use Rattle.morris_pairs.specs.TableFiles.{code_bytes, file_of}
use Rattle.morris_pairs.specs.FileReading.{body_length, file_in, header_in, header_at, check_header, Reads, IsHeaderRefusal}
use Rattle.morris_pairs.specs.declared.file_faults.ReadFault.{ReadFault}
use Rattle.morris_pairs.specs.declared.file_faults.ReadFault.TheVariants as fault
use Rattle.morris_pairs.proofs.FileLaws.{length-code_bytes, unless-true, unless-false, file_of-read}
use Rattle.morris_pairs.proofs.ReadingLaws.{reads_ok, roomless_of, reads_err, reads_early, early_after, counts_after, counts_header, file_in-bad_header, file_in-short_body, file_in-whole}
use Rattle.morris_pairs.proofs.PlaceLaws.{stands-after, body_length-is}
use Rattle.morris_pairs.proofs.reading.read_after.Given as given
use Rattle.morris_pairs.proofs.reading.read_after.Goals as goal
use Rattle.morris_pairs.proofs.reading.read_after.Goals.{After-count, After-finalize}

-- what the header names, and how long the rest of the file is then
abbrev kind_named : (g : given.Over) (c : After-count g) → Layout × Counts
kind_named g c = (layout_of c.in_ok-numbering.numbering, pair_of c.in_ok-numbering.numbering)

named : (g : given.Over) (c : After-count g) → check_header g.B.Geometry.shape (header_at c.args.header.now) ≡ Ok (kind_named g c)
named g c = ap (check_header g.B.Geometry.shape) (sym c.from_bytes.ensures) ∙ c.in_ok-numbering.ensures.found

sized : (g : given.Over) (c : After-count g) → c.count.result ≡ entry_count g.B.Geometry.shape g.B.Geometry.shape.points (kind_named g c).0 (kind_named g c).1
sized g c = c.count.ensures.value ∙ ap (λ n. entry_count g.B.Geometry.shape n (kind_named g c).0 (kind_named g c).1) (sym g.met.B.Geometry.point_count)

size : (g : given.Over) (c : After-count g) → body_length g.B.Geometry.shape (header_in g.B.Geometry.shape c.args.header.now) ≡ 2 * c.count.result + 32
size g c = body_length-is g.B.Geometry.shape g.B.Geometry.POINTS g.met.B.Geometry.point_count c.args.header.now c.told-header (kind_named g c) c.count.result (named g c) c.count.ensures.value

-- the digest that is to follow
right : (g : given.Over) (c : After-finalize g) → c.finalize.result ≡ sha256 (c.args.header.now ++ code_bytes c.in_ok-codes.codes.items)
right g c =
    c.finalize.ensures (c.args.header.now ++ code_bytes c.in_ok-codes.codes.items) (c.in_ok-codes.ensures.hashed c.args.header.now c.hasher_after-hasher.ensures)

-- a header that is refused refuses the file
refused_heading : (board : Shape) (header : List ℕ) → length header ≡ 16 → (old new : Option (List ℕ)) (refusal : ReadFault)
    → IsHeaderRefusal board (header_at header) refusal → Reads {A = Table} (λ bytes. file_in board (header ++ bytes)) old new (Err refusal)
refused_heading board header long None new refusal why = tt
refused_heading board header long (Some bytes) new fault.Memory why = tt
refused_heading board header long (Some bytes) new fault.Read why = tt
refused_heading board header long (Some bytes) new fault.Short why = file_in-bad_header board header long bytes fault.Short why.0
refused_heading board header long (Some bytes) new fault.Magic why = file_in-bad_header board header long bytes fault.Magic why.0
refused_heading board header long (Some bytes) new fault.Version why = file_in-bad_header board header long bytes fault.Version why.0
refused_heading board header long (Some bytes) new fault.BoardId why = file_in-bad_header board header long bytes fault.BoardId why.0
refused_heading board header long (Some bytes) new fault.Counts why = file_in-bad_header board header long bytes fault.Counts why.0
refused_heading board header long (Some bytes) new fault.Crowded why = file_in-bad_header board header long bytes fault.Crowded why.0
refused_heading board header long (Some bytes) new fault.Count why = file_in-bad_header board header long bytes fault.Count why.0
refused_heading board header long (Some bytes) new fault.Digest why = file_in-bad_header board header long bytes fault.Digest why.0
refused_heading board header long (Some bytes) new fault.Trailing why = file_in-bad_header board header long bytes fault.Trailing why.0

pub returns-in_err-numbering-clause-outcome : goal.returns-in_err-numbering-clause-outcome
returns-in_err-numbering-clause-outcome g c =
    let failed = err_from_is_err_and c.from_residual.result c.from_residual.ensures.1 in
    let board = g.B.Geometry.shape in
    let header = c.args.header.now in
    rw (failed.1, failed.2)
    (refused_heading board header c.told-header (g.S.Source.remaining c.args.source.now) (g.S.Source.remaining c.args.source.now) c.in_err-numbering.field-0.0
    (subst (λ h. IsHeaderRefusal board h c.in_err-numbering.field-0.0) c.from_bytes.ensures c.in_err-numbering.ensures.refused))

pub returns-in_err-codes-clause-outcome : goal.returns-in_err-codes-clause-outcome
returns-in_err-codes-clause-outcome g c =
    let at = (goal.at.returns-in_err-codes-clause-outcome g c).After-count in
    let failed = err_from_is_err_and c.from_residual-in_err-codes.result c.from_residual-in_err-codes.ensures.1 in
    let board = g.B.Geometry.shape in
    let header = c.args.header.now in
    let kind = kind_named g at in
    rw (failed.1, failed.2)
    (reads_early {A = Table} (λ bytes. file_in board (header ++ bytes)) (2 * c.count.result) (g.S.Source.remaining c.args.source.now)
    (g.S.Source.remaining c.read_codes.new.source) c.in_err-codes.field-0.0 c.in_err-codes.ensures.refused
    (λ bytes few. file_in-short_body board header c.told-header kind c.count.result (named g at) (sized g at) bytes (omega arith)))

pub returns-in_err-codes-clause-memory : goal.returns-in_err-codes-clause-memory
returns-in_err-codes-clause-memory g c = λ _.
    let at = (goal.at.returns-in_err-codes-clause-memory g c).After-count in
    roomless_of g.B.Geometry.shape (header_at c.args.header.now) (kind_named g at) (named g at)

pub returns-in_err-read_whole-clause-outcome : goal.returns-in_err-read_whole-clause-outcome
returns-in_err-read_whole-clause-outcome g c =
    let at = (goal.at.returns-in_err-read_whole-clause-outcome g c).After-count in
    let failed = err_from_is_err_and c.from_residual-in_err-read_whole.result c.from_residual-in_err-read_whole.ensures.1 in
    let board = g.B.Geometry.shape in
    let header = c.args.header.now in
    let kind = kind_named g at in
    let stated = code_bytes c.in_ok-codes.codes.items in
    rw (failed.1, failed.2)
    (reads_early {A = Table} (λ bytes. file_in board (header ++ bytes)) (2 * c.count.result + 32) (g.S.Source.remaining c.args.source.now)
    (g.S.Source.remaining c.read_whole.new.source) c.in_err-read_whole.field-0.0
    (early_after (length c.read_whole.new.buffer) (2 * c.count.result + 32) stated (g.S.Source.remaining c.args.source.now) (g.S.Source.remaining c.read_codes.new.source)
    c.in_err-read_whole.field-0.0 c.in_ok-codes.ensures.bytes
    (omega (arith, length-code_bytes c.in_ok-codes.codes.items, c.in_ok-codes.ensures.count, c.read_whole.auto.buffer)) c.in_err-read_whole.ensures.refused)
    (λ bytes few. file_in-short_body board header c.told-header kind c.count.result (named g at) (sized g at) bytes few))

pub returns-in_err-read_whole-clause-memory : goal.returns-in_err-read_whole-clause-memory
returns-in_err-read_whole-clause-memory g c = λ _.
    let at = (goal.at.returns-in_err-read_whole-clause-memory g c).After-count in
    roomless_of g.B.Geometry.shape (header_at c.args.header.now) (kind_named g at) (named g at)

pub returns-in_err-numbering-clause-counted : goal.returns-in_err-numbering-clause-counted
returns-in_err-numbering-clause-counted g c =
    let failed = err_from_is_err_and c.from_residual.result c.from_residual.ensures.1 in
    rw (failed.1, failed.2)
    (counts_header g.B.Geometry.shape (c.from_bytes.result) (g.S.Source.failures c.args.source.now) c.in_err-numbering.field-0.0 c.in_err-numbering.ensures.refused)

pub returns-in_err-codes-clause-counted : goal.returns-in_err-codes-clause-counted
returns-in_err-codes-clause-counted g c =
    let failed = err_from_is_err_and c.from_residual-in_err-codes.result c.from_residual-in_err-codes.ensures.1 in
    rw (failed.1, failed.2)
    (counts_after (g.S.Source.failures c.args.source.now) (g.S.Source.failures c.args.source.now) (g.S.Source.failures c.read_codes.new.source)
    c.in_err-codes.field-0.0 refl c.in_err-codes.ensures.counted)

pub returns-in_err-read_whole-clause-counted : goal.returns-in_err-read_whole-clause-counted
returns-in_err-read_whole-clause-counted g c =
    let failed = err_from_is_err_and c.from_residual-in_err-read_whole.result c.from_residual-in_err-read_whole.ensures.1 in
    rw (failed.1, failed.2)
    (counts_after (g.S.Source.failures c.args.source.now) (g.S.Source.failures c.read_codes.new.source) (g.S.Source.failures c.read_whole.new.source)
    c.in_err-read_whole.field-0.0 c.in_ok-codes.ensures.counted c.in_err-read_whole.ensures.counted)

pub returns-then-ne-clause-counted : goal.returns-then-ne-clause-counted
returns-then-ne-clause-counted g c = c.in_ok-read_whole.ensures.counted ∙ c.in_ok-codes.ensures.counted

pub returns-clause-counted : goal.returns-clause-counted
returns-clause-counted g c = c.in_ok-read_whole.ensures.counted ∙ c.in_ok-codes.ensures.counted

pub returns-in_err-read_whole-clause-place : goal.returns-in_err-read_whole-clause-place
returns-in_err-read_whole-clause-place g c =
    let failed = err_from_is_err_and c.from_residual-in_err-read_whole.result c.from_residual-in_err-read_whole.ensures.1 in
    let codes = c.in_ok-codes.codes.items in
    stands-after (length c.read_whole.new.buffer) (body_length g.B.Geometry.shape (header_in g.B.Geometry.shape c.args.header.now)) (code_bytes codes)
    (g.S.Source.remaining c.args.source.now) (g.S.Source.remaining c.read_codes.new.source) (g.S.Source.remaining c.read_whole.new.source) c.in_ok-codes.ensures.bytes
    (omega (arith, size g (goal.at.returns-in_err-read_whole-clause-place g c).After-count, length-code_bytes codes, c.in_ok-codes.ensures.count, c.read_whole.auto.buffer)) c.in_err-read_whole.ensures.place

not_true : (b : Bool) → not b ≡ true → b ≡ false
not_true true h = cc
not_true false h = refl

not_false : (b : Bool) → not b ≡ false → b ≡ true
not_false true h = refl
not_false false h = cc

pub returns-then-ne-clause-outcome : goal.returns-then-ne-clause-outcome
returns-then-ne-clause-outcome g c =
    let at = (goal.at.returns-then-ne-clause-outcome g c).After-count in
    let board = g.B.Geometry.shape in
    let header = c.args.header.now in
    let kind = kind_named g at in
    let codes = c.in_ok-codes.codes.items in
    let stated = code_bytes codes in
    let digest = c.read_whole.new.buffer in
    let len : length codes ≡ c.count.result = omega (arith, c.in_ok-codes.ensures.count) in
    let whole : length digest ≡ 32 = omega (arith, c.read_whole.auto.buffer) in
    let differs : bytes_eq digest (sha256 (header ++ stated)) ≡ false =
    ap (bytes_eq digest) (sym (right g (goal.at.returns-then-ne-clause-outcome g c).After-finalize)) ∙ not_true (bytes_eq digest c.finalize.result) (sym c.ne.ensures ∙ c.if-ne.true) in
    reads_err {A = Table} (λ bytes. file_in board (header ++ bytes)) (g.S.Source.remaining c.args.source.now) (g.S.Source.remaining c.read_whole.new.source)
    (stated ++ digest) fault.Digest
    (Consumes-trans (g.S.Source.remaining c.args.source.now) (g.S.Source.remaining c.read_codes.new.source) (g.S.Source.remaining c.read_whole.new.source) stated digest
    c.in_ok-codes.ensures.bytes c.in_ok-read_whole.ensures.bytes)
    (λ left. file_in-whole board header c.told-header kind c.count.result (named g at) (sized g at) codes digest left len (λ i _. c.in_ok-codes.ensures.small i) whole
    ∙ unless-false (bytes_eq digest (sha256 (header ++ stated))) fault.Digest (Ok (table kind.0 kind.1 codes, left)) differs)

pub returns-clause-outcome : goal.returns-clause-outcome
returns-clause-outcome g c =
    let at = (goal.at.returns-clause-outcome g c).After-count in
    let board = g.B.Geometry.shape in
    let header = c.args.header.now in
    let kind = kind_named g at in
    let codes = c.in_ok-codes.codes.items in
    let stated = code_bytes codes in
    let digest = c.read_whole.new.buffer in
    let len : length codes ≡ c.count.result = omega (arith, c.in_ok-codes.ensures.count) in
    let whole : length digest ≡ 32 = omega (arith, c.read_whole.auto.buffer) in
    let same : bytes_eq digest (sha256 (header ++ stated)) ≡ true =
    ap (bytes_eq digest) (sym (right g (goal.at.returns-clause-outcome g c).After-finalize)) ∙ not_false (bytes_eq digest c.finalize.result) (sym c.ne.ensures ∙ c.if-ne.false) in
    rw c.new.ensures
    (reads_ok {A = Table} (λ bytes. file_in board (header ++ bytes)) (g.S.Source.remaining c.args.source.now) (g.S.Source.remaining c.read_whole.new.source)
    (stated ++ digest) (table kind.0 kind.1 codes)
    (Consumes-trans (g.S.Source.remaining c.args.source.now) (g.S.Source.remaining c.read_codes.new.source) (g.S.Source.remaining c.read_whole.new.source) stated digest
    c.in_ok-codes.ensures.bytes c.in_ok-read_whole.ensures.bytes)
    (λ left. file_in-whole board header c.told-header kind c.count.result (named g at) (sized g at) codes digest left len (λ i _. c.in_ok-codes.ensures.small i) whole
    ∙ unless-true (bytes_eq digest (sha256 (header ++ stated))) fault.Digest (Ok (table kind.0 kind.1 codes, left)) same))

pub returns-clause-file : goal.returns-clause-file
returns-clause-file g c =
    let at = (goal.at.returns-clause-file g c).After-count in
    let board = g.B.Geometry.shape in
    let header = c.args.header.now in
    let kind = kind_named g at in
    let codes = c.in_ok-codes.codes.items in
    let stated = code_bytes codes in
    let digest = c.read_whole.new.buffer in
    let counted : length codes ≡ entry_count board board.points kind.0 kind.1 = omega (arith, c.in_ok-codes.ensures.count, sized g at) in
    let same : digest ≡ c.finalize.result =
    (bytes_eq-Decides digest c.finalize.result).0 (not_false (bytes_eq digest c.finalize.result) (sym c.ne.ensures ∙ c.if-ne.false)) in (
      stated ++ digest,
      Consumes-trans (g.S.Source.remaining c.args.source.now) (g.S.Source.remaining c.read_codes.new.source) (g.S.Source.remaining c.read_whole.new.source) stated digest
          c.in_ok-codes.ensures.bytes c.in_ok-read_whole.ensures.bytes,
      ap (file_of board) c.new.ensures ∙ file_of-read board header digest codes kind c.fits-header c.told-header (named g at) counted (same ∙ right g (goal.at.returns-clause-file g c).After-finalize),
    )

pub returns-in_err-codes-clause-place : goal.returns-in_err-codes-clause-place
returns-in_err-codes-clause-place g c =
    let here = c.in_err-codes.ensures.place in
    (here.0, omega (arith, here.1, size g (goal.at.returns-in_err-codes-clause-place g c).After-count), here.2)

pub returns-then-ne-clause-place : goal.returns-then-ne-clause-place
returns-then-ne-clause-place g c =
    let codes = c.in_ok-codes.codes.items in
    stands-after (length c.read_whole.new.buffer) (body_length g.B.Geometry.shape (header_in g.B.Geometry.shape c.args.header.now)) (code_bytes codes)
    (g.S.Source.remaining c.args.source.now) (g.S.Source.remaining c.read_codes.new.source) (g.S.Source.remaining c.read_whole.new.source) c.in_ok-codes.ensures.bytes
    (omega (arith, size g (goal.at.returns-then-ne-clause-place g c).After-count, length-code_bytes codes, c.in_ok-codes.ensures.count, c.read_whole.auto.buffer))
    (c.read_whole.new.buffer, omega arith, c.in_ok-read_whole.ensures.bytes)

pub returns-clause-place : goal.returns-clause-place
returns-clause-place g c =
    let codes = c.in_ok-codes.codes.items in
    stands-after (length c.read_whole.new.buffer) (body_length g.B.Geometry.shape (header_in g.B.Geometry.shape c.args.header.now)) (code_bytes codes)
    (g.S.Source.remaining c.args.source.now) (g.S.Source.remaining c.read_codes.new.source) (g.S.Source.remaining c.read_whole.new.source) c.in_ok-codes.ensures.bytes
    (omega (arith, size g (goal.at.returns-clause-place g c).After-count, length-code_bytes codes, c.in_ok-codes.ensures.count, c.read_whole.auto.buffer))
    (c.read_whole.new.buffer, omega arith, c.in_ok-read_whole.ensures.bytes)
