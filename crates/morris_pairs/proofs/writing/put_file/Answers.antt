-- The header, the codes and the digest go out one after the other.
use Rattle.std.proofs.Common.{◌≡◌, ℕ, ◌≤◌, ◌^◌, ◌++◌, List, length, sym, ap, ◌∙◌, subst, arith, append_assoc}
use Rattle.std.proofs.lemmas.Result.{err_from_is_err_and}
use Rattle.sha2.specs.Sha256.{sha256}
use Rattle.sha2.proofs.Facts256.{length-sha256}
use Rattle.morris_board.specs.Streams.{PartSent, HasSent}
use Rattle.morris_board.proofs.SentLaws.{AllSent-append, PartSent-longer, PartSent-within, HasSent-append}
use Rattle.morris_pairs.specs.Tables.{Table}
use Rattle.morris_pairs.specs.TableFiles.{header_of, code_bytes, content_of, file_of}
use Rattle.morris_pairs.proofs.FileLaws.{file_of-parts, length-header_of, length-code_bytes, IsRaw-from_exact}
use Rattle.morris_pairs.proofs.writing.put_file.Given as given
use Rattle.morris_pairs.proofs.writing.put_file.Goals as goal

-- the file, with the header as it was written
split_file : (g : given.Over) (t : Table) (header : List ℕ) → header ≡ header_of g.B.Geometry.shape t.layout t.pair (length t.codes)
    → file_of g.B.Geometry.shape t ≡ header ++ code_bytes t.codes ++ sha256 (content_of g.B.Geometry.shape t)
split_file g t header same =
    file_of-parts g.B.Geometry.shape t ∙ ap (λ h. h ++ code_bytes t.codes ++ sha256 (content_of g.B.Geometry.shape t)) (sym same)

content_is : (g : given.Over) (t : Table) (header : List ℕ) → header ≡ header_of g.B.Geometry.shape t.layout t.pair (length t.codes)
    → header ++ code_bytes t.codes ≡ content_of g.B.Geometry.shape t
unfolding content_of
content_is g t header same = ap (λ h. h ++ code_bytes t.codes) same

pub returns-in_err-sent-clause-sent : goal.returns-in_err-sent-clause-sent
returns-in_err-sent-clause-sent g c =
    let failed = err_from_is_err_and c.from_residual.result c.from_residual.ensures.1 in
    let t = c.args.table.now in
    let header = c.to_bytes-header.result in
    let same = c.to_bytes-header.ensures ∙ c.of.ensures.value in
    let rest = code_bytes t.codes ++ sha256 (content_of g.B.Geometry.shape t) in
    let whole : file_of g.B.Geometry.shape t ≡ header ++ rest =
    split_file g t header same ∙ append_assoc header (code_bytes t.codes) (sha256 (content_of g.B.Geometry.shape t)) in
    rw (failed.1, failed.2)
    (subst (PartSent (g.S.Sink.contents c.args.sink.now) (g.S.Sink.contents c.put.new.sink) 0 c.in_err-sent.field-0.0) (sym whole)
    (PartSent-longer (g.S.Sink.contents c.args.sink.now) (g.S.Sink.contents c.put.new.sink) 0 c.in_err-sent.field-0.0 header rest c.in_err-sent.ensures.sent))

pub returns-in_err-sent-2-clause-sent : goal.returns-in_err-sent-2-clause-sent
returns-in_err-sent-2-clause-sent g c =
    let failed = err_from_is_err_and c.from_residual-in_err-sent-2.result c.from_residual-in_err-sent-2.ensures.1 in
    let t = c.args.table.now in
    let header = c.to_bytes-header.result in
    let same = c.to_bytes-header.ensures ∙ c.of.ensures.value in
    rw (failed.1, failed.2)
    (PartSent-within (g.S.Sink.contents c.args.sink.now) (g.S.Sink.contents c.put.new.sink) (g.S.Sink.contents c.put_codes.new.sink)
    0 c.in_ok-sent.sent c.in_err-sent-2.field-0.0 header (code_bytes t.codes) (sha256 (content_of g.B.Geometry.shape t)) (file_of g.B.Geometry.shape t)
    c.in_ok-sent.ensures.sent c.in_err-sent-2.ensures.sent (split_file g t header same))

pub put-requires-2-clause-room : goal.put-requires-2-clause-room
put-requires-2-clause-room g c =
    let t = c.args.table.now in
    let header = c.to_bytes-header.result in
    let same = c.to_bytes-header.ensures ∙ c.of.ensures.value in
    let digest : c.finalize.result ≡ sha256 (header ++ code_bytes t.codes) =
    c.finalize.ensures (header ++ code_bytes t.codes) (c.in_ok-sent-2.ensures.hashed header c.hasher_after-hasher.ensures) in
    let few : length t.codes ≤ 2 ^ 40 = c.of.ensures.few in
    omega (
      arith,
      c.in_ok-sent.ensures.sent.count,
      c.in_ok-sent-2.ensures.sent.count,
      ap length same,
      length-header_of g.B.Geometry.shape t.layout t.pair (length t.codes),
      length-code_bytes t.codes,
      ap length digest,
      length-sha256 (header ++ code_bytes t.codes),
    )

pub returns-clause-sent : goal.returns-clause-sent
returns-clause-sent g c =
    let t = c.args.table.now in
    let header = c.to_bytes-header.result in
    let front = header ++ code_bytes t.codes in
    let same = c.to_bytes-header.ensures ∙ c.of.ensures.value in
    let digest : c.finalize.result ≡ sha256 (content_of g.B.Geometry.shape t) =
    c.finalize.ensures front (c.in_ok-sent-2.ensures.hashed header c.hasher_after-hasher.ensures) ∙ ap sha256 (content_is g t header same) in
    let whole : front ++ c.finalize.result ≡ file_of g.B.Geometry.shape t = ap (λ d. front ++ d) digest ∙ sym (split_file g t header same) in
    subst (λ text. HasSent (g.S.Sink.contents c.args.sink.now) (g.S.Sink.contents c.put-2.new.sink) 0 text c.put-2.result) whole
    (HasSent-append (g.S.Sink.contents c.args.sink.now) (g.S.Sink.contents c.put_codes.new.sink) (g.S.Sink.contents c.put-2.new.sink)
    0 c.in_ok-sent-2.sent front c.finalize.result c.put-2.result
    (AllSent-append (g.S.Sink.contents c.args.sink.now) (g.S.Sink.contents c.put.new.sink) (g.S.Sink.contents c.put_codes.new.sink)
    0 c.in_ok-sent.sent c.in_ok-sent-2.sent header (code_bytes t.codes) c.in_ok-sent.ensures.sent c.in_ok-sent-2.ensures.sent)
    c.put-2.ensures.sent)

pub returns-clause-lawful : goal.returns-clause-lawful
returns-clause-lawful g c = IsRaw-from_exact g.B.Geometry.shape c.args.table.now c.of.ensures.lawful
