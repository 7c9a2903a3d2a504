-- The header, the codes and the digest go out one after the other, and the hasher was fed the same
-- bytes.
use Rattle.std.proofs.Common.{◌≡◌, ℕ, List, [], ◌++◌, length, sym, ap, ◌∙◌, subst, rules}
use Rattle.std.proofs.Math.Path.{ap₂}
use Rattle.std.proofs.KnownBytes.{Appends-trans}
use Rattle.std.specs.Io.KnownBytes.{Appends}
use Rattle.sha2.specs.Hashers.{Holds256}
use Rattle.sha2.specs.Sha256.{sha256}
use Rattle.morris_board.specs.Boards.{Shape}
use Rattle.morris_pairs.specs.Tables.{Table}
use Rattle.morris_pairs.specs.TableFiles.{code_bytes, content_of, file_of, header_of}
use Rattle.morris_files.proofs.digested_table.write_digested.Goals as goal

-- the file, by what went out
written : (board : Shape) (t : Table) (header digest : List ℕ) → header ≡ header_of board t.layout t.pair (length t.codes)
    → digest ≡ sha256 (header ++ code_bytes t.codes) → (header ++ code_bytes t.codes) ++ digest ≡ file_of board t
unfolding content_of file_of
written board t header digest same found =
    let content : header ++ code_bytes t.codes ≡ content_of board t = ap (λ h. h ++ code_bytes t.codes) same in
    ap₂ (λ a b. a ++ b) content (found ∙ ap sha256 content)

pub returns-clause-whole : goal.returns-clause-whole
returns-clause-whole g c =
    let t = c.args.table.now in
    let header = c.to_bytes-header.result in
    let front = header ++ code_bytes t.codes in
    let holds : Holds256 c.write_codes.new.hasher front = c.in_ok-write_codes.ensures.hashed header (c.update.ensures [] c.new-hasher.ensures) in
    let digest : c.finalize-end.result ≡ sha256 front = c.finalize-end.ensures front (subst (λ h. Holds256 h front) (sym c.in-Ok.ensures.cases) holds) in
    let first : Appends (g.S.Sink.contents c.args.sink.now) (g.S.Sink.contents c.put.new.sink) header = search rules in
    let last : Appends (g.S.Sink.contents c.write_codes.new.sink) (g.S.Sink.contents c.put-2.new.sink) c.finalize-end.result = search rules in
    subst (Appends (g.S.Sink.contents c.args.sink.now) (g.S.Sink.contents c.put-2.new.sink))
    (written g.B.Geometry.shape t header c.finalize-end.result (c.to_bytes-header.ensures ∙ c.of.ensures.value) digest)
    (Appends-trans (g.S.Sink.contents c.args.sink.now) (g.S.Sink.contents c.write_codes.new.sink) (g.S.Sink.contents c.put-2.new.sink) front c.finalize-end.result
    (Appends-trans (g.S.Sink.contents c.args.sink.now) (g.S.Sink.contents c.put.new.sink) (g.S.Sink.contents c.write_codes.new.sink) header (code_bytes t.codes)
    first c.in_ok-write_codes.ensures.sent) last)

pub returns-clause-digest : goal.returns-clause-digest
returns-clause-digest g c =
    let t = c.args.table.now in
    let header = c.to_bytes-header.result in
    let front = header ++ code_bytes t.codes in
    let holds : Holds256 c.write_codes.new.hasher front = c.in_ok-write_codes.ensures.hashed header (c.update.ensures [] c.new-hasher.ensures) in
    let digest : c.finalize-end.result ≡ sha256 front = c.finalize-end.ensures front (subst (λ h. Holds256 h front) (sym c.in-Ok.ensures.cases) holds) in
    c.finalize.ensures (front ++ c.finalize-end.result) (c.update-2.ensures front holds)
    ∙ ap sha256 (written g.B.Geometry.shape t header c.finalize-end.result (c.to_bytes-header.ensures ∙ c.of.ensures.value) digest)
