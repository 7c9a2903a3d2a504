-- Each chunk has the next codes, so it goes on from what went out before.
use Rattle.std.proofs.Common.{◌≡◌, ◌+◌, ◌*◌, ◌/◌, ◌++◌, length, take, drop, sym, ap, ◌∙◌, subst, refl, arith, append-nil, append_assoc, length-take}
use Rattle.std.proofs.lemmas.Result.{err_from_is_err_and}
use Rattle.sha2.specs.Hashers.{Holds256}
use Rattle.morris_board.specs.Streams.{AllSent, PartSent}
use Rattle.morris_board.proofs.SentLaws.{AllSent-nil, AllSent-append, PartSent-within}
use Rattle.std.proofs.lemmas.List.{take_all}
use Rattle.morris_pairs.specs.TableFiles.{code_bytes}
use Rattle.morris_pairs.proofs.FileLaws.{length-code_bytes, code_bytes-chunk, code_bytes-parts}
use Rattle.morris_pairs.proofs.writing.put_codes.Goals as goal

pub loop-first-init : goal.loop-first-init
unfolding code_bytes
loop-first-init g c = record {
  within = omega arith;
  sent = AllSent-nil (g.S.Sink.contents c.args.sink.now) c.args.sent;
  uncounted = refl;
  hashed = λ before h. simp append-nil h;
}

pub put-requires-clause-room : goal.put-requires-clause-room
put-requires-clause-room g c =
    let codes = c.args.table.now.codes in
    omega (
      arith,
      length-code_bytes (take c.loop-first.first codes),
      length-take c.loop-first.first codes,
      length-take (2 * c.min-codes.result) c.loop-first.chunk,
      c.loop-first.invariant.sent.count,
    )

pub returns-in_err-sent-clause-sent : goal.returns-in_err-sent-clause-sent
returns-in_err-sent-clause-sent g c =
    let failed = err_from_is_err_and c.from_residual.result c.from_residual.ensures.1 in
    let codes = c.args.table.now.codes in
    let first = c.loop-first.first in
    let k = c.min-codes.result in
    let half : length (take (2 * k) c.loop-first.chunk) / 2 ≡ k = omega (arith, length-take (2 * k) c.loop-first.chunk) in
    let chunk : c.copy_codes.new.chunk ≡ code_bytes (take k (drop first codes)) = c.copy_codes.ensures ∙ ap (λ n. code_bytes (take n (drop first codes))) half in
    let part : PartSent (g.S.Sink.contents c.loop-first.sink) (g.S.Sink.contents c.put.new.sink) c.loop-first.sent c.in_err-sent.field-0.0 (code_bytes (take k (drop first codes))) =
    subst (PartSent (g.S.Sink.contents c.loop-first.sink) (g.S.Sink.contents c.put.new.sink) c.loop-first.sent c.in_err-sent.field-0.0) chunk c.in_err-sent.ensures.sent in
    rw (failed.1, failed.2)
    (PartSent-within (g.S.Sink.contents c.args.sink.now) (g.S.Sink.contents c.loop-first.sink) (g.S.Sink.contents c.put.new.sink)
    c.args.sent c.loop-first.sent c.in_err-sent.field-0.0 (code_bytes (take first codes)) (code_bytes (take k (drop first codes)))
    (code_bytes (drop (first + k) codes)) (code_bytes codes) c.loop-first.invariant.sent part (code_bytes-parts codes first k))

pub loop-first-preserved : goal.loop-first-preserved
loop-first-preserved g c =
    let codes = c.args.table.now.codes in
    let first = c.loop-first.first in
    let k = c.min-codes.result in
    let half : length (take (2 * k) c.loop-first.chunk) / 2 ≡ k = omega (arith, length-take (2 * k) c.loop-first.chunk) in
    let chunk : c.copy_codes.new.chunk ≡ code_bytes (take k (drop first codes)) = c.copy_codes.ensures ∙ ap (λ n. code_bytes (take n (drop first codes))) half in
    let front : code_bytes (take first codes) ++ c.copy_codes.new.chunk ≡ code_bytes (take (first + k) codes) =
    ap (λ bytes. code_bytes (take first codes) ++ bytes) chunk ∙ sym (code_bytes-chunk codes first k) in
    record {
      within = omega arith;
      sent =
          subst (AllSent (g.S.Sink.contents c.args.sink.now) (g.S.Sink.contents c.put.new.sink) c.args.sent c.in_ok-sent.sent) front
          (AllSent-append (g.S.Sink.contents c.args.sink.now) (g.S.Sink.contents c.loop-first.sink) (g.S.Sink.contents c.put.new.sink)
          c.args.sent c.loop-first.sent c.in_ok-sent.sent (code_bytes (take first codes)) c.copy_codes.new.chunk c.loop-first.invariant.sent c.in_ok-sent.ensures.sent);
      uncounted = c.in_ok-sent.ensures.counted ∙ c.loop-first.invariant.uncounted;
      hashed = λ before h.
          subst (Holds256 c.update.new.self) (append_assoc before (code_bytes (take first codes)) c.copy_codes.new.chunk ∙ ap (λ bytes. before ++ bytes) front)
          (c.update.ensures (before ++ code_bytes (take first codes)) (c.loop-first.invariant.hashed before h));
    }

pub returns-clause-sent : goal.returns-clause-sent
returns-clause-sent g c =
    let codes = c.args.table.now.codes in
    let all : take c.loop-first.first codes ≡ codes = take_all c.loop-first.first codes (omega (arith, c.len-count.ensures.value)) in
    subst (λ sent. AllSent (g.S.Sink.contents c.args.sink.now) (g.S.Sink.contents c.loop-first.sink) c.args.sent c.loop-first.sent (code_bytes sent)) all
    c.loop-first.invariant.sent

pub returns-clause-hashed : goal.returns-clause-hashed
returns-clause-hashed g c = λ before h.
    let codes = c.args.table.now.codes in
    let all : take c.loop-first.first codes ≡ codes = take_all c.loop-first.first codes (omega (arith, c.len-count.ensures.value)) in
    subst (λ sent. Holds256 c.loop-first.hasher (before ++ code_bytes sent)) all (c.loop-first.invariant.hashed before h)
