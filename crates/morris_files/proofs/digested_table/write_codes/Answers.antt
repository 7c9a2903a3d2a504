-- Each chunk has the next codes, so it goes on from what went out before.
use Rattle.std.proofs.Common.{◌≡◌, ◌+◌, ◌*◌, ◌/◌, ◌++◌, length, take, drop, sym, ap, ◌∙◌, subst, refl, arith, rules, append-nil, append_assoc, length-take}
use Rattle.std.proofs.KnownBytes.{Appends-nil, Appends-trans}
use Rattle.std.proofs.lemmas.List.{take_all}
use Rattle.std.specs.Io.KnownBytes.{Appends}
use Rattle.sha2.specs.Hashers.{Holds256}
use Rattle.morris_pairs.specs.TableFiles.{code_bytes}
use Rattle.morris_pairs.proofs.FileLaws.{code_bytes-chunk}
use Rattle.morris_files.proofs.digested_table.write_codes.Goals as goal

pub loop-first-init : goal.loop-first-init
unfolding code_bytes
loop-first-init g c = record {
  within = omega arith;
  sent = Appends-nil (g.S.Sink.contents c.args.sink.now);
  uncounted = refl;
  hashed = λ before h. simp append-nil h;
  watched = g.met.W.Watch.stays c.args.watch.now;
}

pub loop-first-preserved : goal.loop-first-preserved
loop-first-preserved g c =
    let codes = c.args.table.now.codes in
    let first = c.loop-first.first in
    let k = c.min-codes.result in
    let half : length (take (2 * k) c.loop-first.chunk) / 2 ≡ k = omega (arith, length-take (2 * k) c.loop-first.chunk) in
    let chunk : c.copy_codes.new.chunk ≡ code_bytes (take k (drop first codes)) = c.copy_codes.ensures ∙ ap (λ n. code_bytes (take n (drop first codes))) half in
    let front : code_bytes (take first codes) ++ c.copy_codes.new.chunk ≡ code_bytes (take (first + k) codes) =
    ap (λ bytes. code_bytes (take first codes) ++ bytes) chunk ∙ sym (code_bytes-chunk codes first k) in
    let appended : Appends (g.S.Sink.contents c.loop-first.sink) (g.S.Sink.contents c.put.new.sink) c.copy_codes.new.chunk = search rules in
    record {
      within = omega arith;
      sent =
          subst (Appends (g.S.Sink.contents c.args.sink.now) (g.S.Sink.contents c.put.new.sink)) front
          (Appends-trans (g.S.Sink.contents c.args.sink.now) (g.S.Sink.contents c.loop-first.sink) (g.S.Sink.contents c.put.new.sink)
          (code_bytes (take first codes)) c.copy_codes.new.chunk c.loop-first.invariant.sent appended);
      uncounted = search rules;
      hashed = λ before h.
          subst (Holds256 c.update.new.self) (append_assoc before (code_bytes (take first codes)) c.copy_codes.new.chunk ∙ ap (λ bytes. before ++ bytes) front)
          (c.update.ensures (before ++ code_bytes (take first codes)) (c.loop-first.invariant.hashed before h));
      watched = g.met.W.Watch.joins c.args.watch.now c.loop-first.watch c.entries.new.self c.loop-first.invariant.watched c.entries.ensures;
    }

pub returns-clause-sent : goal.returns-clause-sent
returns-clause-sent g c =
    let codes = c.args.table.now.codes in
    let all : take c.loop-first.first codes ≡ codes = take_all c.loop-first.first codes (omega (arith, c.len-count.ensures.value)) in
    subst (λ sent. Appends (g.S.Sink.contents c.args.sink.now) (g.S.Sink.contents c.loop-first.sink) (code_bytes sent)) all c.loop-first.invariant.sent

pub returns-clause-hashed : goal.returns-clause-hashed
returns-clause-hashed g c = λ before h.
    let codes = c.args.table.now.codes in
    let all : take c.loop-first.first codes ≡ codes = take_all c.loop-first.first codes (omega (arith, c.len-count.ensures.value)) in
    subst (λ sent. Holds256 c.loop-first.hasher (before ++ code_bytes sent)) all (c.loop-first.invariant.hashed before h)
