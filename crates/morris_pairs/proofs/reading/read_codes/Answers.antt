-- Where a chunk ends early, fewer bytes were read than the codes have.
use Rattle.std.proofs.Common.{◌≡◌, ◌*◌, [], ◌++◌, length, refl, ◌∙◌, arith, rules, vec_len, append-nil, append_assoc, length-take}
use Rattle.std.proofs.lemmas.Result.{err_from_is_err_and}
use Rattle.std.proofs.KnownBytes.{Consumes-nil, Consumes-trans}
use Rattle.morris_pairs.specs.TableFiles.{code_bytes}
use Rattle.morris_pairs.proofs.FileLaws.{length-code_bytes}
use Rattle.morris_pairs.proofs.ReadingLaws.{early_after, counts_after}
use Rattle.morris_pairs.proofs.PlaceLaws.{stands-after}
use Rattle.morris_pairs.proofs.reading.read_codes.Goals as goal

pub loop-buffer-init : goal.loop-buffer-init
unfolding code_bytes
loop-buffer-init g c =
    let none : c.in_ok-codes.codes.items ≡ [] = c.in_ok-codes.ensures.items in
    record {
      within = omega (arith, c.in_ok-codes.ensures.len);
      room = omega (arith, c.in_ok-codes.ensures.capacity);
      cache = refl;
      consumed = rw none (Consumes-nil (g.S.Source.remaining c.args.source.now));
      small = λ i. rw none (omega arith);
      hashed = λ before h. rw none (simp append-nil h);
      uncounted = refl;
    }

pub loop-buffer-preserved : goal.loop-buffer-preserved
loop-buffer-preserved g c =
    let chunk = c.read_whole.new.buffer in
    let size : length chunk ≡ c.min-wanted.result = omega (arith, c.read_whole.auto.buffer, length-take c.min-wanted.result c.loop-buffer.buffer) in
    let joined : code_bytes c.push_codes.new.codes.items ≡ code_bytes c.loop-buffer.codes.items ++ chunk = c.push_codes.ensures.bytes in
    record {
      within = omega (arith, c.push_codes.ensures.len, size, c.min-wanted.ensures);
      room = omega (arith, c.push_codes.ensures.capacity, c.loop-buffer.invariant.room);
      cache = c.push_codes.ensures.capacity ∙ c.loop-buffer.invariant.cache;
      consumed = rw joined (Consumes-trans _ _ _ _ _ c.loop-buffer.invariant.consumed c.in_ok-read_whole.ensures.bytes);
      small = c.push_codes.ensures.small c.loop-buffer.invariant.small;
      hashed = λ before h. rw joined (rw (← append_assoc before (code_bytes c.loop-buffer.codes.items) chunk)
          (c.update.ensures (before ++ code_bytes c.loop-buffer.codes.items) (c.loop-buffer.invariant.hashed before h)));
      uncounted = c.in_ok-read_whole.ensures.counted ∙ c.loop-buffer.invariant.uncounted;
    }

pub returns-in_err-read_whole-clause-refused : goal.returns-in_err-read_whole-clause-refused
returns-in_err-read_whole-clause-refused g c =
    let codes = c.loop-buffer.codes.items in
    let len : vec_len c.loop-buffer.codes ≡ length codes = search rules in
    let failed = err_from_is_err_and c.from_residual-in_err-read_whole.result c.from_residual-in_err-read_whole.ensures.1 in
    rw (failed.1, failed.2)
    (early_after (length c.read_whole.new.buffer) (2 * c.args.count) (code_bytes codes) (g.S.Source.remaining c.args.source.now)
    (g.S.Source.remaining c.loop-buffer.source) c.in_err-read_whole.field-0.0 c.loop-buffer.invariant.consumed
    (omega (arith, length-code_bytes codes, c.read_whole.auto.buffer, length-take c.min-wanted.result c.loop-buffer.buffer)) c.in_err-read_whole.ensures.refused)

pub returns-in_err-read_whole-clause-place : goal.returns-in_err-read_whole-clause-place
returns-in_err-read_whole-clause-place g c =
    let codes = c.loop-buffer.codes.items in
    let len : vec_len c.loop-buffer.codes ≡ length codes = search rules in
    let failed = err_from_is_err_and c.from_residual-in_err-read_whole.result c.from_residual-in_err-read_whole.ensures.1 in
    rw failed.1
    (stands-after (length c.read_whole.new.buffer) (2 * c.args.count) (code_bytes codes) (g.S.Source.remaining c.args.source.now)
    (g.S.Source.remaining c.loop-buffer.source) (g.S.Source.remaining c.read_whole.new.source) c.loop-buffer.invariant.consumed
    (omega (arith, length-code_bytes codes, c.read_whole.auto.buffer, length-take c.min-wanted.result c.loop-buffer.buffer)) c.in_err-read_whole.ensures.place)

pub returns-in_err-read_whole-clause-counted : goal.returns-in_err-read_whole-clause-counted
returns-in_err-read_whole-clause-counted g c =
    let failed = err_from_is_err_and c.from_residual-in_err-read_whole.result c.from_residual-in_err-read_whole.ensures.1 in
    rw (failed.1, failed.2)
    (counts_after (g.S.Source.failures c.args.source.now) (g.S.Source.failures c.loop-buffer.source) (g.S.Source.failures c.read_whole.new.source)
    c.in_err-read_whole.field-0.0 c.loop-buffer.invariant.uncounted c.in_err-read_whole.ensures.counted)

pub returns-clause-bytes : goal.returns-clause-bytes
returns-clause-bytes g c = c.loop-buffer.invariant.consumed

pub returns-clause-hashed : goal.returns-clause-hashed
returns-clause-hashed g c = c.loop-buffer.invariant.hashed

pub returns-clause-small : goal.returns-clause-small
returns-clause-small g c = c.loop-buffer.invariant.small

pub returns-clause-counted : goal.returns-clause-counted
returns-clause-counted g c = c.loop-buffer.invariant.uncounted
