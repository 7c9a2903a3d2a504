-- The bytes of a read follow the bytes that are there so far.
use Rattle.std.proofs.Common.{◌≡◌, ℕ, ◌+◌, ◌-◌, ◌<◌, ◌≤◌, ◌^◌, List, ◌++◌, length, take, refl, sym, ap, ◌∙◌, subst, rules, arith}
use Rattle.std.proofs.KnownBytes.{Consumes-nil, Consumes-kept, Consumes-trans}
use Rattle.std.proofs.lemmas.List.{length-take-le, take-append-le}
use Rattle.std.proofs.Math.Seq.{take-append-add}
use Rattle.std.specs.Io.KnownBytes.{Consumes}
use borrow.Rule.Slice.PartMut.{put_mid, post_of}
use Rattle.morris_pairs.proofs.reading.fill.Goals as goal

fronts : (buffer part : List ℕ) (done count k : ℕ) → done ≤ length buffer → count ≤ length part
    → take done buffer ++ take count part ≡ take (done + count) (put_mid done k buffer part)
fronts buffer part done count k within given =
    sym (
    ap (λ n. take (n + count) (put_mid done k buffer part)) (sym (length-take-le done buffer within))
    ∙ take-append-add (take done buffer) (part ++ post_of done k buffer) count
    ∙ ap (λ rest. take done buffer ++ rest) (take-append-le count part (post_of done k buffer) given))

pub loop-done-init : goal.loop-done-init
loop-done-init g c = record {
  within = omega arith;
  consumed = Consumes-nil (g.S.Source.remaining c.args.source.now);
  uncounted = refl;
}

pub read-requires : goal.read-requires
read-requires g c = subst (λ n. n < 2 ^ 64 - 1) (sym c.loop-done.invariant.uncounted) c.requires

pub returns-in-Ok-eq0-clause-bytes : goal.returns-in-Ok-eq0-clause-bytes
returns-in-Ok-eq0-clause-bytes g c =
    let none : c.loop-done.done + c.in-Ok-eq0.field-0 ≡ c.loop-done.done = omega (arith, c.in-Ok-eq0.field-0-test) in
    subst (Consumes (g.S.Source.remaining c.args.source.now) (g.S.Source.remaining c.read.new.self))
    (fronts c.loop-done.buffer c.read.new.buffer c.loop-done.done c.in-Ok-eq0.field-0 (length c.loop-done.buffer - c.loop-done.done) c.loop-done.invariant.within
    c.in-Ok-eq0.ensures.bound.0
    ∙ ap (λ n. take n (put_mid c.loop-done.done (length c.loop-done.buffer - c.loop-done.done) c.loop-done.buffer c.read.new.buffer)) none)
    (Consumes-trans _ _ _ _ _ c.loop-done.invariant.consumed c.in-Ok-eq0.ensures.bytes.0)

pub returns-in-Ok-eq0-clause-end : goal.returns-in-Ok-eq0-clause-end
returns-in-Ok-eq0-clause-end g c = λ _. c.in-Ok-eq0.ensures.bytes.1 c.in-Ok-eq0.field-0-test (omega (arith, c.read.auto.buffer, c.loop-done-test.true))

pub returns-in-Ok-eq0-clause-counted : goal.returns-in-Ok-eq0-clause-counted
returns-in-Ok-eq0-clause-counted g c = c.in-Ok-eq0.ensures.counted ∙ c.loop-done.invariant.uncounted

pub returns-in-Err-clause-place : goal.returns-in-Err-clause-place
returns-in-Err-clause-place g c =
    let done = c.loop-done.done in (
      take done c.loop-done.buffer,
      omega (arith, length-take-le done c.loop-done.buffer c.loop-done.invariant.within, c.loop-done-test.true),
      Consumes-kept _ _ _ _ c.loop-done.invariant.consumed c.in-Err.ensures.bytes,
    )

pub returns-in-Err-clause-counted : goal.returns-in-Err-clause-counted
returns-in-Err-clause-counted g c = c.in-Err.ensures.counted ∙ ap (λ n. n + 1) c.loop-done.invariant.uncounted

pub returns-clause-bytes : goal.returns-clause-bytes
returns-clause-bytes g c = c.loop-done.invariant.consumed

pub returns-clause-end : goal.returns-clause-end
returns-clause-end g c = λ short. absurd (omega (arith, short, c.loop-done-test.false))

pub returns-clause-counted : goal.returns-clause-counted
returns-clause-counted g c = c.loop-done.invariant.uncounted

pub loop-done-preserved : goal.loop-done-preserved
loop-done-preserved g c = record {
  within = search rules;
  consumed =
      subst (Consumes _ _) (fronts c.loop-done.buffer c.read.new.buffer c.loop-done.done c.in-Ok.count _ c.loop-done.invariant.within c.in-Ok.ensures.bound.0)
      (Consumes-trans _ _ _ _ _ c.loop-done.invariant.consumed c.in-Ok.ensures.bytes.0);
  uncounted = c.in-Ok.ensures.counted ∙ c.loop-done.invariant.uncounted;
}
