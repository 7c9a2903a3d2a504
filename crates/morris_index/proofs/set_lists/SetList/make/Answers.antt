-- The set after the last one isn't asked for.
use Rattle.std.proofs.Common.{◌≡◌, ◌+◌, suc, ◌∙◌, ap, ap₂, sym, subst, [], ◌∷◌, inl, inr, arith, length-append}
use Rattle.std.proofs.lemmas.Bool.{cases_eq}
use Rattle.std.proofs.lemmas.List.{get_or_push, get_or_append_left}
use Rattle.morris_board.specs.Sets.{count_of}
use Rattle.morris_index.specs.Binomials.{choose}
use Rattle.morris_index.specs.Numbering.{IsRanked}
use Rattle.morris_index.proofs.IndexLaws.{number_outside-none}
use Rattle.morris_index.proofs.set_lists.SetList.make.Goals as goal
use Rattle.morris_index.proofs.set_lists.SetList.make.Goals.{in-Some, in_default}

pub least-set-requires-clause-fits : goal.least-set-requires-clause-fits
least-set-requires-clause-fits c = omega (arith, c.requires.fits, number_outside-none c.args.points)

pub loop-index-init : goal.loop-index-init
loop-index-init c = record {
  len = rw c.in_ok-sets.ensures.items (omega arith);
  each = λ rank low. absurd (omega arith);
  next = λ h. c.least-set.ensures;
}

pub next_set-requires-clause-within : goal.next_set-requires-clause-within
next_set-requires-clause-within c =
    let all : c.binomial-all.result ≡ choose c.args.points c.args.count = c.binomial-all.ensures.value in
    (c.loop-index.invariant.next (omega (arith, all, c.loop-index-test.true))).within

pub next_set-requires-clause-apart : goal.next_set-requires-clause-apart
next_set-requires-clause-apart c =
    let all : c.binomial-all.result ≡ choose c.args.points c.args.count = c.binomial-all.ensures.value in
    (c.loop-index.invariant.next (omega (arith, all, c.loop-index-test.true))).apart

pub loop-index-preserved : goal.loop-index-preserved
loop-index-preserved c =
    let all : c.binomial-all.result ≡ choose c.args.points c.args.count = c.binomial-all.ensures.value in
    let here : IsRanked c.args.points 0 c.args.count c.loop-index._index c.loop-index.set = c.loop-index.invariant.next (omega (arith, all, c.loop-index-test.true)) in
    let more : suc c.loop-index._index ≡ c.loop-index._index + 1 = omega arith in
    record {
      len = rw c.in_ok-push.ensures.items (omega (arith, length-append c.loop-index.sets.items (c.mask.result ∷ []), c.loop-index.invariant.len));
      each = λ rank low. rw c.in_ok-push.ensures.items (elim (cases_eq rank c.loop-index._index) [
        | inl e ↦
            subst (λ s. IsRanked c.args.points 0 c.args.count rank s)
            (sym (get_or_push c.loop-index.sets.items c.mask.result 0 rank (c.loop-index.invariant.len ∙ sym e) ∙ c.mask.ensures))
            (subst (λ r. IsRanked c.args.points 0 c.args.count r c.loop-index.set) (sym e) here)
        | inr d ↦
            subst (λ s. IsRanked c.args.points 0 c.args.count rank s)
            (sym (get_or_append_left c.loop-index.sets.items (c.mask.result ∷ []) 0 rank (omega (arith, c.loop-index.invariant.len))))
            (c.loop-index.invariant.each rank (omega arith))
      ]);
      next = elim c.match-next_set.branch [
        | in-Some w ↦ λ h.
            rw w.set-is
            (subst (λ k. IsRanked c.args.points 0 k (c.loop-index._index + 1) w.in-Some.next) here.counted
            (subst (λ r. IsRanked c.args.points 0 (count_of c.loop-index.set) r w.in-Some.next) (ap suc here.ranked ∙ more) w.in-Some.ensures))
        | in_default w ↦ λ h.
            absurd (omega (arith, h, w.in_default.ensures, here.ranked, ap₂ choose (number_outside-none c.args.points) here.counted))
      ];
    }
