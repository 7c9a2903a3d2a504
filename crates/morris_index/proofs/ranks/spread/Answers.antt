-- Each point of the set moves up what stands there or past it.
use Rattle.std.proofs.Common.{◌≡◌, ℕ, ◌+◌, ◌*◌, ◌/◌, ◌%◌, ◌^◌, ◌<◌, ◌∙◌, ◌++◌, ◌∷◌, [], suc, ◌-◌, ◌≤◌, sym, ap, arith, length, length-append, List, true, inl, inr}
use Rattle.std.proofs.Math.Nat.{mod-eq_of_lt}
use Rattle.std.proofs.lemmas.Nat.{div-add-mod'}
use Rattle.morris_board.specs.Sets.{has, members}
use Rattle.morris_board.proofs.ImageTables.{member_lt}
use Rattle.morris_index.specs.Numbering.{number_outside, count_below}
use Rattle.morris_index.proofs.CarriedLaws.{split_after}
use Rattle.std.proofs.lemmas.Bool.{cases_lt}
use Rattle.morris_index.proofs.RankLaws.{count-none, count-yes, count_more}
use Rattle.morris_index.proofs.SumLaws.{point_at, all_passed}
use Rattle.morris_index.proofs.Spreading.{IsSpreading, IsSpread, spreading-start, spreading-taken, spreading-on, spreading-within, spread-end}
use Rattle.morris_index.proofs.ranks.spread.Goals as goal
use Rattle.morris_index.proofs.ranks.spread.Goals.{In-Some}

-- the point that comes next, of those of the set
next_here : (s p : ℕ) (before after left : List ℕ) → s < 2 ^ 24 → before ++ left ≡ members s → left ≡ p ∷ after
    → (p < 24) × (has s p ≡ true) × (count_below (has s) p ≡ length before)
next_here s p before after left within split unmove =
    let cut : before ++ p ∷ after ≡ members s = ap (λ t. before ++ t) (sym unmove) ∙ split in
    let stands = point_at s 24 p before after within (omega arith) cut in
    (member_lt s 24 p before after within cut, stands.0, stands.1)

at : (c : In-Some) → (c.in-Some.point < 24) × (has c.args.outside c.in-Some.point ≡ true) × (count_below (has c.args.outside) c.in-Some.point ≡ length c.loop-point.yielded)
at c = next_here c.args.outside c.in-Some.point c.loop-point.yielded _ _ c.requires.board c.loop-point.invariant.split c.in-Some.ensures.steps

here : (c : In-Some) → IsSpreading c.args.outside c.args.numbers c.in-Some.point c.loop-point.spread
here c = c.loop-point.invariant.passed c.in-Some.point (at c).2

small : (c : In-Some) → c.loop-point.spread < 2 ^ 24
small c = spreading-within c.args.outside c.args.numbers c.in-Some.point c.loop-point.spread (omega (arith, (at c).0)) c.requires.fits (here c)

moved : (c : In-Some) → c.loop-point.spread / 2 ^ c.in-Some.point * 2 ^ c.in-Some.point % 4294967296 ≡ c.loop-point.spread / 2 ^ c.in-Some.point * 2 ^ c.in-Some.point
moved c = mod-eq_of_lt (omega (arith, small c, div-add-mod' c.loop-point.spread (2 ^ c.in-Some.point)))

next : (c : In-Some) (b : ℕ) → count_below (has c.args.outside) b ≡ length (c.loop-point.yielded ++ c.in-Some.point ∷ [])
    → IsSpreading c.args.outside c.args.numbers b (c.loop-point.spread + c.loop-point.spread / 2 ^ c.in-Some.point * 2 ^ c.in-Some.point)
next c b count =
    spreading-on c.args.outside c.args.numbers (suc c.in-Some.point) _ b
    (spreading-taken c.args.outside c.args.numbers c.in-Some.point c.loop-point.spread (here c) (at c).1) from
    (omega (arith, one_more, count-yes (has c.args.outside) c.in-Some.point (at c).1, (at c).2))
  where
    one_more : count_below (has c.args.outside) b ≡ length c.loop-point.yielded + 1
    one_more = omega (arith, count, length-append c.loop-point.yielded (c.in-Some.point ∷ []))

    from : suc c.in-Some.point ≤ b
    from = elim (cases_lt c.in-Some.point b) [
      | inl l ↦ omega arith
      | inr g ↦
          let e : (c.in-Some.point - b) + b ≡ c.in-Some.point = omega arith in
          absurd (omega (arith, one_more, (at c).2, count_more (has c.args.outside) b (c.in-Some.point - b), ap (count_below (has c.args.outside)) e))
    ]

ended : (outside numbers spread : ℕ) (before left : List ℕ) → outside < 2 ^ 24 → before ++ left ≡ members outside → left ≡ [] → numbers < 2 ^ number_outside outside 24
    → ((b : ℕ) → count_below (has outside) b ≡ length before → IsSpreading outside numbers b spread) → IsSpread outside numbers spread
ended outside numbers spread before left within split none fits passed =
    spread-end outside numbers spread fits (passed 24 (all_passed outside before left within split none 24 (omega arith)).1)

pub loop-point-init : goal.loop-point-init
loop-point-init c = record {
  split = ap members (c.into_iter-point-iterator.ensures.into_iter_gives ∙ c.iter-point-items.ensures.points);
  passed = λ b none. rw c.mask-spread.ensures
      (spreading-on c.args.outside c.args.numbers 0 c.args.numbers b (spreading-start c.args.outside c.args.numbers) (omega arith)
      (none ∙ sym (count-none (has c.args.outside))));
}

pub overflow_shr-spread : goal.overflow_shr-spread
overflow_shr-spread c = omega (arith, (at (goal.at.overflow_shr-spread c).In-Some).0)

pub overflow_shl-spread : goal.overflow_shl-spread
overflow_shl-spread c = omega (arith, (at (goal.at.overflow_shl-spread c).In-Some).0)

pub overflow_add-spread : goal.overflow_add-spread
overflow_add-spread c =
    let i = (goal.at.overflow_add-spread c).In-Some in
    omega (arith, moved i, small i, div-add-mod' c.loop-point.spread (2 ^ c.in-Some.point))

pub loop-point-preserved : goal.loop-point-preserved
loop-point-preserved c =
    let i = (goal.at.loop-point-preserved c).In-Some in
    record {
      split = split_after c.loop-point.yielded _ c.in-Some.point _ _ c.in-Some.ensures.steps c.loop-point.invariant.split;
      passed = λ b count. rw (moved i) (next i b count);
    }

pub returns-clause-within : goal.returns-clause-within
returns-clause-within c =
    rw c.from_mask.ensures (ended c.args.outside c.args.numbers c.loop-point.spread c.loop-point.yielded (members c.loop-point.point-iterator)
    c.requires.board c.loop-point.invariant.split c.in-None.ensures.steps.0 c.requires.fits c.loop-point.invariant.passed).within

pub returns-clause-apart : goal.returns-clause-apart
returns-clause-apart c =
    rw c.from_mask.ensures (ended c.args.outside c.args.numbers c.loop-point.spread c.loop-point.yielded (members c.loop-point.point-iterator)
    c.requires.board c.loop-point.invariant.split c.in-None.ensures.steps.0 c.requires.fits c.loop-point.invariant.passed).apart

pub returns-clause-squeeze : goal.returns-clause-squeeze
returns-clause-squeeze c =
    rw c.from_mask.ensures (ended c.args.outside c.args.numbers c.loop-point.spread c.loop-point.yielded (members c.loop-point.point-iterator)
    c.requires.board c.loop-point.invariant.split c.in-None.ensures.steps.0 c.requires.fits c.loop-point.invariant.passed).squeeze
