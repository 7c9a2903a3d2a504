-- A draw preserves the rule of the counter.
use Rattle.std.proofs.Common.{◌≡◌, ℕ, ◌+◌, ◌%◌, ◌<◌, ◌≤◌, ◌==◌, ◌||◌, true, false, cond, eqb, if◌then◌else◌, nat_lt, min, List, [], ◌∷◌, ◌++◌, length, length-append, set, slice_index, sym, refl, ap, subst, ◌∙◌, ⊎_elim, arith, get_or-set_same, length-set}
use Rattle.std.specs.List.{sum_by}
use Rattle.std.proofs.lemmas.Bool.{cases_lt, lt-ltb, le-ltb, cond-true, cond-false, false≢true}
use Rattle.std.proofs.lemmas.Bool.Decides.{nat_tests}
use mathlib.Core.Option.{some}
use lib.ListN.{get_elem?}
use Rattle.atomic_table.specs.Table.{State, Me, Act, keeps, Valid, Allows, stepped, carried_after}
use Rattle.atomic_table.proofs.Lists.{at_set}
use Rattle.morris_wave.specs.Nets.{times}
use Rattle.morris_wave.proofs.Dealing.{times_push}
use Rattle.morris_workers.specs.declared.draws.Plan.{Plan}
use Rattle.morris_workers.specs.declared.draws.View.{View}
use Rattle.morris_workers.specs.Draws.{IsTicketRule, Drew, done, drawing, with_number, ended_view}
use Rattle.morris_workers.proofs.TicketSums.{sum_set, sum_part, sum_less}

-- 1 for a number below another
abbrev pub below : ℕ → ℕ → ℕ
below x n = if nat_lt x n then 1 else 0

one_more : (x n limit : ℕ) → n < limit → below x (min n limit) + cond {A = ℕ} (eqb n x) 1 0 ≡ below x (min (n + 1) limit)
one_more x n limit h = grind (arith, nat_tests)

no_more : (x n limit : ℕ) → limit ≤ n → below x (min n limit) ≡ below x (min (n + 1) limit)
no_more x n limit h =
    let a : min n limit ≡ limit = omega arith in
    let b : min (n + 1) limit ≡ limit = omega arith in
    ap (below x) (a ∙ sym b)

done_most : (v : View) → done v ≤ 1 + v.splits
done_most v = elim (v.ended) as (λ b. (if b || (v.stands == 0) then 1 else 0) ≤ 1 + v.splits) [ true ↦ omega arith | false ↦ grind (arith, nat_tests) ]

-- a sum over the views follows one of its terms
shift : (old new a b tv tw : ℕ) → new + tv ≡ old + tw → old ≡ a → a + tw ≡ b + tv → new ≡ b
shift old new a b tv tw h k e = omega arith

rearrange : (a b t t' c : ℕ) → t' ≡ t + c → a + c ≡ b → a + t' ≡ b + t
rearrange a b t t' c h e = omega arith

done_none : (v : View) → v.ended ≡ false → 0 < v.stands → done v ≡ 0
done_none v ready stands = rw ready (grind (arith, nat_tests))

module _ (p : Plan) (s : State (Unit {0}) View) (kept : IsTicketRule p s) where
  -- the word can't wrap
  pub far : slice_index s.words 0 ≤ p.limit + 64
  far = omega (arith, kept.passed, kept.seats, kept.few_seats, sum_less done (λ v. 1 + v.splits) done_most s.views)

  module _ (seat : ℕ) (v w : View) (m : ℕ) (there : get_elem? s.views seat ≡ some v) where
    abbrev after : State (Unit {0}) View
    after = record { words = set s.words 0 m; homes = s.homes; views = set s.views seat w }

    word_is : slice_index (set s.words 0 m) 0 ≡ m
    word_is = let lt : 0 < length s.words = omega (arith, kept.one_word) in rw get_or-set_same

    -- a seat's view and the word change together
    changed : 0 < v.stands → w.limit ≡ v.limit → w.splits ≡ v.splits → w.stands ≡ v.stands → slice_index s.words 0 ≤ m
        → ((x : ℕ) → below x (min (slice_index s.words 0) p.limit) + times x w.drawn ≡ below x (min m p.limit) + times x v.drawn)
        → min (slice_index s.words 0) p.limit + length w.drawn ≡ min m p.limit + length v.drawn
        → (w.ended ≡ true → p.limit ≤ m)
        → m + done v ≤ p.limit + sum_by done s.views + done w
        → IsTicketRule p after
    changed stands limit splits stays more once lengths ended passed = record {
      one_word = length-set s.words 0 m ∙ kept.one_word;
      small_limit = kept.small_limit;
      few_seats = kept.few_seats;
      once = λ x. subst (λ n. sum_by (λ u. times x u.drawn) (set s.views seat w) ≡ below x (min n p.limit)) (sym word_is)
          (shift _ _ _ _ _ _ (sum_set (λ u. times x u.drawn) s.views seat v w there) (kept.once x) (once x));
      lengths = subst (λ n. sum_by (λ u. length u.drawn) (set s.views seat w) ≡ min n p.limit) (sym word_is)
          (shift _ _ _ _ _ _ (sum_set (λ u. length u.drawn) s.views seat v w there) kept.lengths lengths);
      ended = λ j u e h. subst (λ n. p.limit ≤ n) (sym word_is)
          (⊎_elim (λ t. ended (subst (λ (z : View). z.ended ≡ true) (sym t.1) h)) (λ t. let k = kept.ended j u t.1 h in omega arith) (at_set s.views seat j w u e));
      passed = subst (λ n. n ≤ p.limit + sum_by done (set s.views seat w)) (sym word_is)
          (let h = sum_set done s.views seat v w there in omega arith);
      seats = shift _ _ _ _ _ _ (sum_set (λ u. 1 + u.splits) s.views seat v w there) kept.seats (ap (λ n. p.seats + (1 + n)) splits);
      stands = shift _ _ _ _ _ _ (sum_set (λ u. u.stands) s.views seat v w there) kept.stands (ap (λ n. length s.views + n) stays) ∙ sym (length-set s.views seat w);
      spent = λ j u e h. ⊎_elim (λ t. absurd (omega (arith, ap (λ (z : View). z.stands) t.1, stays))) (λ t. kept.spent j u t.1 h) (at_set s.views seat j w u e);
      limits = λ j u e h. ⊎_elim (λ t. sym (ap (λ (z : View). z.limit) t.1) ∙ limit ∙ kept.limits seat v there stands) (λ t. kept.limits j u t.1 h) (at_set s.views seat j w u e);
    }

  module _ (seat : ℕ) (v : View) (there : get_elem? s.views seat ≡ some v) (stands : 0 < v.stands) (ready : v.ended ≡ false) where
    abbrev word : ℕ
    word = slice_index s.words 0

    -- a seat that found a number has it at the end of its list
    took : word < p.limit → IsTicketRule p (after seat v (with_number v word) (word + 1) there)
    took under = changed seat v (with_number v word) (word + 1) there stands refl refl refl (omega arith)
        (λ x. rearrange _ _ _ _ _ (times_push x word v.drawn) (one_more x word p.limit under))
        (omega (arith, length-append v.drawn (word ∷ [])))
        (λ e. absurd (false≢true (sym ready ∙ e)))
        (omega arith)

    -- a seat that found no number left has ended
    missed : p.limit ≤ word → IsTicketRule p (after seat v (ended_view v) (word + 1) there)
    missed past = changed seat v (ended_view v) (word + 1) there stands refl refl refl (omega arith)
        (λ x. ap (λ n. n + times x v.drawn) (no_more x word p.limit past))
        (omega arith)
        (λ e. omega arith)
        (omega (arith, kept.passed, done_none v ready stands))

-- the same as the table wants it of a step
module _ (p : Plan) (s : State (Unit {0}) View) (seat : ℕ) (me : Me (Unit {0}) View) (there : get_elem? s.views seat ≡ some me.0) (raised : ℕ) where
  abbrev found : ℕ
  found = slice_index s.words 0

  abbrev Done : Type 0
  Done = (w : View) × (a : Act (Unit {0})) × Valid s.homes me.1 a × IsTicketRule p (stepped s 0 raised seat me.1 w a) × Drew me found (w, carried_after me.1 a)

  drew : (w : View) → me.0.limit ≡ p.limit → w ≡ drawing me.0 found → raised ≡ found + 1 → IsTicketRule p (record { words = set s.words 0 (found + 1); homes = s.homes; views = set s.views seat w }) → Done
  drew w limit is e kept = (
    w,
    keeps,
    tt,
    subst (λ n. IsTicketRule p (record { words = set s.words 0 n; homes = s.homes; views = set s.views seat w })) (sym e) kept,
    record { view = is; slots = refl; few = omega (arith, kept.lengths, sum_set (λ u. length u.drawn) s.views seat me.0 w there, sum_part (λ u. length u.drawn) s.views seat me.0 there) },
  )

  drew_either : IsTicketRule p s → me.0.ended ≡ false → 0 < me.0.stands → me.0.limit ≡ p.limit → raised ≡ found + 1 → Done
  drew_either kept ready stands limit e =
      ⊎_elim (λ h. drew (with_number me.0 found) limit (sym (cond-true (nat_lt found me.0.limit) (with_number me.0 found) (ended_view me.0) (lt-ltb found me.0.limit h))) e
      (took p s kept seat me.0 there stands ready (omega arith)))
      (λ h. drew (ended_view me.0) limit (sym (cond-false (nat_lt found me.0.limit) (with_number me.0 found) (ended_view me.0) (le-ltb found me.0.limit h))) e
      (missed p s kept seat me.0 there stands ready (omega arith)))
      (cases_lt found me.0.limit)

-- Whatever the counter is when the word is raised by 1, the draw preserves its rule.
pub draws : (p : Plan) (slots seat : ℕ) (me : Me (Unit {0}) View) → me.0.ended ≡ false → 0 < me.0.stands
    → Allows (IsTicketRule p) slots seat me 0 (λ n. (n + 1) % 18446744073709551616) (λ n after. Drew me n after)
draws p slots seat me ready stands = λ s kept homes there room.
    drew_either p s seat me there ((slice_index s.words 0 + 1) % 18446744073709551616) kept ready stands (kept.limits seat me.0 there stands)
    (omega (arith, far p s kept, kept.small_limit))
