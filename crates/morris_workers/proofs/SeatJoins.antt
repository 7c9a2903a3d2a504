-- Joining a seat to another preserves the rule of the counter.
use Rattle.std.proofs.Common.{◌≡◌, ℕ, ◌+◌, ◌<◌, ◌≤◌, ◌==◌, ◌||◌, Bool, true, false, if◌then◌else◌, cond, List, ◌++◌, length, length-append, set, length-set, sym, ap, ◌∙◌, ⊎_elim, arith}
use Rattle.std.specs.List.{sum_by}
use Rattle.std.proofs.lemmas.Bool.{false≢true, or_cases}
use Rattle.std.proofs.lemmas.Bool.Decides.{nat_tests}
use mathlib.Core.Option.{some}
use lib.ListN.{get_elem?}
use Rattle.atomic_table.specs.Table.{Joins}
use Rattle.atomic_table.proofs.Lists.{at_set, set_else}
use Rattle.morris_wave.specs.Nets.{times}
use Rattle.morris_wave.proofs.Ranks.{times-append}
use Rattle.morris_workers.specs.declared.draws.Plan.{Plan}
use Rattle.morris_workers.specs.declared.draws.View.{View}
use Rattle.morris_workers.specs.Draws.{IsTicketRule, done, join_views, spent_view}
use Rattle.morris_workers.proofs.TicketSums.{sum_set}

-- two terms change, and what they add up to stays
moved : {A : Type 0} (f : A → ℕ) (l : List A) (i j : ℕ) (v w a b : A) → get_elem? l i ≡ some v → get_elem? (set l i a) j ≡ some w
    → sum_by f (set (set l i a) j b) + (f v + f w) ≡ sum_by f l + (f a + f b)
moved f l i j v w a b e h = omega (arith, sum_set f l i v a e, sum_set f (set l i a) j w b h)

flags : (a b : Bool) (m n : ℕ) → 0 < m → 0 < n → (if a || (m == 0) then 1 else 0) + (if b || (n == 0) then 1 else 0) ≤ (if (a || b) || ((m + n) == 0) then 1 else 0) + 1
flags true true m n x y = omega arith
flags true false m n x y = grind (arith, nat_tests)
flags false true m n x y = grind (arith, nat_tests)
flags false false m n x y = grind (arith, nat_tests)

-- a joined seat and a spent one count for as many that will draw no more as the two did
done_more : (v w : View) → 0 < v.stands → 0 < w.stands → done v + done w ≤ done (join_views v w) + done spent_view
done_more v w a b = flags v.ended w.ended v.stands w.stands a b

-- A seat takes in another.
pub joins : (p : Plan) (seat other : ℕ) (v w : View) → 0 < v.stands → 0 < w.stands → Joins (IsTicketRule p) seat v other w (join_views v w) spent_view
joins p seat other v w a b = λ s kept there apart also.
    let one : List View = set s.views seat (join_views v w) in
    let views : List View = set one other spent_view in
    let sums = λ (f : View → ℕ). moved f s.views seat other v w (join_views v w) spent_view there also in
    let was : get_elem? s.views other ≡ some w = sym (set_else s.views seat other (join_views v w) apart) ∙ also in
    record {
      one_word = kept.one_word;
      small_limit = kept.small_limit;
      few_seats = kept.few_seats;
      once = λ x. (let h = sums (λ u. times x u.drawn) in omega (arith, times-append x v.drawn w.drawn)) ∙ kept.once x;
      lengths = (let h = sums (λ u. length u.drawn) in omega (arith, length-append v.drawn w.drawn)) ∙ kept.lengths;
      ended = λ j u e h. ⊎_elim (λ t. absurd (false≢true (ap (λ (z : View). z.ended) t.1 ∙ h)))
          (λ t. ⊎_elim (λ k. ⊎_elim (λ m. kept.ended seat v there m) (λ m. kept.ended other w was m) (or_cases v.ended w.ended (ap (λ (z : View). z.ended) k.1 ∙ h)))
          (λ k. kept.ended j u k.1 h) (at_set s.views seat j (join_views v w) u t.1))
          (at_set one other j spent_view u e);
      passed = let h = sums done in omega (arith, kept.passed, done_more v w a b);
      seats = (let h = sums (λ u. 1 + u.splits) in omega arith) ∙ kept.seats;
      stands = let h = sums (λ u. u.stands) in omega (arith, kept.stands, length-set one other spent_view, length-set s.views seat (join_views v w));
      spent = λ j u e h. ⊎_elim (λ t. sym (ap (λ (z : View). z.drawn) t.1))
          (λ t. ⊎_elim (λ k. absurd (omega (arith, ap (λ (z : View). z.stands) k.1, h))) (λ k. kept.spent j u k.1 h) (at_set s.views seat j (join_views v w) u t.1))
          (at_set one other j spent_view u e);
      limits = λ j u e h. ⊎_elim (λ t. absurd (omega (arith, ap (λ (z : View). z.stands) t.1, h)))
          (λ t. ⊎_elim (λ k. sym (ap (λ (z : View). z.limit) k.1) ∙ kept.limits seat v there a) (λ k. kept.limits j u k.1 h) (at_set s.views seat j (join_views v w) u t.1))
          (at_set one other j spent_view u e);
    }
