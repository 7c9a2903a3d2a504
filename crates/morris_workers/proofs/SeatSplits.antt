-- Splitting a seat off the first one preserves the rule of the counter.
use Rattle.std.proofs.Common.{◌≡◌, ℕ, ◌+◌, ◌<◌, List, [], ◌∷◌, ◌++◌, length, length-append, set, length-set, sym, ap, ◌∙◌, ⊎_elim, arith}
use Rattle.std.specs.List.{sum_by}
use Rattle.std.proofs.lemmas.Bool.{false≢true}
use Rattle.std.proofs.lemmas.List.Sums.{sum_by_push}
use mathlib.Core.Option.{some}
use lib.ListN.{get_elem?}
use Rattle.atomic_table.specs.Table.{Splits}
use Rattle.atomic_table.proofs.Lists.{at_set, at_snoc}
use Rattle.morris_wave.specs.Nets.{times}
use Rattle.morris_workers.specs.declared.draws.Plan.{Plan}
use Rattle.morris_workers.specs.declared.draws.View.{View}
use Rattle.morris_workers.specs.Draws.{IsTicketRule, done, dealer, newcomer}
use Rattle.morris_workers.proofs.TicketSums.{sum_set}

-- one term changes, and one comes at the end
grown : {A : Type 0} (f : A → ℕ) (l : List A) (i : ℕ) (v w u : A) → get_elem? l i ≡ some v → sum_by f (set l i w ++ u ∷ []) + f v ≡ sum_by f l + f w + f u
grown f l i v w u e = omega (arith, sum_by_push f (set l i w) u, sum_set f l i v w e)

-- A seat with a split left gives a new seat.
pub splits : (p : Plan) (seat : ℕ) (v : View) → 0 < v.splits → 0 < v.stands → Splits (IsTicketRule p) seat v (dealer v) (newcomer v)
splits p seat v left stands = λ s kept there.
    let views : List View = set s.views seat (dealer v) ++ newcomer v ∷ [] in
    let more = λ (f : View → ℕ). grown f s.views seat v (dealer v) (newcomer v) there in
    let each = λ (j : ℕ) (u : View) (e : get_elem? views j ≡ some u). at_snoc (set s.views seat (dealer v)) (newcomer v) u j e in
    record {
      one_word = kept.one_word;
      small_limit = kept.small_limit;
      few_seats = kept.few_seats;
      once = λ x. (let h = more (λ u. times x u.drawn) in omega arith) ∙ kept.once x;
      lengths = (let h = more (λ u. length u.drawn) in omega arith) ∙ kept.lengths;
      ended = λ j u e h. ⊎_elim (λ t. ⊎_elim (λ k. kept.ended seat v there (ap (λ (z : View). z.ended) k.1 ∙ h)) (λ k. kept.ended j u k.1 h) (at_set s.views seat j (dealer v) u t))
          (λ t. absurd (false≢true (ap (λ (z : View). z.ended) t ∙ h))) (each j u e);
      passed = let h = more done in omega (arith, kept.passed);
      seats = (let h = more (λ u. 1 + u.splits) in omega arith) ∙ kept.seats;
      stands = let h = more (λ u. u.stands) in omega (arith, kept.stands, length-append (set s.views seat (dealer v)) (newcomer v ∷ []), length-set s.views seat (dealer v));
      spent = λ j u e h. ⊎_elim (λ t. ⊎_elim (λ k. absurd (omega (arith, ap (λ (z : View). z.stands) k.1, h))) (λ k. kept.spent j u k.1 h) (at_set s.views seat j (dealer v) u t))
          (λ t. absurd (omega (arith, ap (λ (z : View). z.stands) t, h))) (each j u e);
      limits = λ j u e h. ⊎_elim (λ t. ⊎_elim (λ k. sym (ap (λ (z : View). z.limit) k.1) ∙ kept.limits seat v there stands) (λ k. kept.limits j u k.1 h) (at_set s.views seat j (dealer v) u t))
          (λ t. sym (ap (λ (z : View). z.limit) t) ∙ kept.limits seat v there stands) (each j u e);
    }
