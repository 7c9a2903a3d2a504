-- What the counter's rule says at its end of a seat and of the numbers that were drawn.
use Rattle.std.proofs.Common.{◌≡◌, ℕ, zero, suc, ◌+◌, ◌<◌, ◌≤◌, ◌==◌, true, if◌then◌else◌, nat_lt, cond, eqb, eq-eqb, get_or, min, List, [], ◌∷◌, length, slice_index, sym, refl, ap, subst, ◌∙◌, arith}
use Rattle.std.specs.List.{sum_by, All}
use Rattle.std.proofs.lemmas.Bool.{cond-true}
use Rattle.std.proofs.lemmas.Bool.Decides.{nat_tests}
use Rattle.std.proofs.lemmas.List.{get_or_default}
use Rattle.std.proofs.lemmas.List.Sums.{count_by-le-length, sum_by-cons}
use mathlib.Core.Option.{some, some-injective, some-ne-none}
use lib.ListN.{get_elem?}
use Rattle.atomic_table.specs.Table.{State}
use Rattle.morris_wave.specs.Nets.{times}
use Rattle.morris_wave.proofs.Ranks.{times_some}
use Rattle.morris_workers.specs.declared.draws.Plan.{Plan}
use Rattle.morris_workers.specs.declared.draws.View.{View}
use Rattle.morris_workers.specs.Draws.{IsTicketRule, Counted, spent_view}
use Rattle.morris_workers.proofs.TicketSums.{sum_part, sum_less, sum_alone}

bit_most : (x n : ℕ) → (if nat_lt x n then 1 else 0) ≤ 1
bit_most x n = grind (arith, nat_tests)

bit_below : (x n : ℕ) → 0 < (if nat_lt x n then 1 else 0) → x < n
bit_below x n h = grind (arith, nat_tests)

below_bit : (x n : ℕ) → x < n → ◌≡◌ {A = ℕ} (if nat_lt x n then 1 else 0) 1
below_bit x n h = grind (arith, nat_tests)

-- no number in an empty list
no_times : (x : ℕ) (xs : List ℕ) → length xs ≡ 0 → times x xs ≡ 0
no_times x xs e = let h : times x xs ≤ length xs = count_by-le-length (λ y. y == x) xs in omega arith

ones : (l : List View) → sum_by (λ v. 1) l ≡ length l
ones [] = refl
ones (x ∷ xs) = omega (arith, sum_by-cons (λ (v : View). 1) x xs, ones xs)

module _ (p : Plan) (s : State (Unit {0}) View) (kept : IsTicketRule p s) (seat : ℕ) (v : View) (there : get_elem? s.views seat ≡ some v) where
  abbrev all : ℕ
  all = min (slice_index s.words 0) p.limit

  -- each view counts as a seat
  few_views : length s.views ≤ p.seats
  few_views = let h = sum_less (λ u. 1) (λ u. 1 + u.splits) (λ u. omega arith) s.views in omega (arith, kept.seats, ones s.views)

  -- where a seat stands for all seats, no other has a number
  came_back : v.stands ≡ p.seats → all ≡ length v.drawn
  came_back e = sym kept.lengths ∙ sum_alone (λ u. u.stands) (λ u. length u.drawn) s.views seat v spent_view there refl refl
      (λ j w k z. ap length (kept.spent j w k z)) (let h = few_views in omega (arith, kept.stands))

  no_more_out : all ≡ length v.drawn → (x : ℕ) → x < all → times x v.drawn ≡ 1
  no_more_out e x h = sym (sum_alone (λ u. length u.drawn) (λ u. times x u.drawn) s.views seat v spent_view there refl refl
      (λ j w k z. no_times x w.drawn z) (omega (arith, kept.lengths))) ∙ (kept.once x ∙ below_bit x all h)

  pub counts : Counted p.limit p.seats v all
  counts = record {
    most = omega arith;
    few = omega (arith, kept.lengths, sum_part (λ u. length u.drawn) s.views seat v there);
    once = λ x. let h = sum_part (λ u. times x u.drawn) s.views seat v there in let b = bit_most x all in let e = kept.once x in omega arith;
    below = λ x h. bit_below x all (let k = sum_part (λ u. times x u.drawn) s.views seat v there in let e = kept.once x in omega arith);
    back = came_back;
    whole = no_more_out;
    ended = λ e. let h = kept.ended seat v there e in omega arith;
  }

head_is : (words : List ℕ) (n : ℕ) → get_elem? words 0 ≡ some n → slice_index words 0 ≡ n
head_is [] n e = absurd (some-ne-none n (sym e))
head_is (x ∷ xs) n e = some-injective x n e

-- the same of the numbers as the program has them
pub counted_at : (p : Plan) (s : State (Unit {0}) View) → IsTicketRule p s → (seat : ℕ) (v : View) → get_elem? s.views seat ≡ some v → (word limit handed : ℕ)
    → get_elem? s.words 0 ≡ some word → p.limit ≡ limit → handed ≡ min word limit → Counted limit p.seats v handed
counted_at p s kept seat v there word limit handed read same is =
    let e : min (slice_index s.words 0) p.limit ≡ handed = (λ i. min (head_is s.words word read i) (same i)) ∙ sym is in
    subst (λ n. Counted limit p.seats v n) e (subst (λ n. Counted n p.seats v (min (slice_index s.words 0) p.limit)) same (counts p s kept seat v there))

pub all_below : (xs : List ℕ) (n : ℕ) → ((x : ℕ) → 0 < times x xs → x < n) → All (λ x. x < n) xs
all_below xs n h = λ k d t. h (get_or xs k d) (times_some (get_or xs k d) xs k t (get_or_default xs k 0 d t))
