-- The greatest number of things with at most so many subsets of k, found by a count: the numbers of
-- a row of the table never fall, so it is how many of them after the first are at most that many.
use Rattle.std.proofs.Common.{◌≡◌, ℕ, zero, suc, ◌+◌, ◌<◌, ◌≤◌, ap, inl, inr, arith}
use Rattle.std.proofs.lemmas.Bool.{cases_eq, cases_lt}
use Rattle.morris_index.specs.Binomials.{choose}
use Rattle.morris_index.proofs.ChooseLaws.{choose-le_more, choose-zero}

-- of the numbers below `end`, `point` is the greatest with at most `rank` subsets of k
pub record IsHighest (k rank end point : ℕ) : Type 0 where
  pub inside : point < end
  pub fits : choose point k ≤ rank
  pub beyond : (n : ℕ) → point < n → n < end → rank < choose n k

pub highest-start : (k rank : ℕ) → 0 < k → IsHighest k rank 1 0
highest-start zero rank some = absurd (omega arith)
highest-start (suc k) rank some = record {
  inside = omega arith;
  fits = omega (arith, choose-zero k);
  beyond = λ n low h. absurd (omega arith);
}

module _ (k rank end point : ℕ) (s : IsHighest k rank end point) where
  -- the number at the end, too, where it is the next one
  pub highest-more : choose end k ≤ rank → IsHighest k rank (end + 1) (point + 1)
  highest-more h = record {
    inside = omega (arith, s.inside);
    fits = omega (arith, ap (λ n. choose n k) next);
    beyond = λ n low l. absurd (omega (arith, next));
  }
    where
      next : point + 1 ≡ end
      next = elim (cases_lt (point + 1) end) [
        | inl l ↦ absurd (omega (arith, s.beyond (point + 1) (omega arith) l, choose-le_more (point + 1) end k (omega arith)))
        | inr g ↦ omega (arith, s.inside)
      ]

  pub highest-same : rank < choose end k → IsHighest k rank (end + 1) point
  highest-same h = record {
    inside = omega (arith, s.inside);
    fits = s.fits;
    beyond = λ n low l. elim (cases_eq n end) [
      | inl e ↦ omega (arith, ap (λ m. choose m k) e)
      | inr d ↦ s.beyond n low (omega arith)
    ];
  }
