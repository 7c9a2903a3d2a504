-- Laws of the numbers of subsets.
use Rattle.std.proofs.Common.{◌≡◌, ℕ, zero, suc, ◌+◌, ◌^◌, ◌<◌, ◌≤◌, refl, ap, inl, inr, arith, lit<, pow-suc}
use Rattle.std.proofs.lemmas.Bool.{cases_eq}
use Rattle.morris_index.specs.Binomials.{choose}

pub choose-none : (n : ℕ) → choose n 0 ≡ 1
unfolding choose
choose-none n = refl

pub choose-zero : (k : ℕ) → choose 0 (suc k) ≡ 0
unfolding choose
choose-zero k = refl

pub choose-suc : (n k : ℕ) → choose (suc n) (suc k) ≡ choose n (suc k) + choose n k
unfolding choose
choose-suc n k = refl

-- the subsets of one thing
pub choose-one : (n : ℕ) → choose n 1 ≡ n
choose-one zero = choose-zero 0
choose-one (suc n) = omega (arith, choose-suc n 0, choose-one n, choose-none n)

-- more things have no fewer subsets
pub choose-le_suc : (n k : ℕ) → choose n k ≤ choose (suc n) k
choose-le_suc n zero = omega (arith, choose-none n, choose-none (suc n))
choose-le_suc n (suc k) = omega (arith, choose-suc n k)

pub choose-le_more : (m n k : ℕ) → m ≤ n → choose m k ≤ choose n k
choose-le_more m zero k h = let e : m ≡ 0 = omega arith in omega (arith, ap (λ j. choose j k) e)
choose-le_more m (suc n) k h = elim (cases_eq m (suc n)) [
  | inl e ↦ omega (arith, ap (λ j. choose j k) e)
  | inr d ↦ omega (arith, choose-le_more m n k (omega arith), choose-le_suc n k)
]

pub pow-pos : (n : ℕ) → 0 < 2 ^ n
pow-pos zero = lit< tt
pow-pos (suc n) = omega (arith, pow-pos n, pow-suc 2 n)

-- all subsets of n things are 2 ^ n
pub choose-le : (n k : ℕ) → choose n k ≤ 2 ^ n
choose-le n zero = omega (arith, choose-none n, pow-pos n)
choose-le zero (suc k) = omega (arith, choose-zero k)
choose-le (suc n) (suc k) = omega (arith, choose-suc n k, choose-le n (suc k), choose-le n k, pow-suc 2 n)
