-- The table of binomials is `choose`, by one computation over the whole table.
use Rattle.std.proofs.Common.{◌≡◌, ℕ, zero, suc, ◌+◌, ◌<◌, ◌≤◌, Bool, true, List, [], ◌∷◌, map, get_or, sym, ◌∙◌, ap, refl, zero-add, arith, nat_le}
use Rattle.std.specs.List.{list_all, range_with_len}
use Rattle.std.proofs.lemmas.Bool.{leb-true}
use Rattle.std.proofs.lemmas.List.FromFn.{get_or-map-range_with_len}
use Rattle.morris_board.specs.SymmetryLaws.{below}
use Rattle.morris_index.specs.Binomials.{choose}
use Rattle.morris_index.specs.declared.binomials.TheConstants as table

-- the numbers of subsets of 0, 1, .. 10 of one thing more: each number and the one before it are
-- added
abbrev row_after : ℕ → List ℕ → List ℕ
row_after before [] = []
row_after before (x ∷ xs) = (x + before) ∷ row_after x xs

unfoldable row : ℕ → List ℕ
row zero = 1 ∷ 0 ∷ 0 ∷ 0 ∷ 0 ∷ 0 ∷ 0 ∷ 0 ∷ 0 ∷ 0 ∷ 0 ∷ []
row (suc n) = row_after 0 (row n)

choices : ℕ → List ℕ
choices n = map (choose n) (range_with_len 0 11)

row-choices : (n : ℕ) → row n ≡ choices n
unfolding row choices choose
row-choices zero = refl
row-choices (suc n) = ap (row_after 0) (row-choices n)

-- the table has these by columns
abbrev column : ℕ → List ℕ
column k = map (λ n. get_or (row n) k 0) (range_with_len 0 25)

columns : map column (range_with_len 0 11) ≡ table.BINOMIALS
unfolding row
columns = refl

abbrev pub looked : ℕ → ℕ → ℕ
looked n k = get_or (get_or table.BINOMIALS k []) n 0

pub binomial_of : (n k : ℕ) → n < 25 → k < 11 → looked n k ≡ choose n k
unfolding choices
binomial_of n k h l =
    ap (λ t. get_or (get_or t k []) n 0) (sym columns)
    ∙ ap (λ c. get_or c n 0) (get_or-map-range_with_len column 0 11 k k [] l (zero-add k))
    ∙ get_or-map-range_with_len (λ m. get_or (row m) k 0) 0 25 n n 0 h (zero-add n)
    ∙ ap (λ r. get_or r k 0) (row-choices n)
    ∙ get_or-map-range_with_len (choose n) 0 11 k k 0 l (zero-add k)

-- the greatest numbers of the table: of all of it, of all subsets of at most 9, and of those of at
-- most 21 things
abbrev all_at_most : ℕ → ℕ → ℕ → Bool
all_at_most things chosen most = list_all (λ n. list_all (λ k. nat_le (looked n k) most) (range_with_len 0 chosen)) (range_with_len 0 things)

at_most : (things chosen most : ℕ) → all_at_most things chosen most ≡ true → (n k : ℕ) → n < things → k < chosen → things ≤ 25 → chosen ≤ 11 → choose n k ≤ most
at_most things chosen most all n k h l few narrow =
    omega (
      arith,
      leb-true _ _ (below (λ j. nat_le (looked n j) most) chosen (below (λ m. list_all (λ j. nat_le (looked m j) most) (range_with_len 0 chosen)) things all n h) k l),
      binomial_of n k (omega arith) (omega arith),
    )

pub choose_few : (n k : ℕ) → n < 25 → k < 11 → choose n k ≤ 1961256
choose_few n k h l = at_most 25 11 1961256 refl n k h l (omega arith) (omega arith)

pub choose_small : (n k : ℕ) → n < 25 → k < 10 → choose n k ≤ 1307504
choose_small n k h l = at_most 25 10 1307504 refl n k h l (omega arith) (omega arith)

pub choose_smaller : (n k : ℕ) → n < 22 → k < 10 → choose n k ≤ 293930
choose_smaller n k h l = at_most 22 10 293930 refl n k h l (omega arith) (omega arith)
