-- Laws of the tallies of a table.
use Rattle.std.proofs.Common.{◌≡◌, ℕ, zero, suc, ◌+◌, ◌<◌, ◌≤◌, max, eqb, List, [], ◌∷◌, length, get_or, set, take, fold, unwrap_or, refl, sym, ap, ◌∙◌, inl, inr, arith, get_or-set_other, get_or-set_same, length-take}
use Rattle.std.specs.List.{reduce}
use Rattle.std.proofs.lemmas.Bool.{cases_eq, ne_eqb, cond-true, cond-false, eq-eqb}
use Rattle.std.proofs.lemmas.Grind.{same_number_lists}
use Rattle.std.proofs.lemmas.List.Sums.{count_by-le-length}
use Rattle.std.proofs.lemmas.List.FromFn.{get_or-map-range_with_len, length-map-range_with_len}
use Rattle.morris_wave.specs.Nets.{times}
use Rattle.morris_wave.proofs.Marking.{times_more}
use Rattle.morris_pairs.specs.Tables.{greatest_code, tallies_of}

fold_max : (first : ℕ) (codes : List ℕ) → fold max first codes ≡ max first (greatest_code codes)
fold_max first [] = omega arith
fold_max first (code ∷ codes) = omega (arith, fold_max (max first code) codes)

-- the greatest of a list, as the iterator gives it
pub greatest-reduce : (codes : List ℕ) → unwrap_or (reduce max codes) 0 ≡ greatest_code codes
greatest-reduce [] = refl
greatest-reduce (code ∷ codes) = fold_max code codes

pub le_greatest : (codes : List ℕ) (i : ℕ) → i < length codes → get_or codes i 0 ≤ greatest_code codes
le_greatest [] i inside = absurd (omega arith)
le_greatest (code ∷ codes) zero inside = omega arith
le_greatest (code ∷ codes) (suc i) inside = omega (arith, le_greatest codes i (omega arith))

-- what a pass of the counting loop does
pub count_more : (codes tallies : List ℕ) (i code : ℕ) → i < length codes → code ≡ get_or codes i 0 → code < length tallies
    → ((k : ℕ) → k < length tallies → get_or tallies k 0 ≡ times k (take i codes)) → (k : ℕ) → k < length tallies
    → get_or (set tallies code (get_or tallies code 0 + 1)) k 0 ≡ times k (take (i + 1) codes)
count_more codes tallies i code inside is low before k l = elim (cases_eq code k) [
  | inl e ↦
      ap (λ j. get_or (set tallies code (get_or tallies code 0 + 1)) j 0) (sym e)
      ∙ get_or-set_same tallies code (get_or tallies code 0 + 1) 0 low
      ∙ ap (λ j. get_or tallies j 0 + 1) e
      ∙ (omega (arith, before k l, times_more codes i code inside is k, cond-true {A = ℕ} (eqb code k) 1 0 (eq-eqb code k e)))
  | inr d ↦
      get_or-set_other tallies code k (get_or tallies code 0 + 1) 0 (λ e. d (sym e))
      ∙ (omega (arith, before k l, times_more codes i code inside is k, cond-false {A = ℕ} (eqb code k) 1 0 (ne_eqb code k d)))
]

pub times_few : (codes : List ℕ) (i k : ℕ) → times k (take i codes) ≤ i
times_few codes i k = omega (arith, count_by-le-length (λ code. eqb code k) (take i codes), length-take i codes)

-- counts at each place up to the greatest code are the tallies
pub tallies-from_counts : (codes tallies : List ℕ) → length tallies ≡ greatest_code codes + 1
    → ((k : ℕ) → k < length tallies → get_or tallies k 0 ≡ times k codes) → tallies ≡ tallies_of codes
tallies-from_counts codes tallies len counts =
    same_number_lists tallies (tallies_of codes)
    (len ∙ sym (length-map-range_with_len (λ code. times code codes) 0 (greatest_code codes + 1)))
    (λ k l. counts k l ∙ sym (get_or-map-range_with_len (λ code. times code codes) 0 (greatest_code codes + 1) k k 0 (omega arith) (omega arith)))
