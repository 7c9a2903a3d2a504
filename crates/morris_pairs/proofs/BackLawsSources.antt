-- The points from which a stone may have come to a point by a quiet move, as a set.
use Rattle.std.proofs.Common.{◌≡◌, ℕ, zero, suc, ◌+◌, ◌<◌, ◌≤◌, Bool, true, false, ◌&&◌, ltb, List, [], ◌∷◌, map, filter, refl, sym, ap, ◌∙◌, inl, inr, arith, None}
use Rattle.std.proofs.lemmas.Bool.{cases_Bool, cases_lt, lt-ltb, le-ltb, both_ways}
use Rattle.std.specs.List.{range_with_len}
use Rattle.morris_board.specs.Sets.{has, members}
use Rattle.morris_board.specs.Boards.{Shape}
use Rattle.morris_board.specs.Positions.{Sides}
use Rattle.morris_moves.specs.Rules.{is_vacant, move}
use Rattle.morris_moves.proofs.SetLaws.{lt_from_points}
use Rattle.morris_index.proofs.RankLaws.{members-passing}
use Rattle.morris_moves.specs.Backward.{has_come}
use Rattle.morris_pairs.specs.Predecessors.{moves_into}

-- ---- the moves from these points

filter_same : (f g : ℕ → Bool) (a n : ℕ) → ((k : ℕ) → a ≤ k → k < a + n → f k ≡ g k) → filter f (range_with_len a n) ≡ filter g (range_with_len a n)
filter_same f g a zero same = refl
filter_same f g a (suc n) same =
    rw (same a (omega arith) (omega arith), filter_same f g (a + 1) n (λ k low high. same k (omega arith) (omega arith))) refl

filter_mapped : {X : Type 0} (f : X → Bool) (h : ℕ → X) (ks : List ℕ) → filter f (map h ks) ≡ map h (filter (λ k. f (h k)) ks)
filter_mapped f h [] = refl
filter_mapped f h (k ∷ ks) = elim (cases_Bool (f (h k))) [
  | inl y ↦ rw y (ap (λ xs. h k ∷ xs) (filter_mapped f h ks))
  | inr n ↦ rw n (filter_mapped f h ks)
]

module _ (b : Shape) (n : ℕ) (e : b.points ≡ n) (few : n ≤ 24) (q : Sides) (v r : ℕ)
    (sources : (u : ℕ) → has r u ≡ (ltb u n && has_come b q (move u v None))) where
  pub source_lt : (u : ℕ) → has r u ≡ true → u < n
  source_lt u here = elim (cases_lt u n) [
    | inl low ↦ low
    | inr high ↦ absurd (both_ways _ (sources u ∙ ap (λ x. x && has_come b q (move u v None)) (le-ltb u n high)) here)
  ]

  pub source_vacant : (u : ℕ) → has r u ≡ true → is_vacant q u ≡ true
  unfolding has_come
  source_vacant u here = elim (cases_Bool (is_vacant q u)) [
    | inl y ↦ y
    | inr none ↦ absurd (both_ways _ (sources u ∙ rw none (no (ltb u n))) here)
  ]
    where
      no : (x : Bool) → (x && false) ≡ false
      no true = refl
      no false = refl

  pub moves_into-sources : moves_into b q v n ≡ map (λ u. move u v None) (members r)
  unfolding moves_into
  moves_into-sources =
      filter_mapped (has_come b q) (λ u. move u v None) (range_with_len 0 n)
      ∙ ap (map (λ u. move u v None)) (filter_same (λ u. has_come b q (move u v None)) (has r) 0 n
      (λ u low high. sym (sources u ∙ ap (λ x. x && has_come b q (move u v None)) (lt-ltb u n (omega arith))))
      ∙ sym (members-passing r n (lt_from_points r n source_lt) (omega arith)))
