-- The legal moves are listed in order, and there are few of them.
use Rattle.std.proofs.Common.{◌≡◌, ℕ, ◌*◌, ◌<◌, ◌≤◌, ltb, leb, length, refl, sym, subst, ◌∙◌, inl, inr, arith, Some}
use Rattle.std.proofs.lemmas.Bool.{cases_Bool, eq-eqb, lt-ltb, leb-true, and_parts, and_from, or_left, or_right}
use Rattle.std.specs.List.{AllPairs, Contains}
use Rattle.std.proofs.Math.ListN.{length-map}
use Rattle.morris_board.specs.Sets.{members, count_of}
use Rattle.morris_board.specs.Boards.{Shape}
use Rattle.morris_board.specs.Positions.{Sides, IsPosition, is_between}
use Rattle.morris_board.proofs.PointsLaws.{set_where-lt}
use Rattle.morris_moves.specs.declared.game_move.Move.{Move}
use Rattle.morris_moves.specs.Order.{Precedes}
use Rattle.morris_moves.specs.Rules.{closes, may_go, reach, takable_stones, move, moves_to, moves_from, moves_of}
use Rattle.morris_moves.proofs.ListLaws.{Ascends, Ascends-flat_map, Ascends-map, AllPairs-from_Ascends, Contains-flat_map_cases, length-flat_map_le}
use Rattle.morris_moves.proofs.SetLaws.{Ascends-members, count_of-below, count_of-part}
use Rattle.morris_moves.proofs.LegalLaws.{moves_to_is, takable_is_other}

-- ---- order

pub by_from : (m n : Move) → m.from < n.from → Precedes m n
by_from m n h = or_left _ _ (lt-ltb _ _ h)

pub by_to : (m n : Move) → m.from ≡ n.from → m.to < n.to → Precedes m n
by_to m n e h = or_right _ _ (and_from _ _ (eq-eqb _ _ e) (or_left _ _ (lt-ltb _ _ h)))

by_taken : (u v t r : ℕ) → t < r → Precedes (move u v (Some t)) (move u v (Some r))
by_taken u v t r h = rw (eq-eqb u u refl, eq-eqb v v refl, lt-ltb t r h) (or_right (ltb u u) _ (or_right (ltb v v) _ refl))

module _ (b : Shape) (s : Sides) where
  Ascends-moves_to : (u v : ℕ) → Ascends Precedes (moves_to b s u v)
  unfolding moves_to
  Ascends-moves_to u v = elim (cases_Bool (closes b s.own u v)) [
    | inl shut ↦ rw shut (Ascends-map (λ p q. p < q) Precedes (λ t. move u v (Some t)) (members (takable_stones b s.other)) (Ascends-members (takable_stones b s.other)) (λ t r h. by_taken u v t r h))
    | inr open_ ↦ rw open_ ((λ y c. absurd (omega arith)), tt)
  ]

  Ascends-moves_from : (u : ℕ) → Ascends Precedes (moves_from b s u)
  unfolding moves_from
  Ascends-moves_from u =
      Ascends-flat_map (λ p q. p < q) Precedes (moves_to b s u) (members (reach b s u)) (Ascends-members (reach b s u)) (Ascends-moves_to u)
      (λ v w m n h c d.
      let i = moves_to_is b s u v m c in
      let j = moves_to_is b s u w n d in
      by_to m n (i.0 ∙ sym j.0) (subst (λ x. x < n.to) (sym i.1) (subst (λ x. v < x) (sym j.1) h)))

  moves_from_from : (u : ℕ) (m : Move) → Contains (moves_from b s u) m → m.from ≡ u
  unfolding moves_from
  moves_from_from u m c = let r = Contains-flat_map_cases (moves_to b s u) (members (reach b s u)) m c in (moves_to_is b s u r.0 m r.2).0

  -- each legal move precedes all that are listed after it
  pub moves_in_order : AllPairs Precedes (moves_of b s)
  unfolding moves_of
  moves_in_order = AllPairs-from_Ascends Precedes _
      (Ascends-flat_map (λ p q. p < q) Precedes (moves_from b s) (members s.own) (Ascends-members s.own) Ascends-moves_from
      (λ u w m n h c d. by_from m n (subst (λ x. x < n.from) (sym (moves_from_from u m c)) (subst (λ x. u < x) (sym (moves_from_from w n d)) h))))

-- ---- length

module _ (b : Shape) (s : Sides) (small : b.points ≤ 24) (h : IsPosition b s) where
  few_own : length (members s.own) ≤ 9
  unfolding count_of
  few_own =
      let parts = and_parts (is_between 2 (count_of s.own) 9) (is_between 3 (count_of s.other) 9) h.sized in
      leb-true _ _ (and_parts (leb 2 (count_of s.own)) (leb (count_of s.own) 9) parts.0).1

  few_other : count_of s.other ≤ 9
  few_other =
      let parts = and_parts (is_between 2 (count_of s.own) 9) (is_between 3 (count_of s.other) 9) h.sized in
      leb-true _ _ (and_parts (leb 3 (count_of s.other)) (leb (count_of s.other) 9) parts.1).1

  few_taken : length (members (takable_stones b s.other)) ≤ 9
  unfolding count_of
  few_taken = omega (arith, few_other, count_of-part (takable_stones b s.other) s.other (takable_is_other b s.other))

  few_to : (u v : ℕ) → length (moves_to b s u v) ≤ 9
  unfolding moves_to
  few_to u v = elim (cases_Bool (closes b s.own u v)) [
    | inl shut ↦ rw (shut, length-map) few_taken
    | inr open_ ↦ rw open_ (omega arith)
  ]

  few_reached : (u : ℕ) → length (members (reach b s u)) ≤ 24
  unfolding count_of reach
  few_reached u = omega (arith, count_of-below (reach b s u) b.points (set_where-lt b.points (may_go b s u)), small)

  few_from : (u : ℕ) → length (moves_from b s u) ≤ 24 * 9
  unfolding moves_from
  few_from u = omega (arith, length-flat_map_le (moves_to b s u) 9 (members (reach b s u)) (few_to u), few_reached u)

  -- nine stones go to at most 24 points each, and take one of nine
  pub few_moves : length (moves_of b s) ≤ 9 * 24 * 9
  unfolding moves_of
  few_moves = omega (arith, length-flat_map_le (moves_from b s) (24 * 9) (members s.own) few_from, few_own)
