-- A player has no legal move exactly where no stone of theirs may go anywhere.
use Rattle.std.proofs.Common.{◌≡◌, ◌≢◌, ℕ, ◌^◌, ◌<◌, ◌≤◌, true, false, eqb, List, [], ◌∷◌, ◌++◌, refl, ap, subst, inl, inr, arith, Some, None}
use Rattle.std.proofs.Math.Pow.{pow-lt}
use Rattle.std.proofs.lemmas.Bool.{cases_Bool, eqb-true, eq-eqb, both_ways, false_from_ne_true, and_parts}
use Rattle.std.proofs.lemmas.List.Elements.{Contains-append_right}
use Rattle.std.specs.List.{Contains, list_all, flat_map}
use Rattle.morris_board.specs.Sets.{has, members, count_of}
use Rattle.morris_board.specs.Boards.{Shape}
use Rattle.morris_board.specs.Positions.{Sides, IsPosition}
use Rattle.morris_board.proofs.PointsLaws.{members-none, first_is, set_where-lt}
use Rattle.morris_board.proofs.SetLaws.{point_lt}
use Rattle.morris_board.proofs.PositionLaws.{other_count}
use Rattle.morris_moves.specs.declared.game_move.Move.{Move}
use Rattle.morris_moves.specs.Rules.{closes, reach, free_stones, takable_stones, move, moves_to, moves_from, moves_of}
use Rattle.morris_moves.specs.Values.{is_lost}
use Rattle.morris_moves.proofs.ListLaws.{all_contained, Contains-head, Contains-map, Contains-flat_map}
use Rattle.morris_moves.proofs.SetLaws.{has-member, member-has}
use Rattle.morris_moves.proofs.MaskLaws.{reach-lt}

-- a set that isn't empty has a point
some_point : (s n : ℕ) → n ≤ 24 → s < 2 ^ n → s ≢ 0 → (p : ℕ) × (p < 32) × (has s p ≡ true)
some_point s n few small some =
    let most : 2 ^ n < 2 ^ 32 = pow-lt {j = 32} (omega arith) in
    let first = first_is s (omega (arith, some)) (omega (arith, small, most)) in
    (_, first.low, first.here)

-- a point that a loop over a set is at
pub at_point : (s p : ℕ) (ys zs : List ℕ) → ys ++ (p ∷ zs) ≡ members s → has s p ≡ true
at_point s p ys zs e =
    has-member s p (subst (λ l. Contains l p) e (Contains-append_right ys (p ∷ zs) p (Contains-head p zs)))

-- no stone among these has a point to go to
abbrev pub AreStuck : Shape → Sides → List ℕ → Type 0
AreStuck b s us = list_all (λ u. eqb (reach b s u) 0) us ≡ true

module _ (b : Shape) (s : Sides) where
  no_moves : (us : List ℕ) → AreStuck b s us → flat_map (moves_from b s) us ≡ []
  unfolding moves_from
  no_moves [] stuck = refl
  no_moves (u ∷ us) stuck =
      let parts = and_parts (eqb (reach b s u) 0) (list_all (λ v. eqb (reach b s v) 0) us) stuck in
      rw (eqb-true (reach b s u) 0 parts.0, members-none) (no_moves us parts.1)

  pub stuck_is_lost : AreStuck b s (members s.own) → is_lost 0 b s ≡ true
  unfolding is_lost moves_of
  stuck_is_lost stuck = ap (list_all (λ (m : Move). false)) (no_moves (members s.own) stuck)

  module _ (small : b.points ≤ 24) (h : IsPosition b s) where
    some_taken : (p : ℕ) × (p < 32) × (has (takable_stones b s.other) p ≡ true)
    unfolding takable_stones free_stones count_of
    some_taken = elim (cases_Bool (eqb (free_stones b s.other) 0)) [
      | inl none ↦
          rw none (some_point s.other b.points small h.stones.other_within
          (λ e. let no : count_of s.other ≡ 0 = rw (e, members-none) refl in omega (arith, (other_count s h.sized).0)))
      | inr some ↦
          rw some (some_point (free_stones b s.other) b.points small (set_where-lt b.points _) (λ e. both_ways _ some (eq-eqb _ _ e)))
    ]

    some_move : (u v : ℕ) → (m : Move) × Contains (moves_to b s u v) m
    unfolding moves_to
    some_move u v = elim (cases_Bool (closes b s.own u v)) [
      | inl shut ↦
          let t = some_taken in
          (move u v (Some t.0), rw shut (Contains-map (λ t. move u v (Some t)) (members (takable_stones b s.other)) t.0 (member-has (takable_stones b s.other) t.0 t.1 t.2)))
      | inr open_ ↦ (move u v None, rw open_ (Contains-head (move u v None) []))
    ]

    pub free_not_lost : (u : ℕ) → has s.own u ≡ true → reach b s u ≢ 0 → is_lost 0 b s ≡ false
    unfolding is_lost moves_of moves_from
    free_not_lost u own some =
        let start : u < b.points = point_lt s.own b.points u h.stones.own_within own in
        let v = some_point (reach b s u) b.points small (reach-lt b b.points refl s u (reach b s u) refl) some in
        let m = some_move u v.0 in
        let listed : Contains (moves_of b s) m.0 =
        Contains-flat_map (moves_from b s) (members s.own) u m.0 (member-has s.own u (omega arith) own)
        (Contains-flat_map (moves_to b s u) (members (reach b s u)) v.0 m.0 (member-has (reach b s u) v.0 v.1 v.2) m.1) in
        false_from_ne_true _ (λ lost. both_ways false refl (all_contained (λ (x : Move). false) (moves_of b s) lost m.0 listed))
