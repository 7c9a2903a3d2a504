-- What a legal move leads to: a position again, and how many stones each side then has.
use Rattle.std.proofs.Common.{◌≡◌, ℕ, suc, ◌<◌, ◌≤◌, true, false, not, ◌&&◌, ◌||◌, cond, eqb, refl, sym, ap, subst, ◌∙◌, inl, inr, ◌⊎◌, arith, Option, Some, None, Ok, Err}
use Rattle.std.proofs.lemmas.Bool.{eqb-true, and_parts, and_right, or_cases, both_ways, false_from_ne_true}
use Rattle.morris_board.specs.Sets.{has, count_of, without_point}
use Rattle.morris_board.specs.Boards.{Shape}
use Rattle.morris_board.specs.Positions.{Sides, sides, IsApart, IsPosition, is_sized, check_sides}
use Rattle.morris_board.proofs.PointsLaws.{has-with, has-without, count_of-with, count_of-without}
use Rattle.morris_board.proofs.PositionLaws.{own_count, other_count, sized_from}
use Rattle.morris_moves.specs.declared.game_move.Move.{Move}
use Rattle.morris_moves.specs.Rules.{move_stone, left_of, result_of}
use Rattle.morris_moves.proofs.SetLaws.{point_lt, lt_from_points}
use Rattle.morris_moves.proofs.LegalLaws.{IsLegalMove}

-- ---- the two sets that a move leaves

pub has-move_stone : (own u v p : ℕ) → has (move_stone own u v) p ≡ ((not (eqb p u) && has own p) || eqb p v)
unfolding move_stone
has-move_stone own u v p = has-with (without_point own u) v p ∙ ap (λ x. x || eqb p v) (has-without own u p)

pub moved_cases : (own u v p : ℕ) → has (move_stone own u v) p ≡ true → (has own p ≡ true) ⊎ (p ≡ v)
moved_cases own u v p h = elim (or_cases _ _ (sym (has-move_stone own u v p) ∙ h)) [
  | inl stays ↦ inl (and_parts _ _ stays).1
  | inr e ↦ inr (eqb-true p v e)
]

pub count_of-move_stone : (own u v : ℕ) → u < 32 → v < 32 → has own u ≡ true → has own v ≡ false → count_of (move_stone own u v) ≡ count_of own
unfolding move_stone
count_of-move_stone own u v low high here none =
    let gone : has (without_point own u) v ≡ false = has-without own u v ∙ ap (λ x. not (eqb v u) && x) none ∙ and_right (not (eqb v u)) false refl in
    count_of-with (without_point own u) v high gone ∙ sym (count_of-without own u low here)

pub left_is_other : (other p : ℕ) (t : Option ℕ) → has (left_of other t) p ≡ true → has other p ≡ true
left_is_other other p None h = h
left_is_other other p (Some t) h = (and_parts _ _ (sym (has-without other t p) ∙ h)).1

-- ---- the result of a legal move

module _ (b : Shape) (s : Sides) (small : b.points ≤ 24) (h : IsPosition b s) (m : Move) (l : IsLegalMove b s m) where
  pub IsApart-result : IsApart b (result_of s m)
  unfolding result_of
  IsApart-result = record {
    own_within = lt_from_points _ b.points (λ p e. point_lt s.other b.points p h.stones.other_within (left_is_other s.other p m.taken e));
    other_within = lt_from_points _ b.points (λ p e. elim (moved_cases s.own m.from m.to p e) [
      | inl stays ↦ point_lt s.own b.points p h.stones.own_within stays
      | inr same ↦ subst (λ q. q < b.points) (sym same) l.to_within
    ]);
    apart = λ p e. false_from_ne_true _ (λ also. elim (moved_cases s.own m.from m.to p also) [
      | inl stays ↦ both_ways _ (h.stones.apart p stays) (left_is_other s.other p m.taken e)
      | inr same ↦ both_ways _ l.to_not_other (subst (λ q. has s.other q ≡ true) same (left_is_other s.other p m.taken e))
    ]);
  }

  count_of-left : (t : Option ℕ) → m.taken ≡ t → (count_of (left_of s.other t) ≡ count_of s.other) ⊎ (count_of s.other ≡ suc (count_of (left_of s.other t)))
  count_of-left None e = inl refl
  count_of-left (Some t) e =
      let here : has s.other t ≡ true = l.taken_other t e in
      let low : t < b.points = point_lt s.other b.points t h.stones.other_within here in
      inr (count_of-without s.other t (omega arith) here)

  -- the side that moved has as many stones as before
  pub count_of-mover : count_of (result_of s m).other ≡ count_of s.own
  unfolding result_of
  count_of-mover = count_of-move_stone s.own m.from m.to (omega (arith, l.from_within)) (omega (arith, l.to_within)) l.from_own l.to_not_own

  -- a quiet move leaves the opponent's, and a capture takes one
  pub count_of-quiet : m.taken ≡ None → count_of (result_of s m).own ≡ count_of s.other
  unfolding result_of
  count_of-quiet e = ap (λ t. count_of (left_of s.other t)) e

  pub count_of-capture : (t : ℕ) → m.taken ≡ Some t → count_of s.other ≡ suc (count_of (result_of s m).own)
  unfolding result_of
  count_of-capture t e =
      let here : has s.other t ≡ true = l.taken_other t e in
      let low : t < b.points = point_lt s.other b.points t h.stones.other_within here in
      count_of-without s.other t (omega arith) here ∙ ap (λ t. suc (count_of (left_of s.other t))) (sym e)

  pub is_sized-result : is_sized (result_of s m) ≡ true
  unfolding result_of
  is_sized-result =
      let own : count_of s.own ≤ 9 = (own_count s h.sized).1 in
      let other = other_count s h.sized in
      let enough : 3 ≤ count_of s.own = l.enough in
      let left : (2 ≤ count_of (left_of s.other m.taken)) × (count_of (left_of s.other m.taken) ≤ 9) =
      elim (count_of-left m.taken refl) [ inl e ↦ (omega (arith, e, other.0), omega (arith, e, other.1)) | inr e ↦ (omega (arith, e, other.0), omega (arith, e, other.1)) ] in
      sized_from (result_of s m) left.0 left.1 (omega (arith, count_of-mover, enough)) (omega (arith, count_of-mover, own))

  -- a legal move leads from a position to a position
  pub IsPosition-result : IsPosition b (result_of s m)
  IsPosition-result = record { stones = IsApart-result; sized = is_sized-result }

  -- and the code makes it
  pub made-result : check_sides (result_of s m) ≡ Ok (result_of s m)
  made-result = ap (λ x. cond x (Ok (result_of s m)) (Err (record {}))) is_sized-result

pub are_result : (s : Sides) (m : Move) (own other mover left : ℕ) → own ≡ s.own → other ≡ s.other → mover ≡ move_stone own m.from m.to
    → left ≡ left_of other m.taken → sides left mover ≡ result_of s m
unfolding result_of
are_result s m own other mover left e f g h = rw (h, f, g, e) refl
