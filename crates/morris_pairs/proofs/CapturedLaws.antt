-- The captures of a position, from where their results stand in their table.
use Rattle.std.proofs.Common.{◌≡◌, ℕ, ◌-◌, ◌<◌, ◌≤◌, ◌^◌, true, ◌&&◌, eqb, leb, Some, get_or, refl, sym, ap, subst, ◌∙◌, inl, inr, arith}
use Rattle.std.proofs.lemmas.Bool.{cases_Bool, eq-eqb, or_right}
use Rattle.morris_board.specs.Boards.{Shape}
use Rattle.morris_board.specs.Sets.{has, count_of, with_point, without_point}
use Rattle.morris_board.specs.Positions.{Sides, sides, IsPosition}
use Rattle.morris_board.proofs.PointsLaws.{count_of-without}
use Rattle.morris_moves.specs.declared.game_move.Move.{Move}
use Rattle.morris_moves.specs.Rules.{move_stone, takable_stones, move, result_of}
use Rattle.morris_moves.proofs.LegalLaws.{IsLegalMove, legal_is_listed, listed_move, takable_is_other}
use Rattle.morris_moves.proofs.ResultLaws.{count_of-mover, IsPosition-result, are_result}
use Rattle.morris_moves.proofs.SetLaws.{point_lt}
use Rattle.morris_index.specs.Pairs.{is_of, sort_counts}
use Rattle.morris_index.specs.Standings.{are_of}
use Rattle.morris_index.specs.declared.standing.Standing.{Standing}
use Rattle.morris_board.proofs.SetLaws.{without_point-lt}
use Rattle.morris_pairs.specs.Captured.{IsStandingIn, captured_pair, IsLeft, IsClosing}
use Rattle.morris_pairs.specs.Codes.{IsCodeOf}
use Rattle.morris_pairs.specs.Entries.{entry_index}
use Rattle.morris_pairs.specs.Graphs.{IsTableOf}
use Rattle.morris_pairs.specs.Tables.{Table}
use Rattle.morris_pairs.proofs.CaptureLaws.{capture_is_legal}
use Rattle.morris_pairs.proofs.GraphLaws.{code_there}

ordered_are : (a b : ℕ) → are_of (sort_counts a b) a b ≡ true
ordered_are a b = elim (cases_Bool (leb b a)) [
  | inl y ↦ rw (y, eq-eqb a a refl, eq-eqb b b refl) refl
  | inr n ↦ rw (n, eq-eqb a a refl, eq-eqb b b refl) (or_right (eqb a b && eqb b a) true refl)
]

module _ (b : Shape) (n : ℕ) (points : b.points ≡ n) (low : n ≤ 24) (s : Sides) (lawful : IsPosition b s) (taken : ℕ) (here : has (takable_stones b s.other) taken ≡ true) where
  stands_there : has s.other taken ≡ true
  stands_there = takable_is_other b s.other taken here

  pub taken_in : taken < 24
  taken_in = omega (arith, point_lt s.other b.points taken lawful.stones.other_within stands_there)

  pub left_within : without_point s.other taken < 2 ^ n
  left_within = without_point-lt s.other n taken (subst (λ k. s.other < 2 ^ k) points lawful.stones.other_within)

  left_count : count_of (without_point s.other taken) ≡ count_of s.other - 1
  left_count = omega (arith, count_of-without s.other taken (omega (arith, taken_in)) stands_there)

  -- the numbers of stones of all results
  pub left_counts : (t : Table) → IsTableOf b (captured_pair s) t → are_of t.pair (count_of (without_point s.other taken)) (count_of s.own) ≡ true
  left_counts t of = subst (λ c. are_of c (count_of (without_point s.other taken)) (count_of s.own) ≡ true) (sym of.of)
      (rw left_count (ordered_are (count_of s.other - 1) (count_of s.own)))

  -- where the results of taking a stone stand, the codes of these results are found
  module _ (t : Table) (of : IsTableOf b (captured_pair s) t) (standing : Standing) (left : IsLeft b n s t taken standing) (u v : ℕ)
      (closing : IsClosing b s u v) (opponent_set : ℕ) (is : opponent_set ≡ with_point (without_point s.own u) v) where
    abbrev m : Move
    m = move u v (Some taken)

    few : b.points ≤ 24
    few = omega arith

    legal : IsLegalMove b s m
    legal = listed_move b s few lawful.stones m (legal_is_listed b s few lawful.stones m (capture_is_legal b s u v taken closing.own closing.goes closing.shuts here))

    has_moved : opponent_set ≡ move_stone s.own u v
    unfolding move_stone
    has_moved = is

    result : sides standing.own opponent_set ≡ result_of s m
    result = are_result s m s.own s.other opponent_set standing.own refl refl has_moved left.own

    opponent_count : count_of opponent_set ≡ count_of s.own
    opponent_count = ap (λ (p : Sides). count_of p.other) result ∙ count_of-mover b s few lawful m legal

    pub left_stands : IsStandingIn b n t.layout t.pair (count_of opponent_set) standing
    left_stands = subst (λ k. IsStandingIn b n t.layout t.pair k standing) (sym opponent_count) left.stands

    pub led_to : IsPosition b (sides standing.own opponent_set)
    led_to = subst (IsPosition b) (sym result) (IsPosition-result b s few lawful m legal)

    result_counts : is_of (captured_pair s) (sides standing.own opponent_set) ≡ true
    result_counts = rw (ap count_of left.own, left_count, opponent_count) (ordered_are (count_of s.other - 1) (count_of s.own))

    pub left_code : (code : ℕ) → code ≡ get_or t.codes (entry_index b n t.layout t.pair (sides standing.own opponent_set)) 0 → IsCodeOf b (result_of s m) code
    left_code code e =
        subst (λ p. IsCodeOf b p code) result (code_there b n t (captured_pair s) (sides standing.own opponent_set) points of led_to result_counts _ code refl e)
