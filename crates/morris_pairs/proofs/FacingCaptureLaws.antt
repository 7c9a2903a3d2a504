-- The captures of a position, by the opponent's set in their results.
use Rattle.std.proofs.Common.{◌≡◌, ℕ, ◌<◌, ◌≤◌, eqb, List, [], ◌∷◌, ◌++◌, map, filter, Some, is_none, refl, sym, ap, subst, ◌∙◌, inl, inr, arith, append_assoc}
use Rattle.std.proofs.lemmas.Bool.{cases_eq, both_ways, eq-eqb, or_right, not-true}
use Rattle.std.proofs.lemmas.List.{flat_map_more}
use Rattle.std.specs.List.{Contains, flat_map}
use Rattle.morris_board.specs.Boards.{Shape}
use Rattle.morris_board.specs.Sets.{has, members, without_point}
use Rattle.morris_board.specs.Positions.{Sides, sides, IsPosition}
use Rattle.morris_board.proofs.PointsLaws.{has-none, has-with}
use Rattle.morris_moves.specs.declared.game_move.Move.{Move}
use Rattle.morris_moves.specs.Rules.{move_stone, move, takable_stones, moves_of, result_of}
use Rattle.morris_moves.proofs.LegalLaws.{takable_is_other, listed_is_legal, legal_is_listed}
use Rattle.morris_moves.proofs.ListLaws.{Contains-map, Contains-map_cases, Contains-flat_map, Contains-flat_map_cases}
use Rattle.morris_moves.proofs.SetLaws.{point_lt, has-member, member-has}
use Rattle.morris_wave.specs.declared.graph.Exits.{Exits}
use Rattle.morris_wave.specs.Exits.{exits_of}
use Rattle.morris_pairs.specs.Captured.{IsClosing}
use Rattle.morris_pairs.specs.Codes.{code_to}
use Rattle.morris_pairs.specs.FilterLaws.{filter-contains, contained-filter}
use Rattle.morris_pairs.specs.CaptureCaches.{open_ends, closers_at, codes_by_opponent, codes_by, codes_at}
use Rattle.morris_pairs.specs.NetLaws.{is_none-false}
use Rattle.morris_pairs.specs.PairNets.{is_capture, capture_codes}
use Rattle.morris_pairs.proofs.CaptureLaws.{capture_is_legal, legal_capture, legal_takes, closing_in, closing_closer, closing_open, open_closes}
use Rattle.morris_pairs.proofs.SummaryLaws.{exits_of-same}

-- some stone moved, and stands there
pub some_opponent : (own u v : ℕ) → v < 32 → 0 < move_stone own u v
unfolding move_stone
some_opponent own u v low = elim (cases_eq (move_stone own u v) 0) [
  | inl e ↦ absurd (both_ways (has (move_stone own u v) v) (ap (λ t. has t v) e ∙ has-none v)
      (has-with (without_point own u) v v ∙ or_right (has (without_point own u) v) (eqb v v) (eq-eqb v v refl)))
  | inr d ↦ omega (arith, d)
]

-- ---- a summary that goes on by the codes that f lists, one list more

pub codes_more : (f : ℕ → List ℕ) (codes : List ℕ) (exits part both : Exits) (v : ℕ) (vs : List ℕ) → exits ≡ exits_of (codes ++ flat_map f vs) → part ≡ exits_of (f v)
    → ((before after : List ℕ) → exits ≡ exits_of before → part ≡ exits_of after → both ≡ exits_of (before ++ after))
    → both ≡ exits_of (codes ++ flat_map f (vs ++ v ∷ []))
codes_more f codes exits part both v vs before is joined =
    joined (codes ++ flat_map f vs) (f v) before is
    ∙ ap exits_of (append_assoc codes (flat_map f vs) (f v) ∙ ap (λ xs. codes ++ xs) (flat_map_more f [] vs v))

-- ---- all captures

module _ (b : Shape) (n : ℕ) (points : b.points ≡ n) (low : n ≤ 24) (s : Sides) (lawful : IsPosition b s) where
  few : b.points ≤ 24
  few = omega (arith, points)

  abbrev ends : ℕ
  ends = open_ends b s.own s.other

  codes_there : (x : ℕ) → Contains (codes_at b s (members ends)) x → Contains (capture_codes b s) x
  unfolding capture_codes codes_by_opponent result_of
  codes_there x c =
      let to = Contains-flat_map_cases (λ v. codes_by b s v (members (closers_at b s.own v))) (members ends) x c in
      let v : ℕ = to.0 in
      let from = Contains-flat_map_cases (λ u. codes_by_opponent b s.other (move_stone s.own u v)) (members (closers_at b s.own v)) x to.2 in
      let u : ℕ = from.0 in
      let taken = Contains-map_cases (λ t. code_to 65534 b (sides (without_point s.other t) (move_stone s.own u v))) (members (takable_stones b s.other)) x from.2 in
      let closing : IsClosing b s u v = open_closes b n points low s lawful v (has-member ends v to.1) u (has-member (closers_at b s.own v) u from.1) in
      let m : Move = move u v (Some taken.0) in
      let legal = capture_is_legal b s u v taken.0 closing.own closing.goes closing.shuts (has-member (takable_stones b s.other) taken.0 taken.1) in
      subst (Contains (map (λ k. code_to 65534 b (result_of s k)) (filter is_capture (moves_of b s)))) taken.2
      (Contains-map (λ k. code_to 65534 b (result_of s k)) (filter is_capture (moves_of b s)) m
      (contained-filter is_capture (moves_of b s) m (legal_is_listed b s few lawful.stones m legal) refl))

  codes_back : (x : ℕ) → Contains (capture_codes b s) x → Contains (codes_at b s (members ends)) x
  unfolding capture_codes codes_by_opponent result_of
  codes_back x c =
      let by = Contains-map_cases (λ k. code_to 65534 b (result_of s k)) (filter is_capture (moves_of b s)) x c in
      let m : Move = by.0 in
      let at = filter-contains is_capture (moves_of b s) m by.1 in
      let legal = listed_is_legal b s few lawful.stones m at.0 in
      let closing : IsClosing b s m.from m.to = legal_capture b s m legal at.1 in
      let t = is_none-false m.taken (not-true (is_none m.taken) at.1) in
      let taken = legal_takes b s m t.0 t.1 legal in
      let inside : m.to < n = closing_in b n points low s lawful m.from m.to closing in
      let same : code_to 65534 b (sides (without_point s.other t.0) (move_stone s.own m.from m.to)) ≡ x =
      ap (λ k. code_to 65534 b (result_of s k)) (ap (λ o. move m.from m.to o) (sym t.1)) ∙ by.2 in
      subst (Contains (codes_at b s (members ends))) same
      (Contains-flat_map (λ v. codes_by b s v (members (closers_at b s.own v))) (members ends) m.to _ (member-has ends m.to (omega (arith, inside)) (closing_open b n points low s lawful m.from m.to closing))
      (Contains-flat_map (λ u. codes_by_opponent b s.other (move_stone s.own u m.to)) (members (closers_at b s.own m.to)) m.from _
      (member-has (closers_at b s.own m.to) m.from (omega (arith, few, point_lt s.own b.points m.from lawful.stones.own_within closing.own)) (closing_closer b n points low s lawful m.from m.to closing))
      (Contains-map (λ k. code_to 65534 b (sides (without_point s.other k) (move_stone s.own m.from m.to))) (members (takable_stones b s.other)) t.0
      (member-has (takable_stones b s.other) t.0 (omega (arith, few, point_lt s.other b.points t.0 lawful.stones.other_within (takable_is_other b s.other t.0 taken))) taken))))

  pub facings_suffice : exits_of (codes_at b s (members (open_ends b s.own s.other))) ≡ exits_of (capture_codes b s)
  facings_suffice = exits_of-same (codes_at b s (members ends)) (capture_codes b s) codes_there codes_back
