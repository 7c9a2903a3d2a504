-- The legal moves: the list of them has exactly those that pass the test, and what is known of
-- each.
use Rattle.std.proofs.Common.{◌≡◌, ℕ, ◌<◌, ◌≤◌, Bool, true, false, not, ◌&&◌, cond, eqb, ltb, [], ◌↔◌, refl, sym, ap, ◌∙◌, inl, inr, arith, Option, Some, None}
use Rattle.std.proofs.lemmas.Bool.{cases_Bool, eqb-true, ltb-true, and_parts, and_right, and_from, or_parts, not-true, not_from_false, both_ways, false_from_ne_true}
use Rattle.std.specs.List.{Contains}
use Rattle.std.specs.Option.{IfSome}
use Rattle.morris_board.specs.Sets.{has, members, count_of, set_where}
use Rattle.morris_board.specs.Boards.{Shape, is_adjacent}
use Rattle.morris_board.specs.Positions.{Sides, IsApart}
use Rattle.morris_board.proofs.PointsLaws.{has-set_where, set_where-lt, has-above}
use Rattle.morris_moves.specs.declared.game_move.Move.{Move}
use Rattle.morris_moves.specs.Rules.{in_mill, closes, may_go, reach, free_stones, takable_stones, move, takes_rightly, is_legal, moves_to, moves_from, moves_of}
use Rattle.morris_moves.proofs.ListLaws.{Contains-head, Contains-cons_cases, Contains-map, Contains-map_cases, Contains-flat_map, Contains-flat_map_cases}
use Rattle.morris_moves.proofs.SetLaws.{has-member, member-has, point_lt}

-- ---- reach

pub record IsReached (b : Shape) (s : Sides) (u v : ℕ) : Type 0 where
  pub within : v < b.points
  pub not_own : has s.own v ≡ false
  pub not_other : has s.other v ≡ false
  pub enough : 3 ≤ count_of s.own

enough_stones : (n : ℕ) (near : Bool) → cond (ltb 3 n) near (eqb n 3) ≡ true → 3 ≤ n
enough_stones n near h = elim (cases_Bool (ltb 3 n)) [
  | inl more ↦ omega (arith, ltb-true 3 n more)
  | inr fails ↦ omega (arith, eqb-true n 3 (rw fails at h))
]

pub reached : (b : Shape) (s : Sides) (u v : ℕ) → has (reach b s u) v ≡ true → IsReached b s u v
unfolding reach may_go
reached b s u v h =
    let parts = and_parts _ _ (sym (has-set_where b.points (may_go b s u) v) ∙ h) in
    let goes = and_parts _ _ parts.1 in
    let vacant = or_parts _ _ (not-true _ goes.0) in
    record {
      within = ltb-true v b.points parts.0;
      not_own = vacant.0;
      not_other = vacant.1;
      enough = enough_stones (count_of s.own) (is_adjacent b u v) goes.1;
    }

-- ---- what may be taken is a stone of the opponent

pub free_is_other : (b : Shape) (other t : ℕ) → has (free_stones b other) t ≡ true → has other t ≡ true
unfolding free_stones
free_is_other b other t h =
    let parts = and_parts _ _ (sym (has-set_where b.points (λ t. has other t && not (in_mill b other t)) t) ∙ h) in
    (and_parts _ _ parts.1).0

pub takable_is_other : (b : Shape) (other t : ℕ) → has (takable_stones b other) t ≡ true → has other t ≡ true
unfolding takable_stones
takable_is_other b other t h = elim (cases_Bool (eqb (free_stones b other) 0)) [
  | inl none ↦ rw none at h
  | inr some ↦ free_is_other b other t (rw some at h)
]

-- ---- a move to v from u is listed exactly where it takes what it must

module _ (b : Shape) (s : Sides) (u v : ℕ) where
  pub moves_to_has : (t : Option ℕ) → ((r : ℕ) → has s.other r ≡ true → r < 32) → takes_rightly b s u v t ≡ true
      → Contains (moves_to b s u v) (move u v t)
  unfolding moves_to
  moves_to_has None low h =
      let open_ : closes b s.own u v ≡ false = not-true _ h in
      rw open_ (Contains-head (move u v None) [])
  moves_to_has (Some t) low h =
      let parts = and_parts (closes b s.own u v) (has (takable_stones b s.other) t) h in
      let there : Contains (members (takable_stones b s.other)) t = member-has (takable_stones b s.other) t (low t (takable_is_other b s.other t parts.1)) parts.1 in
      rw parts.0 (Contains-map (λ t. move u v (Some t)) (members (takable_stones b s.other)) t there)

  pub moves_to_is : (m : Move) → Contains (moves_to b s u v) m → (m.from ≡ u) × (m.to ≡ v) × (takes_rightly b s u v m.taken ≡ true)
  unfolding moves_to
  moves_to_is m c = elim (cases_Bool (closes b s.own u v)) [
    | inl shut ↦
        let r = Contains-map_cases (λ t. move u v (Some t)) (members (takable_stones b s.other)) m (rw shut at c) in
        let taken : m.taken ≡ Some r.0 = ap (λ (x : Move). x.taken) (sym r.2) in
        let takes : has (takable_stones b s.other) r.0 ≡ true = has-member (takable_stones b s.other) r.0 r.1 in
        (ap (λ (x : Move). x.from) (sym r.2), ap (λ (x : Move). x.to) (sym r.2), rw taken (and_from _ _ shut takes))
    | inr open_ ↦ elim (Contains-cons_cases (move u v None) [] m (rw open_ at c)) [
      | inl e ↦
          let taken : m.taken ≡ None = ap (λ (x : Move). x.taken) (sym e) in
          (ap (λ (x : Move). x.from) (sym e), ap (λ (x : Move). x.to) (sym e), rw taken (not_from_false _ open_))
      | inr none ↦ absurd (omega arith)
    ]
  ]

-- ---- the listed moves are the legal ones

module _ (b : Shape) (s : Sides) (small : b.points ≤ 24) (h : IsApart b s) where
  own_lt : (p : ℕ) → has s.own p ≡ true → p < b.points
  own_lt p e = point_lt s.own b.points p h.own_within e

  other_lt : (p : ℕ) → has s.other p ≡ true → p < b.points
  other_lt p e = point_lt s.other b.points p h.other_within e

  legal_from : (m : Move) (u v : ℕ) → m.from ≡ u → m.to ≡ v → has s.own u ≡ true → has (reach b s u) v ≡ true
      → takes_rightly b s u v m.taken ≡ true → is_legal b s m ≡ true
  unfolding is_legal
  legal_from m u v start end own reaches takes = rw (start, end) (and_from _ _ own (and_from _ _ reaches takes))

  pub listed_is_legal : (m : Move) → Contains (moves_of b s) m → is_legal b s m ≡ true
  unfolding moves_of moves_from
  listed_is_legal m c =
      let starts = Contains-flat_map_cases (moves_from b s) (members s.own) m c in
      let u = starts.0 in
      let ends = Contains-flat_map_cases (moves_to b s u) (members (reach b s u)) m starts.2 in
      let v = ends.0 in
      let is = moves_to_is b s u v m ends.2 in
      legal_from m u v is.0 is.1 (has-member s.own u starts.1) (has-member (reach b s u) v ends.1) is.2

  legal_is_listed_at : (u v : ℕ) (t : Option ℕ) → is_legal b s (move u v t) ≡ true → Contains (moves_of b s) (move u v t)
  unfolding moves_of moves_from is_legal
  legal_is_listed_at u v t e =
      let parts = and_parts (has s.own u) (has (reach b s u) v && takes_rightly b s u v t) e in
      let more = and_parts (has (reach b s u) v) (takes_rightly b s u v t) parts.1 in
      let from_low : u < 32 = omega (arith, own_lt u parts.0) in
      let to_low : v < 32 = omega (arith, (reached b s u v more.0).within) in
      Contains-flat_map (moves_from b s) (members s.own) u (move u v t) (member-has s.own u from_low parts.0)
      (Contains-flat_map (moves_to b s u) (members (reach b s u)) v (move u v t) (member-has (reach b s u) v to_low more.0)
      (moves_to_has b s u v t (λ r k. omega (arith, other_lt r k)) more.1))

  pub legal_is_listed : (m : Move) → is_legal b s m ≡ true → Contains (moves_of b s) m
  legal_is_listed m e = legal_is_listed_at m.from m.to m.taken e

-- ---- what is known of a legal move

pub record IsLegalMove (b : Shape) (s : Sides) (m : Move) : Type 0 where
  pub from_own : has s.own m.from ≡ true
  pub from_within : m.from < b.points
  pub to_within : m.to < b.points
  pub to_not_own : has s.own m.to ≡ false
  pub to_not_other : has s.other m.to ≡ false
  pub enough : 3 ≤ count_of s.own
  pub taken_other : (t : ℕ) → m.taken ≡ Some t → has s.other t ≡ true

pub legal_move : (b : Shape) (s : Sides) → IsApart b s → (m : Move) → is_legal b s m ≡ true → IsLegalMove b s m
unfolding is_legal
legal_move b s h m e =
    let parts = and_parts _ _ e in
    let more = and_parts _ _ parts.1 in
    let r = reached b s m.from m.to more.0 in
    record {
      from_own = parts.0;
      from_within = point_lt s.own b.points m.from h.own_within parts.0;
      to_within = r.within;
      to_not_own = r.not_own;
      to_not_other = r.not_other;
      enough = r.enough;
      taken_other = λ t k. takable_is_other b s.other t (and_parts _ _ (rw k at more.1)).1;
    }

pub listed_move : (b : Shape) (s : Sides) → b.points ≤ 24 → IsApart b s → (m : Move) → Contains (moves_of b s) m → IsLegalMove b s m
listed_move b s small h m c = legal_move b s h m (listed_is_legal b s small h m c)

-- ---- the test, part by part

pub no_start : (b : Shape) (s : Sides) (m : Move) → has s.own m.from ≡ false → is_legal b s m ≡ false
unfolding is_legal
no_start b s m none = rw none refl

pub no_end : (b : Shape) (s : Sides) (m : Move) → has (reach b s m.from) m.to ≡ false → is_legal b s m ≡ false
unfolding is_legal
no_end b s m none = rw none (and_right (has s.own m.from) false refl)

pub legal_where_taken : (b : Shape) (s : Sides) (m : Move) → has s.own m.from ≡ true → has (reach b s m.from) m.to ≡ true
    → takes_rightly b s m.from m.to m.taken ≡ is_legal b s m
unfolding is_legal
legal_where_taken b s m start end = rw (start, end) refl

pub own_above : (b : Shape) (s : Sides) (p : ℕ) → IsApart b s → b.points ≤ p → has s.own p ≡ false
own_above b s p h high = has-above s.own b.points p h.own_within high

pub reach_above : (b : Shape) (s : Sides) (u v : ℕ) → b.points ≤ v → has (reach b s u) v ≡ false
unfolding reach
reach_above b s u v high = has-above (set_where b.points (may_go b s u)) b.points v (set_where-lt b.points (may_go b s u)) high

pub takable_above : (b : Shape) (s : Sides) (t : ℕ) → IsApart b s → b.points ≤ t → has (takable_stones b s.other) t ≡ false
takable_above b s t h high =
    false_from_ne_true _ (λ e. both_ways _ (has-above s.other b.points t h.other_within high) (takable_is_other b s.other t e))

pub listed_iff : (b : Shape) (s : Sides) → b.points ≤ 24 → IsApart b s → (m : Move) (r : Bool) → r ≡ is_legal b s m
    → (r ≡ true) ↔ Contains (moves_of b s) m
listed_iff b s small h m r e = ((λ k. legal_is_listed b s small h m (sym e ∙ k)), (λ c. e ∙ listed_is_legal b s small h m c))

pub taken_low : (b : Shape) (s : Sides) → b.points ≤ 24 → IsApart b s → (m : Move) → IsLegalMove b s m → IfSome m.taken (λ t. t < 32)
taken_low b s small h m l = low m.taken refl
  where
    low : (o : Option ℕ) → m.taken ≡ o → IfSome o (λ t. t < 32)
    low None e = tt
    low (Some t) e = let in_board : t < b.points = point_lt s.other b.points t h.other_within (l.taken_other t e) in omega arith
