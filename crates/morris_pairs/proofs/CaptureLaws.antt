-- The captures of a position, from the row of its own stones.
use Rattle.std.proofs.Common.{◌≡◌, ℕ, ◌<◌, ◌≤◌, ◌^◌, true, false, not, ◌&&◌, ltb, eqb, Bool, List, [], ◌∷◌, ◌++◌, length, map, slice_index, Option, Some, None, is_none, filter, refl, sym, ap, subst, ◌∙◌, inl, inr, arith, append_assoc}
use Rattle.std.proofs.Math.Bool.{and_assoc}
use Rattle.std.proofs.lemmas.Bool.{cases_Bool, cases_eq, both_ways, lt-ltb, and_parts, and_from, ltb-true, eqb-false, not-true, false_from_ne_true}
use Rattle.std.proofs.lemmas.List.{flat_map_more, map-append, append-nil}
use Rattle.std.specs.List.{Contains, flat_map, list_any}
use Rattle.morris_board.specs.Sets.{has, members, count_of}
use Rattle.morris_board.specs.Boards.{Shape}
use Rattle.morris_board.specs.Positions.{Sides, IsPosition}
use Rattle.morris_board.proofs.PointsLaws.{has-none, has-set_where, same_points, first_is, members-none}
use Rattle.morris_moves.specs.declared.game_move.Move.{Move}
use Rattle.morris_moves.specs.Rules.{closes, goes, reach, is_vacant, takable_stones, free_stones, is_legal, move, moves_of, result_of, takes_rightly}
use Rattle.morris_moves.proofs.ListLaws.{any_contained, contained_any, Contains-head, Contains-tail, Contains-map, Contains-map_cases, Contains-flat_map, Contains-flat_map_cases}
use Rattle.morris_moves.proofs.LegalLaws.{reached, takable_is_other, listed_is_legal, legal_is_listed, listed_move}
use Rattle.morris_moves.proofs.ResultLaws.{count_of-capture}
use Rattle.morris_moves.proofs.SetLaws.{point_lt, lt_from_points, has-member, member-has}
use Rattle.morris_board.proofs.PositionLaws.{other_count}
use Rattle.morris_wave.specs.declared.graph.Exits.{Exits}
use Rattle.morris_wave.specs.Exits.{exits_of, no_exits, minimum, maximum, depths, is_odd, is_won_code}
use Rattle.morris_pairs.specs.declared.rows.Row.{Row}
use Rattle.morris_pairs.specs.Codes.{IsCodeOf, code_to}
use Rattle.morris_pairs.specs.PairNets.{is_capture, capture_codes}
use Rattle.morris_pairs.specs.Graphs.{exits_by}
use Rattle.morris_pairs.specs.CaptureCaches.{open_ends, closers_at}
use Rattle.morris_pairs.specs.Rows.{may_close, is_closing_end, IsRow}
use Rattle.morris_pairs.specs.Captured.{IsClosing, captures_at, captures_to}
use Rattle.morris_pairs.specs.FilterLaws.{filter-contains, contained-filter}
use Rattle.morris_pairs.proofs.SummaryLaws.{IsAmong, images_among, exits_of-same}
use Rattle.morris_pairs.specs.NetLaws.{is_none-false}
use Rattle.morris_wave.specs.Summaries.{add_code}
use Rattle.morris_pairs.proofs.CodeLaws.{code_of_stuck, code_to-is}
use Rattle.morris_pairs.proofs.GraphLaws.{exits_by-capture}
use Rattle.morris_pairs.proofs.RowLaws.{has_reach, may_close-all}

-- ---- a capture is legal

pub capture_is_legal : (b : Shape) (s : Sides) (u v t : ℕ) → has s.own u ≡ true → has (reach b s u) v ≡ true → closes b s.own u v ≡ true
    → has (takable_stones b s.other) t ≡ true → is_legal b s (move u v (Some t)) ≡ true
unfolding is_legal
capture_is_legal b s u v t own goes shuts takes = and_from _ _ own (and_from _ _ goes (and_from _ _ shuts takes))

pub legal_capture : (b : Shape) (s : Sides) (m : Move) → is_legal b s m ≡ true → is_capture m ≡ true → IsClosing b s m.from m.to
unfolding is_legal
legal_capture b s m legal takes =
    let parts = and_parts (has s.own m.from) (has (reach b s m.from) m.to && takes_rightly b s m.from m.to m.taken) legal in
    let more = and_parts (has (reach b s m.from) m.to) (takes_rightly b s m.from m.to m.taken) parts.1 in
    record { own = parts.0; goes = more.0; shuts = at m.taken takes more.1 }
  where
    at : (o : Option ℕ) → not (is_none o) ≡ true → takes_rightly b s m.from m.to o ≡ true → closes b s.own m.from m.to ≡ true
    at None e h = absurd (both_ways false refl e)
    at (Some t) e h = (and_parts (closes b s.own m.from m.to) (has (takable_stones b s.other) t) h).0

pub legal_takes : (b : Shape) (s : Sides) (m : Move) (t : ℕ) → m.taken ≡ Some t → is_legal b s m ≡ true → has (takable_stones b s.other) t ≡ true
unfolding is_legal
legal_takes b s m t e legal =
    let parts = and_parts (has s.own m.from) (has (reach b s m.from) m.to && takes_rightly b s m.from m.to m.taken) legal in
    let more = and_parts (has (reach b s m.from) m.to) (takes_rightly b s m.from m.to m.taken) parts.1 in
    let rightly : takes_rightly b s m.from m.to (Some t) ≡ true = subst (λ o. takes_rightly b s m.from m.to o ≡ true) e more.1 in
    (and_parts (closes b s.own m.from m.to) (has (takable_stones b s.other) t) rightly).1

-- ---- some stone may be taken

pub empty_count : (s : ℕ) → s ≡ 0 → count_of s ≡ 0
unfolding count_of
empty_count s e = ap (λ t. length (members t)) e ∙ ap length members-none

takable_some : (b : Shape) (s : Sides) → IsPosition b s → 0 < takable_stones b s.other
unfolding takable_stones
takable_some b s h = elim (cases_Bool (eqb (free_stones b s.other) 0)) [
  | inl none ↦
      let stones = other_count s h.sized in
      rw none (elim (cases_eq s.other 0) [
        | inl e ↦ absurd (omega (arith, empty_count s.other e, stones.0))
        | inr d ↦ omega arith
      ])
  | inr some ↦ rw some (elim (cases_eq (free_stones b s.other) 0) [
    | inl e ↦ absurd (eqb-false (free_stones b s.other) 0 some e)
    | inr d ↦ omega arith
  ])
]

pub takable_stones-lt : (b : Shape) (s : Sides) → b.points ≤ 24 → IsPosition b s → takable_stones b s.other < 2 ^ 32
takable_stones-lt b s few h = lt_from_points (takable_stones b s.other) 32 (λ p here.
    omega (arith, point_lt s.other b.points p h.stones.other_within (takable_is_other b s.other p here)))

-- the captures in the order of the loops: by the stone that is taken, then by the point that the
-- move goes to
abbrev pub kept_captures : Row → ℕ → List ℕ → List Move
kept_captures row ends ts = flat_map (λ t. captures_to row.closers t (members ends)) ts

-- ---- the ends of a move that closes a mill

module _ (b : Shape) (n : ℕ) (points : b.points ≡ n) (low : n ≤ 24) (s : Sides) (lawful : IsPosition b s) where
  pub closing_there : (u v : ℕ) → v < n → has s.other v ≡ false → (has s.own u && is_closing_end b s.own u v) ≡ true → IsClosing b s u v
  unfolding is_closing_end
  closing_there u v inside free here =
      let parts = and_parts (has s.own u) (is_closing_end b s.own u v) here in
      let more = and_parts (not (has s.own v)) (goes b (count_of s.own) u v && closes b s.own u v) parts.1 in
      let both = and_parts (goes b (count_of s.own) u v) (closes b s.own u v) more.1 in
      let vacant : is_vacant s v ≡ true = rw (not-true (has s.own v) more.0, free) refl in
      record {
        own = parts.0;
        goes = has_reach b s n points (omega arith) u v inside ∙ and_from _ _ vacant both.0;
        shuts = both.1;
      }

  module _ (u v : ℕ) (h : IsClosing b s u v) where
    pub closing_in : v < n
    closing_in = let there = reached b s u v h.goes in omega (arith, there.within, points)

    pub closing_free : has s.other v ≡ false
    closing_free = let there = reached b s u v h.goes in there.not_other

    goes_there : goes b (count_of s.own) u v ≡ true
    goes_there = (and_parts (is_vacant s v) (goes b (count_of s.own) u v) (sym (has_reach b s n points (omega arith) u v closing_in) ∙ h.goes)).1

    pub closing_end : (has s.own u && is_closing_end b s.own u v) ≡ true
    unfolding is_closing_end
    closing_end = let there = reached b s u v h.goes in and_from _ _ h.own (and_from _ _ (ap not there.not_own) (and_from _ _ goes_there h.shuts))

    pub closing_may : may_close b s.own v ≡ true
    closing_may =
        let there = reached b s u v h.goes in
        sym (may_close-all b s.own v there.not_own)
        ∙ contained_any (λ w. goes b (count_of s.own) w v && closes b s.own w v) (members s.own) u
        (member-has s.own u (omega (arith, point_lt s.own b.points u lawful.stones.own_within h.own, points)) h.own) (and_from _ _ goes_there h.shuts)

  -- ---- the stones that close a mill at a point, and the points at which one may be closed

  pub closers_of : (closers v : ℕ) → ((u : ℕ) → has closers u ≡ (has s.own u && is_closing_end b s.own u v)) → closers ≡ closers_at b s.own v
  unfolding closers_at
  closers_of closers v each = same_points _ _ (λ u. each u
      ∙ (within (has s.own u) (is_closing_end b s.own u v) (ltb u b.points) (λ h. lt-ltb u b.points (point_lt s.own b.points u lawful.stones.own_within h))
      ∙ sym (has-set_where b.points (λ x. has s.own x && is_closing_end b s.own x v) u)))
    where
      within : (x y z : Bool) → (x ≡ true → z ≡ true) → (x && y) ≡ (z && (x && y))
      within true y z h = rw (h refl) refl
      within false y true h = refl
      within false y false h = refl

  pub closing_closer : (u v : ℕ) → IsClosing b s u v → has (closers_at b s.own v) u ≡ true
  unfolding closers_at
  closing_closer u v h =
      has-set_where b.points (λ x. has s.own x && is_closing_end b s.own x v) u
      ∙ and_from _ _ (lt-ltb u b.points (point_lt s.own b.points u lawful.stones.own_within h.own)) (closing_end u v h)

  abbrev pub ends : ℕ
  ends = open_ends b s.own s.other

  end_is : (v : ℕ) → has ends v ≡ (ltb v b.points && (may_close b s.own v && not (has s.other v)))
  unfolding open_ends
  end_is v = has-set_where b.points (λ x. may_close b s.own x && not (has s.other x)) v

  pub ends_of : (set : ℕ) → ((v : ℕ) → has set v ≡ ((ltb v n && may_close b s.own v) && not (has s.other v))) → set ≡ ends
  ends_of set each = same_points _ _ (λ v. each v
      ∙ ap (λ k. (ltb v k && may_close b s.own v) && not (has s.other v)) (sym points)
      ∙ and_assoc (ltb v b.points) (may_close b s.own v) (not (has s.other v))
      ∙ sym (end_is v))

  pub closing_open : (u v : ℕ) → IsClosing b s u v → has ends v ≡ true
  closing_open u v h =
      end_is v
      ∙ and_from _ _ (lt-ltb v b.points (omega (arith, points, closing_in u v h)))
      (and_from _ _ (closing_may u v h) (ap not (closing_free u v h)))

  -- a move to a point at which none closes a mill doesn't
  pub quiet_elsewhere : (set : ℕ) → ((v : ℕ) → (has set v && not (has s.other v)) ≡ ((ltb v n && may_close b s.own v) && not (has s.other v)))
      → (u v : ℕ) → has s.own u ≡ true → has (reach b s u) v ≡ true → has set v ≡ false → closes b s.own u v ≡ false
  quiet_elsewhere set each u v own goes out = false_from_ne_true (closes b s.own u v) (λ shuts.
      let h : IsClosing b s u v = record { own = own; goes = goes; shuts = shuts } in
      let there = and_from _ _ (and_from _ _ (lt-ltb v n (closing_in u v h)) (closing_may u v h)) (ap not (closing_free u v h)) in
      both_ways (has set v) out (and_parts (has set v) (not (has s.other v)) (each v ∙ there)).0)

  module _ (v : ℕ) (here : has ends v ≡ true) where
    within_board : (ltb v b.points ≡ true) × ((may_close b s.own v && not (has s.other v)) ≡ true)
    within_board = and_parts (ltb v b.points) _ (sym (end_is v) ∙ here)

    end_parts : (may_close b s.own v ≡ true) × (not (has s.other v) ≡ true)
    end_parts = and_parts (may_close b s.own v) (not (has s.other v)) within_board.1

    pub open_low : v < n
    open_low = omega (arith, points, ltb-true v b.points within_board.0)

    pub open_closes : (u : ℕ) → has (closers_at b s.own v) u ≡ true → IsClosing b s u v
    unfolding closers_at
    open_closes u closer =
        closing_there u v open_low (not-true (has s.other v) end_parts.1)
        (and_parts (ltb u b.points) (has s.own u && is_closing_end b s.own u v) (sym (has-set_where b.points (λ x. has s.own x && is_closing_end b s.own x v) u) ∙ closer)).1

    -- some stone closes one there
    some_closer : (u : ℕ) × IsClosing b s u v
    unfolding may_close is_closing_end
    some_closer =
        let f : ℕ → Bool = λ u. goes b (count_of s.own) u v && closes b s.own u v in
        let parts = and_parts (not (has s.own v)) (list_any f (members s.own)) end_parts.0 in
        let one = any_contained f (members s.own) parts.1 in
        (one.0, closing_there one.0 v open_low (not-true (has s.other v) end_parts.1) (and_from _ _ (has-member s.own one.0 one.1) (and_from _ _ parts.0 one.2)))

  few : b.points ≤ 24
  few = omega (arith, points)

  pub captures_some : 0 < ends → list_any is_capture (moves_of b s) ≡ true
  captures_some some =
      let v = first_is ends some (lt_from_points ends 32 (λ p here. omega (arith, low, open_low p here))) in
      let one = some_closer _ v.here in
      let taken = first_is (takable_stones b s.other) (takable_some b s lawful) (takable_stones-lt b s few lawful) in
      contained_any is_capture (moves_of b s) (move one.0 _ (Some _))
      (legal_is_listed b s few lawful.stones _ (capture_is_legal b s one.0 _ _ one.1.own one.1.goes one.1.shuts taken.here)) refl

  -- a capture closes a mill
  capture_closes : list_any is_capture (moves_of b s) ≡ true → (u : ℕ) × (v : ℕ) × IsClosing b s u v
  capture_closes h =
      let m = any_contained is_capture (moves_of b s) h in
      (m.0.from, m.0.to, legal_capture b s m.0 (listed_is_legal b s few lawful.stones m.0 m.1) m.2)

  pub captures_none : ends ≡ 0 → list_any is_capture (moves_of b s) ≡ false
  captures_none none = false_from_ne_true (list_any is_capture (moves_of b s)) (λ e.
      let m = capture_closes e in
      both_ways (has ends m.1) (ap (λ t. has t m.1) none ∙ has-none m.1) (closing_open m.0 m.1 m.2))

  -- ---- the captures that are found by a row

  module _ (row : Row) (own : row.own ≡ s.own) (is : IsRow b n row) where
    pub row_ends : (v : ℕ) → has row.closing v ≡ (ltb v n && may_close b s.own v)
    row_ends v = is.closing v ∙ ap (λ o. ltb v n && may_close b o v) own

    pub some_closing : list_any is_capture (moves_of b s) ≡ true → (v : ℕ) × (has row.closing v ≡ true) × (has s.other v ≡ false)
    some_closing h =
        let m = capture_closes h in (
          m.1,
          row_ends m.1 ∙ and_from _ _ (lt-ltb m.1 n (closing_in m.0 m.1 m.2)) (closing_may m.0 m.1 m.2),
          closing_free m.0 m.1 m.2,
        )

    pub closers_are : (v : ℕ) → v < n → slice_index row.closers v ≡ closers_at b s.own v
    closers_are v inside = closers_of (slice_index row.closers v) v (λ u. is.closers v inside u ∙ ap (λ o. has o u && is_closing_end b o u v) own)

    pub closers_close : (u v : ℕ) → has ends v ≡ true → has (slice_index row.closers v) u ≡ true → IsClosing b s u v
    closers_close u v here h = open_closes v here u (subst (λ k. has k u ≡ true) (closers_are v (open_low v here)) h)

    kept_legal : (m : Move) → Contains (kept_captures row ends (members (takable_stones b s.other))) m → is_legal b s m ≡ true
    kept_legal m c =
        let of_taken = Contains-flat_map_cases (λ t. captures_to row.closers t (members ends)) (members (takable_stones b s.other)) m c in
        let to_end = Contains-flat_map_cases (λ v. captures_at of_taken.0 (slice_index row.closers v) v) (members ends) m of_taken.2 in
        let by = Contains-map_cases (λ u. move u to_end.0 (Some of_taken.0)) (members (slice_index row.closers to_end.0)) m to_end.2 in
        let closing = closers_close by.0 to_end.0 (has-member ends to_end.0 to_end.1) (has-member (slice_index row.closers to_end.0) by.0 by.1) in
        subst (λ k. is_legal b s k ≡ true) by.2
        (capture_is_legal b s by.0 to_end.0 of_taken.0 closing.own closing.goes closing.shuts (has-member (takable_stones b s.other) of_taken.0 of_taken.1))

    legal_kept : (m : Move) → is_legal b s m ≡ true → is_capture m ≡ true → Contains (kept_captures row ends (members (takable_stones b s.other))) m
    legal_kept m legal takes =
        let closing = legal_capture b s m legal takes in
        let inside : m.to < n = closing_in m.from m.to closing in
        let closer = subst (λ k. has k m.from ≡ true) (sym (closers_are m.to inside)) (closing_closer m.from m.to closing) in
        let t = is_none-false m.taken (not-true (is_none m.taken) takes) in
        let taken : has (takable_stones b s.other) t.0 ≡ true = legal_takes b s m t.0 t.1 legal in
        let same : move m.from m.to (Some t.0) ≡ m = ap (λ o. move m.from m.to o) (sym t.1) in
        subst (Contains (kept_captures row ends (members (takable_stones b s.other)))) same
        (Contains-flat_map (λ t. captures_to row.closers t (members ends)) (members (takable_stones b s.other)) t.0 _
        (member-has (takable_stones b s.other) t.0 (omega (arith, points, point_lt s.other b.points t.0 lawful.stones.other_within (takable_is_other b s.other t.0 taken))) taken)
        (Contains-flat_map (λ v. captures_at t.0 (slice_index row.closers v) v) (members ends) m.to _
        (member-has ends m.to (omega (arith, inside)) (closing_open m.from m.to closing))
        (Contains-map (λ u. move u m.to (Some t.0)) (members (slice_index row.closers m.to)) m.from
        (member-has (slice_index row.closers m.to) m.from
        (omega (arith, points, point_lt s.own b.points m.from lawful.stones.own_within closing.own)) closer))))

    -- their summary is that of all captures
    pub kept_suffice : (set : ℕ) → set ≡ ends → exits_by b s (kept_captures row set (members (takable_stones b s.other))) ≡ exits_of (capture_codes b s)
    unfolding exits_by capture_codes
    kept_suffice set e = rw e (
        let code : Move → ℕ = λ m. code_to 65534 b (result_of s m) in
        let cache = kept_captures row ends (members (takable_stones b s.other)) in
        let there : IsAmong (filter is_capture cache) (filter is_capture (moves_of b s)) = λ m c.
        let at = filter-contains is_capture cache m c in
        contained-filter is_capture (moves_of b s) m (legal_is_listed b s few lawful.stones m (kept_legal m at.0)) at.1 in
        let back : IsAmong (filter is_capture (moves_of b s)) (filter is_capture cache) = λ m c.
        let at = filter-contains is_capture (moves_of b s) m c in
        contained-filter is_capture cache m (legal_kept m (listed_is_legal b s few lawful.stones m at.0) at.1) at.1 in
        exits_of-same (map code (filter is_capture cache)) (map code (filter is_capture (moves_of b s)))
        (images_among code _ _ there) (images_among code _ _ back))

-- ---- a summary that goes on

module _ (b : Shape) (s : Sides) (known : Exits) where
  -- the summary `exits` goes on from `known` by the moves ms
  abbrev pub GoesOn : Exits → List Move → Type 0
  GoesOn exits ms = (done : List Move) → known ≡ exits_by b s done → exits ≡ exits_by b s (done ++ ms)

  pub goes_none : GoesOn known []
  goes_none done e = e ∙ ap (exits_by b s) (sym (append-nil done))

  -- by the capture of a stone, one move more
  pub goes_capture : (exits : Exits) (u v t code : ℕ) (us : List ℕ) → GoesOn exits (map (λ x. move x v (Some t)) us)
      → IsCodeOf b (result_of s (move u v (Some t))) code → code ≤ 65535
      → GoesOn (add_code exits code) (map (λ x. move x v (Some t)) (us ++ u ∷ []))
  goes_capture exits u v t code us before is few done e =
      ap (λ x. add_code x code) (before done e)
      ∙ (sym (exits_by-capture b s (done ++ map (λ x. move x v (Some t)) us) (move u v (Some t)) refl code is few)
      ∙ ap (exits_by b s) (append_assoc done _ _ ∙ ap (λ xs. done ++ xs) (sym (map-append (λ x. move x v (Some t)) us (u ∷ [])))))

  -- by the moves that f lists, one list more
  pub goes_more : (f : ℕ → List Move) (exits new : Exits) (v : ℕ) (vs : List ℕ) → GoesOn exits (flat_map f vs)
      → ((done : List Move) → exits ≡ exits_by b s done → new ≡ exits_by b s (done ++ f v)) → GoesOn new (flat_map f (vs ++ v ∷ []))
  goes_more f exits new v vs before step done e =
      step (done ++ flat_map f vs) (before done e)
      ∙ ap (exits_by b s) (append_assoc done _ _ ∙ ap (λ xs. done ++ xs) (flat_map_more f [] vs v))

-- from stone to stone
pub kept_more : (b : Shape) (s : Sides) (known exits : Exits) (row : Row) (ends : ℕ) (ts : List ℕ) (t : ℕ) → known ≡ exits_by b s (kept_captures row ends ts)
    → ((done : List Move) → known ≡ exits_by b s done → exits ≡ exits_by b s (done ++ captures_to row.closers t (members ends)))
    → exits ≡ exits_by b s (kept_captures row ends (ts ++ t ∷ []))
kept_more b s known exits row ends ts t before step =
    step (kept_captures row ends ts) before
    ∙ ap (exits_by b s) (flat_map_more (λ x. captures_to row.closers x (members ends)) [] ts t)

-- ---- positions without captures, and those whose captures win at once

none_listed : (ms : List Move) → list_any is_capture ms ≡ false → filter is_capture ms ≡ []
none_listed [] h = refl
none_listed (m ∷ ms) h = elim (cases_Bool (is_capture m)) [
  | inl y ↦ absurd (both_ways true (rw y at h) refl)
  | inr n ↦ rw n (none_listed ms (rw n at h))
]

pub no_codes : (b : Shape) (s : Sides) → list_any is_capture (moves_of b s) ≡ false → no_exits ≡ exits_of (capture_codes b s)
unfolding capture_codes
no_codes b s h = rw (none_listed (moves_of b s) h) refl

abbrev lost_at_once : Exits
lost_at_once = record { least_lost = Some 0; greatest_won = None; drawn = false }

ones : (f : Move → ℕ) (ms : List Move) → ((m : Move) → Contains ms m → is_capture m ≡ true → f m ≡ 1) → list_any is_capture ms ≡ true
    → exits_of (map f (filter is_capture ms)) ≡ lost_at_once
ones f [] each h = absurd (both_ways false refl h)
ones f (m ∷ ms) each h = elim (cases_Bool (is_capture m)) [
  | inl y ↦ rw (y, each m (Contains-head m ms) y) (elim (cases_Bool (list_any is_capture ms)) [
    | inl some ↦ first (map f (filter is_capture ms)) (ones f ms (λ k c. each k (Contains-tail m ms k c)) some)
    | inr none ↦ rw (none_listed ms none) refl
  ])
  | inr n ↦ rw n (ones f ms (λ k c. each k (Contains-tail m ms k c)) (rw n at h))
]
  where
    first : (cs : List ℕ) → exits_of cs ≡ lost_at_once → exits_of (1 ∷ cs) ≡ lost_at_once
    first cs e =
        let lost : minimum (depths is_odd cs) ≡ Some 0 = ap (λ (x : Exits). x.least_lost) e in
        let won : maximum (depths is_won_code cs) ≡ None = ap (λ (x : Exits). x.greatest_won) e in
        let drawn : list_any (λ c. eqb c 0) cs ≡ false = ap (λ (x : Exits). x.drawn) e in
        rw (lost, won, drawn) refl

-- with three stones left, the opponent has two after any capture
pub wins_at_once : (b : Shape) (s : Sides) → b.points ≤ 24 → IsPosition b s → count_of s.other ≡ 3 → list_any is_capture (moves_of b s) ≡ true
    → lost_at_once ≡ exits_of (capture_codes b s)
unfolding capture_codes
wins_at_once b s few h three some = sym (ones (λ m. code_to 65534 b (result_of s m)) (moves_of b s) (λ m c takes.
    let legal = listed_move b s few h.stones m c in
    let t = is_none-false m.taken (not-true (is_none m.taken) takes) in
    let two : count_of (result_of s m).own ≡ 2 = omega (arith, count_of-capture b s few h m legal t.0 t.1) in
    code_to-is b (result_of s m) 1 (code_of_stuck b (result_of s m) (omega arith)) (omega arith)) some)
