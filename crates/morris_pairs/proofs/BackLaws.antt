-- The quiet moves that lead to a position, looked at from it, are those of the graph.
use Rattle.std.proofs.Common.{◌≡◌, ℕ, ◌*◌, ◌<◌, ◌≤◌, Bool, true, false, eqb, List, [], ◌∷◌, length, map, filter, refl, sym, ap, ap₂, ◌∙◌, subst, inl, inr, arith, Option, Some, None, is_none}
use Rattle.std.proofs.lemmas.Bool.{le-ltb, cases_lt, eq-eqb, eqb-true, both_ways, and_parts, and_from}
use Rattle.std.proofs.lemmas.List.Elements.{All-weaker, All-contains_itself}
use Rattle.std.proofs.lemmas.List.Sums.{length-filter, count_by-le-length}
use Rattle.std.proofs.lemmas.List.FromFn.{length-range_with_len}
use Rattle.std.proofs.lemmas.List.{append-nil, length-map}
use Rattle.std.specs.List.{All, Contains, range_with_len, count_by, flat_map}
use Rattle.morris_board.specs.Sets.{has, members, count_of}
use Rattle.morris_board.specs.Boards.{Shape}
use Rattle.morris_board.specs.Positions.{Sides, sides, IsApart, IsPosition, is_sized}
use Rattle.morris_moves.specs.declared.game_move.Move.{Move}
use Rattle.morris_moves.specs.Order.{Precedes, takes_before}
use Rattle.morris_moves.specs.Rules.{move_stone, is_vacant, move, is_legal, left_of, moves_of, result_of}
use Rattle.morris_moves.proofs.ListLaws.{Ascends, Contains-head, Contains-map, Contains-map_cases, Contains-flat_map, Contains-flat_map_cases, Ascends-flat_map, Ascends-map, length-flat_map_le}
use Rattle.morris_moves.proofs.SetLaws.{has-member, member-has, Ascends-members}
use Rattle.morris_moves.proofs.LegalLaws.{IsLegalMove, listed_move, listed_is_legal, legal_is_listed}
use Rattle.morris_moves.proofs.ResultLaws.{IsPosition-result, count_of-mover, count_of-quiet}
use Rattle.morris_moves.proofs.OrderLaws.{moves_in_order}
use Rattle.morris_index.specs.Pairs.{Counts, IsPair, is_of, size_of, index_of}
use Rattle.morris_index.proofs.IndexLaws.{IsPlaced, halves_of, index-lt, index-same}
use Rattle.morris_board.proofs.PositionLaws.{from_between, other_count}
use Rattle.morris_index.proofs.ResultLaws.{is_of-quiet}
use Rattle.morris_wave.specs.Nets.{times}
use Rattle.morris_pairs.specs.Orders.{Full}
use Rattle.morris_pairs.specs.PairNets.{at_index, is_quiet, quiet_results, net_in}
use Rattle.morris_moves.specs.Backward.{unmove, has_come}
use Rattle.morris_pairs.specs.Predecessors.{moves_into, unmoves_to}
use Rattle.morris_pairs.specs.FilterLaws.{filter-contains, contained-filter, range_bounds}
use Rattle.morris_pairs.proofs.BackLawsLists.{Contains-range, Ascends-range, Ascends-filter, Ascends-weaker, Ascends-from_AllPairs, counted, found, at_most_one, count_by-map, one_each}
use Rattle.morris_moves.proofs.BackLaws.{moved_here, moved_gone, moved_back, vacant_parts, vacant_from, IsApart-before, count_of-before_own, count_of-before_other}
use Rattle.morris_pairs.proofs.BackLawsMoves.{moved_same, before_mover, alike}
use Rattle.morris_pairs.proofs.BackLawsNodes.{IsIndexed, at_index-indexed, indexed-at_index, indexed_same, none_or_one}

-- the positions before these moves, by their indices in the pair, on n points
unfoldable pub indices_before : ℕ → Counts → Sides → List Move → List ℕ
indices_before n c s moves = map (λ m. index_of n c (unmove s m)) moves

-- ---- the quiet moves that led to a position

none_is : (o : Option ℕ) → is_none o ≡ true → o ≡ None
none_is None h = refl
none_is (Some t) h = absurd (both_ways false refl h)

pub quiet_taken : (m : Move) → is_quiet m ≡ true → m.taken ≡ None
quiet_taken m h = none_is m.taken h

pub taken_quiet : (m : Move) → m.taken ≡ None → is_quiet m ≡ true
taken_quiet m e = ap is_none e

-- what is known of a quiet move to one of q's opponent's stones that led to q
pub record HasLed (b : Shape) (q : Sides) (m : Move) : Type 0 where
  pub start : m.from < b.points
  pub end : has q.other m.to ≡ true
  pub quiet : m.taken ≡ None
  pub vacant : is_vacant q m.from ≡ true
  pub legal : is_legal b (unmove q m) m ≡ true

module _ (b : Shape) (q : Sides) where
  abbrev pub all_before : List Move
  all_before = unmoves_to b q b.points (members q.other)

  pub led : (m : Move) → Contains all_before m → HasLed b q m
  unfolding unmoves_to moves_into has_come
  led m k =
      let r = Contains-flat_map_cases (λ v. moves_into b q v b.points) (members q.other) m k in
      let f = filter-contains (has_come b q) (map (λ u. move u r.0 None) (range_with_len 0 b.points)) m r.2 in
      let t = Contains-map_cases (λ u. move u r.0 None) (range_with_len 0 b.points) m f.0 in
      let low = range_bounds 0 b.points t.0 t.1 in
      let from : t.0 ≡ m.from = ap (λ (x : Move). x.from) t.2 in
      let to : r.0 ≡ m.to = ap (λ (x : Move). x.to) t.2 in
      let parts = and_parts (is_vacant q m.from) (is_legal b (unmove q m) m) f.1 in
      record {
        start = omega arith;
        end = subst (λ p. has q.other p ≡ true) to (has-member q.other r.0 r.1);
        quiet = sym (ap (λ (x : Move). x.taken) t.2);
        vacant = parts.0;
        legal = parts.1;
      }

  pub led-listed : (m : Move) → m.to < 32 → HasLed b q m → Contains all_before m
  unfolding unmoves_to moves_into has_come
  led-listed m low h =
      let same : move m.from m.to None ≡ m = ap (λ t. move m.from m.to t) (sym h.quiet) in
      Contains-flat_map (λ v. moves_into b q v b.points) (members q.other) m.to m (member-has q.other m.to low h.end)
      (contained-filter (has_come b q) (map (λ u. move u m.to None) (range_with_len 0 b.points)) m
      (subst (λ x. Contains (map (λ u. move u m.to None) (range_with_len 0 b.points)) x) same
      (Contains-map (λ u. move u m.to None) (range_with_len 0 b.points) m.from (Contains-range 0 b.points m.from (omega arith) (omega (arith, h.start)))))
      (and_from (is_vacant q m.from) (is_legal b (unmove q m) m) h.vacant h.legal))

  abbrev Apart : Move → Move → Type 0
  Apart m k = m ≡ k → ⊥

  pub moves_before_differ : Ascends Apart all_before
  unfolding unmoves_to moves_into
  moves_before_differ =
      Ascends-flat_map (λ x y. x < y) Apart (λ v. moves_into b q v b.points) (members q.other) (Ascends-members q.other)
      (λ v. Ascends-filter Apart (has_come b q) (map (λ u. move u v None) (range_with_len 0 b.points))
      (Ascends-map (λ x y. x < y) Apart (λ u. move u v None) (range_with_len 0 b.points) (Ascends-range 0 b.points)
      (λ x z l e. let same : x ≡ z = ap (λ (m : Move). m.from) e in omega arith)))
      (λ v w m k o c d e.
      let f = filter-contains (has_come b q) (map (λ u. move u v None) (range_with_len 0 b.points)) m c in
      let i = filter-contains (has_come b q) (map (λ u. move u w None) (range_with_len 0 b.points)) k d in
      let r = Contains-map_cases (λ u. move u v None) (range_with_len 0 b.points) m f.0 in
      let t = Contains-map_cases (λ u. move u w None) (range_with_len 0 b.points) k i.0 in
      let same : v ≡ w = ap (λ (x : Move). x.to) (r.2 ∙ (e ∙ sym t.2)) in
      omega arith)

-- ---- listed moves differ

precedes_itself : (o : Option ℕ) → takes_before o o ≡ false
precedes_itself None = refl
precedes_itself (Some t) = le-ltb t t (omega arith)

not_before_itself : (m : Move) → Precedes m m → ⊥
not_before_itself m h = both_ways false refl
    (rw (le-ltb m.from m.from (omega arith), eq-eqb m.from m.from refl, le-ltb m.to m.to (omega arith), eq-eqb m.to m.to refl, precedes_itself m.taken) at h)

pub moves_differ : (b : Shape) (s : Sides) → Ascends (λ m k. m ≡ k → ⊥) (moves_of b s)
moves_differ b s =
    Ascends-weaker Precedes (λ m k. m ≡ k → ⊥) (λ m k h e. not_before_itself k (subst (λ x. Precedes x k) e h)) (moves_of b s)
    (Ascends-from_AllPairs Precedes (moves_of b s) (moves_in_order b s))

-- ---- a quiet move leads to q exactly where it is among those that led to q

module _ (b : Shape) (small : b.points ≤ 24) (c : Counts) (pair : IsPair b.points c) where
  sized_of : (s : Sides) → is_of c s ≡ true → is_sized s ≡ true
  sized_of s of = elim (halves_of c s of) [
    | inl y ↦
        and_from _ _ (from_between 2 (count_of s.own) 9 (omega (arith, y.0, pair.least, pair.ordered)) (omega (arith, y.0, pair.most)))
        (from_between 3 (count_of s.other) 9 (omega (arith, y.1, pair.least)) (omega (arith, y.1, pair.ordered, pair.most)))
    | inr y ↦
        and_from _ _ (from_between 2 (count_of s.own) 9 (omega (arith, y.1, pair.least)) (omega (arith, y.1, pair.ordered, pair.most)))
        (from_between 3 (count_of s.other) 9 (omega (arith, y.2, pair.least, pair.ordered)) (omega (arith, y.2, pair.most)))
  ]

  is_apart : (s : Sides) → IsPlaced b.points s → IsApart b s
  is_apart s p = record { own_within = p.own_within; other_within = p.other_within; apart = p.apart }

  pub is_placed : (s : Sides) → IsApart b s → IsPlaced b.points s
  is_placed s p = record { own_within = p.own_within; other_within = p.other_within; apart = p.apart }

  pub is_position : (s : Sides) → IsPlaced b.points s → is_of c s ≡ true → IsPosition b s
  is_position s p of = record { stones = is_apart s p; sized = sized_of s of }

  module _ (q : Sides) (h : IsPosition b q) (of : is_of c q ≡ true) where
    -- a quiet move of a position of the pair that leads to q
    pub record LeadsTo (s : Sides) (m : Move) : Type 0 where
      pub move : IsLegalMove b s m
      pub quiet : m.taken ≡ None
      pub result : result_of s m ≡ q

    leads : (s : Sides) → IsPlaced b.points s → is_of c s ≡ true → (m : Move) → Contains (moves_of b s) m → is_quiet m ≡ true
        → index_of b.points c (result_of s m) ≡ index_of b.points c q → LeadsTo s m
    leads s p of_s m k quiet e =
        let position = is_position s p of_s in
        let l = listed_move b s small position.stones m k in
        let none = quiet_taken m quiet in
        let of_result : is_of c (result_of s m) ≡ true =
        is_of-quiet c s (result_of s m) of_s (count_of-quiet b s small position m l none) (count_of-mover b s small position m l) in
        record {
          move = l;
          quiet = none;
          result = index-same b.points c (omega arith) (result_of s m) q (is_placed _ (IsPosition-result b s small position m l).stones) (is_placed q h.stones)
              of_result of e;
        }

    leads-own : (s : Sides) (m : Move) → LeadsTo s m → s.other ≡ q.own
    unfolding result_of
    leads-own s m l = ap (λ t. left_of s.other t) (sym l.quiet) ∙ ap (λ (x : Sides). x.own) l.result

    pub leads-other : (s : Sides) (m : Move) → LeadsTo s m → move_stone s.own m.from m.to ≡ q.other
    unfolding result_of
    leads-other s m l = ap (λ (x : Sides). x.other) l.result

    pub leads-before : (s : Sides) (m : Move) → LeadsTo s m → unmove q m ≡ s
    unfolding unmove
    leads-before s m l =
        ap₂ sides
        (ap (λ o. move_stone o m.to m.from) (sym (leads-other s m l)) ∙ moved_back s.own m.from m.to l.move.from_own l.move.to_not_own)
        (sym (leads-own s m l))

    pub leads-led : (s : Sides) → IsPlaced b.points s → (m : Move) → Contains (moves_of b s) m → LeadsTo s m → HasLed b q m
    leads-led s p m k l = record {
      start = l.move.from_within;
      end = subst (λ o. has o m.to ≡ true) (leads-other s m l) (moved_here s.own m.from m.to l.move.from_own l.move.to_not_own);
      quiet = l.quiet;
      vacant = vacant_from q m.from
          (subst (λ o. has o m.from ≡ false) (leads-own s m l) (p.apart m.from l.move.from_own))
          (subst (λ o. has o m.from ≡ false) (leads-other s m l) (moved_gone s.own m.from m.to l.move.from_own l.move.to_not_own));
      legal = subst (λ x. is_legal b x m ≡ true) (sym (leads-before s m l)) (listed_is_legal b s small (is_apart s p) m k);
    }

    -- the position before it, its place in the pair, and what it leads to
    pub led-placed : (m : Move) → HasLed b q m → IsPlaced b.points (unmove q m)
    led-placed m l = is_placed _ (IsApart-before b small q h m l.start l.vacant l.end)

    pub led-of : (m : Move) → HasLed b q m → is_of c (unmove q m) ≡ true
    led-of m l = is_of-quiet c q (unmove q m) of (count_of-before_own b small q h m l.start l.vacant l.end) (count_of-before_other b small q h m l.start l.vacant l.end)

    pub led-moves : (m : Move) → HasLed b q m → Contains (moves_of b (unmove q m)) m
    led-moves m l = legal_is_listed b (unmove q m) small (IsApart-before b small q h m l.start l.vacant l.end) m l.legal

    pub led-result : (m : Move) → HasLed b q m → result_of (unmove q m) m ≡ q
    unfolding result_of unmove
    led-result m l =
        ap₂ sides (ap (λ t. left_of q.own t) l.quiet) (moved_back q.other m.to m.from l.end (vacant_parts q m.from l.vacant).1)

    -- ---- both lists count a move or none

    abbrev is_from : ℕ → Move → Bool
    is_from j m = eqb (index_of b.points c (unmove q m)) j

    abbrev is_to : Sides → Move → Bool
    is_to s m = eqb (index_of b.points c (result_of s m)) (index_of b.points c q)

    indexed_before : (j : ℕ) (m : Move) → Contains (all_before b q) m → is_from j m ≡ true → IsIndexed b c j (unmove q m)
    indexed_before j m k e =
        let l = led b q m k in
        record { placed = led-placed m l; of = led-of m l; index = eqb-true _ _ e }

    -- at most one of them comes from the position with index j
    one_before : (j : ℕ) → count_by (is_from j) (all_before b q) ≤ 1
    one_before j = at_most_one (is_from j) (all_before b q) (moves_before_differ b q) same
      where
        same : (m k : Move) → Contains (all_before b q) m → Contains (all_before b q) k → is_from j m ≡ true → is_from j k ≡ true → m ≡ k
        same m k x y e f =
            let l = led b q m x in
            let r = led b q k y in
            let one = indexed_same b c small j (unmove q m) (unmove q k) (indexed_before j m x e) (indexed_before j k y f) in
            let points = moved_same q.other m.to m.from l.end (vacant_parts q m.from l.vacant).1 k.to k.from r.end (vacant_parts q k.from r.vacant).1
            (before_mover q m k one) in
            alike m k points.1 points.0 l.quiet r.quiet

    -- at most one quiet move of a position leads to q
    one_after : (s : Sides) → IsPlaced b.points s → is_of c s ≡ true → count_by (is_to s) (filter is_quiet (moves_of b s)) ≤ 1
    one_after s p of_s =
        at_most_one (is_to s) (filter is_quiet (moves_of b s)) (Ascends-filter _ is_quiet (moves_of b s) (moves_differ b s)) same
      where
        led_to : (m : Move) → Contains (filter is_quiet (moves_of b s)) m → is_to s m ≡ true → LeadsTo s m
        led_to m k e =
            let r = filter-contains is_quiet (moves_of b s) m k in
            leads s p of_s m r.0 r.1 (eqb-true _ _ e)

        same : (m k : Move) → Contains (filter is_quiet (moves_of b s)) m → Contains (filter is_quiet (moves_of b s)) k → is_to s m ≡ true → is_to s k ≡ true → m ≡ k
        same m k x y e f =
            let l = led_to m x e in
            let r = led_to k y f in
            let points = moved_same s.own m.from m.to l.move.from_own l.move.to_not_own k.from k.to r.move.from_own r.move.to_not_own
            (leads-other s m l ∙ sym (leads-other s k r)) in
            alike m k points.0 points.1 l.quiet r.quiet

    -- a move that led to q from the position with index j is one of the moves of that position, and
    -- the reverse
    before_after : (j : ℕ) → 0 < count_by (is_from j) (all_before b q)
        → (s : Sides) × (m : Move) × IsIndexed b c j s × Contains (filter is_quiet (moves_of b s)) m × (is_to s m ≡ true)
    before_after j h =
        let r = found (is_from j) (all_before b q) h in
        let m = r.0 in
        let l = led b q m r.1 in (
          unmove q m,
          m,
          indexed_before j m r.1 r.2,
          contained-filter is_quiet (moves_of b (unmove q m)) m (led-moves m l) (taken_quiet m l.quiet),
          eq-eqb _ _ (ap (index_of b.points c) (led-result m l)),
        )

    after_before : (j : ℕ) (s : Sides) → IsIndexed b c j s → 0 < count_by (is_to s) (filter is_quiet (moves_of b s))
        → 0 < count_by (is_from j) (all_before b q)
    after_before j s i h =
        let r = found (is_to s) (filter is_quiet (moves_of b s)) h in
        let m = r.0 in
        let k = filter-contains is_quiet (moves_of b s) m r.1 in
        let l = leads s i.placed i.of m k.0 k.1 (eqb-true _ _ r.2) in
        let high : m.to < b.points = l.move.to_within in
        counted (is_from j) (all_before b q) m (led-listed b q m (omega arith) (leads-led s i.placed m k.0 l))
        (eq-eqb _ _ (ap (index_of b.points c) (leads-before s m l) ∙ i.index))

    count_before : (j : ℕ) → times j (indices_before b.points c q (all_before b q)) ≡ count_by (is_from j) (all_before b q)
    unfolding indices_before
    count_before j = count_by-map (λ x. eqb x j) (λ m. index_of b.points c (unmove q m)) (all_before b q)

    count_after : (s : Sides) → times (index_of b.points c q) (quiet_results b Full c s) ≡ count_by (is_to s) (filter is_quiet (moves_of b s))
    unfolding quiet_results
    count_after s = count_by-map (λ x. eqb x (index_of b.points c q)) (λ m. index_of b.points c (result_of s m)) (filter is_quiet (moves_of b s))

    from_none : (j : ℕ) → at_index b Full c j ≡ [] → count_by (is_from j) (all_before b q) ≡ 0
    from_none j none = elim (cases_lt 0 (count_by (is_from j) (all_before b q))) [
      | inl more ↦
          let r = before_after j more in
          let k : Contains [] r.0 = subst (λ xs. Contains xs r.0) none (indexed-at_index b c small j r.0 r.2) in
          absurd (omega arith)
      | inr less ↦ omega arith
    ]

    from_one : (j : ℕ) (s : Sides) → at_index b Full c j ≡ s ∷ [] → count_by (is_from j) (all_before b q) ≡ count_by (is_to s) (filter is_quiet (moves_of b s))
    from_one j s one =
        let i = at_index-indexed b c small j s (subst (λ xs. Contains xs s) (sym one) (Contains-head s [])) in
        one_each _ _ (one_before j) (one_after s i.placed i.of)
        (λ more.
        let r = before_after j more in
        let same = indexed_same b c small j r.0 s r.2 i in
        counted (is_to s) (filter is_quiet (moves_of b s)) r.1 (subst (λ t. Contains (filter is_quiet (moves_of b t)) r.1) same r.3)
        (subst (λ t. is_to t r.1 ≡ true) same r.4))
        (after_before j s i)

    -- each position stands before q as often as q is one of its quiet results
    pub times_before : (j : ℕ) → times j (indices_before b.points c q (all_before b q)) ≡ times (index_of b.points c q) ((net_in b Full c).quiet j)
    unfolding net_in
    times_before j = elim (none_or_one b c small j) [
      | inl none ↦ count_before j ∙ (from_none j none ∙ rw none refl)
      | inr one ↦ count_before j ∙ (from_one j one.0 one.1
          ∙ (sym (count_after one.0)
          ∙ (ap (times (index_of b.points c q)) (sym (append-nil (quiet_results b Full c one.0)))
          ∙ ap (λ xs. times (index_of b.points c q) (flat_map (quiet_results b Full c) xs)) (sym one.1))))
    ]

    -- they are nodes of the pair
    pub nodes_before : All (λ j. j < size_of b.points c) (indices_before b.points c q (all_before b q))
    unfolding indices_before
    nodes_before =
        All-weaker _ (λ j. j < size_of b.points c)
        (λ j k.
        let r = Contains-map_cases (λ m. index_of b.points c (unmove q m)) (all_before b q) j k in
        let l = led b q r.0 r.1 in
        subst (λ x. x < size_of b.points c) r.2 (index-lt b.points c (omega arith) (unmove q r.0) (led-placed r.0 l) (led-of r.0 l)))
        _ (All-contains_itself (indices_before b.points c q (all_before b q)))

    few_into : (v : ℕ) → length (moves_into b q v b.points) ≤ 24
    unfolding moves_into
    few_into v = omega (
      arith,
      length-filter (has_come b q) (map (λ u. move u v None) (range_with_len 0 b.points)),
      count_by-le-length (has_come b q) (map (λ u. move u v None) (range_with_len 0 b.points)),
      length-map (range_with_len 0 b.points) (λ u. move u v None),
      length-range_with_len 0 b.points,
    )

    -- at most nine stones came from at most 24 points
    pub few_moves : length (all_before b q) ≤ 9 * 24
    unfolding unmoves_to count_of
    few_moves =
        omega (arith, length-flat_map_le (λ v. moves_into b q v b.points) 24 (members q.other) few_into, (other_count q h.sized).1)

    pub few_before : length (indices_before b.points c q (all_before b q)) ≤ 9 * 24
    unfolding indices_before
    few_before = omega (arith, length-map (all_before b q) (λ m. index_of b.points c (unmove q m)), few_moves)
