-- Laws of the graph of a pair in an order: its nodes are positions of the pair, and it is a graph.
use Rattle.std.proofs.Common.{◌≡◌, ℕ, ◌+◌, ◌-◌, ◌*◌, ◌/◌, ◌%◌, ◌^◌, ◌<◌, ◌≤◌, Bool, true, false, not, ◌&&◌, eqb, leb, ltb, List, [], ◌∷◌, map, filter, length, Option, Some, None, is_none, refl, sym, ap, ap₂, subst, ◌∙◌, inl, inr, ◌⊎◌, arith, zero, suc, cond}
use Rattle.std.proofs.lemmas.Bool.{cases_Bool, both_ways, and_parts, and_from, eqb-true, eq-eqb, leb-true, le-leb, lt-ltb, le-ltb, ltb-true, not-true, not_from_false, false_from_ne_true}
use Rattle.std.proofs.lemmas.List.{length-map}
use Rattle.std.specs.List.{All, Contains, flat_map, list_all, range_with_len}
use Rattle.std.proofs.lemmas.List.Elements.{All-contains}
use Rattle.morris_board.specs.SymmetryLaws.{below}
use Rattle.morris_board.specs.Boards.{Shape, is_board}
use Rattle.morris_board.specs.Sets.{has, members, count_of}
use Rattle.morris_board.specs.Positions.{Sides, sides, IsApart, IsPosition}
use Rattle.morris_board.specs.Symmetries.{HasSymmetries}
use Rattle.morris_board.proofs.PointsLaws.{all_members, members_all, count_of-le}
use Rattle.morris_index.specs.Pairs.{Counts, counts, IsPair, is_pair, is_of, all_needs}
use Rattle.morris_index.proofs.PairLaws.{pair_passes}
use Rattle.morris_index.proofs.IndexLaws.{IsPlaced, placed}
use Rattle.morris_index.proofs.ResultLaws.{is_of-quiet, is_of-capture}
use Rattle.morris_moves.specs.declared.game_move.Move.{Move}
use Rattle.morris_moves.specs.Rules.{closes, reach, takable_stones, move, moves_to, moves_from, moves_of, result_of}
use Rattle.morris_moves.proofs.ListLaws.{all_contained, contained_all, Contains-head, Contains-flat_map_cases, Contains-map_cases, length-flat_map_le}
use Rattle.morris_moves.proofs.SetLaws.{point_lt}
use Rattle.morris_moves.proofs.LegalLaws.{IsLegalMove, listed_move}
use Rattle.morris_moves.proofs.ResultLaws.{IsPosition-result, count_of-mover, count_of-quiet, count_of-capture}
use Rattle.morris_wave.specs.Nets.{Net, IsNet}
use Rattle.morris_pairs.specs.PairNets.{all_sides, are_apart, is_at, at_index, is_quiet, is_capture, quiet_results, capture_codes, net_in, level_in, order_at, counts_at, preserves_limits, is_net, net_at}
use Rattle.morris_pairs.specs.Orders.{Order, Full, Classes, Rows, count_in, index_in, own_in}
use Rattle.morris_pairs.specs.EntryLaws.{is_sized-is_of, IsLaid, laid_in, entries_few}
use Rattle.morris_pairs.specs.Codes.{is_decided, code_to}
use Rattle.morris_pairs.specs.FilterLaws.{filter-flat_map, filter-map, flat_map-one, filter-yes, filter-no, range_bounds, range_none, range_one, filter-contains, length-filter_le, All-from_contained}

-- ---- boards and pairs, by their tests

pub points_few : (board : Shape) → is_board board ≡ true → board.points ≤ 24
unfolding is_board
points_few board h = leb-true board.points 24 (and_parts (leb board.points 24) _ h).0

-- ---- stones that are apart

pub are_apart-passes : (board : Shape) (s : Sides) → IsApart board s → are_apart s ≡ true
are_apart-passes board s h = all_members s.own (λ p. not (has s.other p)) (λ p e. not_from_false _ (h.apart p e))

pub are_apart-passed : (n : ℕ) (s : Sides) → n ≤ 24 → s.own < 2 ^ n → are_apart s ≡ true
    → (p : ℕ) → has s.own p ≡ true → has s.other p ≡ false
are_apart-passed n s few small h p e =
    let low : p < n = point_lt s.own n p small e in
    not-true _ (members_all s.own (λ p. not (has s.other p)) h p (omega arith) e)

-- ---- the position with an index

module _ (board : Shape) (few : board.points ≤ 24) (o : Order) (c : Counts) (laid : IsLaid board o c) where
  -- what passes the test for an index is placed
  placed_at : (i : ℕ) (s : Sides) → s.own < 2 ^ board.points → s.other < 2 ^ board.points → is_at board o c i s ≡ true
      → IsPlaced board.points s × (is_of c s ≡ true) × (own_in board o s ≡ true) × (index_in board board.points o c s ≡ i)
  placed_at i s own other h =
      let first = and_parts (are_apart s) (is_of c s && (own_in board o s && eqb (index_in board board.points o c s) i)) h in
      let second = and_parts (is_of c s) (own_in board o s && eqb (index_in board board.points o c s) i) first.1 in
      let third = and_parts (own_in board o s) (eqb (index_in board board.points o c s) i) second.1 in (
        record { own_within = own; other_within = other; apart = are_apart-passed board.points s few own first.0 },
        second.0,
        third.0,
        eqb-true _ _ third.1,
      )

  -- the number of a position is that of a node
  pub node_below : (s : Sides) → IsPosition board s → is_of c s ≡ true → index_in board board.points o c s < count_in board board.points o c
  node_below s h of = laid.below s h of

  module _ (s : Sides) (h : IsPosition board s) (of : is_of c s ≡ true) (is_own : own_in board o s ≡ true) where
    is_at-passes : is_at board o c (index_in board board.points o c s) s ≡ true
    is_at-passes =
        and_from (are_apart s) _ (are_apart-passes board s h.stones)
        (and_from (is_of c s) _ of (and_from (own_in board o s) _ is_own (eq-eqb (index_in board board.points o c s) _ refl)))

    -- no other stones have its number for their own
    others : (t : Sides) → t.own < 2 ^ board.points → t.other < 2 ^ board.points → (t ≡ s → ⊥)
        → is_at board o c (index_in board board.points o c s) t ≡ false
    others t own other differ = false_from_ne_true _ (λ e.
        let w = placed_at (index_in board board.points o c s) t own other e in
        differ (laid.alone t s w.0 (placed board board.points s refl h) w.1 of w.2 is_own w.3))

    -- a number that is a position's own is that position's, alone
    pub at_index-is : at_index board o c (index_in board board.points o c s) ≡ s ∷ []
    unfolding at_index all_sides
    at_index-is =
        let p : Sides → Bool = is_at board o c (index_in board board.points o c s) in
        let numbers : List ℕ = range_with_len 0 (2 ^ board.points) in
        let each : (own : ℕ) → filter p (map (sides own) numbers) ≡ flat_map (λ other. filter p (sides own other ∷ [])) numbers =
        λ own. filter-map p (sides own) numbers in
        let wrong_own : (own : ℕ) → 0 ≤ own → own < 0 + 2 ^ board.points → (own ≡ s.own → ⊥) → filter p (map (sides own) numbers) ≡ [] =
        λ own low high differ. each own
        ∙ range_none (λ other. filter p (sides own other ∷ [])) 0 (2 ^ board.points)
        (λ other l k. filter-no p (sides own other)
        (others (sides own other) (omega arith) (omega arith) (λ e. differ (ap (λ (t : Sides). t.own) e)))) in
        let wrong_other : (other : ℕ) → 0 ≤ other → other < 0 + 2 ^ board.points → (other ≡ s.other → ⊥) → filter p (sides s.own other ∷ []) ≡ [] =
        λ other low high differ. filter-no p (sides s.own other)
        (others (sides s.own other) h.stones.own_within (omega arith) (λ e. differ (ap (λ (t : Sides). t.other) e))) in
        filter-flat_map p (λ own. map (sides own) numbers) numbers
        ∙ range_one (λ own. filter p (map (sides own) numbers)) 0 (2 ^ board.points) s.own (omega arith) (omega (arith, h.stones.own_within)) wrong_own
        ∙ each s.own
        ∙ range_one (λ other. filter p (sides s.own other ∷ [])) 0 (2 ^ board.points) s.other (omega arith) (omega (arith, h.stones.other_within)) wrong_other
        ∙ filter-yes p (sides s.own s.other) is_at-passes

  -- what stands at a number is a position of the pair that has it for its own
  pub at_index-position : IsPair board.points c → (i : ℕ) (s : Sides) → Contains (at_index board o c i) s
      → IsPosition board s × (is_of c s ≡ true) × (own_in board o s ≡ true) × (index_in board board.points o c s ≡ i)
  unfolding at_index all_sides
  at_index-position pair i s at =
      let numbers : List ℕ = range_with_len 0 (2 ^ board.points) in
      let passed = filter-contains (is_at board o c i) (all_sides board.points) s at in
      let owns = Contains-flat_map_cases (λ own. map (sides own) numbers) numbers s passed.0 in
      let others = Contains-map_cases (sides owns.0) numbers s owns.2 in
      let own_is : s.own ≡ owns.0 = ap (λ (t : Sides). t.own) (sym others.2) in
      let other_is : s.other ≡ others.0 = ap (λ (t : Sides). t.other) (sym others.2) in
      let own : s.own < 2 ^ board.points = omega (arith, own_is, (range_bounds 0 (2 ^ board.points) owns.0 owns.1).1) in
      let other : s.other < 2 ^ board.points = omega (arith, other_is, (range_bounds 0 (2 ^ board.points) others.0 others.1).1) in
      let w = placed_at i s own other passed.1 in (
        record {
          stones = record { own_within = own; other_within = other; apart = w.0.apart };
          sized = is_sized-is_of board.points c s pair w.1;
        },
        w.1,
        w.2,
        w.3,
      )

  -- ---- what a node leads to

  module _ (s : Sides) (h : IsPosition board s) (of : is_of c s ≡ true) (is_own : own_in board o s ≡ true) where
    pub quiet-at : (net_in board o c).quiet (index_in board board.points o c s) ≡ quiet_results board o c s
    unfolding net_in
    quiet-at = ap (flat_map (quiet_results board o c)) (at_index-is s h of is_own) ∙ flat_map-one (quiet_results board o c) s

    pub exits-at : (net_in board o c).exits (index_in board board.points o c s) ≡ capture_codes board s
    unfolding net_in
    exits-at = ap (flat_map (capture_codes board)) (at_index-is s h of is_own) ∙ flat_map-one (capture_codes board) s

pub size-net_in : (board : Shape) (o : Order) (c : Counts) → (net_in board o c).size ≡ count_in board board.points o c
unfolding net_in
size-net_in board o c = refl

-- ---- the number of a pair's graph

digits : (n : ℕ) (c : Counts) → IsPair n c → counts ((c.greater * 10 + c.lesser) / 10) ((c.greater * 10 + c.lesser) % 10) ≡ c
digits n c h =
    let greater : (c.greater * 10 + c.lesser) / 10 ≡ c.greater = omega (arith, h.most, h.ordered) in
    let lesser : (c.greater * 10 + c.lesser) % 10 ≡ c.lesser = omega (arith, h.most, h.ordered) in
    ap₂ counts greater lesser

pub level-order : (n : ℕ) (o : Order) (c : Counts) → IsPair n c → order_at (level_in o c) ≡ o
level-order n Full c h = rw (lt-ltb (c.greater * 10 + c.lesser) 100 (omega (arith, h.most, h.ordered))) refl
level-order n Classes c h =
    rw (le-ltb (100 + (c.greater * 10 + c.lesser)) 100 (omega arith), lt-ltb (100 + (c.greater * 10 + c.lesser)) 200 (omega (arith, h.most, h.ordered))) refl
level-order n Rows c h = rw (le-ltb (200 + (c.greater * 10 + c.lesser)) 100 (omega arith), le-ltb (200 + (c.greater * 10 + c.lesser)) 200 (omega arith)) refl

pub level-counts : (n : ℕ) (o : Order) (c : Counts) → IsPair n c → counts_at (level_in o c) ≡ c
level-counts n Full c h = rw (lt-ltb (c.greater * 10 + c.lesser) 100 (omega (arith, h.most, h.ordered))) (digits n c h)
level-counts n Classes c h =
    let rest : 100 + (c.greater * 10 + c.lesser) - 100 ≡ c.greater * 10 + c.lesser = omega arith in
    rw (
      le-ltb (100 + (c.greater * 10 + c.lesser)) 100 (omega arith),
      lt-ltb (100 + (c.greater * 10 + c.lesser)) 200 (omega (arith, h.most, h.ordered)),
      rest,
    ) (digits n c h)
level-counts n Rows c h =
    let rest : 200 + (c.greater * 10 + c.lesser) - 200 ≡ c.greater * 10 + c.lesser = omega arith in
    rw (le-ltb (200 + (c.greater * 10 + c.lesser)) 100 (omega arith), le-ltb (200 + (c.greater * 10 + c.lesser)) 200 (omega arith), rest) (digits n c h)

-- ---- where a move leads

is_none-true : {X : Type 0} (o : Option X) → is_none o ≡ true → o ≡ None
is_none-true None h = refl
is_none-true (Some x) h = absurd (both_ways false refl h)

pub is_none-false : {X : Type 0} (o : Option X) → is_none o ≡ false → (x : X) × (o ≡ Some x)
is_none-false None h = absurd (both_ways true h refl)
is_none-false (Some x) h = (x, refl)

module _ (board : Shape) (few : board.points ≤ 24) (s : Sides) (h : IsPosition board s) (m : Move) (listed : Contains (moves_of board s) m) where
  legal : IsLegalMove board s m
  legal = listed_move board s few h.stones m listed

  pub result-position : IsPosition board (result_of s m)
  result-position = IsPosition-result board s few h m legal

  -- a quiet move stays in the pair
  pub quiet-stays : (c : Counts) → is_of c s ≡ true → is_quiet m ≡ true → is_of c (result_of s m) ≡ true
  quiet-stays c of quiet =
      is_of-quiet c s (result_of s m) of (count_of-quiet board s few h m legal (is_none-true m.taken quiet)) (count_of-mover board s few h m legal)

  -- a capture leaves two stones to the player to move, or leads to a pair that this one needs
  pub capture-leads : (c : Counts) → IsPair board.points c → is_of c s ≡ true → is_quiet m ≡ false
      → (count_of (result_of s m).own ≡ 2) ⊎ ((d : Counts) × Contains (all_needs c) d × (is_of d (result_of s m) ≡ true))
  capture-leads c pair of takes =
      let t = is_none-false m.taken takes in
      is_of-capture board.points c s (result_of s m) pair of (sym (count_of-capture board s few h m legal t.0 t.1)) (count_of-mover board s few h m legal)

-- ---- a position has at most 32 * 32 * 32 moves

members_few : (s : ℕ) → length (members s) ≤ 32
unfolding count_of
members_few s = count_of-le s

moves_to_few : (board : Shape) (s : Sides) (u v : ℕ) → length (moves_to board s u v) ≤ 32
unfolding moves_to
moves_to_few board s u v = elim (cases_Bool (closes board s.own u v)) [
  | inl shut ↦ rw shut (omega (arith, length-map (members (takable_stones board s.other)) (λ t. move u v (Some t)), members_few (takable_stones board s.other)))
  | inr quiet ↦ rw quiet (omega arith)
]

moves_from_few : (board : Shape) (s : Sides) (u : ℕ) → length (moves_from board s u) ≤ 1024
unfolding moves_from
moves_from_few board s u =
    omega (arith, length-flat_map_le (moves_to board s u) 32 (members (reach board s u)) (moves_to_few board s u), members_few (reach board s u))

pub moves_of_few : (board : Shape) (s : Sides) → length (moves_of board s) ≤ 32768
unfolding moves_of
moves_of_few board s = omega (arith, length-flat_map_le (moves_from board s) 1024 (members s.own) (moves_from_few board s), members_few s.own)

pub quiet_results_few : (board : Shape) (o : Order) (c : Counts) (s : Sides) → length (quiet_results board o c s) ≤ 32768
unfolding quiet_results
quiet_results_few board o c s =
    omega (
      arith,
      length-map (filter is_quiet (moves_of board s)) (λ m. index_in board board.points o c (result_of s m)),
      length-filter_le is_quiet (moves_of board s),
      moves_of_few board s,
    )

-- ---- the laws of a graph

cond_few : (b : Bool) (x y n : ℕ) → x ≤ n → y ≤ n → cond b x y ≤ n
cond_few true x y n h k = h
cond_few false x y n h k = k

-- a search up to n plies answers at most n + 1
code_to-few : (board : Shape) (s : Sides) (n : ℕ) → code_to n board s ≤ n + 1
unfolding code_to
code_to-few board s zero = cond_few (is_decided zero board s) 1 0 1 (omega arith) (omega arith)
code_to-few board s (suc n) =
    cond_few (is_decided n board s) (code_to n board s) (cond {A = ℕ} (is_decided (suc n) board s) (n + 2) 0) (suc n + 1)
    (omega (arith, code_to-few board s n))
    (cond_few (is_decided (suc n) board s) (n + 2) 0 (suc n + 1) (omega arith) (omega arith))

module _ (board : Shape) (few : board.points ≤ 24) (y : HasSymmetries board) (o : Order) (c : Counts) (pair : IsPair board.points c) where
  entries : IsLaid board o c
  entries = laid_in board few y o c pair

  -- what quiet moves lead to are nodes
  pub quiet-inside : (i j : ℕ) → Contains ((net_in board o c).quiet i) j → j < count_in board board.points o c
  unfolding net_in quiet_results
  quiet-inside i j at =
      let from = Contains-flat_map_cases (quiet_results board o c) (at_index board o c i) j at in
      let s = from.0 in
      let w = at_index-position board few o c entries pair i s from.1 in
      let by = Contains-map_cases (λ m. index_in board board.points o c (result_of s m)) (filter is_quiet (moves_of board s)) j from.2 in
      let m = by.0 in
      let passed = filter-contains is_quiet (moves_of board s) m by.1 in
      let there = result-position board few s w.0 m passed.0 in
      let of = quiet-stays board few s w.0 m passed.0 c w.1 passed.1 in
      subst (λ k. k < count_in board board.points o c) by.2 (node_below board few o c entries (result_of s m) there of)

  -- and there are few of them
  pub quiet-few : (i : ℕ) → length ((net_in board o c).quiet i) ≤ 65535
  unfolding net_in
  quiet-few i = from (at_index board o c i) refl
    where
      from : (ss : List Sides) → at_index board o c i ≡ ss → length (flat_map (quiet_results board o c) (at_index board o c i)) ≤ 65535
      from [] e = omega (arith, ap (λ ts. length (flat_map (quiet_results board o c) ts)) e)
      from (s ∷ ss) e =
          let at : Contains (at_index board o c i) s = subst (λ ts. Contains ts s) (sym e) (Contains-head s ss) in
          let w = at_index-position board few o c entries pair i s at in
          let one : at_index board o c i ≡ s ∷ [] = ap (at_index board o c) (sym w.3) ∙ at_index-is board few o c entries s w.0 w.1 w.2 in
          let same : length (flat_map (quiet_results board o c) (at_index board o c i)) ≡ length (quiet_results board o c s) =
          ap (λ ts. length (flat_map (quiet_results board o c) ts)) one ∙ ap length (flat_map-one (quiet_results board o c) s) in
          omega (arith, quiet_results_few board o c s)

  -- the codes of captures fit 16 bits
  pub exits-few : (i code : ℕ) → Contains ((net_in board o c).exits i) code → code ≤ 65535
  unfolding net_in capture_codes
  exits-few i code at =
      let from = Contains-flat_map_cases (capture_codes board) (at_index board o c i) code at in
      let by = Contains-map_cases (λ m. code_to 65534 board (result_of from.0 m)) (filter is_capture (moves_of board from.0)) code from.2 in
      omega (arith, by.2, code_to-few board (result_of from.0 by.0) 65534)

  pub IsNet-net_in : IsNet (net_in board o c)
  IsNet-net_in = record {
    small = rw (size-net_in board o c) (entries_few board few y c pair o);
    inside = λ i low.
        All-from_contained (λ j. j < (net_in board o c).size) ((net_in board o c).quiet i) (λ j at. rw (size-net_in board o c) (quiet-inside i j at));
    few = λ i low. quiet-few i;
    codes = λ i low. All-from_contained (λ code. code ≤ 65535) ((net_in board o c).exits i) (exits-few i);
  }

-- ---- the test of a graph

module _ (g : Net) where
  limits_preserved : (i : ℕ) → preserves_limits g i ≡ true
      → All (λ j. j < g.size) (g.quiet i) × (length (g.quiet i) ≤ 65535) × All (λ code. code ≤ 65535) (g.exits i)
  unfolding preserves_limits
  limits_preserved i h =
      let first = and_parts (list_all (λ j. ltb j g.size) (g.quiet i)) _ h in
      let second = and_parts (leb (length (g.quiet i)) 65535) (list_all (λ code. leb code 65535) (g.exits i)) first.1 in (
        All-from_contained (λ j. j < g.size) (g.quiet i) (λ j at. ltb-true j g.size (all_contained (λ j. ltb j g.size) (g.quiet i) first.0 j at)),
        leb-true (length (g.quiet i)) 65535 second.0,
        All-from_contained (λ code. code ≤ 65535) (g.exits i) (λ code at. leb-true code 65535 (all_contained (λ code. leb code 65535) (g.exits i) second.1 code at)),
      )

  preserves : IsNet g → (i : ℕ) → i < g.size → preserves_limits g i ≡ true
  unfolding preserves_limits
  preserves h i low =
      and_from (list_all (λ j. ltb j g.size) (g.quiet i)) _
      (contained_all (λ j. ltb j g.size) (g.quiet i) (λ j at. lt-ltb j g.size (All-contains (λ j. j < g.size) (g.quiet i) j (h.inside i low) at)))
      (and_from (leb (length (g.quiet i)) 65535) _ (le-leb (length (g.quiet i)) 65535 (h.few i low))
      (contained_all (λ code. leb code 65535) (g.exits i) (λ code at. le-leb code 65535 (All-contains (λ code. code ≤ 65535) (g.exits i) code (h.codes i low) at))))

  is_net-true : IsNet g → is_net g ≡ true
  unfolding is_net
  is_net-true h =
      and_from (leb g.size (2 ^ 40)) _ (le-leb g.size (2 ^ 40) h.small)
      (contained_all (preserves_limits g) (range_with_len 0 g.size) (λ i at. preserves h i (omega (arith, (range_bounds 0 g.size i at).1))))

  IsNet-tested : is_net g ≡ true → IsNet g
  unfolding is_net
  IsNet-tested h =
      let parts = and_parts (leb g.size (2 ^ 40)) (list_all (preserves_limits g) (range_with_len 0 g.size)) h in
      let each : (i : ℕ) → i < g.size → preserves_limits g i ≡ true = below (preserves_limits g) g.size parts.1 in
      record {
        small = leb-true g.size (2 ^ 40) parts.0;
        inside = λ i low. (limits_preserved i (each i low)).0;
        few = λ i low. (limits_preserved i (each i low)).1;
        codes = λ i low. (limits_preserved i (each i low)).2;
      }

-- a graph without nodes
IsNet-none : (g : Net) → g.size ≡ 0 → IsNet g
IsNet-none g none = record {
  small = omega arith;
  inside = λ i low. absurd (omega arith);
  few = λ i low. absurd (omega arith);
  codes = λ i low. absurd (omega arith);
}

-- each level stands for a graph
pub IsNet-net_at : (board : Shape) (level : ℕ) → IsNet (net_at board level)
unfolding net_at
IsNet-net_at board level = elim (cases_Bool (is_pair board.points (counts_at level) && is_net (net_in board (order_at level) (counts_at level)))) [
  | inl both ↦
      let parts = and_parts (is_pair board.points (counts_at level)) (is_net (net_in board (order_at level) (counts_at level))) both in
      rw both (IsNet-tested (net_in board (order_at level) (counts_at level)) parts.1)
  | inr neither ↦ rw neither (IsNet-none _ refl)
]

-- the graph of the level of a pair is the pair's
pub net_at-level_in : (board : Shape) → is_board board ≡ true → HasSymmetries board → (o : Order) (c : Counts) → IsPair board.points c
    → net_at board (level_in o c) ≡ net_in board o c
unfolding net_at
net_at-level_in board lawful y o c h =
    let counts_is : counts_at (level_in o c) ≡ c = level-counts board.points o c h in
    let order_is : order_at (level_in o c) ≡ o = level-order board.points o c h in
    let tested : is_net (net_in board o c) ≡ true = is_net-true (net_in board o c) (IsNet-net_in board (points_few board lawful) y o c h) in
    rw (counts_is, order_is, pair_passes board.points c h, tested) refl
