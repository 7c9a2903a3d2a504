-- The graph of a pair, in each order, is too deep exactly where codes of 16 bits can't state the
-- game's values.
use Rattle.std.proofs.Common.{◌≡◌, ℕ, suc, ◌-◌, ◌<◌, ◌≤◌, ◌%◌, max, Bool, true, false, not, ltb, leb, List, [], ◌∷◌, map, Option, Some, None, is_none, filter, refl, sym, ap, subst, ◌∙◌, inl, inr, ◌⊎◌, arith}
use Rattle.std.proofs.lemmas.Bool.{cases_lt, both_ways, and_parts, and_from, eqb-true, eqb-false, eq-eqb, ltb-true, ltb-false, leb-true, le-leb, not-true, false_from_ne_true}
use Rattle.std.specs.List.{Contains}
use Rattle.morris_board.specs.Boards.{Shape}
use Rattle.morris_board.specs.Positions.{Sides, IsPosition}
use Rattle.morris_board.specs.Symmetries.{HasSymmetries}
use Rattle.morris_moves.specs.declared.game_move.Move.{Move}
use Rattle.morris_moves.specs.Rules.{moves_of, result_of}
use Rattle.morris_moves.specs.Values.{IsLostIn}
use Rattle.morris_moves.proofs.ListLaws.{Contains-head, Contains-tail, Contains-map, Contains-map_cases, any_contained, contained_any}
use Rattle.morris_moves.proofs.ValueLaws.{lost_is_even}
use Rattle.morris_index.specs.Pairs.{Counts, IsPair, is_of}
use Rattle.morris_wave.specs.Nets.{Net}
use Rattle.morris_wave.specs.Exits.{is_odd, is_won_code, maximum, depths, exits_of, some_below}
use Rattle.morris_wave.specs.Values.{is_lost_exit, HasDepth, HasCode, IsTooDeep}
use Rattle.morris_wave.proofs.ExitTests.{some_exit_lost}
use Rattle.morris_pairs.specs.Orders.{Order, index_in, own_in}
use Rattle.morris_pairs.specs.EntryLaws.{IsLaid, laid_in}
use Rattle.morris_pairs.specs.Codes.{IsCodeOf, code_to}
use Rattle.morris_pairs.specs.PairNets.{is_capture, capture_codes, net_in}
use Rattle.morris_pairs.specs.Known.{IsKnown, WinsLateByCapture, IsBeyondCodes}
use Rattle.morris_pairs.specs.FilterLaws.{filter-contains, contained-filter}
use Rattle.morris_pairs.proofs.CodeLaws.{one_code, code_cases, code_of_lost, code_to-is}
use Rattle.morris_pairs.specs.NetLaws.{size-net_in, node_below, exits-at}
use Rattle.morris_pairs.proofs.PositionLaws.{position_of_node}
use Rattle.morris_pairs.proofs.LateLaws.{wins_late-image}
use Rattle.morris_pairs.proofs.NodeLaws.{node_code, code_node}

-- ---- exits of the depth 65,534

some_between : (n : ℕ) (o : Option ℕ) → some_below (suc n) o ≡ true → some_below n o ≡ false → o ≡ Some n
some_between n None h k = absurd (both_ways false refl h)
some_between n (Some depth) h k = let e : depth ≡ n = omega (arith, ltb-true depth (suc n) h, ltb-false depth n k) in ap Some e

-- the least depth of a lost exit is 65,534 where an exit is lost in so many plies, and none in
-- fewer
module _ (codes : List ℕ) where
  late_odd : (exits_of codes).least_lost ≡ Some 65534 → (code : ℕ) → Contains codes code → is_odd code ≡ true → 65535 ≤ code
  late_odd e code at odd =
      let lost : is_lost_exit code code ≡ true = and_from (is_odd code) (leb code code) odd (le-leb code code (omega arith)) in
      let before : ltb 65534 code ≡ true =
      ap (some_below code) (sym e) ∙ sym (some_exit_lost code codes) ∙ contained_any (is_lost_exit code) codes code at lost in
      omega (arith, ltb-true 65534 code before)

  late_in : (exits_of codes).least_lost ≡ Some 65534 → Contains codes 65535
  late_in e =
      let found = any_contained (is_lost_exit 65535) codes (some_exit_lost 65535 codes ∙ ap (some_below 65535) e) in
      let w = and_parts (is_odd found.0) (leb found.0 65535) found.2 in
      let code : found.0 ≡ 65535 = omega (arith, leb-true found.0 65535 w.1, late_odd e found.0 found.1 w.0) in
      subst (Contains codes) code found.1

  late_back : Contains codes 65535 → ((code : ℕ) → Contains codes code → is_odd code ≡ true → 65535 ≤ code)
      → (exits_of codes).least_lost ≡ Some 65534
  late_back at each =
      some_between 65534 (exits_of codes).least_lost
      (sym (some_exit_lost 65535 codes) ∙ contained_any (is_lost_exit 65535) codes 65535 at refl)
      (sym (some_exit_lost 65534 codes) ∙ false_from_ne_true _ (λ h.
      let found = any_contained (is_lost_exit 65534) codes h in
      let w = and_parts (is_odd found.0) (leb found.0 65534) found.2 in
      omega (arith, leb-true found.0 65534 w.1, each found.0 found.1 w.0)))

-- the greatest number of a list stands in it
Some_same : (x y : ℕ) → Some x ≡ Some y → x ≡ y
Some_same x y e = ap (λ (o : Option ℕ). elim o [ None ↦ x | Some z ↦ z ]) e

greatest_of : (x n : ℕ) (o : Option ℕ) → elim o [ None ↦ x | Some y ↦ max x y ] ≡ n → (x ≡ n) ⊎ (o ≡ Some n)
greatest_of x n None e = inl e
greatest_of x n (Some y) e = elim (cases_lt y x) [
  | inl low ↦ inl (omega arith)
  | inr high ↦ let same : y ≡ n = omega arith in inr (ap Some same)
]

greatest_in : (xs : List ℕ) (n : ℕ) → maximum xs ≡ Some n → Contains xs n
greatest_in [] n e = absurd (both_ways true (ap is_none e) refl)
greatest_in (x ∷ xs) n e = elim (greatest_of x n (maximum xs) (Some_same _ n e)) [
  | inl here ↦ subst (Contains (x ∷ xs)) here (Contains-head x xs)
  | inr later ↦ Contains-tail x xs n (greatest_in xs n later)
]

-- a depth that is listed is that of a code that passes
depth_in : (p : ℕ → Bool) (codes : List ℕ) (depth : ℕ) → Contains (depths p codes) depth
    → (code : ℕ) × Contains codes code × (p code ≡ true) × (code - 1 ≡ depth)
depth_in p codes depth at =
    let by = Contains-map_cases (λ code. code - 1) (filter p codes) depth at in
    let passed = filter-contains p codes by.0 by.1 in
    (by.0, passed.0, passed.1, by.2)

-- a win has an odd depth
no_deep_win : (codes : List ℕ) → (exits_of codes).greatest_won ≡ Some 65534 → ⊥
no_deep_win codes e =
    let found = depth_in is_won_code codes 65534 (greatest_in (depths is_won_code codes) 65534 e) in
    let code : found.0 ≡ 65535 = omega arith in
    let even = and_parts (not (is_odd found.0)) (ltb 0 found.0) found.2 in
    eqb-false (found.0 % 2) 1 (not-true (is_odd found.0) even.0) (omega arith)

-- ---- too deep

-- why a node makes its graph too deep
abbrev IsDeepNode : Net → ℕ → Type 0
IsDeepNode g i = ((depth : ℕ) × (65534 ≤ depth) × HasDepth g i depth)
    ⊎ (((exits_of (g.exits i)).least_lost ≡ Some 65534) ⊎ ((exits_of (g.exits i)).greatest_won ≡ Some 65534))

module _ (board : Shape) (few : board.points ≤ 24) (y : HasSymmetries board) (o : Order) (c : Counts) (pair : IsPair board.points c) (known : IsKnown board c) where
  entries : IsLaid board o c
  entries = laid_in board few y o c pair

  -- whether the captures of a node lead to a loss in 65,534 plies and to none in fewer
  abbrev deep_at : ℕ → Type 0
  deep_at i = (exits_of ((net_in board o c).exits i)).least_lost ≡ Some 65534

  module _ (s : Sides) (h : IsPosition board s) (of : is_of c s ≡ true) (own : own_in board o s ≡ true) where
    abbrev codes : List ℕ
    codes = (net_in board o c).exits (index_in board board.points o c s)

    code_is : (m : Move) → Contains (moves_of board s) m → is_capture m ≡ true → (code : ℕ) → IsCodeOf board (result_of s m) code
        → code_to 65534 board (result_of s m) ≡ code
    code_is m listed takes code is =
        let k = known s h of m listed takes in
        code_to-is board (result_of s m) k.0 k.2 k.1 ∙ one_code board (result_of s m) k.0 code k.2 is

    -- the exits of a node are the codes of what the captures of its position lead to
    capture_code : (code : ℕ) → Contains codes code → (m : Move) × Contains (moves_of board s) m × (is_capture m ≡ true) × IsCodeOf board (result_of s m) code
    unfolding capture_codes
    capture_code code listed =
        let by = Contains-map_cases (λ m. code_to 65534 board (result_of s m)) (filter is_capture (moves_of board s)) code
        (subst (λ xs. Contains xs code) (exits-at board few o c entries s h of own) listed) in
        let m = by.0 in
        let passed = filter-contains is_capture (moves_of board s) m by.1 in
        let k = known s h of m passed.0 passed.1 in
        (m, passed.0, passed.1, subst (IsCodeOf board (result_of s m)) (sym (code_is m passed.0 passed.1 k.0 k.2) ∙ by.2) k.2)

    code_captured : (m : Move) → Contains (moves_of board s) m → is_capture m ≡ true → (code : ℕ) → IsCodeOf board (result_of s m) code → Contains codes code
    unfolding capture_codes
    code_captured m listed takes code is =
        let moves = contained-filter is_capture (moves_of board s) m listed takes in
        let there = Contains-map (λ m. code_to 65534 board (result_of s m)) (filter is_capture (moves_of board s)) m moves in
        subst (λ xs. Contains xs code) (sym (exits-at board few o c entries s h of own))
        (subst (Contains (map (λ m. code_to 65534 board (result_of s m)) (filter is_capture (moves_of board s)))) (code_is m listed takes code is) there)

    -- an odd code is a loss
    lost_of : (m : Move) (code : ℕ) → IsCodeOf board (result_of s m) code → is_odd code ≡ true
        → (depth : ℕ) × (code ≡ suc depth) × IsLostIn board (result_of s m) depth
    lost_of m code k odd = elim (code_cases board (result_of s m) code k) [
      | inl draw ↦ absurd (omega (arith, draw.0, eqb-true (code % 2) 1 odd))
      | inr decided ↦ elim decided [
        | inl lost ↦ (lost.0, lost.1, lost.3)
        | inr won ↦ absurd (omega (arith, won.1, won.2, eqb-true (code % 2) 1 odd))
      ]
    ]

    wins_late : deep_at (index_in board board.points o c s) → WinsLateByCapture board s
    wins_late e =
        let at = capture_code 65535 (late_in codes e) in
        let lost = lost_of at.0 65535 at.3 refl in
        let depth : lost.0 ≡ 65534 = omega (arith, lost.1) in
        record {
          late = (at.0, at.1, at.2, subst (IsLostIn board (result_of s at.0)) depth lost.2);
          none_before = λ m d listed takes is.
              let even = lost_is_even board (result_of s m) d is in
              let there = code_captured m listed takes (suc d) (code_of_lost board (result_of s m) d is) in
              let odd : is_odd (suc d) ≡ true = eq-eqb (suc d % 2) 1 (omega arith) in
              omega (arith, late_odd codes e (suc d) there odd);
        }

    wins_late_back : WinsLateByCapture board s → deep_at (index_in board board.points o c s)
    wins_late_back w =
        let m = w.late.0 in
        late_back codes (code_captured m w.late.1 w.late.2 65535 (code_of_lost board (result_of s m) 65534 w.late.3)) (λ code at odd.
        let by = capture_code code at in
        let lost = lost_of by.0 code by.3 odd in
        omega (arith, lost.1, w.none_before by.0 lost.0 by.1 by.2 lost.2))

    node_deep : IsDeepNode (net_in board o c) (index_in board board.points o c s) → IsBeyondCodes board c
    node_deep why = elim why [
      | inl deep ↦ (s, h, of, inl (suc deep.0, omega (arith, deep.1), node_code board few o c entries known s h of (suc deep.0) deep.2))
      | inr exits ↦ elim exits [
        | inl lost ↦ (s, h, of, inr (wins_late lost))
        | inr won ↦ absurd (no_deep_win codes won)
      ]
    ]

  -- the graph is too deep exactly where the values of the pair, or those that its captures lead to,
  -- are beyond codes of 16 bits
  pub too_deep_game : IsTooDeep (net_in board o c) → IsBeyondCodes board c
  too_deep_game deep =
      let at = position_of_node board few y o c pair deep.0 (rw (size-net_in board o c) at deep.1) in
      let w = at.1 in
      node_deep at.0 w.position w.of w.own (subst (IsDeepNode (net_in board o c)) (sym w.entry) deep.2)

  -- a position that wins late by a capture is that of a node, or the image of such a one
  late_node : (s : Sides) → IsPosition board s → is_of c s ≡ true → WinsLateByCapture board s → deep_at (index_in board board.points o c s)
  late_node s h of w =
      let stands = entries.stands s h of in
      let t = stands.0 in
      let u = stands.1 in
      subst deep_at u.entry (wins_late_back t u.position u.of u.own (wins_late-image board few s t h u.image w))

  pub game_too_deep : IsBeyondCodes board c → IsTooDeep (net_in board o c)
  game_too_deep beyond =
      let s = beyond.0 in
      let h = beyond.1 in
      let of = beyond.2 in
      let i = index_in board board.points o c s in
      let low : index_in board board.points o c s < (net_in board o c).size = rw (size-net_in board o c) (node_below board few o c entries s h of) in
      elim beyond.3 [
        | inl great ↦
            let depth : great.0 ≡ suc (great.0 - 1) = omega (arith, great.1) in
            let node = code_node board few o c entries known s h of great.0 great.2 in
            (i, low, inl (great.0 - 1, omega (arith, great.1), subst (HasCode (net_in board o c) i) depth node))
        | inr late ↦ (i, low, inr (inl (late_node s h of late)))
      ]
