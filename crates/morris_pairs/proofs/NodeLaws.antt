-- The value of a node in the graph of a pair is the game's value at its position.
use Rattle.std.proofs.Common.{◌≡◌, ℕ, zero, suc, ◌<◌, ◌≤◌, ◌%◌, Bool, true, false, not, ◌&&◌, ◌||◌, ltb, leb, List, [], ◌∷◌, filter, refl, sym, ap, ap₂, subst, ◌∙◌, inl, inr, arith}
use Rattle.std.proofs.lemmas.Bool.{cases_lt, both_ways, and_from, and_left, or_cases, or_parts, or_from, or_left, or_right, le-leb, lt-leb, lt-ltb, eq-eqb, ne_eqb, not-true, not_from_false, not_from_true, false_from_ne_true}
use Rattle.std.proofs.lemmas.List.Folds.{list_all-map}
use Rattle.std.specs.List.{Contains, list_all, list_any}
use Rattle.morris_board.specs.Boards.{Shape}
use Rattle.morris_board.specs.Positions.{Sides, IsPosition}
use Rattle.morris_moves.specs.declared.game_move.Move.{Move}
use Rattle.morris_moves.specs.Rules.{moves_of, result_of}
use Rattle.morris_moves.specs.Values.{IsOpen, IsLostIn, IsWonIn}
use Rattle.morris_moves.specs.Values.{is_lost as is_lost_game, is_won as is_won_game}
use Rattle.morris_moves.proofs.ValueLaws.{lost_longer, won_longer, never_both, searched}
use Rattle.morris_index.specs.Pairs.{Counts, IsPair, is_of, all_needs}
use Rattle.morris_wave.specs.Exits.{is_odd, is_won_code}
use Rattle.morris_wave.specs.Values.{is_lost_before, is_won_before, is_decided, some_lost, all_won, is_lost_exit, is_won_exit, HasDepth, HasCode}
use Rattle.morris_wave.proofs.Depths.{decided_by_then, none_decided}
use Rattle.morris_pairs.specs.Codes.{IsCodeOf, code_to}
use Rattle.morris_pairs.specs.Orders.{Order, index_in, own_in}
use Rattle.morris_pairs.specs.EntryLaws.{StandsFor, IsLaid}
use Rattle.morris_pairs.specs.PairNets.{is_quiet, is_capture, quiet_results, capture_codes, net_in}
use Rattle.morris_pairs.specs.Known.{IsTabled, IsKnown}
use Rattle.morris_pairs.specs.FilterLaws.{list_any-map, all_parts, any_parts}
use Rattle.morris_pairs.proofs.CodeLaws.{code_cases, code_of_draw, code_of_lost, code_of_won, code_of_stuck, decided_not, code_to-open, code_to-is}
use Rattle.morris_pairs.specs.NetLaws.{quiet-at, exits-at, result-position, quiet-stays, capture-leads}

-- ---- a pair is known where the pairs that it needs are tabled

pub known_by_tables : (board : Shape) (c : Counts) → board.points ≤ 24 → IsPair board.points c
    → ((d : Counts) → Contains (all_needs c) d → IsTabled board d) → IsKnown board c
known_by_tables board c few pair tables s h of m listed takes =
    let there = result-position board few s h m listed in
    elim (capture-leads board few s h m listed c pair of (not-true (is_quiet m) takes)) [
      | inl two ↦ (1, omega arith, code_of_stuck board (result_of s m) (omega arith))
      | inr d ↦ tables d.0 d.1 (result_of s m) there d.2
    ]

-- ---- lost and won in fewer than n plies, as graphs count: within n - 1, and for n = 0 never

lost_before : ℕ → Shape → Sides → Bool
lost_before zero board s = false
lost_before (suc n) board s = is_lost_game n board s

won_before : ℕ → Shape → Sides → Bool
won_before zero board s = false
won_before (suc n) board s = is_won_game n board s

lost_before-same : (n : ℕ) (board : Shape) (s t : Sides) → ((k : ℕ) → is_lost_game k board s ≡ is_lost_game k board t) → lost_before n board s ≡ lost_before n board t
unfolding lost_before
lost_before-same zero board s t same = refl
lost_before-same (suc n) board s t same = same n

won_before-same : (n : ℕ) (board : Shape) (s t : Sides) → ((k : ℕ) → is_won_game k board s ≡ is_won_game k board t) → won_before n board s ≡ won_before n board t
unfolding won_before
won_before-same zero board s t same = refl
won_before-same (suc n) board s t same = same n

lost_before-suc : (n : ℕ) (board : Shape) (s : Sides) → lost_before (suc n) board s ≡ list_all (λ m. won_before n board (result_of s m)) (moves_of board s)
unfolding is_lost_game lost_before won_before
lost_before-suc zero board s = refl
lost_before-suc (suc n) board s = refl

none_of : {X : Type 0} (xs : List X) → false ≡ list_any (λ (x : X). false) xs
none_of [] = refl
none_of (x ∷ xs) = none_of xs

won_before-suc : (n : ℕ) (board : Shape) (s : Sides) → won_before (suc n) board s ≡ list_any (λ m. lost_before n board (result_of s m)) (moves_of board s)
unfolding is_won_game lost_before won_before
won_before-suc zero board s = none_of (moves_of board s)
won_before-suc (suc n) board s = refl

-- ---- what a code says is what the game says

is_odd-after_even : (depth : ℕ) → depth % 2 ≡ 0 → is_odd (suc depth) ≡ true
is_odd-after_even depth e = eq-eqb (suc depth % 2) 1 (omega arith)

is_odd-after_odd : (depth : ℕ) → depth % 2 ≡ 1 → is_odd (suc depth) ≡ false
is_odd-after_odd depth e = ne_eqb (suc depth % 2) 1 (λ z. omega arith)

is_won_code-after_odd : (depth : ℕ) → depth % 2 ≡ 1 → is_won_code (suc depth) ≡ true
is_won_code-after_odd depth e = and_from (not (is_odd (suc depth))) (ltb 0 (suc depth)) (not_from_false _ (is_odd-after_odd depth e)) (lt-ltb 0 (suc depth) (omega arith))

is_won_code-after_even : (depth : ℕ) → depth % 2 ≡ 0 → is_won_code (suc depth) ≡ false
is_won_code-after_even depth e = and_left (not (is_odd (suc depth))) (ltb 0 (suc depth)) (not_from_true _ (is_odd-after_even depth e))

module _ (board : Shape) (t : Sides) where
  open_lost : (n : ℕ) → ((k : ℕ) → k < n → IsOpen board t k) → lost_before n board t ≡ false
  unfolding lost_before
  open_lost zero each = refl
  open_lost (suc n) each = (each n (omega arith)).not_lost

  open_won : (n : ℕ) → ((k : ℕ) → k < n → IsOpen board t k) → won_before n board t ≡ false
  unfolding won_before
  open_won zero each = refl
  open_won (suc n) each = (each n (omega arith)).not_won

  lost_by : (depth n : ℕ) → IsLostIn board t depth → lost_before n board t ≡ leb (suc depth) n
  unfolding lost_before
  lost_by depth zero h = sym (lt-leb (suc depth) zero (omega arith))
  lost_by depth (suc n) h = elim (cases_lt n depth) [
    | inl early ↦ (h.least n early).not_lost ∙ sym (lt-leb (suc depth) (suc n) (omega arith))
    | inr reached ↦ lost_longer board t depth n reached h.lost ∙ sym (le-leb (suc depth) (suc n) (omega arith))
  ]

  won_by : (depth n : ℕ) → IsWonIn board t depth → won_before n board t ≡ leb (suc depth) n
  unfolding won_before
  won_by depth zero h = sym (lt-leb (suc depth) zero (omega arith))
  won_by depth (suc n) h = elim (cases_lt n depth) [
    | inl early ↦ (h.least n early).not_won ∙ sym (lt-leb (suc depth) (suc n) (omega arith))
    | inr reached ↦ won_longer board t depth n reached h.won ∙ sym (le-leb (suc depth) (suc n) (omega arith))
  ]

  lost_not_won_before : (depth n : ℕ) → IsLostIn board t depth → won_before n board t ≡ false
  unfolding won_before
  lost_not_won_before depth zero h = refl
  lost_not_won_before depth (suc n) h = false_from_ne_true _ (λ won. never_both board t depth n h.lost won)

  won_not_lost_before : (depth n : ℕ) → IsWonIn board t depth → lost_before n board t ≡ false
  unfolding lost_before
  won_not_lost_before depth zero h = refl
  won_not_lost_before depth (suc n) h = false_from_ne_true _ (λ lost. never_both board t n depth lost h.won)

  exit_lost : (n code : ℕ) → IsCodeOf board t code → is_lost_exit n code ≡ lost_before n board t
  exit_lost n code h = elim (code_cases board t code h) [
    | inl draw ↦ ap (is_lost_exit n) draw.0 ∙ sym (open_lost n (λ k low. draw.1.never k))
    | inr decided ↦ elim decided [
      | inl lost ↦
          ap (is_lost_exit n) lost.1 ∙ ap (λ b. b && leb (suc lost.0) n) (is_odd-after_even lost.0 lost.2) ∙ sym (lost_by lost.0 n lost.3)
      | inr won ↦
          ap (is_lost_exit n) won.1 ∙ ap (λ b. b && leb (suc won.0) n) (is_odd-after_odd won.0 won.2) ∙ sym (won_not_lost_before won.0 n won.3)
    ]
  ]

  exit_won : (n code : ℕ) → IsCodeOf board t code → is_won_exit n code ≡ won_before n board t
  exit_won n code h = elim (code_cases board t code h) [
    | inl draw ↦ ap (is_won_exit n) draw.0 ∙ sym (open_won n (λ k low. draw.1.never k))
    | inr decided ↦ elim decided [
      | inl lost ↦
          ap (is_won_exit n) lost.1 ∙ ap (λ b. b && leb (suc lost.0) n) (is_won_code-after_even lost.0 lost.2) ∙ sym (lost_not_won_before lost.0 n lost.3)
      | inr won ↦
          ap (is_won_exit n) won.1 ∙ ap (λ b. b && leb (suc won.0) n) (is_won_code-after_odd won.0 won.2) ∙ sym (won_by won.0 n won.3)
    ]
  ]

  -- what the code that a search up to 65,534 plies finds says in fewer than n plies is what the
  -- game says
  abbrev IsSearched : ℕ → Type 0
  IsSearched n =
      (is_lost_exit n (code_to 65534 board t) ≡ lost_before n board t) × (is_won_exit n (code_to 65534 board t) ≡ won_before n board t)

  -- always so where the position has a code of 16 bits
  searched_small : (n code : ℕ) → IsCodeOf board t code → code ≤ 65535 → IsSearched n
  searched_small n code is small =
      let there : IsCodeOf board t (code_to 65534 board t) = subst (IsCodeOf board t) (sym (code_to-is board t code is small)) is in
      (exit_lost n (code_to 65534 board t) there, exit_won n (code_to 65534 board t) there)

  -- and at each position where the plies are within those of the search
  searched_early : (n : ℕ) → n ≤ 65535 → IsSearched n
  searched_early n few = elim (searched board t 65535) [
    | inl before ↦
        let none : code_to 65534 board t ≡ 0 = code_to-open board t 65534 (λ k low. decided_not board t k (before k (omega arith))) in (
          ap (is_lost_exit n) none ∙ sym (open_lost n (λ k low. before k (omega arith))),
          ap (is_won_exit n) none ∙ sym (open_won n (λ k low. before k (omega arith))),
        )
    | inr found ↦ elim found.2 [
      | inl lost ↦ searched_small n (suc found.0) (code_of_lost board t found.0 lost) (omega (arith, found.1))
      | inr won ↦ searched_small n (suc found.0) (code_of_won board t found.0 won) (omega (arith, found.1))
    ]
  ]

-- ---- a node is lost, or won, where its position is

module _ (board : Shape) (few : board.points ≤ 24) (o : Order) (c : Counts) (laid : IsLaid board o c) where
  abbrev Agrees : ℕ → Sides → Type 0
  Agrees n s =
      (is_lost_before (net_in board o c) n (index_in board board.points o c s) ≡ lost_before n board s)
      × (is_won_before (net_in board o c) n (index_in board board.points o c s) ≡ won_before n board s)

  -- the exits of the pair's nodes are lost, and won, where the positions are that the captures lead
  -- to
  abbrev ExitsAgree : ℕ → Type 0
  ExitsAgree n =
      (s : Sides) → IsPosition board s → is_of c s ≡ true → (m : Move) → Contains (moves_of board s) m → is_quiet m ≡ false → IsSearched board (result_of s m) n

  -- so they are where these have codes of 16 bits
  exits_known : IsKnown board c → (n : ℕ) → ExitsAgree n
  exits_known known n s h of m listed takes =
      let k = known s h of m listed (not_from_false (is_quiet m) takes) in
      searched_small board (result_of s m) n k.0 k.2 k.1

  -- one ply more, where each quiet result agrees
  module _ (n : ℕ) (exits : ExitsAgree n) (s : Sides) (h : IsPosition board s) (of : is_of c s ≡ true) (cache : own_in board o s ≡ true)
      (each : (t : Sides) → IsPosition board t → is_of c t ≡ true → Agrees n t) where
    there : (m : Move) → Contains (moves_of board s) m → is_quiet m ≡ true → Agrees n (result_of s m)
    there m listed quiet = each (result_of s m) (result-position board few s h m listed) (quiet-stays board few s h m listed c of quiet)

    all_agree : all_won (net_in board o c) (is_won_before (net_in board o c) n) n (index_in board board.points o c s) ≡ lost_before (suc n) board s
    unfolding quiet_results capture_codes
    all_agree =
        ap₂ (λ quiet codes. list_all (is_won_before (net_in board o c) n) quiet && list_all (is_won_exit n) codes)
        (quiet-at board few o c laid s h of cache) (exits-at board few o c laid s h of cache)
        ∙ ap₂ (λ a b. a && b)
        (list_all-map (is_won_before (net_in board o c) n) (λ m. index_in board board.points o c (result_of s m)) (filter is_quiet (moves_of board s)))
        (list_all-map (is_won_exit n) (λ m. code_to 65534 board (result_of s m)) (filter is_capture (moves_of board s)))
        ∙ all_parts is_quiet (λ m. won_before n board (result_of s m))
        (λ m. is_won_before (net_in board o c) n (index_in board board.points o c (result_of s m))) (λ m. is_won_exit n (code_to 65534 board (result_of s m)))
        (moves_of board s) (λ m listed quiet. (there m listed quiet).1) (λ m listed takes. (exits s h of m listed takes).1)
        ∙ sym (lost_before-suc n board s)

    some_agree : some_lost (net_in board o c) (is_lost_before (net_in board o c) n) n (index_in board board.points o c s) ≡ won_before (suc n) board s
    unfolding quiet_results capture_codes
    some_agree =
        ap₂ (λ quiet codes. list_any (is_lost_before (net_in board o c) n) quiet || list_any (is_lost_exit n) codes)
        (quiet-at board few o c laid s h of cache) (exits-at board few o c laid s h of cache)
        ∙ ap₂ (λ a b. a || b)
        (list_any-map (is_lost_before (net_in board o c) n) (λ m. index_in board board.points o c (result_of s m)) (filter is_quiet (moves_of board s)))
        (list_any-map (is_lost_exit n) (λ m. code_to 65534 board (result_of s m)) (filter is_capture (moves_of board s)))
        ∙ any_parts is_quiet (λ m. lost_before n board (result_of s m))
        (λ m. is_lost_before (net_in board o c) n (index_in board board.points o c (result_of s m))) (λ m. is_lost_exit n (code_to 65534 board (result_of s m)))
        (moves_of board s) (λ m listed quiet. (there m listed quiet).0) (λ m listed takes. (exits s h of m listed takes).0)
        ∙ sym (won_before-suc n board s)

  -- the entry of a position is that of the one that stands for it, which has its value
  module _ (n : ℕ) (s : Sides) (t : Sides) (h : StandsFor board o c s t) where
    lost_stands : lost_before n board t ≡ lost_before n board s
    lost_stands = lost_before-same n board t s (λ k. sym (h.one_value.lost k))

    won_stands : won_before n board t ≡ won_before n board s
    won_stands = won_before-same n board t s (λ k. sym (h.one_value.won k))

    agrees_stands : Agrees n t → Agrees n s
    agrees_stands there = (
      ap (is_lost_before (net_in board o c) n) (sym h.entry) ∙ there.0 ∙ lost_stands,
      ap (is_won_before (net_in board o c) n) (sym h.entry) ∙ there.1 ∙ won_stands,
    )

  agrees : (n : ℕ) → ((k : ℕ) → k < n → ExitsAgree k) → (s : Sides) → IsPosition board s → is_of c s ≡ true → Agrees n s
  unfolding is_lost_before is_won_before lost_before won_before
  agrees zero exits s h of = (refl, refl)
  agrees (suc n) exits s h of =
      let here = exits n (omega arith) in
      let each = agrees n (λ k low. exits k (omega arith)) in
      let stands = laid.stands s h of in
      let t = stands.0 in
      let w = stands.1 in
      agrees_stands (suc n) s t w (all_agree n here t w.position w.of w.own each, some_agree n here t w.position w.of w.own each)

  -- where the exits agree in fewer plies than some number
  module _ (top : ℕ) (exits : (k : ℕ) → k < top → ExitsAgree k) (s : Sides) (h : IsPosition board s) (of : is_of c s ≡ true) where
    -- in fewer than n + 1 plies in the graph is within n plies in the game
    lost_same : (n : ℕ) → n < top → is_lost_before (net_in board o c) (suc n) (index_in board board.points o c s) ≡ is_lost_game n board s
    unfolding lost_before
    lost_same n low = (agrees (suc n) (λ k l. exits k (omega arith)) s h of).0

    won_same : (n : ℕ) → n < top → is_won_before (net_in board o c) (suc n) (index_in board board.points o c s) ≡ is_won_game n board s
    unfolding won_before
    won_same n low = (agrees (suc n) (λ k l. exits k (omega arith)) s h of).1

    -- ---- codes

    open_game : (n : ℕ) → n < top → is_decided (net_in board o c) (suc n) (index_in board board.points o c s) ≡ false → IsOpen board s n
    open_game n low e =
        let w = or_parts (is_lost_before (net_in board o c) (suc n) (index_in board board.points o c s)) (is_won_before (net_in board o c) (suc n) (index_in board board.points o c s)) e in
        record { not_lost = sym (lost_same n low) ∙ w.0; not_won = sym (won_same n low) ∙ w.1 }

    open_node : (n : ℕ) → n < top → IsOpen board s n → is_decided (net_in board o c) (suc n) (index_in board board.points o c s) ≡ false
    open_node n low still =
        or_from (is_lost_before (net_in board o c) (suc n) (index_in board board.points o c s)) (is_won_before (net_in board o c) (suc n) (index_in board board.points o c s))
        (lost_same n low ∙ still.not_lost) (won_same n low ∙ still.not_won)

    -- not before a depth in the graph is open below it in the game
    open_below : (depth : ℕ) → depth ≤ top → is_decided (net_in board o c) depth (index_in board board.points o c s) ≡ false → (k : ℕ) → k < depth → IsOpen board s k
    open_below depth few_plies e k low = open_game k (omega arith) (false_from_ne_true _ (λ d.
        both_ways _ e (decided_by_then (net_in board o c) (suc k) depth (index_in board board.points o c s) (omega arith) d)))

    open_before : (depth : ℕ) → depth ≤ top → ((k : ℕ) → k < depth → IsOpen board s k) → is_decided (net_in board o c) depth (index_in board board.points o c s) ≡ false
    open_before zero few_plies each = none_decided (net_in board o c) (index_in board board.points o c s)
    open_before (suc n) few_plies each = open_node n (omega arith) (each n (omega arith))

    -- the depth of the node is that of the position
    depth_code : (depth : ℕ) → depth < top → HasDepth (net_in board o c) (index_in board board.points o c s) depth → IsCodeOf board s (suc depth)
    depth_code depth low d =
        elim (or_cases (is_lost_before (net_in board o c) (suc depth) (index_in board board.points o c s)) (is_won_before (net_in board o c) (suc depth) (index_in board board.points o c s)) d.reached) [
          | inl lost ↦
              code_of_lost board s depth (record { lost = sym (lost_same depth low) ∙ lost; least = open_below depth (omega arith) d.not_before })
          | inr won ↦ code_of_won board s depth (record { won = sym (won_same depth low) ∙ won; least = open_below depth (omega arith) d.not_before })
        ]

    depth_lost : (depth : ℕ) → depth < top → IsLostIn board s depth → HasDepth (net_in board o c) (index_in board board.points o c s) depth
    depth_lost depth low h = record {
      reached = or_left _ (is_won_before (net_in board o c) (suc depth) (index_in board board.points o c s)) (lost_same depth low ∙ h.lost);
      not_before = open_before depth (omega arith) h.least;
    }

    depth_won : (depth : ℕ) → depth < top → IsWonIn board s depth → HasDepth (net_in board o c) (index_in board board.points o c s) depth
    depth_won depth low h = record {
      reached = or_right (is_lost_before (net_in board o c) (suc depth) (index_in board board.points o c s)) _ (won_same depth low ∙ h.won);
      not_before = open_before depth (omega arith) h.least;
    }

  -- a code of 16 bits that isn't that of a draw is the game's, whatever the captures lead to
  pub small_code : (s : Sides) → IsPosition board s → is_of c s ≡ true
      → (code : ℕ) → 0 < code → code ≤ 65535 → HasCode (net_in board o c) (index_in board board.points o c s) code → IsCodeOf board s code
  small_code s h of zero some_plies small d = absurd (omega arith)
  small_code s h of (suc depth) some_plies small d =
      depth_code 65535 (λ k low t place there m listed takes. searched_early board (result_of t m) k (omega arith)) s h of depth (omega arith) d

  module _ (known : IsKnown board c) where
    module _ (s : Sides) (h : IsPosition board s) (of : is_of c s ≡ true) where
      exits_here : (top k : ℕ) → k < top → ExitsAgree k
      exits_here top k low = exits_known known k

      -- the code of the node is the code of the position
      pub node_code : (code : ℕ) → HasCode (net_in board o c) (index_in board board.points o c s) code → IsCodeOf board s code
      node_code zero never = code_of_draw board s (record { never = λ n. open_game (suc n) (exits_here (suc n)) s h of n (omega arith) (never (suc n)) })
      node_code (suc depth) d = depth_code (suc depth) (exits_here (suc depth)) s h of depth (omega arith) d

      pub code_node : (code : ℕ) → IsCodeOf board s code → HasCode (net_in board o c) (index_in board board.points o c s) code
      code_node code is = elim (code_cases board s code is) [
        | inl draw ↦ subst (HasCode (net_in board o c) (index_in board board.points o c s)) (sym draw.0)
            (λ n. open_before n (exits_here n) s h of n (omega arith) (λ k low. draw.1.never k))
        | inr decided ↦ elim decided [
          | inl lost ↦ subst (HasCode (net_in board o c) (index_in board board.points o c s)) (sym lost.1)
              (depth_lost (suc lost.0) (exits_here (suc lost.0)) s h of lost.0 (omega arith) lost.3)
          | inr won ↦ subst (HasCode (net_in board o c) (index_in board board.points o c s)) (sym won.1)
              (depth_won (suc won.0) (exits_here (suc won.0)) s h of won.0 (omega arith) won.3)
        ]
      ]
