-- A list of codes in which all entries agree is exact, and an exact list agrees everywhere.
use Rattle.std.proofs.Common.{◌≡◌, ◌↔◌, ℕ, zero, suc, ◌+◌, ◌-◌, ◌<◌, ◌≤◌, ◌%◌, Bool, true, false, not, ◌&&◌, ◌||◌, eqb, ltb, leb, List, [], ◌∷◌, ◌++◌, map, append-nil, append_assoc, filter, Option, Some, None, min, max, length, get_or, refl, sym, ap, ap₂, subst, ◌∙◌, inl, inr, ◌⊎◌, arith, add-suc, add-zero}
use Rattle.std.proofs.lemmas.Bool.{cases_lt, cases_Bool, both_ways, and_from, and_right, and_parts, or_cases, or_parts, or_left, or_right, le-leb, lt-leb, lt-ltb, le-ltb, leb-true, ltb-true, eq-eqb, eqb-true, ne_eqb, not-true, not_from_false, false_from_ne_true, cond-true, cond-false}
use Rattle.std.proofs.lemmas.List.Folds.{list_all-map, list_all-append, list_any-append}
use Rattle.std.proofs.lemmas.List.{map-append, flat_map_more, get_or_past}
use Rattle.std.proofs.lemmas.List.Elements.{filter-append}
use Rattle.std.specs.List.{Contains, list_all, list_any, flat_map}
use Rattle.morris_board.specs.Sets.{has, members}
use Rattle.morris_board.specs.Boards.{Shape, is_board}
use Rattle.morris_board.specs.Positions.{Sides, IsPosition}
use Rattle.morris_board.specs.Symmetries.{HasSymmetries}
use Rattle.morris_moves.specs.declared.game_move.Move.{Move}
use Rattle.morris_moves.specs.Rules.{closes, takable_stones, reach, move, moves_to, moves_from, moves_of, result_of}
use Rattle.morris_moves.proofs.LegalLaws.{listed_iff, legal_where_taken}
use Rattle.morris_index.specs.Pairs.{Counts, IsPair, is_of}
use Rattle.morris_index.proofs.IndexLaws.{placed}
use Rattle.morris_wave.specs.Nets.{Net}
use Rattle.morris_wave.specs.declared.graph.Exits.{Exits}
use Rattle.morris_wave.specs.Exits.{is_odd, is_won_code, minimum, maximum, depths, exits_of, exits_lost, exits_won}
use Rattle.morris_wave.specs.Values.{is_lost_before, is_won_before, is_decided, is_lost_exit, is_won_exit, HasCode, HasDepth}
use Rattle.morris_wave.proofs.Depths.{lost_more, won_more, lost_parity, won_parity, apart, decided_by_then, none_decided}
use Rattle.morris_wave.proofs.ExitTests.{depths_yes, depths_no, some_exit_lost, each_exit_won}
use Rattle.morris_pairs.specs.Entries.{entry_count, entry_index, has_own_entry}
use Rattle.morris_pairs.specs.Orders.{order_of}
use Rattle.morris_pairs.specs.EntryLaws.{IsLaid, laid}
use Rattle.morris_pairs.specs.Codes.{IsCodeOf, code_to}
use Rattle.morris_pairs.specs.PairNets.{is_quiet, is_capture, quiet_results, capture_codes, pair_net}
use Rattle.morris_pairs.specs.Tables.{Table, IsTable}
use Rattle.morris_pairs.specs.Raws.{IsRaw}
use Rattle.morris_pairs.specs.Graphs.{HasGameValues}
use Rattle.morris_wave.specs.Summaries.{add_code, least_with}
use Rattle.morris_pairs.specs.Agreement.{code_above, code_from, stated_code, result_codes, quiet_codes, add_all, Agrees}
use Rattle.morris_pairs.specs.FilterLaws.{list_any-map, all_parts, any_parts}
use Rattle.morris_pairs.specs.NetLaws.{points_few, quiet-at, exits-at, quiet-stays, result-position, net_at-level_in}
use Rattle.morris_wave.proofs.Summaries.{exits_of-more}
use Rattle.morris_pairs.specs.Scores.{score_of, code_of_score, best_of, IsShort}
use Rattle.morris_pairs.proofs.WorthLaws.{code-best}

-- ---- depths of lost codes are even, and those of won codes odd

abbrev AllEven : Option ℕ → Type 0
AllEven None = Unit {0}
AllEven (Some d) = d % 2 ≡ 0

abbrev AllOdd : Option ℕ → Type 0
AllOdd None = Unit {0}
AllOdd (Some d) = d % 2 ≡ 1

even_before : (c : ℕ) → is_odd c ≡ true → (c - 1) % 2 ≡ 0
even_before c e = let odd : c % 2 ≡ 1 = eqb-true (c % 2) 1 e in omega arith

odd_before : (c : ℕ) → is_won_code c ≡ true → (c - 1) % 2 ≡ 1
odd_before c e =
    let w = and_parts (not (is_odd c)) (ltb 0 c) e in
    let above : 0 < c = ltb-true 0 c w.1 in
    elim (cases_odd c) [
      | inl odd ↦ absurd (both_ways (is_odd c) (not-true (is_odd c) w.0) (eq-eqb (c % 2) 1 odd))
      | inr even ↦ omega arith
    ]
  where
    cases_odd : (n : ℕ) → (n % 2 ≡ 1) ⊎ (n % 2 ≡ 0)
    cases_odd n = elim (cases_lt (n % 2) 1) [ inl z ↦ inr (omega arith) | inr o ↦ inl (omega arith) ]

least_even : (x : ℕ) (o : Option ℕ) → x % 2 ≡ 0 → AllEven o → AllEven (Some (elim o [ None ↦ x | Some y ↦ min x y ]))
least_even x None e h = e
least_even x (Some y) e h = elim (cases_lt x y) [
  | inl l ↦ let m : min x y ≡ x = omega arith in rw m e
  | inr l ↦ let m : min x y ≡ y = omega arith in rw m h
]

greatest_odd : (x : ℕ) (o : Option ℕ) → x % 2 ≡ 1 → AllOdd o → AllOdd (Some (elim o [ None ↦ x | Some y ↦ max x y ]))
greatest_odd x None e h = e
greatest_odd x (Some y) e h = elim (cases_lt x y) [
  | inl l ↦ let m : max x y ≡ y = omega arith in rw m h
  | inr l ↦ let m : max x y ≡ x = omega arith in rw m e
]

lost_even : (codes : List ℕ) → AllEven (minimum (depths is_odd codes))
lost_even [] = tt
lost_even (c ∷ cs) = elim (cases_Bool (is_odd c)) [
  | inl odd ↦ subst (λ ds. AllEven (minimum ds)) (sym (depths_yes is_odd c cs odd)) (least_even (c - 1) (minimum (depths is_odd cs)) (even_before c odd) (lost_even cs))
  | inr other ↦ subst (λ ds. AllEven (minimum ds)) (sym (depths_no is_odd c cs other)) (lost_even cs)
]

won_odd : (codes : List ℕ) → AllOdd (maximum (depths is_won_code codes))
won_odd [] = tt
won_odd (c ∷ cs) = elim (cases_Bool (is_won_code c)) [
  | inl won ↦ subst (λ ds. AllOdd (maximum ds)) (sym (depths_yes is_won_code c cs won))
      (greatest_odd (c - 1) (maximum (depths is_won_code cs)) (odd_before c won) (won_odd cs))
  | inr other ↦ subst (λ ds. AllOdd (maximum ds)) (sym (depths_no is_won_code c cs other)) (won_odd cs)
]

-- ---- what the code that the rules give says, in fewer than n + 1 plies

odd_later : (d : ℕ) → d % 2 ≡ 1 → is_odd (d + 2) ≡ true
odd_later d e = eq-eqb ((d + 2) % 2) 1 (omega arith)

even_later : (d : ℕ) → d % 2 ≡ 0 → is_odd (d + 2) ≡ false
even_later d e = ne_eqb ((d + 2) % 2) 1 (λ z. omega arith)

leb_later : (d n : ℕ) → leb (d + 2) (suc n) ≡ ltb d n
leb_later d n = elim (cases_lt d n) [
  | inl l ↦ le-leb (d + 2) (suc n) (omega arith) ∙ sym (lt-ltb d n l)
  | inr l ↦ lt-leb (d + 2) (suc n) (omega arith) ∙ sym (le-ltb d n l)
]

abbrev summed : Option ℕ → Option ℕ → Bool → Exits
summed lost won drawn = record { least_lost = lost; greatest_won = won; drawn = drawn }

above_lost : (n : ℕ) (lost won : Option ℕ) (drawn : Bool) → AllEven lost → AllOdd won
    → is_lost_exit (suc n) (code_above (summed lost won drawn)) ≡ exits_won n (summed lost won drawn)
above_lost n (Some d) won drawn even odd = ap (λ b. b && leb (d + 2) (suc n)) (even_later d even)
above_lost n None won true even odd = refl
above_lost n None None false even odd = le-leb 1 (suc n) (omega arith)
above_lost n None (Some d) false even odd = ap (λ b. b && leb (d + 2) (suc n)) (odd_later d odd) ∙ leb_later d n

above_won : (n : ℕ) (lost won : Option ℕ) (drawn : Bool) → AllEven lost → AllOdd won
    → is_won_exit (suc n) (code_above (summed lost won drawn)) ≡ exits_lost n (summed lost won drawn)
above_won n (Some d) won drawn even odd =
    ap (λ b. (not b && ltb 0 (d + 2)) && leb (d + 2) (suc n)) (even_later d even)
    ∙ ap (λ b. b && leb (d + 2) (suc n)) (lt-ltb 0 (d + 2) (omega arith)) ∙ leb_later d n
above_won n None won true even odd = refl
above_won n None None false even odd = refl
above_won n None (Some d) false even odd = ap (λ b. (not b && ltb 0 (d + 2)) && leb (d + 2) (suc n)) (odd_later d odd)

module _ (n : ℕ) (codes : List ℕ) where
  rule_lost : is_lost_exit (suc n) (code_from codes) ≡ list_all (is_won_exit n) codes
  rule_lost = above_lost n (minimum (depths is_odd codes)) (maximum (depths is_won_code codes)) _ (lost_even codes) (won_odd codes) ∙ sym (each_exit_won n codes)

  rule_won : is_won_exit (suc n) (code_from codes) ≡ list_any (is_lost_exit n) codes
  rule_won = above_won n (minimum (depths is_odd codes)) (maximum (depths is_won_code codes)) _ (lost_even codes) (won_odd codes) ∙ sym (some_exit_lost n codes)

-- ---- two codes that say the same are one

abbrev says : ℕ → ℕ → Bool
says n c = is_lost_exit n c || is_won_exit n c

says_by : (c n : ℕ) → 0 < c → c ≤ n → says n c ≡ true
says_by c n above low = elim (cases_Bool (is_odd c)) [
  | inl odd ↦ or_left (is_lost_exit n c) (is_won_exit n c) (and_from (is_odd c) (leb c n) odd (le-leb c n low))
  | inr even ↦ or_right (is_lost_exit n c) (is_won_exit n c)
      (and_from (is_won_code c) (leb c n) (and_from (not (is_odd c)) (ltb 0 c) (not_from_false (is_odd c) even) (lt-ltb 0 c above)) (le-leb c n low))
]

odd_above : (c : ℕ) → is_odd c ≡ true → 0 < c
odd_above c e = let odd : c % 2 ≡ 1 = eqb-true (c % 2) 1 e in omega arith

said_by : (c n : ℕ) → says n c ≡ true → (0 < c) × (c ≤ n)
said_by c n h = elim (or_cases (is_lost_exit n c) (is_won_exit n c) h) [
  | inl lost ↦ let w = and_parts (is_odd c) (leb c n) lost in (odd_above c w.0, leb-true c n w.1)
  | inr won ↦
      let w = and_parts (is_won_code c) (leb c n) won in
      let v = and_parts (not (is_odd c)) (ltb 0 c) w.0 in
      (ltb-true 0 c v.1, leb-true c n w.1)
]

one_code_above : (a b : ℕ) → ((n : ℕ) → says n a ≡ says n b) → 0 < a → (0 < b) × (b ≤ a)
one_code_above a b same above = said_by b a (sym (same a) ∙ says_by a a above (omega arith))

same_code : (a b : ℕ) → ((n : ℕ) → is_lost_exit n a ≡ is_lost_exit n b) → ((n : ℕ) → is_won_exit n a ≡ is_won_exit n b) → a ≡ b
same_code a b lost won =
    let same : (n : ℕ) → says n a ≡ says n b = λ n. ap₂ (λ x y. x || y) (lost n) (won n) in
    let back : (n : ℕ) → says n b ≡ says n a = λ n. sym (same n) in
    elim (cases_lt 0 a) [
      | inl above ↦ let w = one_code_above a b same above in let v = one_code_above b a back w.0 in omega (arith, w.1, v.1)
      | inr none ↦ elim (cases_lt 0 b) [
        | inl above ↦ let v = one_code_above b a back above in absurd (omega (arith, v.0))
        | inr also ↦ omega arith
      ]
    ]

-- nothing is decided in fewer than 0 plies
none_says : (c : ℕ) → says 0 c ≡ false
none_says c = false_from_ne_true (says 0 c) (λ h. let w = said_by c 0 h in omega (arith, w.0, w.1))

-- two lists of results that pass the same tests give one code
pub same_from_rule : (xs ys : List ℕ) → ((n : ℕ) → list_all (is_won_exit n) xs ≡ list_all (is_won_exit n) ys)
    → ((n : ℕ) → list_any (is_lost_exit n) xs ≡ list_any (is_lost_exit n) ys) → code_from xs ≡ code_from ys
same_from_rule xs ys all_same any_same = same_code (code_from xs) (code_from ys) lost won
  where
    none : (code : ℕ) → (is_lost_exit 0 code ≡ false) × (is_won_exit 0 code ≡ false)
    none code = or_parts (is_lost_exit 0 code) (is_won_exit 0 code) (none_says code)

    lost : (n : ℕ) → is_lost_exit n (code_from xs) ≡ is_lost_exit n (code_from ys)
    lost zero = (none (code_from xs)).0 ∙ sym (none (code_from ys)).0
    lost (suc n) = rule_lost n xs ∙ all_same n ∙ sym (rule_lost n ys)

    won : (n : ℕ) → is_won_exit n (code_from xs) ≡ is_won_exit n (code_from ys)
    won zero = (none (code_from xs)).1 ∙ sym (none (code_from ys)).1
    won (suc n) = rule_won n xs ∙ any_same n ∙ sym (rule_won n ys)

-- ---- what the code of a node says is what the graph says

lost_from : (g : Net) (i n m : ℕ) → is_lost_before g n i ≡ true → is_lost_before g (n + m) i ≡ true
lost_from g i n zero h = subst (λ x. is_lost_before g x i ≡ true) (sym (add-zero n)) h
lost_from g i n (suc m) h = subst (λ x. is_lost_before g x i ≡ true) (sym (add-suc n m)) (lost_more g (n + m) i (lost_from g i n m h))

won_from : (g : Net) (i n m : ℕ) → is_won_before g n i ≡ true → is_won_before g (n + m) i ≡ true
won_from g i n zero h = subst (λ x. is_won_before g x i ≡ true) (sym (add-zero n)) h
won_from g i n (suc m) h = subst (λ x. is_won_before g x i ≡ true) (sym (add-suc n m)) (won_more g (n + m) i (won_from g i n m h))

lost_by_then : (g : Net) (i n m : ℕ) → n ≤ m → is_lost_before g n i ≡ true → is_lost_before g m i ≡ true
lost_by_then g i n m low h = let e : n + (m - n) ≡ m = omega arith in subst (λ x. is_lost_before g x i ≡ true) e (lost_from g i n (m - n) h)

won_by_then : (g : Net) (i n m : ℕ) → n ≤ m → is_won_before g n i ≡ true → is_won_before g m i ≡ true
won_by_then g i n m low h = let e : n + (m - n) ≡ m = omega arith in subst (λ x. is_won_before g x i ≡ true) e (won_from g i n (m - n) h)

-- the code says of a node what the graph says, in fewer than n plies
abbrev Says : Net → ℕ → ℕ → ℕ → Type 0
Says g i code n = (is_lost_exit n code ≡ is_lost_before g n i) × (is_won_exit n code ≡ is_won_before g n i)

module _ (g : Net) (i : ℕ) where
  open_says : (code n : ℕ) → is_decided g n i ≡ false → is_lost_exit n code ≡ false → is_won_exit n code ≡ false → Says g i code n
  open_says code n e lost won = let w = or_parts (is_lost_before g n i) (is_won_before g n i) e in (lost ∙ sym w.0, won ∙ sym w.1)

  decided_says : (d n : ℕ) → suc d ≤ n → HasDepth g i d → Says g i (suc d) n
  decided_says d n low h =
      let before = or_parts (is_lost_before g d i) (is_won_before g d i) h.not_before in
      elim (or_cases (is_lost_before g (suc d) i) (is_won_before g (suc d) i) h.reached) [
        | inl lost ↦
            let odd : is_odd (suc d) ≡ true = lost_parity g d i lost before.0 in
            let now : is_lost_before g n i ≡ true = lost_by_then g i (suc d) n low lost in (
              and_from (is_odd (suc d)) (leb (suc d) n) odd (le-leb (suc d) n low) ∙ sym now,
              ap (λ b. (not b && ltb 0 (suc d)) && leb (suc d) n) odd ∙ sym (false_from_ne_true (is_won_before g n i) (λ won. apart g n i now won)),
            )
        | inr won ↦
            let even : is_odd (suc d) ≡ false = won_parity g d i won before.1 in
            let now : is_won_before g n i ≡ true = won_by_then g i (suc d) n low won in (
              ap (λ b. b && leb (suc d) n) even ∙ sym (false_from_ne_true (is_lost_before g n i) (λ lost. apart g n i lost now)),
              and_from (is_won_code (suc d)) (leb (suc d) n) (and_from (not (is_odd (suc d))) (ltb 0 (suc d)) (not_from_false (is_odd (suc d)) even) (lt-ltb 0 (suc d) (omega arith)))
                  (le-leb (suc d) n low)
                  ∙ sym now,
            )
      ]

  code_says : (code : ℕ) → HasCode g i code → (n : ℕ) → Says g i code n
  code_says zero never n = open_says zero n (never n) refl refl
  code_says (suc d) h n = elim (cases_lt n (suc d)) [
    | inl early ↦ open_says (suc d) n
        (false_from_ne_true (is_decided g n i) (λ e. both_ways (is_decided g d i) h.not_before (decided_by_then g n d i (omega arith) e)))
        (and_right (is_odd (suc d)) (leb (suc d) n) (lt-leb (suc d) n early)) (and_right (is_won_code (suc d)) (leb (suc d) n) (lt-leb (suc d) n early))
    | inr reached ↦ decided_says d n reached h
  ]

  -- a number that says of a node what the graph says is its code
  says_code : (code : ℕ) → ((n : ℕ) → Says g i code n) → HasCode g i code
  says_code code same = at code (λ n. ap₂ (λ x y. x || y) (sym (same n).0) (sym (same n).1))
    where
      at : (c : ℕ) → ((n : ℕ) → is_decided g n i ≡ says n c) → HasCode g i c
      at zero each = λ n. each n
      at (suc d) each = record {
        reached = each (suc d) ∙ says_by (suc d) (suc d) (omega arith) (omega arith);
        not_before = each d ∙ false_from_ne_true (says d (suc d)) (λ e. let w = said_by (suc d) d e in omega (arith, w.1));
      }

-- ---- agreement in the graph of a pair

module _ (board : Shape) (t : Table) where
  pub stated-quiet : (s : Sides) (m : Move) → is_quiet m ≡ true → stated_code board t s m ≡ get_or t.codes (entry_index board board.points t.layout t.pair (result_of s m)) 0
  unfolding stated_code
  stated-quiet s m quiet = cond-true {A = ℕ} (is_quiet m) (get_or t.codes (entry_index board board.points t.layout t.pair (result_of s m)) 0) (code_to 65534 board (result_of s m)) quiet

  pub stated-capture : (s : Sides) (m : Move) → is_quiet m ≡ false → stated_code board t s m ≡ code_to 65534 board (result_of s m)
  unfolding stated_code
  stated-capture s m takes = cond-false {A = ℕ} (is_quiet m) (get_or t.codes (entry_index board board.points t.layout t.pair (result_of s m)) 0) (code_to 65534 board (result_of s m)) takes

module _ (board : Shape) (few : board.points ≤ 24) (t : Table) (laid : IsLaid board (order_of t.layout) t.pair) where
  abbrev Means : ℕ → Sides → Type 0
  Means n s = Says (pair_net board t.layout t.pair) (entry_index board board.points t.layout t.pair s) (get_or t.codes (entry_index board board.points t.layout t.pair s) 0) n

  -- what the rules give a position, where each quiet result is stated as it is
  module _ (n : ℕ) (s : Sides) (h : IsPosition board s) (of : is_of t.pair s ≡ true) (cache : has_own_entry board t.layout s ≡ true)
      (each : (u : Sides) → IsPosition board u → is_of t.pair u ≡ true → Means n u) where
    there : (m : Move) → Contains (moves_of board s) m → is_quiet m ≡ true → Means n (result_of s m)
    there m listed quiet = each (result_of s m) (result-position board few s h m listed) (quiet-stays board few s h m listed t.pair of quiet)

    rule_is_lost : is_lost_exit (suc n) (code_from (result_codes board t s)) ≡ is_lost_before (pair_net board t.layout t.pair) (suc n) (entry_index board board.points t.layout t.pair s)
    unfolding result_codes quiet_results capture_codes is_lost_before
    rule_is_lost =
        rule_lost n (map (stated_code board t s) (moves_of board s))
        ∙ list_all-map (is_won_exit n) (stated_code board t s) (moves_of board s)
        ∙ sym (
        ap₂ (λ quiet codes. list_all (is_won_before (pair_net board t.layout t.pair) n) quiet && list_all (is_won_exit n) codes)
        (quiet-at board few (order_of t.layout) t.pair laid s h of cache) (exits-at board few (order_of t.layout) t.pair laid s h of cache)
        ∙ ap₂ (λ a b. a && b)
        (list_all-map (is_won_before (pair_net board t.layout t.pair) n) (λ m. entry_index board board.points t.layout t.pair (result_of s m)) (filter is_quiet (moves_of board s)))
        (list_all-map (is_won_exit n) (λ m. code_to 65534 board (result_of s m)) (filter is_capture (moves_of board s)))
        ∙ all_parts is_quiet (λ m. is_won_exit n (stated_code board t s m))
        (λ m. is_won_before (pair_net board t.layout t.pair) n (entry_index board board.points t.layout t.pair (result_of s m))) (λ m. is_won_exit n (code_to 65534 board (result_of s m)))
        (moves_of board s)
        (λ m listed quiet. sym (there m listed quiet).1 ∙ ap (is_won_exit n) (sym (stated-quiet board t s m quiet)))
        (λ m listed takes. ap (is_won_exit n) (sym (stated-capture board t s m takes))))

    rule_is_won : is_won_exit (suc n) (code_from (result_codes board t s)) ≡ is_won_before (pair_net board t.layout t.pair) (suc n) (entry_index board board.points t.layout t.pair s)
    unfolding result_codes quiet_results capture_codes is_won_before
    rule_is_won =
        rule_won n (map (stated_code board t s) (moves_of board s))
        ∙ list_any-map (is_lost_exit n) (stated_code board t s) (moves_of board s)
        ∙ sym (
        ap₂ (λ quiet codes. list_any (is_lost_before (pair_net board t.layout t.pair) n) quiet || list_any (is_lost_exit n) codes)
        (quiet-at board few (order_of t.layout) t.pair laid s h of cache) (exits-at board few (order_of t.layout) t.pair laid s h of cache)
        ∙ ap₂ (λ a b. a || b)
        (list_any-map (is_lost_before (pair_net board t.layout t.pair) n) (λ m. entry_index board board.points t.layout t.pair (result_of s m)) (filter is_quiet (moves_of board s)))
        (list_any-map (is_lost_exit n) (λ m. code_to 65534 board (result_of s m)) (filter is_capture (moves_of board s)))
        ∙ any_parts is_quiet (λ m. is_lost_exit n (stated_code board t s m))
        (λ m. is_lost_before (pair_net board t.layout t.pair) n (entry_index board board.points t.layout t.pair (result_of s m))) (λ m. is_lost_exit n (code_to 65534 board (result_of s m)))
        (moves_of board s)
        (λ m listed quiet. sym (there m listed quiet).0 ∙ ap (is_lost_exit n) (sym (stated-quiet board t s m quiet)))
        (λ m listed takes. ap (is_lost_exit n) (sym (stated-capture board t s m takes))))

  -- in fewer than 0 plies no code says anything, and nothing is decided
  means_none : (code i : ℕ) → Says (pair_net board t.layout t.pair) i code 0
  means_none code i = open_says (pair_net board t.layout t.pair) i code 0 (none_decided (pair_net board t.layout t.pair) i)
      (or_parts (is_lost_exit 0 code) (is_won_exit 0 code) (none_says code)).0 (or_parts (is_lost_exit 0 code) (is_won_exit 0 code) (none_says code)).1

  -- where all entries agree, each says what the graph says
  module _ (agree : (i : ℕ) → i < entry_count board board.points t.layout t.pair → Agrees board t i) where
    agreed_means : (n : ℕ) (s : Sides) → IsPosition board s → is_of t.pair s ≡ true → Means n s
    agreed_means zero s h of = means_none (get_or t.codes (entry_index board board.points t.layout t.pair s) 0) (entry_index board board.points t.layout t.pair s)
    agreed_means (suc n) s h of =
        let stands = laid.stands s h of in
        let u = stands.0 in
        let w = stands.1 in
        let here = agree (entry_index board board.points t.layout t.pair u) (laid.below u w.position w.of) u w.position w.of w.own refl in
        let says : Means (suc n) u = (
          ap (is_lost_exit (suc n)) here ∙ rule_is_lost n u w.position w.of w.own (agreed_means n),
          ap (is_won_exit (suc n)) here ∙ rule_is_won n u w.position w.of w.own (agreed_means n),
        ) in
        subst (λ i. Says (pair_net board t.layout t.pair) i (get_or t.codes i 0) (suc n)) w.entry says

    agreed_code : (s : Sides) → IsPosition board s → is_of t.pair s ≡ true
        → HasCode (pair_net board t.layout t.pair) (entry_index board board.points t.layout t.pair s) (get_or t.codes (entry_index board board.points t.layout t.pair s) 0)
    agreed_code s h of = says_code (pair_net board t.layout t.pair) (entry_index board board.points t.layout t.pair s) _ (λ n. agreed_means n s h of)

  -- where each entry is the node's code, each agrees
  module _ (exact : (s : Sides) → IsPosition board s → is_of t.pair s ≡ true
      → HasCode (pair_net board t.layout t.pair) (entry_index board board.points t.layout t.pair s) (get_or t.codes (entry_index board board.points t.layout t.pair s) 0)) where
    exact_means : (n : ℕ) (s : Sides) → IsPosition board s → is_of t.pair s ≡ true → Means n s
    exact_means n s h of = code_says (pair_net board t.layout t.pair) (entry_index board board.points t.layout t.pair s) _ (exact s h of) n

    exact_agrees : (s : Sides) → IsPosition board s → is_of t.pair s ≡ true → has_own_entry board t.layout s ≡ true
        → get_or t.codes (entry_index board board.points t.layout t.pair s) 0 ≡ code_from (result_codes board t s)
    exact_agrees s h of cache = same_code _ _ lost won
      where
        none : (code : ℕ) → (is_lost_exit 0 code ≡ false) × (is_won_exit 0 code ≡ false)
        none code = or_parts (is_lost_exit 0 code) (is_won_exit 0 code) (none_says code)

        lost : (n : ℕ) → is_lost_exit n (get_or t.codes (entry_index board board.points t.layout t.pair s) 0) ≡ is_lost_exit n (code_from (result_codes board t s))
        lost zero = (none (get_or t.codes (entry_index board board.points t.layout t.pair s) 0)).0 ∙ sym (none (code_from (result_codes board t s))).0
        lost (suc n) = (exact_means (suc n) s h of).0 ∙ sym (rule_is_lost n s h of cache (exact_means n))

        won : (n : ℕ) → is_won_exit n (get_or t.codes (entry_index board board.points t.layout t.pair s) 0) ≡ is_won_exit n (code_from (result_codes board t s))
        won zero = (none (get_or t.codes (entry_index board board.points t.layout t.pair s) 0)).1 ∙ sym (none (code_from (result_codes board t s))).1
        won (suc n) = (exact_means (suc n) s h of).1 ∙ sym (rule_is_won n s h of cache (exact_means n))

-- ---- in terms of the game

module _ (board : Shape) (lawful : is_board board ≡ true) (y : HasSymmetries board) (t : Table) (raw : IsRaw board t) (values : HasGameValues board t.layout t.pair) where
  entries : IsLaid board (order_of t.layout) t.pair
  entries = laid board (points_few board lawful) y t.layout t.pair raw.lawful

  -- the values of the pair's graph are those of the game
  node_value : (s : Sides) (code : ℕ) → IsPosition board s → is_of t.pair s ≡ true
      → (HasCode (pair_net board t.layout t.pair) (entry_index board board.points t.layout t.pair s) code → IsCodeOf board s code)
      × (IsCodeOf board s code → HasCode (pair_net board t.layout t.pair) (entry_index board board.points t.layout t.pair s) code)
  node_value s code h of =
      let same = net_at-level_in board lawful y (order_of t.layout) t.pair raw.lawful in
      let both = values s code h of in (
        λ e. both.0 (subst (λ g. HasCode g (entry_index board board.points t.layout t.pair s) code) (sym same) e),
        λ e. subst (λ g. HasCode g (entry_index board board.points t.layout t.pair s) code) same (both.1 e),
      )

  pub exact_if_agreed : ((i : ℕ) → i < entry_count board board.points t.layout t.pair → Agrees board t i) → IsTable board t
  exact_if_agreed agree = record {
    lawful = raw.lawful;
    counted = raw.counted;
    small = raw.small;
    exact = λ s h of. (node_value s (get_or t.codes (entry_index board board.points t.layout t.pair s) 0) h of).0 (agreed_code board (points_few board lawful) t entries agree s h of);
  }

  pub agreed_if_exact : IsTable board t → (i : ℕ) → Agrees board t i
  agreed_if_exact h i s position of cache at =
      subst (λ k. get_or t.codes k 0 ≡ code_from (result_codes board t s)) at
      (exact_agrees board (points_few board lawful) t entries
      (λ u there belongs. (node_value u (get_or t.codes (entry_index board board.points t.layout t.pair u) 0) there belongs).1 (h.exact u there belongs)) s position of cache)

-- ---- the summary of a position's results, move by move

exits_of-added : (first codes : List ℕ) → add_all (exits_of first) codes ≡ exits_of (first ++ codes)
unfolding add_all
exits_of-added first [] = ap exits_of (sym (append-nil first))
exits_of-added first (c ∷ codes) =
    ap (λ e. add_all e codes) (sym (exits_of-more first c)) ∙ exits_of-added (first ++ c ∷ []) codes ∙ ap exits_of (append_assoc first (c ∷ []) codes)

-- a result that is lost at once stays the one that is lost soonest
added-lost_now : (e : Exits) (c : ℕ) → e.least_lost ≡ Some 0 → (add_code e c).least_lost ≡ Some 0
unfolding add_code
added-lost_now e c now = elim (cases_Bool (is_odd c)) [
  | inl odd ↦ let none : min 0 (c - 1) ≡ 0 = omega arith in rw odd (ap (λ o. Some (least_with o (c - 1))) now ∙ ap (λ n. Some n) none)
  | inr even ↦ elim (cases_Bool (ltb 0 c)) [
    | inl above ↦ rw (even, above) now
    | inr zero_code ↦ rw (even, zero_code) now
  ]
]

all_added-lost_now : (e : Exits) (codes : List ℕ) → e.least_lost ≡ Some 0 → (add_all e codes).least_lost ≡ Some 0
unfolding add_all
all_added-lost_now e [] now = now
all_added-lost_now e (c ∷ codes) now = all_added-lost_now (add_code e c) codes (added-lost_now e c now)

above-lost_now : (e : Exits) → e.least_lost ≡ Some 0 → code_above e ≡ 2
above-lost_now e now = rw now refl

module _ (board : Shape) (t : Table) (s : Sides) where
  pub quiet_codes-none : quiet_codes board t s [] ≡ []
  unfolding quiet_codes
  quiet_codes-none = refl

  quiet_codes-append : (ms more : List Move) → quiet_codes board t s (ms ++ more) ≡ quiet_codes board t s ms ++ quiet_codes board t s more
  unfolding quiet_codes
  quiet_codes-append ms more =
      let f : Move → ℕ = λ x. get_or t.codes (entry_index board board.points t.layout t.pair (result_of s x)) 0 in
      ap (map f) (filter-append is_quiet ms more) ∙ map-append f (filter is_quiet ms) (filter is_quiet more)

  none_quiet : (u v : ℕ) (ts : List ℕ) → quiet_codes board t s (map (λ x. move u v (Some x)) ts) ≡ []
  unfolding quiet_codes
  none_quiet u v [] = refl
  none_quiet u v (x ∷ ts) = none_quiet u v ts

  -- a move that closes a mill is not quiet, and one that closes none is
  captures_none : (u v : ℕ) → closes board s.own u v ≡ true → quiet_codes board t s (moves_to board s u v) ≡ []
  unfolding moves_to
  captures_none u v shut = rw shut (none_quiet u v (members (takable_stones board s.other)))

  quiet_codes-one : (u v : ℕ) → closes board s.own u v ≡ false
      → quiet_codes board t s (moves_to board s u v) ≡ get_or t.codes (entry_index board board.points t.layout t.pair (result_of s (move u v None))) 0 ∷ []
  unfolding moves_to quiet_codes
  quiet_codes-one u v free = rw free refl

  -- the moves of all stones, one after another
  abbrev pub codes_by : List ℕ → List ℕ
  codes_by us = quiet_codes board t s (flat_map (moves_from board s) us)

  pub codes_by-more : (us : List ℕ) (u : ℕ) → codes_by (us ++ u ∷ []) ≡ codes_by us ++ quiet_codes board t s (moves_from board s u)
  codes_by-more us u =
      ap (quiet_codes board t s) (sym (flat_map_more (moves_from board s) [] us u)) ∙ quiet_codes-append (flat_map (moves_from board s) us) (moves_from board s u)

  pub codes_by-all : codes_by (members s.own) ≡ quiet_codes board t s (moves_of board s)
  unfolding moves_of
  codes_by-all = refl

  -- the moves of the stone on u, to one point after another
  abbrev pub codes_to : ℕ → List ℕ → List ℕ
  codes_to u vs = quiet_codes board t s (flat_map (moves_to board s u) vs)

  codes_to-more : (u : ℕ) (vs : List ℕ) (v : ℕ) → codes_to u (vs ++ v ∷ []) ≡ codes_to u vs ++ quiet_codes board t s (moves_to board s u v)
  codes_to-more u vs v =
      ap (quiet_codes board t s) (sym (flat_map_more (moves_to board s u) [] vs v)) ∙ quiet_codes-append (flat_map (moves_to board s u) vs) (moves_to board s u v)

  pub codes_to-closing : (u : ℕ) (vs : List ℕ) (v : ℕ) → closes board s.own u v ≡ true → codes_to u (vs ++ v ∷ []) ≡ codes_to u vs
  codes_to-closing u vs v shut = codes_to-more u vs v ∙ ap (λ xs. codes_to u vs ++ xs) (captures_none u v shut) ∙ append-nil (codes_to u vs)

  pub codes_to-quiet : (u : ℕ) (vs : List ℕ) (v : ℕ) → closes board s.own u v ≡ false
      → codes_to u (vs ++ v ∷ []) ≡ codes_to u vs ++ get_or t.codes (entry_index board board.points t.layout t.pair (result_of s (move u v None))) 0 ∷ []
  codes_to-quiet u vs v free = codes_to-more u vs v ∙ ap (λ xs. codes_to u vs ++ xs) (quiet_codes-one u v free)

  pub codes_to-all : (u : ℕ) → codes_to u (members (reach board s u)) ≡ quiet_codes board t s (moves_from board s u)
  unfolding moves_from
  codes_to-all u = refl

  and_swap : (a b : Bool) → (a && b) ≡ (b && a)
  and_swap true true = refl
  and_swap true false = refl
  and_swap false true = refl
  and_swap false false = refl

  or_swap : (a b : Bool) → (a || b) ≡ (b || a)
  or_swap true true = refl
  or_swap true false = refl
  or_swap false true = refl
  or_swap false false = refl

  -- a test of all results, by one of the captures and one of the quiet results
  all_both : (p : ℕ → Bool) → list_all p (capture_codes board s ++ map (λ m. get_or t.codes (entry_index board board.points t.layout t.pair (result_of s m)) 0) (filter is_quiet (moves_of board s)))
      ≡ list_all p (result_codes board t s)
  unfolding result_codes capture_codes
  all_both p =
      let f : Move → ℕ = λ m. get_or t.codes (entry_index board board.points t.layout t.pair (result_of s m)) 0 in
      let g : Move → ℕ = λ m. code_to 65534 board (result_of s m) in
      list_all-append p (map g (filter is_capture (moves_of board s))) (map f (filter is_quiet (moves_of board s)))
      ∙ and_swap (list_all p (map g (filter is_capture (moves_of board s)))) (list_all p (map f (filter is_quiet (moves_of board s))))
      ∙ ap₂ (λ a b. a && b) (list_all-map p f (filter is_quiet (moves_of board s))) (list_all-map p g (filter is_capture (moves_of board s)))
      ∙ all_parts is_quiet (λ m. p (stated_code board t s m)) (λ m. p (f m)) (λ m. p (g m)) (moves_of board s)
      (λ m listed quiet. ap p (sym (stated-quiet board t s m quiet)))
      (λ m listed takes. ap p (sym (stated-capture board t s m takes)))
      ∙ sym (list_all-map p (stated_code board t s) (moves_of board s))

  any_both : (p : ℕ → Bool) → list_any p (capture_codes board s ++ map (λ m. get_or t.codes (entry_index board board.points t.layout t.pair (result_of s m)) 0) (filter is_quiet (moves_of board s)))
      ≡ list_any p (result_codes board t s)
  unfolding result_codes capture_codes
  any_both p =
      let f : Move → ℕ = λ m. get_or t.codes (entry_index board board.points t.layout t.pair (result_of s m)) 0 in
      let g : Move → ℕ = λ m. code_to 65534 board (result_of s m) in
      list_any-append p (map g (filter is_capture (moves_of board s))) (map f (filter is_quiet (moves_of board s)))
      ∙ or_swap (list_any p (map g (filter is_capture (moves_of board s)))) (list_any p (map f (filter is_quiet (moves_of board s))))
      ∙ ap₂ (λ a b. a || b) (list_any-map p f (filter is_quiet (moves_of board s))) (list_any-map p g (filter is_capture (moves_of board s)))
      ∙ any_parts is_quiet (λ m. p (stated_code board t s m)) (λ m. p (f m)) (λ m. p (g m)) (moves_of board s)
      (λ m listed quiet. ap p (sym (stated-quiet board t s m quiet)))
      (λ m listed takes. ap p (sym (stated-capture board t s m takes)))
      ∙ sym (list_any-map p (stated_code board t s) (moves_of board s))

  -- the captures and then the quiet moves are all moves
  pub added-all : (e : Exits) → e ≡ exits_of (capture_codes board s) → code_above (add_all e (quiet_codes board t s (moves_of board s))) ≡ code_from (result_codes board t s)
  unfolding quiet_codes
  added-all e is =
      ap code_above (ap (λ x. add_all x (map (λ m. get_or t.codes (entry_index board board.points t.layout t.pair (result_of s m)) 0) (filter is_quiet (moves_of board s)))) is
      ∙ exits_of-added (capture_codes board s) (map (λ m. get_or t.codes (entry_index board board.points t.layout t.pair (result_of s m)) 0) (filter is_quiet (moves_of board s))))
      ∙ same_from_rule (capture_codes board s ++ map (λ m. get_or t.codes (entry_index board board.points t.layout t.pair (result_of s m)) 0) (filter is_quiet (moves_of board s)))
      (result_codes board t s) (λ n. all_both (is_won_exit n)) (λ n. any_both (is_lost_exit n))

  -- the same by the scores of results
  pub best-all : (e : Exits) → e ≡ exits_of (capture_codes board s) → IsShort e → ((k : ℕ) → get_or t.codes k 0 ≤ 65535)
      → code_of_score (best_of (score_of e) (quiet_codes board t s (moves_of board s))) ≡ code_from (result_codes board t s)
  unfolding quiet_codes
  best-all e is short small =
      code-best (λ (m : Move). get_or t.codes (entry_index board board.points t.layout t.pair (result_of s m)) 0)
      (λ m. small (entry_index board board.points t.layout t.pair (result_of s m))) e (filter is_quiet (moves_of board s)) short
      ∙ added-all e is

  -- a capture that wins at once decides
  pub added-now : (e : Exits) → e ≡ exits_of (capture_codes board s) → e.least_lost ≡ Some 0 → code_above e ≡ code_from (result_codes board t s)
  added-now e is now =
      above-lost_now e now ∙ sym (above-lost_now (add_all e (quiet_codes board t s (moves_of board s))) (all_added-lost_now e (quiet_codes board t s (moves_of board s)) now))
      ∙ added-all e is

-- numbers of 16 bits, with 0 past the last
pub small_codes : (codes : List ℕ) → ((i : ℕ) → i < length codes → get_or codes i 0 ≤ 65535) → (k : ℕ) → get_or codes k 0 ≤ 65535
small_codes codes small k = elim (cases_lt k (length codes)) [
  | inl inside ↦ small k inside
  | inr past ↦ omega (arith, get_or_past codes k 0 past)
]

-- a quiet move stays in the pair
pub stays : (board : Shape) → is_board board ≡ true → (c : Counts) (s : Sides) → IsPosition board s → is_of c s ≡ true
    → (m : Move) → Contains (moves_of board s) m → is_quiet m ≡ true → is_of c (result_of s m) ≡ true
stays board lawful c s h of m listed quiet = quiet-stays board (points_few board lawful) s h m listed c of quiet

-- the code that the table states for what a move leads to, with the number of points given apart
pub stated_at : (board : Shape) (n : ℕ) → board.points ≡ n → (t : Table) (s : Sides) (m : Move) (index code : ℕ)
    → index ≡ entry_index board n t.layout t.pair (result_of s m) → code ≡ get_or t.codes index 0
    → code ≡ get_or t.codes (entry_index board board.points t.layout t.pair (result_of s m)) 0
stated_at board n points t s m index code index_is is =
    is ∙ ap (λ k. get_or t.codes k 0) (index_is ∙ ap (λ k. entry_index board k t.layout t.pair (result_of s m)) (sym points))

-- ---- an entry, by its position

-- where a position has an entry for its own, the entry agrees exactly where its code is the one
-- that the rules give this position
pub agrees_at : (board : Shape) → is_board board ≡ true → HasSymmetries board → (n : ℕ) → board.points ≡ n → (t : Table) → IsPair board.points t.pair
    → (s : Sides) → IsPosition board s → is_of t.pair s ≡ true → has_own_entry board t.layout s ≡ true
    → (i : ℕ) → entry_index board n t.layout t.pair s ≡ i → (code above : ℕ) (r : Bool) → r ≡ eqb code above → code ≡ get_or t.codes i 0
    → above ≡ code_from (result_codes board t s) → (r ≡ true) ↔ Agrees board t i
agrees_at board lawful y n points t pair s h of cache i at code above r is code_is above_is =
    let here : entry_index board board.points t.layout t.pair s ≡ i = ap (λ k. entry_index board k t.layout t.pair s) points ∙ at in (
      λ yes u there belongs own same.
          let one : s ≡ u =
          (laid board (points_few board lawful) y t.layout t.pair pair).alone s u (placed board board.points s refl h) (placed board board.points u refl there)
          of belongs cache own (here ∙ sym same) in
          subst (λ x. get_or t.codes i 0 ≡ code_from (result_codes board t x)) one (sym code_is ∙ eqb-true code above (sym is ∙ yes) ∙ above_is),
      λ agree. is ∙ eq-eqb code above (code_is ∙ agree s h of cache here ∙ sym above_is),
    )

-- a table is exact where all entries agree, and only there, with the number of points given apart
pub agreement_is : (board : Shape) → is_board board ≡ true → HasSymmetries board → (n : ℕ) → board.points ≡ n → (t : Table) → IsRaw board t
    → HasGameValues board t.layout t.pair → ((i : ℕ) → i < entry_count board n t.layout t.pair → Agrees board t i) ↔ IsTable board t
agreement_is board lawful y n points t raw values = (
  λ agree. exact_if_agreed board lawful y t raw values (λ i low. agree i (subst (λ k. i < entry_count board k t.layout t.pair) points low)),
  λ exact i low. agreed_if_exact board lawful y t raw values exact i,
)

-- a move that closes no mill, from an own stone to where it may go, is among the legal moves
pub quiet_listed : (board : Shape) → is_board board ≡ true → (s : Sides) → IsPosition board s → (u v : ℕ) → has s.own u ≡ true → has (reach board s u) v ≡ true
    → closes board s.own u v ≡ false → Contains (moves_of board s) (move u v None)
quiet_listed board lawful s h u v own reaches free =
    (listed_iff board s (points_few board lawful) h.stones (move u v None) true
    (sym (not_from_false (closes board s.own u v) free) ∙ legal_where_taken board s (move u v None) own reaches)).0 refl
