-- The position of the greatest code that states an outcome is a deepest one.
use Rattle.std.proofs.Common.{◌≡◌, ◌≢◌, ℕ, suc, ◌+◌, ◌-◌, ◌<◌, ◌≤◌, ◌%◌, true, nat_lt, nat_eq, List, Option, None, Some, length, get_or, sym, ap, subst, inl, inr, arith}
use Rattle.std.proofs.lemmas.Bool.{cases_eq, cases_lt, lt-ltb, eq-eqb, eqb-true, and_parts, and_from}
use Rattle.morris_board.specs.Boards.{Shape}
use Rattle.morris_board.specs.Positions.{Sides, IsPosition}
use Rattle.morris_board.specs.Symmetries.{HasSymmetries}
use Rattle.morris_moves.specs.Values.{IsLostIn, IsWonIn}
use Rattle.morris_moves.proofs.ValueLaws.{lost_is_even, won_is_odd}
use Rattle.morris_index.specs.Pairs.{is_of}
use Rattle.morris_pairs.specs.Codes.{IsCodeOf}
use Rattle.morris_pairs.specs.Entries.{entry_index}
use Rattle.morris_pairs.specs.EntryLaws.{laid}
use Rattle.morris_pairs.specs.Tables.{IsTable, Table}
use Rattle.morris_pairs.proofs.CodeLaws.{code_cases, code_of_lost, code_of_won, one_code}
use Rattle.morris_pairs.proofs.PositionLaws.{IsAtEntry}
use Rattle.morris_commands.specs.declared.deepest.Outcome.{Outcome}
use Rattle.morris_commands.specs.declared.deepest.Outcome.TheVariants.{Won, Lost}
use Rattle.morris_commands.proofs.EntryOrder.{in_order}
use Rattle.morris_commands.specs.Deepest.{IsDecidedIn, IsDeepestAt, IsFirstGreatest, IsGreatestStated, is_stated_by}

-- ---- what a code says

told_code : (outcome : Outcome) (depth : ℕ) (board : Shape) (s : Sides) → IsDecidedIn board outcome s depth → is_stated_by outcome (suc depth) ≡ true
told_code Won depth board s h =
    let odd : depth % 2 ≡ 1 = won_is_odd board s depth h in
    let even : suc depth % 2 ≡ 0 = omega arith in
    and_from (nat_lt 0 (suc depth)) (nat_eq (suc depth % 2) 0) (lt-ltb 0 (suc depth) (omega arith)) (eq-eqb (suc depth % 2) 0 even)
told_code Lost depth board s h =
    let even : depth % 2 ≡ 0 = lost_is_even board s depth h in
    let odd : suc depth % 2 ≡ 1 = omega arith in
    eq-eqb (suc depth % 2) 1 odd

-- the code of a decided position
code_of : (outcome : Outcome) (depth : ℕ) (board : Shape) (s : Sides) → IsDecidedIn board outcome s depth → IsCodeOf board s (suc depth)
code_of Won depth board s h = code_of_won board s depth h
code_of Lost depth board s h = code_of_lost board s depth h

not_zero : (outcome : Outcome) → is_stated_by outcome 0 ≡ true → ⊥
not_zero Won reported = cc
not_zero Lost reported = cc

told_even : (code : ℕ) → is_stated_by Won code ≡ true → code % 2 ≡ 0
told_even code reported = eqb-true (code % 2) 0 (and_parts (nat_lt 0 code) (nat_eq (code % 2) 0) reported).1

told_odd : (code : ℕ) → is_stated_by Lost code ≡ true → code % 2 ≡ 1
told_odd code reported = eqb-true (code % 2) 1 reported

-- a position has the outcome that its code states, in one ply less than the code
told_decided : (outcome : Outcome) (code : ℕ) (board : Shape) (s : Sides) → IsCodeOf board s code → is_stated_by outcome code ≡ true
    → (code ≡ suc (code - 1)) × IsDecidedIn board outcome s (code - 1)
told_decided Won code board s h reported = elim (code_cases board s code h) [
  | inl draw ↦ absurd (not_zero Won (subst (λ n. is_stated_by Won n ≡ true) draw.0 reported))
  | inr (inl lost) ↦ absurd (omega (arith, lost.1, lost.2, told_even code reported))
  | inr (inr won) ↦
      let same : won.0 ≡ code - 1 = omega (arith, won.1) in
      (omega (arith, won.1), subst (IsWonIn board s) same won.3)
]
told_decided Lost code board s h reported = elim (code_cases board s code h) [
  | inl draw ↦ absurd (not_zero Lost (subst (λ n. is_stated_by Lost n ≡ true) draw.0 reported))
  | inr (inl lost) ↦
      let same : lost.0 ≡ code - 1 = omega (arith, lost.1) in
      (omega (arith, lost.1), subst (IsLostIn board s) same lost.3)
  | inr (inr won) ↦ absurd (omega (arith, won.1, won.2, told_odd code reported))
]

-- ---- the greatest code of those so far

-- the code of what was found, 0 where nothing was
abbrev pub code_found : List ℕ → Option ℕ → ℕ
code_found codes None = 0
code_found codes (Some entry) = get_or codes entry 0

module _ (outcome : Outcome) (codes : List ℕ) (seen : ℕ) where
  le_found : (found : Option ℕ) → IsGreatestStated outcome codes seen found → (i : ℕ) → i < seen → is_stated_by outcome (get_or codes i 0) ≡ true
      → get_or codes i 0 ≤ code_found codes found
  le_found None h i low reported = absurd (h i low reported)
  le_found (Some entry) h i low reported = h.none_greater i low reported

  -- the next code is greater, and states the outcome
  pub taken : (found : Option ℕ) → IsGreatestStated outcome codes seen found → is_stated_by outcome (get_or codes seen 0) ≡ true
      → code_found codes found < get_or codes seen 0 → IsFirstGreatest outcome codes (seen + 1) seen
  taken found h reported more = record {
    inside = omega arith;
    reported = reported;
    none_greater = λ i low i_told. elim (cases_eq i seen) [
      | inl e ↦ omega (arith, ap (λ j. get_or codes j 0) e)
      | inr d ↦ omega (arith, le_found found h i (omega arith) i_told, more)
    ];
    least = λ i low i_told. omega (arith, le_found found h i low i_told, more);
  }

  -- the next code isn't greater, or doesn't state it
  pub passed_over : (found : Option ℕ) → IsGreatestStated outcome codes seen found
      → (is_stated_by outcome (get_or codes seen 0) ≡ true → get_or codes seen 0 ≤ code_found codes found) → IsGreatestStated outcome codes (seen + 1) found
  passed_over None h less = λ i low reported. elim (cases_eq i seen) [
    | inl e ↦
        let here : is_stated_by outcome (get_or codes seen 0) ≡ true = subst (λ j. is_stated_by outcome (get_or codes j 0) ≡ true) e reported in
        let zero_code : get_or codes seen 0 ≡ 0 = omega (arith, less here) in
        not_zero outcome (subst (λ code. is_stated_by outcome code ≡ true) zero_code here)
    | inr d ↦ h i (omega arith) reported
  ]
  passed_over (Some entry) h less = record {
    inside = omega (arith, h.inside);
    reported = h.reported;
    none_greater = λ i low reported. elim (cases_eq i seen) [
      | inl e ↦ subst (λ j. get_or codes j 0 ≤ get_or codes entry 0) (sym e) (less (subst (λ j. is_stated_by outcome (get_or codes j 0) ≡ true) e reported))
      | inr d ↦ h.none_greater i (omega arith) reported
    ];
    least = h.least;
  }

-- ---- the position of the greatest code

module _ (board : Shape) (few : board.points ≤ 24) (y : HasSymmetries board) (t : Table) (exact : IsTable board t) (outcome : Outcome) where
  abbrev entry_of : Sides → ℕ
  entry_of s = entry_index board board.points t.layout t.pair s

  -- a decided position of the pair has its code, which states its outcome, at its entry
  decided_at : (s : Sides) → IsPosition board s → is_of t.pair s ≡ true → (depth : ℕ) → IsDecidedIn board outcome s depth
      → (entry_of s < length t.codes) × (get_or t.codes (entry_of s) 0 ≡ suc depth) × (is_stated_by outcome (get_or t.codes (entry_of s) 0) ≡ true)
  decided_at s h of depth decided =
      let is : get_or t.codes (entry_of s) 0 ≡ suc depth =
      one_code board s (get_or t.codes (entry_of s) 0) (suc depth) (exact.exact s h of) (code_of outcome depth board s decided) in (
        omega (arith, exact.counted, (laid board few y t.layout t.pair exact.lawful).below s h of),
        is,
        subst (λ code. is_stated_by outcome code ≡ true) (sym is) (told_code outcome depth board s decided),
      )

  pub none_told : ((i : ℕ) → i < length t.codes → is_stated_by outcome (get_or t.codes i 0) ≢ true)
      → (s : Sides) → IsPosition board s → is_of t.pair s ≡ true → (depth : ℕ) → ¬ IsDecidedIn board outcome s depth
  none_told none s h of depth = λ decided.
      let at = decided_at s h of depth decided in
      none (entry_of s) at.0 at.2

  module _ (entry : ℕ) (first : IsFirstGreatest outcome t.codes (length t.codes) entry) (s : Sides) (here : IsAtEntry board t.layout t.pair entry s) where
    abbrev code : ℕ
    code = get_or t.codes entry 0

    coded : IsCodeOf board s code
    coded = subst (λ i. IsCodeOf board s (get_or t.codes i 0)) here.entry (exact.exact s here.position here.of)

    pub above : code ≡ suc (code - 1)
    above = (told_decided outcome code board s coded first.reported).0

    pub deepest_at : IsDeepestAt board t.pair outcome s (code - 1)
    deepest_at = record {
      lawful = here.position;
      of = here.of;
      decided = (told_decided outcome code board s coded first.reported).1;
      none_deeper = λ other h of more decided.
          let at = decided_at other h of more decided in
          omega (arith, at.1, first.none_greater (entry_of other) at.0 at.2);
      least = λ other h of decided.
          let at = decided_at other h of (code - 1) decided in
          elim (cases_lt (entry_of other) entry) [
            | inl before ↦ absurd (omega (arith, at.1, above, first.least (entry_of other) before at.2))
            | inr after ↦ in_order board few y t.pair t.layout s other here.position h here.of of here.own (omega (arith, after, here.entry))
          ];
    }
