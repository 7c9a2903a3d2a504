-- Laws of codes: a position has one code, and the code is found by looking through the depths in
-- order.
use Rattle.std.proofs.Common.{◌≡◌, ℕ, zero, suc, ◌+◌, ◌<◌, ◌≤◌, ◌%◌, true, false, cond, eqb, refl, sym, ap, subst, ◌∙◌, inl, inr, ◌⊎◌, arith}
use Rattle.std.proofs.lemmas.Bool.{cases_eq, eq-eqb, ne_eqb, or_left, or_right, or_from, cond-true, cond-false}
use Rattle.std.specs.List.{Contains}
use Rattle.morris_board.specs.Sets.{members, count_of}
use Rattle.morris_board.specs.Boards.{Shape}
use Rattle.morris_board.specs.Positions.{Sides}
use Rattle.morris_moves.specs.declared.game_move.Move.{Move}
use Rattle.morris_moves.specs.Rules.{reach, moves_to, moves_from, moves_of}
use Rattle.morris_moves.specs.Values.{is_lost, is_won, IsOpen, IsLostIn, IsWonIn, IsDraw}
use Rattle.morris_moves.proofs.ListLaws.{Contains-flat_map_cases, contained_all}
use Rattle.morris_moves.proofs.SetLaws.{has-member}
use Rattle.morris_moves.proofs.LegalLaws.{reached}
use Rattle.morris_moves.proofs.ValueLaws.{lost_longer, won_longer, lost_once, won_once, lost_not_won, lost_no_draw, won_no_draw, lost_is_even, won_is_odd}
use Rattle.morris_pairs.specs.declared.value.Value.TheVariants.{Won, Lost}
use Rattle.morris_pairs.specs.Codes.{IsValue, value_in, IsCodeOf, is_decided, code_to}

-- ---- what a number says as a code

pub value_in-even : (depth : ℕ) → depth % 2 ≡ 0 → value_in (suc depth) ≡ Lost depth
value_in-even depth even = cond-true (eqb (depth % 2) 0) (Lost depth) (Won depth) (eq-eqb (depth % 2) 0 even)

pub value_in-odd : (depth : ℕ) → depth % 2 ≡ 1 → value_in (suc depth) ≡ Won depth
value_in-odd depth odd = cond-false (eqb (depth % 2) 0) (Lost depth) (Won depth) (ne_eqb (depth % 2) 0 (λ e. omega arith))

module _ (board : Shape) (s : Sides) where
  -- a code is 0 at a draw, and else one more than an even depth of a loss, or than an odd depth of
  -- a win
  abbrev pub IsDrawCode : ℕ → Type 0
  IsDrawCode code = (code ≡ 0) × IsDraw board s

  abbrev pub IsLostCode : ℕ → Type 0
  IsLostCode code = (depth : ℕ) × (code ≡ suc depth) × (depth % 2 ≡ 0) × IsLostIn board s depth

  abbrev pub IsWonCode : ℕ → Type 0
  IsWonCode code = (depth : ℕ) × (code ≡ suc depth) × (depth % 2 ≡ 1) × IsWonIn board s depth

  pub code_cases : (code : ℕ) → IsCodeOf board s code → IsDrawCode code ⊎ (IsLostCode code ⊎ IsWonCode code)
  code_cases zero h = inl (refl, h)
  code_cases (suc depth) h = elim (cases_eq (depth % 2) 0) [
    | inl even ↦ inr (inl (depth, refl, even, subst (IsValue board s) (value_in-even depth even) h))
    | inr differ ↦ let odd : depth % 2 ≡ 1 = omega arith in inr (inr (depth, refl, odd, subst (IsValue board s) (value_in-odd depth odd) h))
  ]

  pub code_of_draw : IsDraw board s → IsCodeOf board s 0
  code_of_draw h = h

  pub code_of_lost : (depth : ℕ) → IsLostIn board s depth → IsCodeOf board s (suc depth)
  code_of_lost depth h = subst (IsValue board s) (sym (value_in-even depth (lost_is_even board s depth h))) h

  pub code_of_won : (depth : ℕ) → IsWonIn board s depth → IsCodeOf board s (suc depth)
  code_of_won depth h = subst (IsValue board s) (sym (value_in-odd depth (won_is_odd board s depth h))) h

  -- a position has one code
  pub one_code : (a b : ℕ) → IsCodeOf board s a → IsCodeOf board s b → a ≡ b
  one_code a b h k = elim (code_cases a h) [
    | inl draw ↦ elim (code_cases b k) [
      | inl other ↦ draw.0 ∙ sym other.0
      | inr decided ↦ elim decided [
        | inl lost ↦ absurd (lost_no_draw board s lost.0 lost.3 draw.1)
        | inr won ↦ absurd (won_no_draw board s won.0 won.3 draw.1)
      ]
    ]
    | inr decided ↦ elim decided [
      | inl lost ↦ elim (code_cases b k) [
        | inl draw ↦ absurd (lost_no_draw board s lost.0 lost.3 draw.1)
        | inr others ↦ elim others [
          | inl other ↦ lost.1 ∙ ap suc (lost_once board s lost.0 other.0 lost.3 other.3) ∙ sym other.1
          | inr won ↦ absurd (lost_not_won board s lost.0 won.0 lost.3 won.3)
        ]
      ]
      | inr won ↦ elim (code_cases b k) [
        | inl draw ↦ absurd (won_no_draw board s won.0 won.3 draw.1)
        | inr others ↦ elim others [
          | inl lost ↦ absurd (lost_not_won board s lost.0 won.0 lost.3 won.3)
          | inr other ↦ won.1 ∙ ap suc (won_once board s won.0 other.0 won.3 other.3) ∙ sym other.1
        ]
      ]
    ]
  ]

  -- ---- a search through the depths in order

  pub decided_not : (n : ℕ) → IsOpen board s n → is_decided n board s ≡ false
  decided_not n h = or_from (is_lost n board s) (is_won n board s) h.not_lost h.not_won

  pub decided_lost : (depth n : ℕ) → depth ≤ n → IsLostIn board s depth → is_decided n board s ≡ true
  decided_lost depth n low h = or_left (is_lost n board s) (is_won n board s) (lost_longer board s depth n low h.lost)

  pub decided_won : (depth n : ℕ) → depth ≤ n → IsWonIn board s depth → is_decided n board s ≡ true
  decided_won depth n low h = or_right (is_lost n board s) (is_won n board s) (won_longer board s depth n low h.won)

  cache : (n : ℕ) → is_decided n board s ≡ true → code_to (suc n) board s ≡ code_to n board s
  unfolding code_to
  cache n h = cond-true {A = ℕ} (is_decided n board s) (code_to n board s) (cond (is_decided (suc n) board s) (n + 2) 0) h

  pub code_to-open : (n : ℕ) → ((k : ℕ) → k ≤ n → is_decided k board s ≡ false) → code_to n board s ≡ 0
  unfolding code_to
  code_to-open zero none = cond-false {A = ℕ} (is_decided zero board s) 1 0 (none zero (omega arith))
  code_to-open (suc n) none =
      cond-false {A = ℕ} (is_decided n board s) (code_to n board s) (cond (is_decided (suc n) board s) (n + 2) 0) (none n (omega arith))
      ∙ cond-false {A = ℕ} (is_decided (suc n) board s) (n + 2) 0 (none (suc n) (omega arith))

  newly : (n : ℕ) → is_decided n board s ≡ true → ((k : ℕ) → k < n → is_decided k board s ≡ false) → code_to n board s ≡ suc n
  unfolding code_to
  newly zero h none = cond-true {A = ℕ} (is_decided zero board s) 1 0 h
  newly (suc n) h none =
      let now : cond {A = ℕ} (is_decided (suc n) board s) (n + 2) 0 ≡ n + 2 = cond-true {A = ℕ} (is_decided (suc n) board s) (n + 2) 0 h in
      let e : n + 2 ≡ suc (suc n) = omega arith in
      cond-false {A = ℕ} (is_decided n board s) (code_to n board s) (cond (is_decided (suc n) board s) (n + 2) 0) (none n (omega arith)) ∙ now ∙ e

  pub code_to-at : (depth n : ℕ) → depth ≤ n → ((k : ℕ) → depth ≤ k → is_decided k board s ≡ true)
      → ((k : ℕ) → k < depth → is_decided k board s ≡ false) → code_to n board s ≡ suc depth
  code_to-at depth zero low from before =
      let e : depth ≡ zero = omega arith in
      subst (λ k. code_to k board s ≡ suc depth) e (newly depth (from depth (omega arith)) before)
  code_to-at depth (suc n) low from before = elim (cases_eq depth (suc n)) [
    | inl e ↦ subst (λ k. code_to k board s ≡ suc depth) e (newly depth (from depth (omega arith)) before)
    | inr differ ↦ cache n (from n (omega arith)) ∙ code_to-at depth n (omega arith) from before
  ]

  -- a search far enough finds the code
  pub code_to-is_in : (n code : ℕ) → IsCodeOf board s code → code ≤ suc n → code_to n board s ≡ code
  code_to-is_in n code h low = elim (code_cases code h) [
    | inl draw ↦ code_to-open n (λ k l. decided_not k (draw.1.never k)) ∙ sym draw.0
    | inr decided ↦ elim decided [
      | inl lost ↦
          code_to-at lost.0 n (omega (arith, lost.1)) (λ k l. decided_lost lost.0 k l lost.3) (λ k l. decided_not k (lost.3.least k l)) ∙ sym lost.1
      | inr won ↦
          code_to-at won.0 n (omega (arith, won.1)) (λ k l. decided_won won.0 k l won.3) (λ k l. decided_not k (won.3.least k l)) ∙ sym won.1
    ]
  ]

  -- the search up to 65,534 plies finds each code of 16 bits
  pub code_to-is : (code : ℕ) → IsCodeOf board s code → code ≤ 65535 → code_to 65534 board s ≡ code
  code_to-is code h low = code_to-is_in 65534 code h (omega arith)

  -- ---- a player with fewer than three stones has no move, and so has lost in 0 plies

  pub no_moves : count_of s.own < 3 → (m : Move) → Contains (moves_of board s) m → ⊥
  unfolding moves_of moves_from
  no_moves few m c =
      let starts = Contains-flat_map_cases (moves_from board s) (members s.own) m c in
      let ends = Contains-flat_map_cases (moves_to board s starts.0) (members (reach board s starts.0)) m starts.2 in
      let enough : 3 ≤ count_of s.own = (reached board s starts.0 ends.0 (has-member (reach board s starts.0) ends.0 ends.1)).enough in
      omega arith

  lost_at_once : count_of s.own < 3 → is_lost 0 board s ≡ true
  unfolding is_lost
  lost_at_once few = contained_all (λ m. false) (moves_of board s) (λ m c. absurd (no_moves few m c))

  pub code_of_stuck : count_of s.own < 3 → IsCodeOf board s 1
  code_of_stuck few = code_of_lost 0 (record { lost = lost_at_once few; least = λ n low. absurd (omega arith) })
