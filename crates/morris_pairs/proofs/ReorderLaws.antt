-- The codes of a pair's nodes by rows, in the order of its entries by classes, are those of the
-- entries.
use Rattle.std.proofs.Common.{◌≡◌, ℕ, ◌+◌, ◌-◌, ◌<◌, ◌≤◌, true, List, ◌++◌, length, take, get_or, refl, sym, ap, subst, ◌∙◌, inl, inr, arith, zero-add}
use Rattle.std.proofs.lemmas.Bool.{cases_lt}
use Rattle.std.proofs.lemmas.List.{length-take-le, get_or-take, get_or_append_left, get_or-append_right}
use Rattle.morris_board.specs.Boards.{Shape, is_board}
use Rattle.morris_board.specs.Positions.{Sides}
use Rattle.morris_board.specs.Symmetries.{HasSymmetries}
use Rattle.morris_index.specs.ClassPairs.{class_half_size}
use Rattle.morris_index.specs.Pairs.{Counts, IsPair}
use Rattle.morris_wave.specs.Values.{HasCode}
use Rattle.morris_pairs.specs.Codes.{IsCodeOf}
use Rattle.morris_pairs.specs.EntryLaws.{laid_in}
use Rattle.morris_pairs.specs.Graphs.{HasValuesIn}
use Rattle.morris_pairs.specs.NetLaws.{points_few}
use Rattle.morris_pairs.specs.Orders.{Classes, Rows, is_first_half, count_in, index_in}
use Rattle.morris_pairs.specs.PairNets.{level_in, net_at}
use Rattle.morris_pairs.specs.RowGraphs.{IsEntryCode, AreCodesFrom}
use Rattle.morris_pairs.proofs.GraphLaws.{size_at}
use Rattle.morris_pairs.proofs.PositionLaws.{position_of_node}
use Rattle.morris_pairs.proofs.RowNodeLaws.{first_first_half, index-to_first_half}

-- that of an entry, from a range of the codes in which it is
module _ (board : Shape) (n : ℕ) (c : Counts) (nodes chunk written rest : List ℕ) (half start offset len many k : ℕ) where
  pub code-in_chunk : AreCodesFrom board n c nodes (half + start) len chunk → offset < len → start + offset ≡ k → k < many → k < length written
      → get_or chunk offset 0 ≡ get_or written k 0 → IsEntryCode board n c nodes (half + k) (get_or (take many (written ++ rest)) k 0)
  code-in_chunk each inside place low within same =
      let entry : half + start + offset ≡ half + k = omega arith in
      let is : get_or chunk offset 0 ≡ get_or (take many (written ++ rest)) k 0 =
      same ∙ sym (get_or-take many (written ++ rest) k 0 low ∙ get_or_append_left written rest 0 k within) in
      subst (λ code. IsEntryCode board n c nodes (half + k) code) is
      (subst (λ i. IsEntryCode board n c nodes i (get_or chunk offset 0)) entry (each offset inside))

module _ (board : Shape) (lawful : is_board board ≡ true) (y : HasSymmetries board) (n : ℕ) (few : n ≤ 24) (points : board.points ≡ n) (c : Counts) (pair : IsPair n c)
    (two : c.lesser < c.greater) (nodes second_half : List ℕ) (split : ℕ) (is : split ≡ class_half_size board n c.greater c.lesser) (fits : split ≤ length nodes)
    (some : ℕ) (all : split + some ≡ count_in board n Classes c) (second : AreCodesFrom board n c nodes (class_half_size board n c.greater c.lesser) some second_half) where
  -- those of the first half are those of as many nodes, and those of the second half follow them
  both_halves : AreCodesFrom board n c nodes 0 (count_in board n Classes c) (take split nodes ++ second_half)
  both_halves k low s h of own at = elim (cases_lt k split) [
    | inl l ↦
        let to_first_half : is_first_half s ≡ true = first_first_half board n few points y c pair two s of (omega (arith, l, at, is)) in
        let node : index_in board n Rows c s ≡ k = index-to_first_half board n few points y c pair two s of to_first_half ∙ (at ∙ zero-add k) in
        get_or_append_left (take split nodes) second_half 0 k (omega (arith, l, length-take-le split nodes fits))
        ∙ (get_or-take split nodes k 0 l ∙ ap (λ i. get_or nodes i 0) (sym node))
    | inr past ↦
        get_or-append_right (take split nodes) second_half split k 0 (length-take-le split nodes fits) past
        ∙ second (k - split) (omega (arith, low, all, past)) s h of own (omega (arith, at, past, is))
  ]

  -- and so each entry has its code where each node has
  module _ (values : HasValuesIn board Rows c) (also : HasValuesIn board Classes c)
      (each : (i : ℕ) → i < (net_at board (level_in Rows c)).size → HasCode (net_at board (level_in Rows c)) i (get_or nodes i 0)) where
    pub entry_codes : (i : ℕ) → i < (net_at board (level_in Classes c)).size
        → HasCode (net_at board (level_in Classes c)) i (get_or (take split nodes ++ second_half) i 0)
    entry_codes i low =
        let here : IsPair board.points c = subst (λ m. IsPair m c) (sym points) pair in
        let little = points_few board lawful in
        let codes : List ℕ = take split nodes ++ second_half in
        let same : AreCodesFrom board board.points c nodes 0 (count_in board board.points Classes c) codes =
        subst (λ m. AreCodesFrom board m c nodes 0 (count_in board m Classes c) codes) (sym points) both_halves in
        let inside : i < count_in board board.points Classes c = subst (λ k. i < k) (size_at board lawful y board.points refl Classes c here) low in
        let at = position_of_node board little y Classes c here i inside in
        let s : Sides = at.0 in
        let w = at.1 in
        let node : ℕ = index_in board board.points Rows c s in
        let node_low : node < (net_at board (level_in Rows c)).size =
        subst (λ k. node < k) (sym (size_at board lawful y board.points refl Rows c here)) ((laid_in board little y Rows c here).below s w.position w.of) in
        let coded : IsCodeOf board s (get_or nodes node 0) = (values s (get_or nodes node 0) w.position w.of).0 (each node node_low) in
        let code_same : get_or nodes node 0 ≡ get_or codes i 0 = sym (same i inside s w.position w.of w.own (omega (arith, w.entry))) in
        subst (λ k. HasCode (net_at board (level_in Classes c)) k (get_or codes i 0)) w.entry
        ((also s (get_or codes i 0) w.position w.of).1 (subst (IsCodeOf board s) code_same coded))
