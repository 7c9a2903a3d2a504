-- The state of a block of a pair's graph states the game's values.
use Rattle.std.proofs.Common.{◌≡◌, ℕ, zero, suc, ◌+◌, ◌<◌, ◌≤◌, true, Bool, map, length, ◌∷◌, ◌++◌, refl, sym, ap, ap₂, subst, ◌∙◌, inl, inr, arith}
use Rattle.std.proofs.lemmas.Bool.{cases_Bool, cond-true, cond-false}
use Rattle.std.proofs.lemmas.List.{length-map}
use Rattle.std.specs.List.{flat_map, range_with_len}
use Rattle.morris_board.specs.Boards.{Shape, is_board}
use Rattle.morris_board.specs.Positions.{Sides, IsPosition}
use Rattle.morris_board.specs.Symmetries.{HasSymmetries}
use Rattle.morris_index.specs.Pairs.{Counts, IsPair, is_of}
use Rattle.morris_wave.specs.Nets.{Net}
use Rattle.morris_wave.specs.Blocks.{BlockState, in_applied, first_of, first_node, count_of, entries_of}
use Rattle.morris_wave.specs.Values.{code_within, HasCode}
use Rattle.morris_wave.specs.Waves.{is_decided_at, entry_at}
use Rattle.morris_wave.proofs.Depths.{code_is}
use Rattle.morris_wave.proofs.Known.{decided_at_most, entry_code}
use Rattle.morris_wave.proofs.Blocking.{first_of-le}
use Rattle.morris_wave.proofs.Settled.{three_kinds}
use Rattle.morris_pairs.specs.Orders.{Order, count_in, index_in}
use Rattle.morris_pairs.specs.EntryLaws.{laid_in}
use Rattle.morris_pairs.specs.Codes.{IsCodeOf}
use Rattle.morris_pairs.specs.PairNets.{at_index, net_in, net_at}
use Rattle.morris_pairs.specs.Headline.{IsBlockIn, positions_in, entry_of, StatesIn}
use Rattle.morris_pairs.specs.NetLaws.{points_few, size-net_in, net_at-level_in}
use Rattle.morris_pairs.proofs.NodeLaws.{small_code}
use Rattle.morris_pairs.proofs.PositionLaws.{at_index-some}

-- an entry is at most one more than the wave
entry_small : (g : Net) (n : ℕ) (a : ℕ → Bool) (i : ℕ) → entry_at g n a i ≤ suc n
entry_small g n a i = elim (cases_Bool (is_decided_at g n a i)) [
  | inl decided ↦
      omega (arith, cond-true {A = ℕ} (is_decided_at g n a i) (code_within g (suc n) i) 0 decided, (code_is g (suc n) i (decided_at_most g n a i decided)).1)
  | inr still ↦ omega (arith, cond-false {A = ℕ} (is_decided_at g n a i) (code_within g (suc n) i) 0 still)
]

-- what is said of each entry of a range is said of the positions that have these entries
listed_from : (board : Shape) → board.points ≤ 24 → HasSymmetries board → (o : Order) (c : Counts) → IsPair board.points c → (f : ℕ → ℕ) (first count : ℕ)
    → ((i : ℕ) → first ≤ i → i < first + count → i < count_in board board.points o c)
    → map f (range_with_len first count) ≡ map (λ p. f (index_in board board.points o c p)) (flat_map (at_index board o c) (range_with_len first count))
listed_from board few y o c pair f first zero inside = refl
listed_from board few y o c pair f first (suc count) inside =
    let one = at_index-some board few y o c pair first (inside first (omega arith) (omega arith)) in
    let rest = flat_map (at_index board o c) (range_with_len (first + 1) count) in
    ap₂ (λ x xs. x ∷ xs) (ap f (sym one.1.entry)) (listed_from board few y o c pair f (first + 1) count (λ i low high. inside i (omega arith) (omega arith)))
    ∙ sym (ap (λ ps. map (λ p. f (index_in board board.points o c p)) (ps ++ rest)) one.2)

module _ (board : Shape) (lawful : is_board board ≡ true) (y : HasSymmetries board) (o : Order) (c : Counts) (pair : IsPair board.points c) (s : BlockState)
    (h : IsBlockIn board o c s) where
  same_net : net_at board s.level ≡ net_in board o c
  same_net = ap (net_at board) h.level ∙ net_at-level_in board lawful y o c pair

  exact_at : (p : Sides) → IsPosition board p → is_of c p ≡ true → 0 < entry_of board o c s p → IsCodeOf board p (entry_of board o c s p)
  exact_at p position of decided =
      let g : Net = net_at board s.level in
      let i : ℕ = index_in board board.points o c p in
      small_code board (points_few board lawful) o c (laid_in board (points_few board lawful) y o c pair) p position of (entry_of board o c s p) decided
      (omega (arith, h.block.wave, entry_small g s.wave (in_applied s) i))
      (subst (λ (net : Net). HasCode net i (entry_of board o c s p)) same_net (entry_code g s.wave (in_applied s) i decided))

  nodes_inside : (i : ℕ) → first_node s ≤ i → i < first_node s + count_of s → i < count_in board board.points o c
  nodes_inside i low high =
      let last : first_of s.cut (s.number + 1) ≤ s.cut.size = first_of-le s.cut h.block.cut (s.number + 1) (omega (arith, h.block.number)) in
      let size : s.cut.size ≡ count_in board board.points o c = sym h.block.size ∙ ap (λ (g : Net). g.size) same_net ∙ size-net_in board o c in
      omega (arith, last, size, low, high)

  listed_here : entries_of (net_at board s.level) s ≡ map (entry_of board o c s) (positions_in board o c s)
  listed_here =
      listed_from board (points_few board lawful) y o c pair (entry_at (net_at board s.level) s.wave (in_applied s)) (first_node s) (count_of s) nodes_inside

  tells : StatesIn board o c s
  tells = record {
    exact = λ p position of inside decided. exact_at p position of decided;
    listed = listed_here;
    tallied = three_kinds (entries_of (net_at board s.level) s) ∙ ap length listed_here ∙ length-map (positions_in board o c s) (entry_of board o c s);
  }

-- the same, where the board's number of points is known by another name
pub whenever : (board : Shape) → is_board board ≡ true → HasSymmetries board → (n : ℕ) → board.points ≡ n → (c : Counts) → IsPair n c
    → (o : Order) (s : BlockState) → IsBlockIn board o c s → StatesIn board o c s
whenever board lawful y n points c pair o s h = tells board lawful y o c (subst (λ m. IsPair m c) (sym points) pair) s h
