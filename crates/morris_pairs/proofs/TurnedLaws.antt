-- The nodes of a pair by rows, from the positions of its entries by classes.
use Rattle.std.proofs.Common.{◌≡◌, ℕ, ◌+◌, ◌<◌, ◌≤◌, true, length, filter, refl, sym, subst, ◌∙◌, arith}
use Rattle.std.proofs.lemmas.Bool.{eqb-true}
use Rattle.morris_board.specs.Boards.{Shape, is_board}
use Rattle.morris_board.specs.Sets.{count_of}
use Rattle.morris_board.specs.Positions.{Sides, IsPosition}
use Rattle.morris_board.specs.Symmetries.{HasSymmetries}
use Rattle.morris_moves.specs.Rules.{moves_of}
use Rattle.morris_index.specs.Classes.{representative_of}
use Rattle.morris_index.specs.ClassPairs.{class_half_size, class_size_of, class_index_of}
use Rattle.morris_index.specs.ByOpponent.{swap_sides}
use Rattle.morris_index.specs.Pairs.{Counts, IsPair, is_of}
use Rattle.morris_index.proofs.ClassPairLaws.{first_fits}
use Rattle.morris_index.proofs.FacingLaws.{turned_of, turned_position}
use Rattle.morris_wave.specs.Exits.{exits_of}
use Rattle.morris_pairs.specs.NetLaws.{points_few}
use Rattle.morris_pairs.specs.Orders.{Classes, Rows, is_first_half, row_index_of, own_in}
use Rattle.morris_pairs.specs.PairNets.{is_quiet, capture_codes, level_in, net_at}
use Rattle.morris_pairs.proofs.GraphLaws.{quiet_count_at, exits_same}
use Rattle.morris_pairs.proofs.PositionLaws.{position_of_node}
use Rattle.morris_pairs.proofs.RowNodeLaws.{first_first_half, greater_first_half, index-to_first_half, index-swap_sides, own-to_first_half, own-swap_sides}

-- ---- a node of the first half is the entry with its number

module _ (board : Shape) (lawful : is_board board ≡ true) (y : HasSymmetries board) (c : Counts) (pair : IsPair board.points c) (two : c.lesser < c.greater) where
  abbrev quiet_in : ℕ → Type 0
  quiet_in i =
      (length ((net_at board (level_in Classes c)).quiet i) ≡ length ((net_at board (level_in Rows c)).quiet i))
      × (exits_of ((net_at board (level_in Classes c)).exits i) ≡ exits_of ((net_at board (level_in Rows c)).exits i))

  first_here : (i : ℕ) → i < class_half_size board board.points c.greater c.lesser → quiet_in i
  first_here i low =
      let few = points_few board lawful in
      let inside : i < class_size_of board board.points c = omega (arith, low, first_fits board board.points few refl y c) in
      let at = position_of_node board few y Classes c pair i inside in
      let s : Sides = at.0 in
      let w = at.1 in
      let to_first_half : is_first_half s ≡ true = first_first_half board board.points few refl y c pair two s w.of (omega (arith, low, w.entry)) in
      let own : own_in board Rows s ≡ true = own-to_first_half board board.points few refl y c pair two s w.of to_first_half (eqb-true _ _ w.own) in
      let node : row_index_of board board.points c s ≡ i = index-to_first_half board board.points few refl y c pair two s w.of to_first_half ∙ w.entry in (
        sym (quiet_count_at board lawful y board.points refl Classes c pair s w.position w.of w.own i w.entry)
            ∙ quiet_count_at board lawful y board.points refl Rows c pair s w.position w.of own i node,
        sym (exits_same board lawful y board.points refl Classes c pair s w.position w.of w.own i w.entry)
            ∙ exits_same board lawful y board.points refl Rows c pair s w.position w.of own i node,
      )

  pub first_same : (n : ℕ) → board.points ≡ n → (i : ℕ) → i < class_half_size board n c.greater c.lesser → quiet_in i
  first_same n points = subst (λ m. (i : ℕ) → i < class_half_size board m c.greater c.lesser → quiet_in i) points first_here

-- ---- a node of the second half is such an entry with its sides swapped

module _ (board : Shape) (lawful : is_board board ≡ true) (y : HasSymmetries board) (n : ℕ) (few : n ≤ 24) (points : board.points ≡ n) (c : Counts) (pair : IsPair n c)
    (two : c.lesser < c.greater) (s : Sides) (h : IsPosition board s) (of : is_of c s ≡ true) (greater : count_of s.own ≡ c.greater)
    (least : representative_of board s.own ≡ s.own) (i : ℕ) (entry : class_index_of board n c s ≡ i) where
  pair_here : IsPair board.points c
  pair_here = subst (λ m. IsPair m c) (sym points) pair

  to_first_half : is_first_half s ≡ true
  to_first_half = greater_first_half board n few points y c pair two s of greater

  there : IsPosition board (swap_sides s)
  there = turned_position board n few points y c pair s h of

  node : row_index_of board n c (swap_sides s) ≡ class_half_size board n c.greater c.lesser + i
  node = omega (arith, index-swap_sides board n few points y c pair two s of to_first_half, entry)

  own : own_in board Rows (swap_sides s) ≡ true
  own = own-swap_sides board n few points y c pair two s of to_first_half least

  pub swapped_quiet : length (filter is_quiet (moves_of board (swap_sides s)))
      ≡ length ((net_at board (level_in Rows c)).quiet (class_half_size board n c.greater c.lesser + i))
  swapped_quiet = quiet_count_at board lawful y n points Rows c pair_here (swap_sides s) there (turned_of c s of) own (class_half_size board n c.greater c.lesser + i) node

  pub swapped_exits : exits_of (capture_codes board (swap_sides s)) ≡ exits_of ((net_at board (level_in Rows c)).exits (class_half_size board n c.greater c.lesser + i))
  swapped_exits = exits_same board lawful y n points Rows c pair_here (swap_sides s) there (turned_of c s of) own (class_half_size board n c.greater c.lesser + i) node
