-- The predecessors of many nodes of a graph by rows, row by row.
use Rattle.std.proofs.Common.{◌≡◌, ℕ, ◌+◌, ◌-◌, ◌<◌, ◌≤◌, true, false, eqb, cond, None, List, [], ◌∷◌, length, take, get_or, refl, sym, ap, ap₂, subst, ◌∙◌, inl, inr, arith, length-append, zero-add}
use Rattle.std.proofs.lemmas.Bool.{both_ways}
use Rattle.std.proofs.lemmas.List.{take_all, length-take-le}
use Rattle.std.proofs.lemmas.List.Elements.{All-append, All-cons}
use Rattle.std.proofs.lemmas.List.Sums.{sum_by-append, sum_by_more}
use Rattle.std.specs.List.{All, sum_by}
use Rattle.morris_board.specs.Boards.{Shape, is_board}
use Rattle.morris_board.specs.Sets.{has, count_of, with_point, without_point}
use Rattle.morris_board.specs.Positions.{Sides, sides, IsPosition}
use Rattle.morris_board.specs.Symmetries.{HasSymmetries}
use Rattle.morris_moves.specs.Backward.{unmove}
use Rattle.morris_moves.specs.Rules.{is_vacant, move, move_stone}
use Rattle.morris_moves.proofs.BackLaws.{count_of-before_own, IsPosition-before}
use Rattle.morris_index.specs.Classes.{representative_of}
use Rattle.morris_index.specs.ClassPairs.{class_half_size, class_index_of}
use Rattle.morris_index.specs.EntryRows.{InRow, IsInRow}
use Rattle.morris_index.specs.ByOpponent.{swap_sides}
use Rattle.morris_index.specs.Moves.{unmove_sides}
use Rattle.morris_index.specs.Pairs.{Counts, IsPair, is_of}
use Rattle.morris_index.proofs.FacingLaws.{turned_of, turned_position}
use Rattle.morris_wave.specs.Nets.{Net, times}
use Rattle.morris_pairs.specs.Predecessors.{predecessors_in_rows, AddsPredecessorsIn}
use Rattle.morris_pairs.specs.EntryLaws.{first_half_cases}
use Rattle.morris_pairs.specs.Orders.{Rows, is_first_half, row_size_of, row_index_of, count_in}
use Rattle.morris_pairs.specs.PairNets.{net_in, level_in, net_at}
use Rattle.morris_pairs.proofs.GraphLaws.{are_nodes, nodes_at, times_all_at}
use Rattle.morris_pairs.proofs.RowNodeLaws.{first_first_half, index-to_first_half, index-swap_sides, index-second_half, size-two_halves, own-to_first_half, first_index-lt, second_half_swapped, prior_of, prior_second_half, before-in_row}
use Rattle.morris_pairs.specs.RowPredecessors.{ArePredecessors}
use Rattle.morris_pairs.proofs.RowStepLaws.{lesser_count, is_first_half_here}

-- ---- one node more

module _ (b : Shape) (n : ℕ) (c : Counts) where
  abbrev net : Net
  net = net_in b Rows c

  pub before_none : (nodes : List ℕ) → ArePredecessors b n c (take 0 nodes) []
  before_none nodes = record { often = λ j low. refl; inside = λ k d low. absurd (omega arith); few = omega arith }

  pub before_more : (nodes : List ℕ) (i : ℕ) → i < length nodes → (s : Sides) (old new : List ℕ) → ArePredecessors b n c (take i nodes) old → AddsPredecessorsIn Rows b n c s old new
      → row_index_of b n c s ≡ get_or nodes i 0 → ArePredecessors b n c (take (i + 1) nodes) new
  before_more nodes i low s old new unmove more at = record {
    often = λ j small. omega (
      arith,
      ap (times j) more.follow,
      sum_by-append (λ x. cond {A = ℕ} (eqb x j) 1 0) old more.added,
      unmove.often j small,
      more.often j small,
      ap (λ k. times k (net.quiet j)) at,
      sum_by_more (λ k. times k (net.quiet j)) nodes i 0 low,
    );
    inside = subst (All (λ j. j < count_in b n Rows c)) (sym more.follow) (All-append (λ j. j < count_in b n Rows c) old more.added unmove.inside more.nodes);
    few = omega (arith, unmove.few, more.few, ap length more.follow, length-append old more.added, length-take-le i nodes (omega arith), length-take-le (i + 1) nodes (omega arith));
  }

  pub before_all : (nodes : List ℕ) (i : ℕ) (listed : List ℕ) → length nodes ≤ i → ArePredecessors b n c (take i nodes) listed → ArePredecessors b n c nodes listed
  before_all nodes i listed high unmove = subst (λ xs. ArePredecessors b n c xs listed) (take_all i nodes high) unmove

-- ---- the rows of the first half of the entries, in which the player to move has more stones

module _ (b : Shape) (n : ℕ) (few : n ≤ 24) (points : b.points ≡ n) (y : HasSymmetries b) (c : Counts) (pair : IsPair n c) (two : c.lesser < c.greater) (row : InRow)
    (of_pair : row.pair ≡ c) where
  abbrev half : ℕ
  half = class_half_size b n c.greater c.lesser

  pub row_greater : (s : Sides) → IsInRow b n row 0 s → row.first < half → count_of row.own ≡ c.greater
  row_greater s there low =
      let of : is_of c s ≡ true = subst (λ d. is_of d s ≡ true) of_pair there.counts in
      let at : class_index_of b n c s ≡ row.first + 0 = subst (λ d. class_index_of b n d s ≡ row.first + 0) of_pair there.entry in
      let e : is_first_half s ≡ true = first_first_half b n few points y c pair two s of (omega arith) in
      sym (ap count_of there.own)
      ∙ elim (first_half_cases n c pair s of) [
        | inl a ↦ a.1
        | inr a ↦ absurd (both_ways (is_first_half s) a.0 e)
      ]

  module _ (greater : count_of row.own ≡ c.greater) (place : ℕ) (s : Sides) (counts : is_of row.pair s ≡ true) (own : s.own ≡ row.own)
      (entry : class_index_of b n row.pair s ≡ row.first + place) where
    pub row_of : is_of c s ≡ true
    row_of = subst (λ d. is_of d s ≡ true) of_pair counts

    pub row_own_greater : count_of s.own ≡ c.greater
    row_own_greater = ap count_of own ∙ greater

    entry_here : class_index_of b n c s ≡ row.first + place
    entry_here = subst (λ d. class_index_of b n d s ≡ row.first + place) of_pair entry

    first_half_here : is_first_half s ≡ true
    first_half_here = elim (first_half_cases n c pair s row_of) [
      | inl a ↦ a.0
      | inr a ↦ absurd (omega (arith, a.2, row_own_greater, two))
    ]

    pub row_node : row_index_of b n c s ≡ row.first + place
    row_node = index-to_first_half b n few points y c pair two s row_of first_half_here ∙ entry_here

    pub row_node_swapped : row_index_of b n c (swap_sides s) ≡ half + (row.first + place)
    row_node_swapped = index-swap_sides b n few points y c pair two s row_of first_half_here ∙ ap (λ i. half + i) entry_here

-- a node of the second half, without the first half
pub second_low : (b : Shape) (n : ℕ) (few : n ≤ 24) (points : b.points ≡ n) (y : HasSymmetries b) (c : Counts) (pair : IsPair n c) (two : c.lesser < c.greater) (node : ℕ)
    → node < row_size_of b n c → node - class_half_size b n c.greater c.lesser < class_half_size b n c.greater c.lesser
second_low b n few points y c pair two node low = omega (arith, size-two_halves b n few points y c pair two)

-- ---- a move before a node of the first half

module _ (b : Shape) (n : ℕ) (few : n ≤ 24) (points : b.points ≡ n) (y : HasSymmetries b) (c : Counts) (pair : IsPair n c) (two : c.lesser < c.greater)
    (s : Sides) (h : IsPosition b s) (of : is_of c s ≡ true) (greater : count_of s.own ≡ c.greater) (least : representative_of b s.own ≡ s.own)
    (own : ℕ) (own_is : own ≡ s.own) (v : ℕ) (end : has s.other v ≡ true) (u : ℕ) (start : u < n) (vacant : is_vacant s u ≡ true)
    (set : ℕ) (set_is : set ≡ with_point (without_point s.other v) u) where
  few_points : b.points ≤ 24
  few_points = omega arith

  abbrev prior : Sides
  prior = unmove_sides s u v

  low : u < b.points
  low = omega arith

  first_half_now : is_first_half s ≡ true
  first_half_now = is_first_half_here n c pair two s of greater

  prior_own : count_of prior.own ≡ count_of s.other
  unfolding unmove move_stone
  prior_own = count_of-before_own b few_points s h (move u v None) low vacant end

  prior_is : IsPosition b prior
  unfolding unmove move_stone
  prior_is = IsPosition-before b few_points s h (move u v None) low vacant end (omega (arith, greater, pair.least, pair.ordered))

  prior_pair : is_of c prior ≡ true
  prior_pair = prior_of b n few points y c pair two s prior of prior_own refl

  prior_second_half_is : is_first_half prior ≡ false
  prior_second_half_is = prior_second_half b n few points y c pair two s prior of prior_own refl first_half_now

  sides_are : sides own set ≡ swap_sides prior
  sides_are = ap₂ sides own_is set_is

  pub row_counted : count_of set ≡ c.lesser
  row_counted = ap count_of set_is ∙ prior_own ∙ lesser_count n c pair two s of greater

  pub row_lawful : IsPosition b (sides own set)
  row_lawful = subst (IsPosition b) (sym sides_are) (turned_position b n few points y c pair prior prior_is prior_pair)

  after_is_first_half : is_first_half (swap_sides prior) ≡ true
  after_is_first_half = second_half_swapped b n few points y c pair two prior prior_pair prior_second_half_is

  pub row_low : class_index_of b n c (sides own set) < class_half_size b n c.greater c.lesser
  row_low = subst (λ t. class_index_of b n c t < class_half_size b n c.greater c.lesser) (sym sides_are)
      (first_index-lt b n few points y c pair two (swap_sides prior) (turned_of c prior prior_pair) after_is_first_half
      (turned_position b n few points y c pair prior prior_is prior_pair))

  pub row_before : predecessors_in_rows b n c s u v ≡ (class_half_size b n c.greater c.lesser + class_index_of b n c (sides own set)) ∷ []
  row_before =
      before-in_row b n few points y c s u v h (own-to_first_half b n few points y c pair two s of first_half_now least) first_half_now prior_is prior_second_half_is
      ∙ ap (λ (i : ℕ). i ∷ []) (index-second_half b n few points y c pair two prior prior_pair prior_second_half_is
      ∙ ap (λ t. class_half_size b n c.greater c.lesser + class_index_of b n c t) (sym sides_are))

-- ---- the lists of the graph

module _ (b : Shape) (lawful : is_board b ≡ true) (y : HasSymmetries b) (n : ℕ) (points : b.points ≡ n) (c : Counts) (pair : IsPair n c) (k : Counts) (same : k ≡ c) where
  abbrev graph : Net
  graph = net_at b (level_in Rows c)

  pair_here : IsPair b.points c
  pair_here = subst (λ m. IsPair m c) (sym points) pair

  pub nodes_given : (nodes : List ℕ) → All (λ j. j < graph.size) nodes → All (λ j. j < count_in b n Rows k) nodes
  nodes_given nodes h = subst (λ d. All (λ j. j < count_in b n Rows d) nodes) (sym same) (are_nodes b lawful y n points Rows c pair_here nodes h)

  pub node_given : (i : ℕ) → i < graph.size → All (λ j. j < count_in b n Rows k) (i ∷ [])
  node_given i low = nodes_given (i ∷ []) (All-cons (λ j. j < graph.size) i [] low (λ place d high. absurd (omega arith)))

  pub nodes_listed : (xs : List ℕ) → All (λ j. j < count_in b n Rows k) xs → All (λ j. j < graph.size) xs
  nodes_listed xs h = nodes_at b lawful y n points Rows c pair_here xs (subst (λ d. All (λ j. j < count_in b n Rows d) xs) same h)

  pub times_listed : (xs nodes : List ℕ)
      → ((j : ℕ) → j < count_in b n Rows k → times j xs ≡ sum_by (λ i. times i ((net_in b Rows k).quiet j)) nodes)
      → (j : ℕ) → j < graph.size → times j xs ≡ sum_by (λ i. times i (graph.quiet j)) nodes
  times_listed xs nodes h = times_all_at b lawful y n points Rows c pair_here xs nodes
      (subst (λ d. (j : ℕ) → j < count_in b n Rows d → times j xs ≡ sum_by (λ i. times i ((net_in b Rows d).quiet j)) nodes) same h)

  pub times_listed_one : (xs : List ℕ) (i : ℕ)
      → ((j : ℕ) → j < count_in b n Rows k → times j xs ≡ sum_by (λ i. times i ((net_in b Rows k).quiet j)) (i ∷ []))
      → (j : ℕ) → j < graph.size → times j xs ≡ times i (graph.quiet j)
  times_listed_one xs i h j low = times_listed xs (i ∷ []) h j low ∙ zero-add (times i (graph.quiet j))
