-- The graph of a pair: the codes of what captures lead to, and their summary.
use Rattle.std.proofs.Common.{◌≡◌, ◌↔◌, ℕ, ◌-◌, ◌<◌, ◌≤◌, true, not, List, [], ◌∷◌, ◌++◌, Option, Some, None, is_some, map, refl, sym, ap, subst, ◌∙◌, inl, inr, ◌⊎◌, arith, get_or, ltb, length}
use Rattle.std.specs.List.{sum_by, All, Contains, filter}
use Rattle.std.proofs.lemmas.Bool.{ltb-true}
use Rattle.std.proofs.lemmas.Option.{cond_some}
use Rattle.std.specs.Option.{option_to_list}
use Rattle.std.proofs.lemmas.List.{map-append, length-map}
use Rattle.std.proofs.lemmas.List.Elements.{filter-append, Contains-append_cases}
use Rattle.morris_board.specs.Boards.{Shape, is_board}
use Rattle.morris_board.specs.Positions.{Sides, IsPosition}
use Rattle.morris_board.specs.Symmetries.{HasSymmetries}
use Rattle.morris_moves.specs.declared.game_move.Move.{Move}
use Rattle.morris_moves.specs.Rules.{moves_of, result_of}
use Rattle.morris_index.specs.Pairs.{Counts, counts, IsPair, is_of, all_needs, less_lesser, less_greater}
use Rattle.morris_wave.specs.Nets.{Net, times}
use Rattle.morris_wave.specs.Exits.{exits_of}
use Rattle.morris_wave.specs.Values.{HasCode, IsTooDeep}
use Rattle.morris_pairs.specs.Entries.{entry_index}
use Rattle.morris_pairs.specs.Orders.{Order, count_in, index_in, own_in}
use Rattle.morris_pairs.specs.EntryLaws.{IsLaid, laid_in, laid}
use Rattle.morris_pairs.specs.Codes.{IsCodeOf, code_to}
use Rattle.morris_pairs.specs.PairNets.{is_capture, is_quiet, quiet_results, capture_codes, net_in, level_in, net_at}
use Rattle.morris_pairs.specs.Tables.{Table}
use Rattle.morris_wave.specs.Summaries.{add_code}
use Rattle.morris_pairs.specs.Graphs.{IsTableOf, IsNeeded, IsPairGraph, exits_by, HasValuesIn}
use Rattle.morris_pairs.specs.Known.{IsTabled, IsKnown, IsBeyondCodes}
use Rattle.morris_pairs.specs.FilterLaws.{filter-yes}
use Rattle.morris_pairs.specs.NetLaws.{points_few, quiet-at, exits-at, size-net_in, net_at-level_in}
use Rattle.morris_pairs.proofs.CodeLaws.{code_to-is}
use Rattle.morris_pairs.proofs.NodeLaws.{known_by_tables, node_code, code_node}
use Rattle.morris_pairs.proofs.DepthLaws.{too_deep_game, game_too_deep}
use Rattle.morris_pairs.proofs.TableLaws.{code_at}
use Rattle.morris_wave.proofs.Summaries.{exits_of-more}

-- ---- the code of what a capture leads to

-- the code in the table of the position's pair
pub code_there : (board : Shape) (n : ℕ) (t : Table) (d : Counts) (s : Sides) → board.points ≡ n → IsTableOf board d t → IsPosition board s → is_of d s ≡ true
    → (index code : ℕ) → index ≡ entry_index board n t.layout t.pair s → code ≡ get_or t.codes index 0 → IsCodeOf board s code
code_there board n t d s points h position of index code at is =
    code_at board n t points h.exact s position (subst (λ e. is_of e s ≡ true) (sym h.of) of) code
    (is ∙ ap (λ i. get_or t.codes i 0) at)

-- ---- the pairs that a pair needs

in_option : {X : Type 0} (o : Option X) (x : X) → Contains (option_to_list o) x → o ≡ Some x
in_option None x h = absurd (omega (arith, h.1))
in_option (Some y) x h = let first : h.0 ≡ 0 = omega (arith, h.1) in ap (λ z. Some z) (sym (ap (λ i. get_or (y ∷ []) i x) first) ∙ h.2)

pub needed_cases : (c d : Counts) → Contains (all_needs c) d → (less_lesser c ≡ Some d) ⊎ (less_greater c ≡ Some d)
needed_cases c d h = elim (Contains-append_cases (option_to_list (less_lesser c)) (option_to_list (less_greater c)) d h) [
  | inl l ↦ inl (in_option (less_lesser c) d l)
  | inr g ↦ inr (in_option (less_greater c) d g)
]

pub IsPair-needed : (n : ℕ) (c d : Counts) → IsPair n c → Contains (all_needs c) d → IsPair n d
IsPair-needed n c d h need = elim (needed_cases c d need) [
  | inl l ↦
      let w = cond_some (ltb 3 c.lesser) (counts c.greater (c.lesser - 1)) d l in
      let more : 3 < c.lesser = ltb-true 3 c.lesser w.0 in
      subst (IsPair n) w.1 (record { most = h.most; ordered = omega (arith, h.ordered); least = omega arith; fits = omega (arith, h.fits) })
  | inr g ↦
      let w = cond_some (ltb c.lesser c.greater) (counts (c.greater - 1) c.lesser) d g in
      let less : c.lesser < c.greater = ltb-true c.lesser c.greater w.0 in
      subst (IsPair n) w.1 (record { most = omega (arith, h.most); ordered = omega arith; least = h.least; fits = omega (arith, h.fits) })
]

-- ---- the summary of the captures

pub exits_by-none : (board : Shape) (s : Sides) → exits_by board s [] ≡ exits_of []
unfolding exits_by
exits_by-none board s = refl

captures-capture : (ms : List Move) (m : Move) → is_some m.taken ≡ true → filter is_capture (ms ++ m ∷ []) ≡ filter is_capture ms ++ m ∷ []
captures-capture ms m takes =
    filter-append is_capture ms (m ∷ []) ∙ ap (λ xs. filter is_capture ms ++ xs) (filter-yes is_capture m (ap (λ b. not (not b)) takes))

pub exits_by-capture : (board : Shape) (s : Sides) (ms : List Move) (m : Move) → is_some m.taken ≡ true → (code : ℕ) → IsCodeOf board (result_of s m) code → code ≤ 65535
    → exits_by board s (ms ++ m ∷ []) ≡ add_code (exits_by board s ms) code
unfolding exits_by
exits_by-capture board s ms m takes code is few =
    let codes : List Move → List ℕ = map (λ x. code_to 65534 board (result_of s x)) in
    ap (λ xs. exits_of (codes xs)) (captures-capture ms m takes)
    ∙ ap exits_of (map-append (λ x. code_to 65534 board (result_of s x)) (filter is_capture ms) (m ∷ []))
    ∙ exits_of-more (codes (filter is_capture ms)) (code_to 65534 board (result_of s m))
    ∙ ap (add_code (exits_of (codes (filter is_capture ms)))) (code_to-is board (result_of s m) code is few)

-- ---- the graph of a pair is the one of its level

module _ (board : Shape) (lawful : is_board board ≡ true) (y : HasSymmetries board) (n : ℕ) (points : board.points ≡ n) (o : Order) (c : Counts)
    (pair : IsPair board.points c) where
  entries_here : IsLaid board o c
  entries_here = laid_in board (points_few board lawful) y o c pair

  pub size_at : (net_at board (level_in o c)).size ≡ count_in board n o c
  size_at = ap (λ (g : Net). g.size) (net_at-level_in board lawful y o c pair) ∙ size-net_in board o c ∙ ap (λ k. count_in board k o c) points

  pub is_node : (i : ℕ) → i < (net_at board (level_in o c)).size → i < count_in board n o c
  is_node i low = subst (λ k. i < k) size_at low

  pub quiet_count_at : (s : Sides) → IsPosition board s → is_of c s ≡ true → own_in board o s ≡ true → (i : ℕ) → index_in board n o c s ≡ i
      → length (filter is_quiet (moves_of board s)) ≡ length ((net_at board (level_in o c)).quiet i)
  unfolding quiet_results
  quiet_count_at s h of cache i at =
      sym (length-map (filter is_quiet (moves_of board s)) (λ m. index_in board board.points o c (result_of s m)))
      ∙ ap length (sym (quiet-at board (points_few board lawful) o c entries_here s h of cache) ∙ ap (net_in board o c).quiet (ap (λ k. index_in board k o c s) points ∙ at))
      ∙ ap (λ (g : Net). length (g.quiet i)) (sym (net_at-level_in board lawful y o c pair))

  pub exits_same : (s : Sides) → IsPosition board s → is_of c s ≡ true → own_in board o s ≡ true → (i : ℕ) → index_in board n o c s ≡ i
      → exits_of (capture_codes board s) ≡ exits_of ((net_at board (level_in o c)).exits i)
  exits_same s h of cache i at =
      ap exits_of (sym (exits-at board (points_few board lawful) o c entries_here s h of cache) ∙ ap (net_in board o c).exits (ap (λ k. index_in board k o c s) points ∙ at))
      ∙ ap (λ (g : Net). exits_of (g.exits i)) (sym (net_at-level_in board lawful y o c pair))

  -- what leads to a node, counted in the one and in the other
  pub times_at : (s : Sides) (xs : List ℕ) (i : ℕ) → index_in board n o c s ≡ i
      → ((j : ℕ) → j < count_in board n o c → times j xs ≡ times (index_in board n o c s) ((net_in board o c).quiet j))
      → (j : ℕ) → j < (net_at board (level_in o c)).size → times j xs ≡ times i ((net_at board (level_in o c)).quiet j)
  times_at s xs i at h j low =
      h j (is_node j low) ∙ ap (λ k. times k ((net_in board o c).quiet j)) at ∙ ap (λ (g : Net). times i (g.quiet j)) (sym (net_at-level_in board lawful y o c pair))

  pub times_all_at : (xs nodes : List ℕ)
      → ((j : ℕ) → j < count_in board n o c → times j xs ≡ sum_by (λ i. times i ((net_in board o c).quiet j)) nodes)
      → (j : ℕ) → j < (net_at board (level_in o c)).size → times j xs ≡ sum_by (λ i. times i ((net_at board (level_in o c)).quiet j)) nodes
  times_all_at xs nodes h j low =
      h j (is_node j low) ∙ ap (λ (g : Net). sum_by (λ i. times i (g.quiet j)) nodes) (sym (net_at-level_in board lawful y o c pair))

  pub are_nodes : (nodes : List ℕ) → All (λ j. j < (net_at board (level_in o c)).size) nodes → All (λ j. j < count_in board n o c) nodes
  are_nodes nodes h = subst (λ size. All (λ j. j < size) nodes) size_at h

  pub nodes_at : (xs : List ℕ) → All (λ j. j < count_in board n o c) xs → All (λ j. j < (net_at board (level_in o c)).size) xs
  nodes_at xs h = subst (λ size. All (λ j. j < size) xs) (sym size_at) h

-- ---- the values of the nodes

-- the table of a pair has a code for each of its positions
tabled : (board : Shape) → HasSymmetries board → (d : Counts) (t : Table) → board.points ≤ 24 → IsTableOf board d t → IsTabled board d
tabled board y d t few h s position of =
    let there : is_of t.pair s ≡ true = subst (λ e. is_of e s ≡ true) (sym h.of) of in
    let low : entry_index board board.points t.layout t.pair s < length t.codes =
    subst (λ k. entry_index board board.points t.layout t.pair s < k) (sym h.exact.counted)
    ((laid board few y t.layout t.pair h.exact.lawful).below s position there) in
    (get_or t.codes (entry_index board board.points t.layout t.pair s) 0, h.exact.small _ low, h.exact.exact s position there)

taken_from : (board : Shape) (o : Option Counts) (d : Counts) (table : Option Table) → o ≡ Some d → IsNeeded board o table
    → (t : Table) × (table ≡ Some t) × IsTableOf board d t
taken_from board o d table e h = subst (λ x. IsNeeded board x table) e h

pub known_here : (board : Shape) → HasSymmetries board → board.points ≤ 24 → (c : Counts) (of_lesser of_greater : Option Table) → IsPairGraph board c of_lesser of_greater → IsKnown board c
known_here board y few c of_lesser of_greater h = known_by_tables board c few h.lawful (λ d need. elim (needed_cases c d need) [
  | inl l ↦ let t = taken_from board (less_lesser c) d of_lesser l h.lesser in tabled board y d t.0 few t.2
  | inr g ↦ let t = taken_from board (less_greater c) d of_greater g h.greater in tabled board y d t.0 few t.2
])

pub game_values : (board : Shape) → is_board board ≡ true → HasSymmetries board → (o : Order) (c : Counts) → IsPair board.points c → IsKnown board c → HasValuesIn board o c
game_values board lawful y o c pair known s code h of =
    let few = points_few board lawful in
    let entries = laid_in board few y o c pair in
    let same = net_at-level_in board lawful y o c pair in (
      λ v. node_code board few o c entries known s h of code (subst (λ g. HasCode g (index_in board board.points o c s) code) same v),
      λ v. subst (λ g. HasCode g (index_in board board.points o c s) code) (sym same) (code_node board few o c entries known s h of code v),
    )

-- the graph is too deep where codes of 16 bits don't state the values of the game
pub game_depths : (board : Shape) → is_board board ≡ true → HasSymmetries board → (o : Order) (c : Counts) → IsPair board.points c → IsKnown board c
    → IsTooDeep (net_at board (level_in o c)) ↔ IsBeyondCodes board c
game_depths board lawful y o c pair known =
    let few = points_few board lawful in
    let same = net_at-level_in board lawful y o c pair in (
      λ deep. too_deep_game board few y o c pair known (subst IsTooDeep same deep),
      λ beyond. subst IsTooDeep (sym same) (game_too_deep board few y o c pair known beyond),
    )

-- the two tables as the code finds them
module _ (board : Shape) (lawful : is_board board ≡ true) (y : HasSymmetries board) (n : ℕ) (points : board.points ≡ n) (c : Counts) (first second : Option Counts)
    (of_lesser of_greater : Option Table) (e : first ≡ less_lesser c) (f : second ≡ less_greater c) (pair : IsPair n c)
    (h : IsNeeded board first of_lesser) (k : IsNeeded board second of_greater) where
  pair_here : IsPair board.points c
  pair_here = subst (λ m. IsPair m c) (sym points) pair

  known_over : IsKnown board c
  known_over = known_here board y (points_few board lawful) c of_lesser of_greater (record {
    lawful = pair_here;
    lesser = subst (λ o. IsNeeded board o of_lesser) e h;
    greater = subst (λ o. IsNeeded board o of_greater) f k;
  })

  pub values_over : (o : Order) → HasValuesIn board o c
  values_over o = game_values board lawful y o c pair_here known_over

  pub depths_over : (o : Order) → IsTooDeep (net_at board (level_in o c)) ↔ IsBeyondCodes board c
  depths_over o = game_depths board lawful y o c pair_here known_over

-- the codes of all nodes are those of the positions
pub exact_codes : (board : Shape) → is_board board ≡ true → HasSymmetries board → (o : Order) (c : Counts) (of_lesser of_greater : Option Table)
    → IsPairGraph board c of_lesser of_greater → (codes : List ℕ) → length codes ≡ (net_at board (level_in o c)).size
    → ((i : ℕ) → i < (net_at board (level_in o c)).size → HasCode (net_at board (level_in o c)) i (get_or codes i 0))
    → (s : Sides) → IsPosition board s → is_of c s ≡ true → IsCodeOf board s (get_or codes (index_in board board.points o c s) 0)
exact_codes board lawful y o c of_lesser of_greater graph codes len each s h of =
    let few = points_few board lawful in
    let low : index_in board board.points o c s < count_in board board.points o c = (laid_in board few y o c graph.lawful).below s h of in
    (game_values board lawful y o c graph.lawful (known_here board y few c of_lesser of_greater graph) s (get_or codes (index_in board board.points o c s) 0) h of).0
    (each (index_in board board.points o c s) (subst (λ k. index_in board board.points o c s < k) (sym (size_at board lawful y board.points refl o c graph.lawful)) low))
