-- What the graph of a pair reads of the tables of other pairs.
use Rattle.std.specs.Prelude.{◌≡◌, ℕ, ◌↔◌, true, Option, Some, None, List, filter, map}
use Rattle.morris_board.specs.Boards.{Shape}
use Rattle.morris_board.specs.Positions.{Sides, IsPosition}
use Rattle.morris_moves.specs.declared.game_move.Move.{Move}
use Rattle.morris_moves.specs.Rules.{result_of}
use Rattle.morris_index.specs.Pairs.{Counts, IsPair, is_of, less_lesser, less_greater}
use Rattle.morris_wave.specs.declared.graph.Exits.{Exits}
use Rattle.morris_wave.specs.Exits.{exits_of}
use Rattle.morris_wave.specs.Values.{HasCode}
use Rattle.morris_pairs.specs.declared.layout.Layout.{Layout}
use Rattle.morris_pairs.specs.Orders.{Order, order_of, index_in}
use Rattle.morris_pairs.specs.Codes.{IsCodeOf, code_to}
use Rattle.morris_pairs.specs.PairNets.{is_capture, level_in, net_at}
use Rattle.morris_pairs.specs.Tables.{Table, IsTable}

-- an exact table of a pair
pub record IsTableOf (board : Shape) (d : Counts) (t : Table) : Type 0 where
  pub of : t.pair ≡ d
  pub exact : IsTable board t

-- the table of a pair that is needed, and none where there is no such pair
abbrev pub IsNeeded : Shape → Option Counts → Option Table → Type 0
IsNeeded board None table = table ≡ None
IsNeeded board (Some d) table = (t : Table) × (table ≡ Some t) × IsTableOf board d t

-- The graph of a pair has the tables of the two pairs that captures lead to: the one with one stone
-- less in the lesser number, and the one with one stone less in the greater number.
pub record IsPairGraph (board : Shape) (c : Counts) (of_lesser of_greater : Option Table) : Type 0 where
  pub lawful : IsPair board.points c
  pub lesser : IsNeeded board (less_lesser c) of_lesser
  pub greater : IsNeeded board (less_greater c) of_greater

-- the summary of the captures of a list of moves of a position
unfoldable pub exits_by : Shape → Sides → List Move → Exits
exits_by board s moves = exits_of (map (λ m. code_to 65534 board (result_of s m)) (filter is_capture moves))

-- the node of each position in the pair's graph has the value that the position has in the game
abbrev pub HasValuesIn : Shape → Order → Counts → Type 0
HasValuesIn board o c =
    (s : Sides) (code : ℕ) → IsPosition board s → is_of c s ≡ true
    → (HasCode (net_at board (level_in o c)) (index_in board board.points o c s) code ↔ IsCodeOf board s code)

-- the same of the graph whose nodes are the entries of a table
abbrev pub HasGameValues : Shape → Layout → Counts → Type 0
HasGameValues board l c = HasValuesIn board (order_of l) c
