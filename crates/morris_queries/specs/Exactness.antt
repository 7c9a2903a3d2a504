-- What is reported where the files of a folder are those of exact tables: the game's own values,
-- best moves and lines of play.
use Rattle.std.specs.Prelude.{◌≡◌, ℕ, zero, suc, List, [], ◌∷◌, Some, IfSome}
use Rattle.std.specs.List.{Contains}
use Rattle.morris_board.specs.Boards.{Shape}
use Rattle.morris_board.specs.Positions.{Sides}
use Rattle.morris_index.specs.Pairs.{Counts, pair_of}
use Rattle.morris_moves.specs.declared.game_move.Move.{Move}
use Rattle.morris_moves.specs.Rules.{moves_of, result_of}
use Rattle.morris_pairs.specs.declared.value.Value.{Value}
use Rattle.morris_pairs.specs.Codes.{IsValue}
use Rattle.morris_pairs.specs.Tables.{Table, IsTable}
use Rattle.morris_pairs.specs.TableFiles.{file_of}
use Rattle.morris_probe.specs.Best.{AreBest, after_best}
use Rattle.morris_lookup.specs.declared.outcomes.Outcome.{Outcome}
use Rattle.morris_lookup.specs.Lines.{IsBestStep}
use Rattle.morris_lookup.specs.Lookups.{depth_of}
use Rattle.morris_lookup.specs.Outcomes.{value_for_mover}
use Rattle.morris_files.specs.Files.{Files}
use Rattle.morris_files.specs.Names.{name_of}
use Rattle.morris_queries.specs.declared.show.Show.{Show}
use Rattle.morris_queries.specs.declared.show.Show.TheVariants as show
use Rattle.morris_queries.specs.Reports.{Played, PositionReport}

-- what stands under the name of a pair's file is the file of an exact table of the pair
abbrev pub IsExactBytes : Shape → Counts → List ℕ → Type 0
IsExactBytes board c bytes = (t : Table) × IsTable board t × (t.pair ≡ c) × (bytes ≡ file_of board t)

-- so it is where the value of a position is stated, if something stands there
abbrev pub IsExactAt : Shape → List ℕ → Files → Sides → Type 0
IsExactAt board name files s = IfSome (pair_of s) (λ c. IfSome (files (name_of name c)) (IsExactBytes board c))

-- and where the values of the positions after its legal moves are
pub record AreExactNear (board : Shape) (name : List ℕ) (files : Files) (s : Sides) : Type 0 where
  pub here : IsExactAt board name files s
  pub next : (m : Move) → Contains (moves_of board s) m → IsExactAt board name files (result_of s m)

-- and so on at each position that at most so many plies lead to
abbrev pub AreExactWithin : Shape → List ℕ → Files → ℕ → Sides → Type 0
AreExactWithin board name files zero s = AreExactNear board name files s
AreExactWithin board name files (suc plies) s =
    AreExactNear board name files s × ((m : Move) → Contains (moves_of board s) m → AreExactWithin board name files plies (result_of s m))

-- The files that are asked for where this is shown of a position are those of exact tables: that of
-- the position and those of the positions after its moves; and for a line, those of all positions
-- that play may lead to from it.
abbrev pub AreExactIn : Shape → List ℕ → Files → Show → Sides → Type 0
AreExactIn board name files show.Line s = (plies : ℕ) → AreExactWithin board name files plies s
AreExactIn board name files _ s = AreExactNear board name files s

-- a move leads to this value: that of the position after it, for the player who moves
abbrev pub LeadsTo : Shape → Sides → Outcome → Type 0
LeadsTo board s o = (next : Value) × IsValue board (result_of s o.step) next × (o.value ≡ value_for_mover next)

-- A line of best play from a position of this value: each move is a best one, the depth goes down
-- by one ply with each, the value that is reported of the position after it is its own, and the
-- line ends at depth 0.
abbrev pub IsBestLine : Shape → Sides → Value → List Played → Type 0
IsBestLine board s value [] = depth_of value ≡ 0
IsBestLine board s value (ply ∷ line) =
    IsBestStep board s (ply.step, ply.after) × (after_best value ≡ Some ply.value) × IsValue board ply.after ply.value × IsBestLine board ply.after ply.value line

abbrev pub HasLine : Shape → Show → Sides → PositionReport → Type 0
HasLine board show.Line s t = IsBestLine board s t.value t.line
HasLine board _ s t = t.line ≡ []

-- the report is the game's
pub record IsGame (board : Shape) (show : Show) (s : Sides) (t : PositionReport) : Type 0 where
  pub value : IsValue board s t.value
  pub best : AreBest board s t.best
  pub leads : (o : Outcome) → Contains t.outcomes o → LeadsTo board s o
  pub line : HasLine board show s t
