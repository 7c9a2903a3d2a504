-- What the files of a folder say of positions.
use Rattle.std.specs.Prelude.{◌≡◌, ◌⊎◌, ℕ, zero, suc, min, max, Bool, ◌&&◌, nat_eq, List, [], ◌∷◌, map, fold, slice_get, Option, Some, None, unwrap_or, Result, Ok, Err, if◌then◌else◌}
use Rattle.morris_board.specs.Boards.{Shape}
use Rattle.morris_board.specs.Positions.{Sides, read_of}
use Rattle.morris_board.specs.declared.faults.TextFault.{TextFault}
use Rattle.morris_index.specs.Pairs.{Counts, pair_of}
use Rattle.morris_moves.specs.declared.game_move.Move.{Move}
use Rattle.morris_moves.specs.Rules.{moves_of, result_of}
use Rattle.morris_pairs.specs.declared.layout.Layout.{Layout}
use Rattle.morris_pairs.specs.declared.value.Value.{Value}
use Rattle.morris_pairs.specs.declared.value.Value.TheVariants.{Draw, Won, Lost}
use Rattle.morris_pairs.specs.declared.file_faults.ReadFault.{ReadFault}
use Rattle.morris_pairs.specs.Codes.{value_in}
use Rattle.morris_lookup.specs.declared.outcomes.Outcome.{Outcome}
use Rattle.morris_lookup.specs.FileSets.{Files as OpenFiles, file_for}
use Rattle.morris_lookup.specs.Lookups.{code_for, depth_of}
use Rattle.morris_lookup.specs.Opening.{OpenFile, open_file, check_file}
use Rattle.morris_lookup.specs.Outcomes.{best_among, same_value, value_for_mover}
use Rattle.morris_files.specs.Files.{Files}
use Rattle.morris_files.specs.Names.{name_of}
use Rattle.morris_jobs.specs.declared.fault.Fault.{Fault}
use Rattle.morris_jobs.specs.declared.fault.Fault.TheVariants as fault
use Rattle.morris_jobs.specs.Faults.{text_fault, needs_fault, read_fault}
use Rattle.morris_queries.specs.declared.show.Show.{Show}
use Rattle.morris_queries.specs.declared.show.Show.TheVariants as show

-- ---- the parts of an answer

-- what comes after a result that may be a refusal
abbrev pub then_step : {A B : Type 0} → Result A Fault → (A → Result B Fault) → Result B Fault
then_step (Ok found) next = next found
then_step (Err refused) next = Err refused

-- what was found is what is to be found, or memory ran out on the way
abbrev pub Agrees : {A : Type 0} → Result A Fault → Result A Fault → Type 0
Agrees found wanted = (wanted ≡ found) ⊎ (found ≡ Err fault.Memory)

-- what was found, seen as the value that it stands for, is what is to be found; or it was refused
abbrev pub Gives : {T A : Type 0} → Result T Fault → (T → A) → Result A Fault → Type 0
Gives (Ok found) seen wanted = wanted ≡ Ok (seen found)
Gives (Err refused) seen wanted = Agrees (Err refused) wanted

-- ---- the file of a pair

abbrev pub same_counts : Counts → Counts → Bool
same_counts c d = nat_eq c.greater d.greater && nat_eq c.lesser d.lesser

-- what bytes are as the file of a pair: that of another pair isn't the one that is needed
abbrev pub check_pair : Counts → List ℕ → Result (Layout × Counts) ReadFault → Result OpenFile Fault
check_pair c bytes (Err refusal) = Err (read_fault refusal)
check_pair c bytes (Ok kind) = if same_counts kind.1 c then Ok (open_file kind.0 c (Some bytes) (Some bytes)) else Err (needs_fault c)

-- what stands under the name of a pair's file: nothing, or bytes that are that file or aren't
abbrev pub open_as : Shape → Counts → Option (List ℕ) → Result OpenFile Fault
open_as board c None = Err (needs_fault c)
open_as board c (Some bytes) = check_pair c bytes (check_file board bytes)

-- the value that a file states for a position of its pair
abbrev pub stated_in : Shape → Sides → OpenFile → Value
stated_in board s file = value_in (code_for board file (unwrap_or file.bytes []) s)

-- ---- what a value follows from

-- The better of two values for who may choose between them: a win, and of two wins the sooner; else
-- a draw; else of two losses the later.
abbrev pub better : Value → Value → Value
better (Won depth) (Won other) = Won (min depth other)
better (Won depth) _ = Won depth
better _ (Won depth) = Won depth
better (Lost depth) (Lost other) = Lost (max depth other)
better _ _ = Draw

-- The value of a position by the rules, from what its legal moves lead to: won in the least depth
-- of the wins among them, if there is one; else a draw, if there is one; else lost in the greatest
-- depth of the losses, and in 0 plies where there is no legal move. The depth is at most 65,535,
-- since a file states none above 65,534: so none states a value that follows from one of 65,535.
abbrev pub value_from : List Outcome → Value
value_from outcomes = fold (λ best o. better best o.value) (Lost 0) outcomes

abbrev pub outcome : Move → Value → Outcome
outcome m value = record { step = m; value = value }

-- a ply of a line of play: a move, the position after it, and the value of that position for the
-- player to move there
pub record Played : Type 0 where
  pub step : Move
  pub after : Sides
  pub value : Value

abbrev pub played : Move → Sides → Value → Played
played m s value = record { step = m; after = s; value = value }

-- the report of a position: its value, its best moves, what each legal move leads to, and a line of
-- play
pub record PositionReport : Type 0 where
  pub value : Value
  pub best : List Move
  pub outcomes : List Outcome
  pub line : List Played

abbrev pub position_report : Value → List Move → List Outcome → List Played → PositionReport
position_report value best outcomes line = record { value = value; best = best; outcomes = outcomes; line = line }

-- The report of a position that its files agree on: this value, if it is the one that follows from
-- what the moves lead to. Else the files of the position and its moves disagree.
unfoldable pub reported_from : Value → List Outcome → Result PositionReport Fault
reported_from value outcomes =
    if same_value value (value_from outcomes) then Ok (position_report value (best_among value outcomes) outcomes []) else Err fault.Disagree

-- the legal moves are all there, in order, the value follows from what they lead to, and the best
-- ones are those that lead to it
pub record IsListed (board : Shape) (s : Sides) (t : PositionReport) : Type 0 where
  pub legal : map (λ (o : Outcome). o.step) t.outcomes ≡ moves_of board s
  pub follows : t.value ≡ value_from t.outcomes
  pub best : t.best ≡ best_among t.value t.outcomes

-- the first of a list and what comes of it, and where there is none the other
abbrev pub with_first : {A B : Type 0} → Option A → B → (A → B) → B
with_first None other next = other
with_first (Some first) other next = next first

-- ---- what the files of this folder say, those of this board by its name

module _ (board : Shape) (name : List ℕ) (files : Files) where
  -- the file of a pair
  unfoldable pub table_in : Counts → Result OpenFile Fault
  table_in c = open_as board c (files (name_of name c))

  -- The value of a position: what the file of its pair states. A position whose player to move has
  -- two stones is of no pair: it is lost at once.
  abbrev pub value_at : Sides → Option Counts → Result Value Fault
  value_at s None = Ok (Lost 0)
  value_at s (Some c) = then_step (table_in c) (λ file. Ok (stated_in board s file))

  unfoldable pub reported_value : Sides → Result Value Fault
  reported_value s = value_at s (pair_of s)

  -- what a move leads to: the value of its result, for the player who moves
  abbrev pub reported_outcome : Sides → Move → Result Outcome Fault
  reported_outcome s m = then_step (reported_value (result_of s m)) (λ value. Ok (outcome m (value_for_mover value)))

  -- what each of these moves leads to, or the first fault
  unfoldable pub reported_outcomes : Sides → List Move → Result (List Outcome) Fault
  reported_outcomes s [] = Ok []
  reported_outcomes s (m ∷ ms) = then_step (reported_outcome s m) (λ o. then_step (reported_outcomes s ms) (λ os. Ok (o ∷ os)))

  -- the value of a position, its best moves, and what each legal move leads to; or that the files
  -- disagree on it
  unfoldable pub reported_of : Sides → Result PositionReport Fault
  reported_of s = then_step (reported_value s) (λ value. then_step (reported_outcomes s (moves_of board s)) (reported_from value))

  -- The line of play from a position by this move, over so many plies at most: the move, the
  -- position after it with its value, and what follows from there by its first best move. It ends
  -- where there is no move. On each position of it the files have to agree, on the last one too.
  unfoldable pub reported_line : ℕ → Sides → Option Move → Result (List Played) Fault
  reported_line zero s first = Ok []
  reported_line (suc plies) s first = with_first first (Ok []) (λ m. then_step (reported_of (result_of s m)) (λ t.
      then_step (reported_line plies (result_of s m) (slice_get t.best 0)) (λ rest. Ok (played m (result_of s m) t.value ∷ rest))))

  -- the line of best play that is shown: as many plies as the value says, none at a draw
  abbrev pub shown_line : Show → PositionReport → Sides → Result (List Played) Fault
  shown_line show.Line t s = reported_line (depth_of t.value) s (slice_get t.best 0)
  shown_line _ t s = Ok []

  unfoldable pub reported_shown : Show → Sides → Result PositionReport Fault
  reported_shown show s = then_step (reported_of s) (λ t.
      then_step (shown_line show t s) (λ line. Ok (position_report t.value t.best t.outcomes line)))

  -- the answer to a position string
  abbrev pub reported_to : Show → Result Sides TextFault → Result PositionReport Fault
  reported_to show (Err refused) = Err (text_fault refused)
  reported_to show (Ok s) = reported_shown show s

  unfoldable pub reported_text : Show → List ℕ → Result PositionReport Fault
  reported_text show text = reported_to show (read_of board text)

-- ---- files that are open

-- each open file is the one that the folder has for its pair, where the folder's files are known
abbrev pub AreOf : Shape → List ℕ → Option Files → OpenFiles → Type 0
AreOf board name known opened =
    (files : Files) → known ≡ Some files → (c : Counts) (file : OpenFile) → file_for opened c ≡ Some file → table_in board name files c ≡ Ok file
