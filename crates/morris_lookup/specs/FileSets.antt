-- A set of open files, one for each pair at most, and what they say of positions.
use Rattle.std.specs.Prelude.{◌≡◌, List, length, slice_index_or, Option, Some, None, IfSome, is_some, option_map, if◌then◌else◌}
use Rattle.std.specs.Option.{option_and_then}
use Rattle.std.specs.List.{Contains}
use Rattle.morris_board.specs.Boards.{Shape}
use Rattle.morris_board.specs.Positions.{Sides}
use Rattle.morris_index.specs.Pairs.{Counts, pair_of}
use Rattle.morris_moves.specs.declared.game_move.Move.{Move}
use Rattle.morris_moves.specs.Rules.{moves_of, result_of}
use Rattle.morris_pairs.specs.declared.value.Value.{Value}
use Rattle.morris_pairs.specs.declared.value.Value.TheVariants.{Lost}
use Rattle.morris_pairs.specs.Codes.{value_in}
use Rattle.morris_pairs.specs.Shelves.{has_place, place_of}
use Rattle.morris_lookup.specs.Opening.{OpenFile, IsOpen}
use Rattle.morris_lookup.specs.Lookups.{code_for, IsExactFile}
use Rattle.morris_lookup.specs.declared.fault.LookFault.{LookFault}
use Rattle.morris_lookup.specs.declared.fault.LookFault.TheVariants as fault

-- a place for each two numbers of stones, with the open file of that pair where there is one
abbrev pub Files : Type 0
Files = List (Option OpenFile)

-- the open file of a pair, where there is one
unfoldable pub file_for : Files → Counts → Option OpenFile
file_for files c = if has_place c then slice_index_or files (place_of c) None else None

-- each file stands at the place of its own pair
pub record AreFiles (board : Shape) (files : Files) : Type 0 where
  pub places : length files ≡ 49
  pub right : (c : Counts) → IfSome (file_for files c) (λ file. (file.pair ≡ c) × IsOpen board file)

-- the open file of a position's pair, where there is one, is that of an exact table
abbrev pub IsExactAt : Shape → Files → Sides → Type 0
IsExactAt board files s = IfSome (pair_of s) (λ c. IfSome (file_for files c) (IsExactFile board))

-- so are those of the positions after its legal moves
abbrev pub AreExactAfter : Shape → Files → Sides → Type 0
AreExactAfter board files s = (m : Move) → Contains (moves_of board s) m → IsExactAt board files (result_of s m)

-- what a file says of a position of its pair, where its bytes are known
abbrev pub said_by : Shape → Sides → OpenFile → Option Value
said_by board s file = option_map (λ bytes. value_in (code_for board file bytes s)) file.bytes

-- What the files say of a position: what that of its pair says. A position whose player to move has
-- two stones is of no pair: it is lost at once, and no file is needed.
abbrev pub said_at : Shape → Files → Sides → Option Counts → Option Value
said_at board files s None = Some (Lost 0)
said_at board files s (Some c) = option_and_then (said_by board s) (file_for files c)

abbrev pub said_of : Shape → Files → Sides → Option Value
said_of board files s = said_at board files s (pair_of s)

-- the pair of a position, where no file of it is open
abbrev pub missing_file : Files → Sides → Option Counts
missing_file files s = option_and_then (λ c. if is_some (file_for files c) then None else Some c) (pair_of s)

-- why there is no value of a position: its file isn't open; or it couldn't be read, which is only
-- where its bytes aren't known
abbrev pub IsValueRefusal : {B : Type 0} → Shape → Files → Sides → LookFault B → Type 0
IsValueRefusal board files s (fault.Needs needs) = missing_file files s ≡ Some needs.0
IsValueRefusal board files s fault.Read = (missing_file files s ≡ None) × (said_of board files s ≡ None)
IsValueRefusal board files s fault.Memory = ⊥
