-- What open files say.
use Rattle.std.specs.Prelude.{◌≡◌, ℕ, ◌+◌, ◌*◌, List, Some}
use Rattle.std.specs.Int.{w16, from_be_bytes}
use Rattle.morris_board.specs.Boards.{Shape}
use Rattle.morris_board.specs.Positions.{Sides}
use Rattle.morris_pairs.specs.Entries.{entry_index}
use Rattle.morris_pairs.specs.Tables.{Table, IsTable}
use Rattle.morris_pairs.specs.declared.value.Value.{Value}
use Rattle.morris_pairs.specs.declared.value.Value.TheVariants.{Draw, Won, Lost}
use Rattle.morris_pairs.specs.TableFiles.{file_of}
use Rattle.morris_lookup.specs.Storage.{bytes_at}
use Rattle.morris_lookup.specs.Opening.{OpenFile}

-- the code that bytes state at entry i: the two bytes at 16 + 2 i, the high one first
unfoldable pub code_at : List ℕ → ℕ → ℕ
code_at bytes i = from_be_bytes w16 (bytes_at bytes (16 + 2 * i) 2)

-- the code of a position: that at its entry, by the layout of the file
abbrev pub code_for : Shape → OpenFile → List ℕ → Sides → ℕ
code_for board file bytes s = code_at bytes (entry_index board board.points file.layout file.pair s)

-- the file is that of an exact table
abbrev pub IsExactFile : Shape → OpenFile → Type 0
IsExactFile board file = (t : Table) × IsTable board t × (file.bytes ≡ Some (file_of board t))

-- in how many plies the game is over by this value, 0 at a draw
abbrev pub depth_of : Value → ℕ
depth_of Draw = 0
depth_of (Won depth) = depth
depth_of (Lost depth) = depth
