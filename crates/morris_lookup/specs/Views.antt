-- What table files in memory say of positions.
use Rattle.std.specs.Prelude.{◌≡◌, ℕ, Bool, true, false, ◌&&◌, nat_eq, nat_le, List, length, map, slice_index, Option, Some, None, IfSome, Result, Ok, Err}
use Rattle.std.specs.List.{Contains, find}
use Rattle.std.specs.Option.{option_map_or}
use Rattle.std.specs.Result.{result_map_both}
use Rattle.morris_board.specs.Boards.{Shape}
use Rattle.morris_board.specs.Positions.{Sides}
use Rattle.morris_index.specs.Pairs.{Counts, pair_of}
use Rattle.morris_moves.specs.declared.game_move.Move.{Move}
use Rattle.morris_moves.specs.Rules.{moves_of, result_of}
use Rattle.morris_pairs.specs.declared.layout.Layout.{Layout}
use Rattle.morris_pairs.specs.declared.value.Value.{Value}
use Rattle.morris_pairs.specs.declared.value.Value.TheVariants.{Lost}
use Rattle.morris_pairs.specs.Codes.{value_in}
use Rattle.morris_pairs.specs.Entries.{entry_index}
use Rattle.morris_pairs.specs.Tables.{Table, IsTable}
use Rattle.morris_pairs.specs.TableFiles.{file_of}
use Rattle.morris_lookup.specs.Opening.{check_file}
use Rattle.morris_lookup.specs.Lookups.{code_at}
use Rattle.morris_lookup.specs.declared.fault.ViewFault.{ViewFault}
use Rattle.morris_lookup.specs.declared.fault.ViewFault.TheVariants as fault
use Rattle.morris_lookup.specs.declared.views.View.{View}
use Rattle.morris_lookup.specs.Prepared.{IsPrepared}

-- ---- which file

-- the bytes of each file
abbrev pub contents : List View → List (List ℕ)
contents files = map (λ (view : View). view.bytes.now) files

-- whether bytes have a header with the numbers of stones of a pair
abbrev pub names_pair : Counts → List ℕ → Bool
names_pair c bytes = nat_le 16 (length bytes) && (nat_eq (slice_index bytes 6) c.greater && nat_eq (slice_index bytes 7) c.lesser)

-- the file of a pair: the first one that names it in its header
unfoldable pub file_of_pair : List (List ℕ) → Counts → Option (List ℕ)
file_of_pair files c = find (names_pair c) files

-- ---- one file

-- what the bytes of a file say of a position of its pair, where their header and their number are
-- right: the value of the code that stands at its entry
unfoldable pub value_of_bytes : Shape → Sides → List ℕ → Result Value ViewFault
value_of_bytes board s bytes =
    result_map_both (λ (kind : Layout × Counts). value_in (code_at bytes (entry_index board board.points kind.0 kind.1 s))) fault.File (check_file board bytes)

-- ---- many files

-- What files say of a position: what that of its pair says. A position whose player to move has two
-- stones is of no pair: it is lost at once, and no file is needed.
abbrev pub value_of_pair : Shape → List (List ℕ) → Sides → Option Counts → Result Value ViewFault
value_of_pair board files s None = Ok (Lost 0)
value_of_pair board files s (Some c) = option_map_or (value_of_bytes board s) (file_of_pair files c) (Err fault.NoFile)

unfoldable pub value_said : Shape → List (List ℕ) → Sides → Result Value ViewFault
value_said board files s = value_of_pair board files s (pair_of s)

-- whether bytes have the version of a file by classes
abbrev pub is_by_classes : List ℕ → Bool
is_by_classes bytes = nat_eq (slice_index bytes 4) 2

-- the words that a file, or files, need: where one is by classes, they are prepared ones
abbrev pub HasWordsFor : Shape → List ℕ → List ℕ → Type 0
HasWordsFor board words bytes = is_by_classes bytes ≡ true → IsPrepared board words

abbrev pub HasWordsForAll : Shape → List ℕ → List (List ℕ) → Type 0
HasWordsForAll board words files = (bytes : List ℕ) → Contains files bytes → HasWordsFor board words bytes

-- whether the value of a position is read in a file by classes
abbrev pub needs_words : List (List ℕ) → Sides → Bool
needs_words files s = option_map_or (λ c. option_map_or is_by_classes (file_of_pair files c) false) (pair_of s) false

-- the file is that of an exact table
abbrev pub IsExactFile : Shape → List ℕ → Type 0
IsExactFile board bytes = (t : Table) × IsTable board t × (bytes ≡ file_of board t)

-- the file of a position's pair, where there is one, is that of an exact table
abbrev pub IsExactAt : Shape → List (List ℕ) → Sides → Type 0
IsExactAt board files s = IfSome (pair_of s) (λ c. IfSome (file_of_pair files c) (IsExactFile board))

-- so are those of the positions after its legal moves
abbrev pub AreExactAfter : Shape → List (List ℕ) → Sides → Type 0
AreExactAfter board files s = (m : Move) → Contains (moves_of board s) m → IsExactAt board files (result_of s m)
