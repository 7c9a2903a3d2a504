-- What opening any bytes as the file of a pair's table gives: the codes and the digest aren't
-- checked.
use Rattle.std.specs.Prelude.{◌≡◌, ◌≢◌, ℕ, ◌+◌, ◌*◌, ◌≤◌, nat_eq, nat_le, List, length, take, Option, Some, Result, Ok, Err, IfSome}
use Rattle.morris_board.specs.Boards.{Shape}
use Rattle.morris_index.specs.Pairs.{Counts, IsPair}
use Rattle.morris_pairs.specs.declared.layout.Layout.{Layout}
use Rattle.morris_pairs.specs.Entries.{entry_count}
use Rattle.morris_pairs.specs.FileReading.{unless, and_then, header_at, kind_in, header_in, MayTakeRoom}
use Rattle.morris_pairs.specs.declared.file_faults.ReadFault.{ReadFault}
use Rattle.morris_pairs.specs.declared.file_faults.ReadFault.TheVariants as read
use Rattle.morris_lookup.specs.declared.fault.OpenFault.{OpenFault}
use Rattle.morris_lookup.specs.declared.fault.OpenFault.TheVariants as fault

-- how many bytes a file has: 16 before the codes, 2 for each entry, and 32 after them
abbrev pub file_size : Shape → Layout × Counts → ℕ
file_size board kind = 16 + 2 * entry_count board board.points kind.0 kind.1 + 32

-- the last steps, once the header is right: the bytes are as many as a file of the table has, not
-- fewer and not more
unfoldable pub check_size : Shape → ℕ → Layout × Counts → Result (Layout × Counts) ReadFault
check_size board n kind = unless (nat_le (file_size board kind) n) read.Short (unless (nat_le n (file_size board kind)) read.Trailing (Ok kind))

-- the table whose file the bytes are, by their header and by how many they are, in steps
unfoldable pub check_file : Shape → List ℕ → Result (Layout × Counts) ReadFault
check_file board bytes = and_then (header_in board bytes) (check_size board (length bytes))

-- Why bytes that are known aren't taken for a file: no room for the classes, after the steps that
-- come before they are made; or a step refuses them. Reads of them don't fail.
abbrev pub IsCheckRefusal : Shape → List ℕ → ReadFault → Type 0
IsCheckRefusal board bytes read.Memory = MayTakeRoom board (Some bytes)
IsCheckRefusal board bytes read.Read = ⊥
IsCheckRefusal board bytes refusal = check_file board bytes ≡ Err refusal

-- why they aren't opened as the file of a pair: the same, or they are a file of another pair
abbrev pub IsOpeningRefusal : Shape → Counts → List ℕ → OpenFault → Type 0
IsOpeningRefusal board wanted bytes (fault.File refusal) = IsCheckRefusal board bytes refusal
IsOpeningRefusal board wanted bytes fault.Pair = (kind : Layout × Counts) × (check_file board bytes ≡ Ok kind) × (kind.1 ≢ wanted)

-- a file that is open: what its header says; the bytes, where they are known and no read of them
-- fails; and the bytes where they are known, though reads may fail
pub record OpenFile : Type 0 where
  pub layout : Layout
  pub pair : Counts
  pub bytes : Option (List ℕ)
  pub held : Option (List ℕ)

abbrev pub open_file : Layout → Counts → Option (List ℕ) → Option (List ℕ) → OpenFile
open_file layout pair bytes held = record { layout = layout; pair = pair; bytes = bytes; held = held }

-- the bytes are those of a file by their header and number, and it is of this layout and pair
pub record IsOpen (board : Shape) (file : OpenFile) : Type 0 where
  pub lawful : IsPair board.points file.pair
  pub checked : IfSome file.held (λ bytes. check_file board bytes ≡ Ok (file.layout, file.pair))
  pub unchanged : IfSome file.bytes (λ bytes. file.held ≡ Some bytes)

-- what may be the answer where the bytes are the file of a table: it is opened in the table's
-- layout, but that room for the classes may be missing
abbrev pub Opens : Layout → Result OpenFile OpenFault → Type 0
Opens layout (Ok file) = file.layout ≡ layout
Opens layout (Err (fault.File read.Memory)) = Unit {0}
Opens layout (Err refusal) = ⊥

-- ---- parts of a call

-- bytes begin with a header that says this layout and pair and states so many entries, and are so
-- many
pub record HasHeader (board : Shape) (kind : Layout × Counts) (stated n : ℕ) (bytes : List ℕ) : Type 0 where
  pub long : 16 ≤ length bytes
  pub says : Ok kind ≡ kind_in board (header_at (take 16 bytes))
  pub states : stated ≡ (header_at (take 16 bytes)).entries
  pub many : n ≡ length bytes

-- the last steps, once the layout and the pair are known: the number of entries that the header
-- states is that of the table, and there are as many bytes as its file has
unfoldable pub check_length : ℕ → ℕ → ℕ → Result (Unit {0}) ReadFault
check_length stated n count =
    unless (nat_eq stated count) read.Count (
    unless (nat_le (16 + 2 * count + 32) n) read.Short (
    unless (nat_le n (16 + 2 * count + 32)) read.Trailing (Ok tt)))
