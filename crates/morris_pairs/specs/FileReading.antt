-- What reading any bytes as the file of a table gives: the table, or the refusal of the first step
-- that refuses.
use Rattle.std.specs.Prelude.{◌≡◌, ℕ, ◌+◌, ◌*◌, ◌<◌, ◌≤◌, Bool, true, false, ◌&&◌, ◌||◌, nat_eq, nat_le, List, [], ◌∷◌, ◌++◌, length, take, drop, slice_index, Option, Some, None, Result, Ok, Err, IsOk, IfSome, if◌then◌else◌}
use Rattle.std.specs.Int.{w16, w64, from_be_bytes}
use Rattle.std.specs.Str.{bytes_eq}
use Rattle.std.specs.Io.KnownBytes.{Consumes}
use Rattle.sha2.specs.Sha256.{sha256}
use Rattle.morris_board.specs.Boards.{Shape}
use Rattle.morris_board.specs.Positions.{is_between}
use Rattle.morris_index.specs.Pairs.{Counts, counts}
use Rattle.morris_pairs.specs.declared.layout.Layout.{Layout}
use Rattle.morris_pairs.specs.declared.layout.Layout.TheVariants.{Full, Classes}
use Rattle.morris_pairs.specs.Entries.{entry_count}
use Rattle.morris_pairs.specs.Tables.{Table, table}
use Rattle.morris_pairs.specs.TableFiles.{magic}
use Rattle.morris_pairs.specs.declared.header.Header.{Header}
use Rattle.morris_pairs.specs.declared.file_faults.ReadFault.{ReadFault}
use Rattle.morris_pairs.specs.declared.file_faults.ReadFault.TheVariants as fault

-- a step that refuses with this fault unless its test holds, and what comes after it
abbrev pub unless : {A : Type 0} → Bool → ReadFault → Result A ReadFault → Result A ReadFault
unless true refusal next = next
unless false refusal next = Err refusal

-- what comes after steps that may have refused
abbrev pub and_then : {A B : Type 0} → Result A ReadFault → (A → Result B ReadFault) → Result B ReadFault
and_then (Ok found) next = next found
and_then (Err refusal) next = Err refusal

-- ---- the header

-- the fields of a header, by their places in its 16 bytes
abbrev pub header_at : List ℕ → Header
header_at bytes = record {
  magic = take 4 bytes;
  version = slice_index bytes 4;
  board = slice_index bytes 5;
  greater = slice_index bytes 6;
  lesser = slice_index bytes 7;
  entries = from_be_bytes w64 (drop 8 bytes);
}

-- whether two numbers are the greater and the lesser number of stones of a pair, on a board with
-- points enough
abbrev pub are_counts : ℕ → ℕ → Bool
are_counts greater lesser = is_between 3 greater 9 && (is_between 3 lesser 9 && nat_le lesser greater)

-- the versions that are known: 1, of layout Full, and 2, of layout Classes
abbrev pub is_version : ℕ → Bool
is_version version = nat_eq version 1 || nat_eq version 2

abbrev pub layout_in : ℕ → Layout
layout_in version = if nat_eq version 2 then Classes else Full

-- What table a header is of, in steps: it begins with NMMT; its version is known; the board is the
-- one that is asked for; the numbers of stones are those of a pair, the greater one first; and the
-- board has points for them.
unfoldable pub kind_in : Shape → Header → Result (Layout × Counts) ReadFault
kind_in board header =
    unless (bytes_eq header.magic magic) fault.Magic (
    unless (is_version header.version) fault.Version (
    unless (nat_eq header.board board.id) fault.BoardId (
    unless (are_counts header.greater header.lesser) fault.Counts (
    unless (nat_le (header.greater + header.lesser) board.points) fault.Crowded (
    Ok (layout_in header.version, counts header.greater header.lesser))))))

-- the next step: the number of entries is that of the pair in the layout
unfoldable pub check_count : Shape → Header → Layout × Counts → Result (Layout × Counts) ReadFault
check_count board header kind = unless (nat_eq header.entries (entry_count board board.points kind.0 kind.1)) fault.Count (Ok kind)

-- all steps of a header
unfoldable pub check_header : Shape → Header → Result (Layout × Counts) ReadFault
check_header board header = and_then (kind_in board header) (check_count board header)

-- The steps before room is first taken. In layout Full these are all of them; in layout Classes the
-- classes are made before their entries are counted.
abbrev pub before_room : Shape → Header → Layout × Counts → Result (Layout × Counts) ReadFault
before_room board header (Full, pair) = check_count board header (Full, pair)
before_room board header (Classes, pair) = Ok (Classes, pair)

unfoldable pub roomless_in : Shape → Header → Result (Layout × Counts) ReadFault
roomless_in board header = and_then (kind_in board header) (before_room board header)

-- the table whose header bytes begin with: there are 16 bytes, and these are a header
unfoldable pub header_in : Shape → List ℕ → Result (Layout × Counts) ReadFault
header_in board bytes = unless (nat_le 16 (length bytes)) fault.Short (check_header board (header_at (take 16 bytes)))

-- ---- the codes and the digest

-- the codes that bytes state, two bytes each
abbrev pub codes_in : List ℕ → List ℕ
codes_in [] = []
codes_in (high ∷ []) = []
codes_in (high ∷ low ∷ bytes) = from_be_bytes w16 (high ∷ low ∷ []) ∷ codes_in bytes

-- The table of n entries in the bytes after its header, and what is left of them, in steps: there
-- are 2 bytes for each code and 32 for the digest; and the digest is the SHA-256 of the header and
-- the codes.
unfoldable pub body_in : Layout × Counts → ℕ → List ℕ → List ℕ → Result (Table × List ℕ) ReadFault
body_in kind n header bytes =
    let stated = take (2 * n) bytes in
    let digest = take 32 (drop (2 * n) bytes) in
    unless (nat_le (2 * n + 32) (length bytes)) fault.Short (
    unless (bytes_eq digest (sha256 (header ++ stated))) fault.Digest (
    Ok (table kind.0 kind.1 (codes_in stated), drop (2 * n + 32) bytes)))

-- ---- the whole

-- the table whose file bytes begin with, and the bytes after it
unfoldable pub file_in : Shape → List ℕ → Result (Table × List ℕ) ReadFault
file_in board bytes =
    and_then (header_in board bytes) (λ kind. body_in kind (entry_count board board.points kind.0 kind.1) (take 16 bytes) (drop 16 bytes))

-- whether nothing is left
abbrev pub is_end : List ℕ → Bool
is_end [] = true
is_end (byte ∷ bytes) = false

-- the table whose file the bytes are: after the file there is nothing
unfoldable pub only_file_in : Shape → List ℕ → Result (Table × List ℕ) ReadFault
only_file_in board bytes = and_then (file_in board bytes) (λ found. unless (is_end found.1) fault.Trailing (Ok found))

-- the same of bytes that have files one after the other: no table where there is no byte
unfoldable pub next_file_in : Shape → List ℕ → Result (Option Table × List ℕ) ReadFault
next_file_in board [] = Ok (None, [])
next_file_in board (byte ∷ bytes) = and_then (file_in board (byte ∷ bytes)) (λ found. Ok (Some found.0, found.1))

-- ---- what a call that reads answers

-- What a call answers of a source, whose bytes were `old` before and are `new` after it, where they
-- are known: what the steps `found` find in them, so that what they left is left; or the refusal of
-- the first step that refuses. Room may be missing, and a read may fail, at any bytes.
abbrev pub Reads : {A : Type 0} → (List ℕ → Result (A × List ℕ) ReadFault) → Option (List ℕ) → Option (List ℕ) → Result A ReadFault → Type 0
Reads found None new answer = Unit {0}
Reads found (Some bytes) new (Ok x) = (left : List ℕ) × (new ≡ Some left) × (found bytes ≡ Ok (x, left))
Reads found (Some bytes) new (Err fault.Memory) = Unit {0}
Reads found (Some bytes) new (Err fault.Read) = Unit {0}
Reads found (Some bytes) new (Err refusal) = found bytes ≡ Err refusal

-- What a call that reads answers of the file of x: x itself, but that room may be missing and a
-- read may fail.
abbrev pub Accepts : {A : Type 0} → A → Result A ReadFault → Type 0
Accepts x (Ok y) = y ≡ x
Accepts x (Err fault.Memory) = Unit {0}
Accepts x (Err fault.Read) = Unit {0}
Accepts x (Err refusal) = ⊥

-- where bytes are known, none of the steps before room is first taken refuses them
abbrev pub MayTakeRoom : Shape → Option (List ℕ) → Type 0
MayTakeRoom board None = Unit {0}
MayTakeRoom board (Some bytes) = (16 ≤ length bytes) × IsOk (roomless_in board (header_at (take 16 bytes)))

-- how many bytes stand after a header: two for each entry and 32 for the digest, and none after
-- what is refused as a header
abbrev pub body_length : Shape → Result (Layout × Counts) ReadFault → ℕ
body_length board (Ok kind) = 2 * entry_count board board.points kind.0 kind.1 + 32
body_length board (Err refusal) = 0

-- how long the file is that bytes begin with, by what they have for a header
abbrev pub file_length : Shape → List ℕ → ℕ
file_length board bytes = 16 + body_length board (header_in board bytes)

-- where bytes are known, those that were read are the first ones, and at most n
abbrev pub StandsWithin : ℕ → Option (List ℕ) → Option (List ℕ) → Type 0
StandsWithin n old new = (read : List ℕ) × (length read ≤ n) × Consumes old new read

-- The source stands in the file that its bytes began with, or at its end, or at most so many bytes
-- past it.
abbrev pub StandsInFile : Shape → ℕ → Option (List ℕ) → Option (List ℕ) → Type 0
StandsInFile board past None new = Unit {0}
StandsInFile board past (Some bytes) new = StandsWithin (file_length board bytes + past) (Some bytes) new

-- how far past the file that is read alone: one byte where one more byte is why it is refused
abbrev pub bytes_past : {A : Type 0} → Result A ReadFault → ℕ
bytes_past (Ok x) = 0
bytes_past (Err fault.Trailing) = 1
bytes_past (Err refusal) = 0

-- one failed read was counted where the answer is Read, and none where it is another
abbrev pub CountsRead : {A : Type 0} → ℕ → ℕ → Result A ReadFault → Type 0
CountsRead old new (Ok x) = new ≡ old
CountsRead old new (Err fault.Read) = new ≡ old + 1
CountsRead old new (Err refusal) = new ≡ old

-- ---- parts of a call that reads

-- why reading n bytes and more was refused: where bytes are known, there are fewer; or room was
-- missing, or a read failed
abbrev pub EndsEarly : ℕ → Option (List ℕ) → ReadFault → Type 0
EndsEarly n old fault.Short = IfSome old (λ bytes. length bytes < n)
EndsEarly n old fault.Memory = Unit {0}
EndsEarly n old fault.Read = Unit {0}
EndsEarly n old refusal = ⊥

-- the bytes that were read are those of a file after its first ones
abbrev pub ContinuesFile : Option (List ℕ) → Option (List ℕ) → List ℕ → List ℕ → Type 0
ContinuesFile old new first file = (rest : List ℕ) × Consumes old new rest × (file ≡ first ++ rest)

-- a refusal because of the bytes: neither room was missing, nor did a read fail
abbrev pub IsOfBytes : ReadFault → Type 0
IsOfBytes fault.Memory = ⊥
IsOfBytes fault.Read = ⊥
IsOfBytes refusal = Unit {0}

-- why a header was refused: room was missing, after all steps before it; or a step refused it
abbrev pub IsHeaderRefusal : Shape → Header → ReadFault → Type 0
IsHeaderRefusal board header fault.Memory = IsOk (roomless_in board header)
IsHeaderRefusal board header refusal = (check_header board header ≡ Err refusal) × IsOfBytes refusal
