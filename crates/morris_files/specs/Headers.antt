-- What the header of the file of a pair's table says of it.
use Rattle.std.specs.Prelude.{◌≡◌, ◌⊎◌, ⊤, ℕ, List, take, Option, Some, None, Result, Ok, Err, if◌then◌else◌}
use Rattle.std.specs.Str.{bytes_eq}
use Rattle.morris_board.specs.Boards.{Shape}
use Rattle.morris_index.specs.Pairs.{Counts}
use Rattle.morris_pairs.specs.declared.file_faults.ReadFault.TheVariants as read
use Rattle.morris_pairs.specs.declared.layout.Layout.{Layout}
use Rattle.morris_pairs.specs.declared.layout.Layout.TheVariants.{Full, Classes}
use Rattle.morris_pairs.specs.Entries.{entry_count}
use Rattle.morris_pairs.specs.TableFiles.{header_of}
use Rattle.morris_files.specs.Files.{Files, HasNone}
use Rattle.morris_files.specs.Stored.{HasFile}
use Rattle.morris_files.specs.declared.header.Header.{Header}
use Rattle.morris_files.specs.declared.stored.StoredFault.{StoredFault}
use Rattle.morris_files.specs.declared.stored.StoredFault.TheVariants as stored

-- what is said of a pair's table in a layout, on a board of n points
abbrev pub said_of : Shape → ℕ → Counts → Layout → Header
said_of board n c l = record { layout = l; entries = entry_count board n l c }

-- the 16 bytes that say it
abbrev pub header_saying : Shape → ℕ → Counts → Layout → List ℕ
header_saying board n c l = header_of board l c (entry_count board n l c)

-- what some bytes say as the header of a pair's table, in either layout; none where they are none
abbrev pub header_in : Shape → ℕ → Counts → List ℕ → Option Header
header_in board n c bytes =
    if bytes_eq bytes (header_saying board n c Full) then Some (said_of board n c Full)
    else if bytes_eq bytes (header_saying board n c Classes) then Some (said_of board n c Classes) else None

-- What a look at the header of the file of a pair's table answers: what the first 16 bytes of the
-- file say; that there is no file, or none that begins with such a header; or why it isn't had:
-- memory was refused for the name, the file can't be opened, or a read of one that is there failed.
abbrev pub AnswersHeader : Shape → ℕ → Option Files → List ℕ → Counts → Result (Option Header) StoredFault → Type 0
AnswersHeader board n files name c (Ok None) = HasNone files name ⊎ HasFile files name (λ bytes. header_in board n c (take 16 bytes) ≡ None)
AnswersHeader board n files name c (Ok (Some header)) = HasFile files name (λ bytes. header_in board n c (take 16 bytes) ≡ Some header)
AnswersHeader board n files name c (Err stored.Memory) = ⊤
AnswersHeader board n files name c (Err stored.Unopened) = ⊤
AnswersHeader board n files name c (Err (stored.Refused read.Read)) = HasFile files name (λ bytes. ⊤)
AnswersHeader board n files name c (Err refused) = ⊥
