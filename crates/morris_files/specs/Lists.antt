-- What is had of the list of digests in a folder.
use Rattle.std.specs.Prelude.{◌≡◌, ⊤, ℕ, ◌<◌, ◌≤◌, List, [], length, Option, Some, None, unwrap_or, Result, Err}
use Rattle.morris_index.specs.Pairs.{Counts}
use Rattle.morris_files.specs.Files.{Files}
use Rattle.morris_files.specs.Digests.{retained_of}
use Rattle.morris_files.specs.Names.{digests_name_of}
use Rattle.morris_files.specs.declared.old_checksums.ListFault.{ListFault}
use Rattle.morris_files.specs.declared.old_checksums.ListFault.TheVariants as fault

-- ---- the list that a folder has

-- the list of a board's files that a folder has: nothing where it has none
abbrev pub list_in : Files → List ℕ → List ℕ
list_in files board = unwrap_or (files (digests_name_of board)) []

-- This is a folder's list, where the files are known: no longer than 65,536 bytes.
abbrev pub IsList : List ℕ → Option Files → List ℕ → Type 0
IsList board None list = ⊤
IsList board (Some files) list = (list ≡ list_in files board) × (length list ≤ 65536)

-- What is had of a folder's list, no longer than that, where the files are known: the lines that
-- are retained.
abbrev pub AreRetainedLines : List ℕ → Counts → Option Files → List ℕ → Type 0
AreRetainedLines board replaced None retained = ⊤
AreRetainedLines board replaced (Some files) retained = (retained ≡ retained_of board replaced (list_in files board)) × (length (list_in files board) ≤ 65536)

-- why a folder's list isn't had: it may be longer than that, where the files are known
abbrev pub IsUnlisted : List ℕ → Option Files → ListFault → Type 0
IsUnlisted board None refused = ⊤
IsUnlisted board (Some files) fault.Long = 65536 < length (list_in files board)
IsUnlisted board (Some files) _ = ⊤

-- one call of the folder failed where the list can't be opened, and none elsewhere
abbrev pub failures_listing : {T : Type 0} → Result T ListFault → ℕ
failures_listing (Err fault.Unopened) = 1
failures_listing _ = 0

-- ---- the bytes of a reader

-- all that a source had to give, where that is known: no more than 65,536 bytes
abbrev pub AreAll : Option (List ℕ) → List ℕ → Type 0
AreAll None bytes = ⊤
AreAll (Some all) bytes = (bytes ≡ all) × (length all ≤ 65536)

-- why it wasn't read: it may be more, where it is known
abbrev pub IsUnread : Option (List ℕ) → ListFault → Type 0
IsUnread all fault.Memory = ⊤
IsUnread all fault.Unopened = ⊥
IsUnread all fault.Unread = ⊤
IsUnread None fault.Long = ⊤
IsUnread (Some all) fault.Long = 65536 < length all
