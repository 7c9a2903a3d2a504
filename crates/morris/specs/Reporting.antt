-- What is reported of a fault: its line, and of one of a folder which folder that is, and what the
-- system said of it.
use Rattle.std.specs.Prelude.{◌≡◌, ℕ, Bool, true, false, List, [], ◌∷◌, ◌++◌, codes, take, Option, Some, None, Result, Ok, Err, if◌then◌else◌}
use Rattle.std.specs.List.{flat_map}
use Rattle.morris_queries.specs.Printing.{shown_byte}
use Rattle.morris_files.specs.Reasons.{reason_text}
use Rattle.morris_files.specs.declared.reason.Reason.{Reason}
use Rattle.morris_jobs.specs.Faults.{ReportsText, fault_line, fault_words}
use Rattle.morris_jobs.specs.declared.fault.Fault.{Fault}
use Rattle.morris_jobs.specs.declared.fault.Fault.TheVariants as fault

-- whether a fault is one of the folder that the arguments name, or of the files in it
abbrev pub is_of_folder : Fault → Bool
is_of_folder fault.Folder = true
is_of_folder (fault.Unwritten greater lesser) = true
is_of_folder (fault.Unopened greater lesser) = true
is_of_folder fault.Digests = true
is_of_folder fault.Busy = true
is_of_folder fault.NoFolder = true
is_of_folder fault.Unlocked = true
is_of_folder _ = false

-- A colon and the path that the arguments have, at most 4,096 bytes of it, each of which is shown
-- as in a text that was asked about: so it stays one line. Nothing of an empty one.
abbrev pub path_text : List ℕ → List ℕ
path_text [] = []
path_text (byte ∷ bytes) = codes ": " ++ flat_map shown_byte (take 4096 (byte ∷ bytes))

-- a colon and what the system said, where it is known
abbrev pub why_text : Option Reason → List ℕ
why_text None = []
why_text (Some why) = codes ": " ++ reason_text why

-- the line of a fault of a folder
unfoldable pub placed_line : Fault → List ℕ → Option Reason → List ℕ
placed_line f path why = fault_words f ++ path_text path ++ why_text why ++ (10 ∷ [])

-- the line of a fault, by whether the arguments name a folder
abbrev pub line_at : Fault → Option (List ℕ) → Option Reason → List ℕ
line_at f None why = fault_line f
line_at f (Some path) why = if is_of_folder f then placed_line f path why else fault_line f

-- What was reported of an answer: nothing where it is `Ok`, and else the line of its fault, or its
-- first bytes.
abbrev pub ReportsAt : {E T : Type 0} → (E → Option (List ℕ)) → (E → ℕ) → Option (List ℕ) → Option Reason → E → E → Result T Fault → Type 0
ReportsAt contents failures path why old new (Ok done) = new ≡ old
ReportsAt contents failures path why old new (Err f) = ReportsText contents failures old new (line_at f path why)
