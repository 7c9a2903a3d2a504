-- What the writing of the file of a table answers, and what the reading of one does.
use Rattle.std.specs.Prelude.{◌≡◌, ◌≢◌, ⊤, ℕ, List, [], Option, Some, None, Result, Ok, Err, MatchResult}
use Rattle.morris_board.specs.Boards.{Shape}
use Rattle.morris_index.specs.Pairs.{Counts}
use Rattle.morris_pairs.specs.FileReading.{MayTakeRoom, Reads, only_file_in}
use Rattle.morris_pairs.specs.Tables.{Table}
use Rattle.morris_pairs.specs.TableFiles.{file_of}
use Rattle.morris_pairs.specs.declared.file_faults.ReadFault.{ReadFault}
use Rattle.morris_pairs.specs.declared.file_faults.ReadFault.TheVariants as read
use Rattle.morris_files.specs.Files.{Files, Goes, HasNone}
use Rattle.morris_files.specs.Whole.{AreWhole, AreNotWhole}
use Rattle.morris_files.specs.declared.whole.NotWhole.{NotWhole}
use Rattle.morris_files.specs.declared.stored.StoredFault.{StoredFault}
use Rattle.morris_files.specs.declared.stored.StoredFault.TheVariants as stored
use Rattle.morris_files.specs.Names.{name_of}

-- The file of the table stands whole under the name of its pair, and each other file as it
-- was; or it wasn't written, and what stood there stands there.
abbrev pub AnswersTableFile : {T : Type 0} → Shape → List ℕ → Table → Option Files → Option Files → Result T NotWhole → Type 0
AnswersTableFile shape board t old new r = MatchResult r
    (λ _. Goes old new (AreWhole (name_of board t.pair) (file_of shape t)))
    (λ fault. Goes old new (AreNotWhole (name_of board t.pair) (file_of shape t) fault))

-- there is a file of this name whose bytes are such, where the files are known
abbrev pub HasFile : Option Files → List ℕ → (List ℕ → Type 0) → Type 0
HasFile None name are = ⊤
HasFile (Some files) name are = (bytes : List ℕ) × (files name ≡ Some bytes) × are bytes

-- the bytes are refused as the file of one table: at the first step that refuses them, for want of
-- room, or because a read failed
abbrev pub AreRefused : Shape → ReadFault → List ℕ → Type 0
AreRefused board refused bytes =
    Reads {A = Table} (only_file_in board) (Some bytes) (Some []) (Err refused) × (refused ≡ read.Memory → MayTakeRoom board (Some bytes))

-- What the reading of the file of a pair's table answers: that there is none; the table of the pair
-- whose file it is; or why it isn't had.
abbrev pub AnswersStored : Shape → Option Files → List ℕ → Counts → Result (Option Table) StoredFault → Type 0
AnswersStored board files name pair (Ok None) = HasNone files name
AnswersStored board files name pair (Ok (Some t)) = (t.pair ≡ pair) × HasFile files name (λ bytes. bytes ≡ file_of board t)
AnswersStored board files name pair (Err stored.Memory) = ⊤
AnswersStored board files name pair (Err stored.Unopened) = ⊤
AnswersStored board files name pair (Err (stored.Refused refused)) = HasFile files name (AreRefused board refused)
AnswersStored board files name pair (Err stored.OtherPair) = (t : Table) × (t.pair ≢ pair) × HasFile files name (λ bytes. bytes ≡ file_of board t)

-- why there is nothing to read: memory was refused for the name, or the file can't be opened
abbrev pub IsUnopened : StoredFault → Type 0
IsUnopened stored.Memory = ⊤
IsUnopened stored.Unopened = ⊤
IsUnopened refused = ⊥

-- one call of the folder failed where the file can't be opened, and none elsewhere
abbrev pub failures_opening : {T : Type 0} → Result T StoredFault → ℕ
failures_opening (Err stored.Unopened) = 1
failures_opening _ = 0
