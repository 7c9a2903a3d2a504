-- What the program makes of its arguments.
use Rattle.std.specs.Prelude.{◌≡◌, ◌≢◌, ◌⊎◌, ◌==◌, ◌&&◌, ◌-◌, ◌^◌, ℕ, Bool, true, false, List, [], ◌∷◌, String, codes, if◌then◌else◌, length, map, string_bytes, Option, Some, None, is_none, Result, Ok, Err}
use Rattle.std.specs.Vec.Iter.{into_iter_items}
use Rattle.std.specs.declared.vec.IntoIter.{IntoIter}
use Rattle.std.specs.Io.KnownBytes.{Keeps}
use Rattle.std.specs.Option.{option_map}
use Rattle.clap.specs.Words.{IsAmong, Kinds, Row, Text}
use Rattle.clap.specs.declared.error.kind.ErrorKind.{ErrorKind}
use Rattle.clap.specs.declared.error.kind.ErrorKind.TheVariants as kind
use Rattle.morris_jobs.specs.declared.fault.Fault.{Fault}
use Rattle.morris_jobs.specs.declared.fault.Fault.TheVariants as fault
use Rattle.morris_jobs.specs.Faults.{Prints}
use Rattle.morris_jobs.specs.Progress.{ReportsInOrder}
use Rattle.morris_words.specs.Words.{AsksFor, faults_of, named_by}
use Rattle.morris_words.specs.declared.request.Build.{Build}
use Rattle.morris_words.specs.declared.request.Find.{Find}
use Rattle.morris_words.specs.declared.request.Lookup.{Lookup}
use Rattle.morris_words.specs.declared.request.Request.{Request}
use Rattle.morris_words.specs.declared.request.Stats.{Stats}
use Rattle.morris_words.specs.declared.request.Task.{Task}
use Rattle.morris_words.specs.declared.request.Task.TheVariants as task
use Rattle.morris_words.specs.declared.request.Verify.{Verify}
use Rattle.morris_jobs.specs.BoardNames.{board_of}
use Rattle.morris_commands.specs.Look.{Looks}
use Rattle.morris_commands.specs.Stats.{AnswersByClasses, AnswersStats}
use Rattle.morris_commands.specs.Build.{AnswersBuild}
use Rattle.morris_jobs.specs.Building.{layout_for}
use Rattle.morris_folder_commands.specs.Bundle.{AnswersBundle}
use Rattle.morris_folder_commands.specs.From.{AnswersFrom}
use Rattle.morris_folder_commands.specs.Into.{AnswersInto, place_of}
use Rattle.morris_commands.specs.Probe.{AnswersProbe}
use Rattle.morris_commands.specs.Verify.{AnswersVerify}
use Rattle.morris_jobs.specs.Inputs.{Input}
use Rattle.morris_jobs.specs.declared.counts.Form.{Form}
use Rattle.morris_jobs.specs.declared.counts.Form.TheVariants as form
use Rattle.morris_queries.specs.Answers.{AnswersLookup}
use Rattle.morris_queries.specs.Asked.{AnswersCountsFrom, AnswersFindFrom}
use Rattle.morris_queries.specs.declared.find.Shown.{Shown}
use Rattle.morris_queries.specs.declared.find.Shown.TheVariants as found
use Rattle.morris_queries.specs.LineAnswers.{AnswersInput}
use Rattle.morris_queries.specs.declared.show.Show.{Show}
use Rattle.morris_queries.specs.declared.show.Show.TheVariants as show
use Rattle.morris_words.specs.declared.request.Show as words
use Rattle.morris_words.specs.declared.request.Show.TheVariants as wanted

-- the arguments have a mistake, and not a request for help or for the version alone
abbrev pub HasMistake : Kinds → Type 0
HasMistake kinds = (k : ErrorKind) × (k ≢ kind.DisplayHelp) × (k ≢ kind.DisplayVersion) × IsAmong k kinds

-- the arguments ask for help or for the version
abbrev pub AsksToShow : Kinds → Type 0
AsksToShow kinds = IsAmong kind.DisplayHelp kinds ⊎ IsAmong kind.DisplayVersion kinds

-- what `lookup` shows, by what the arguments ask for
abbrev pub to_show : words.Show → Show
to_show wanted.Best = show.Best
to_show wanted.Moves = show.Moves
to_show wanted.Line = show.Line
to_show wanted.Csv = show.Csv

-- how `lookup` ends: strings without an answer are a fault, which says how many they are
abbrev pub end_of : Result ℕ Fault → Result (Unit {0}) Fault
end_of (Ok unanswered) = if unanswered == 0 then Ok tt else Err (fault.Unanswered unanswered)
end_of (Err refused) = Err refused

-- What `lookup` answers: to position strings, or, where there are none, to the lines of its input.
abbrev pub AnswersQueries : List (List ℕ) → Lookup → Input → Input → Option (List ℕ) → Option (List ℕ) → Result (Unit {0}) Fault → Type 0
AnswersQueries [] asked before after old new result =
    (ended : Result ℕ Fault) × AnswersInput (board_of asked.board.now) asked.board.now None (to_show asked.show) before.bytes after.bytes old new ended
    × (result ≡ end_of ended)
AnswersQueries (text ∷ strings) asked before after old new result =
    (ended : Result ℕ Fault) × AnswersLookup (board_of asked.board.now) asked.board.now None (to_show asked.show) (text ∷ strings) old new ended
    × (result ≡ end_of ended)

-- the form in which `stats` prints
abbrev pub form_of : Bool → Bool → Form
form_of deepest true = form.Csv
form_of true false = form.Deepest
form_of false false = form.Text

-- What `stats` answers: by the file of the pair in a folder, where there is a folder, whose bytes
-- no contract knows; else with `--classes` from tables by classes, which so many workers build over
-- so many blocks; without it the workers and blocks count for nothing.
abbrev pub AnswersCount : {A : Type 0} → Option A → Bool → Stats → Option (List ℕ) → Option (List ℕ) → Result (Unit {0}) Fault → Type 0
AnswersCount (Some folder) classes asked old new result = AnswersCountsFrom (board_of asked.board.now) asked.board.now None asked.pair.now asked.csv old new result
AnswersCount None false asked old new result = AnswersStats (board_of asked.board.now) asked.pair.now (form_of asked.deepest asked.csv) old new result
AnswersCount None true asked old new result =
    AnswersByClasses (board_of asked.board.now) asked.pair.now asked.workers asked.blocks (form_of asked.deepest asked.csv) old new result

-- what `find` prints: how many positions there are; or their position strings, as many as there may
-- be, and else as many as 64 bits count
abbrev pub shown_as : Option ℕ → Bool → Shown
shown_as limit true = found.Count
shown_as None false = found.Strings (2 ^ 64 - 1)
shown_as (Some most) false = found.Strings most

-- what `find` answers, by the file of the pair in a folder, whose bytes no contract knows
abbrev pub AnswersFind : Find → Option (List ℕ) → Option (List ℕ) → Result (Unit {0}) Fault → Type 0
AnswersFind asked old new result =
    AnswersFindFrom (board_of asked.board.now) asked.board.now None asked.pair.now asked.value.now asked.all (shown_as asked.limit asked.count) old new result

-- What `build` answers: of the files that are printed, or of those that are written into a folder,
-- whose bytes no contract knows.
abbrev pub AnswersTables : {A : Type 0} → Option A → Build → Option (List ℕ) → Option (List ℕ) → Result (Unit {0}) Fault → Type 0
AnswersTables None asked old new result = AnswersBuild (board_of asked.board.now) asked.pair.now asked.workers asked.blocks asked.all asked.classes old new result
AnswersTables (Some folder) asked old new result =
    AnswersInto (board_of asked.board.now) (layout_for asked.classes) asked.board.now asked.pair.now asked.workers asked.blocks (place_of None old)
    (place_of None new) result

-- how many blocks `verify` divides the entries of each pair that it builds into
abbrev pub verified_blocks : ℕ
verified_blocks = 64

-- What `verify` answers: of the files of a folder, where there is a folder, whose bytes no contract
-- knows; else with `--all` of the files on its input, and without it of the one there.
abbrev pub AnswersFiles : {A : Type 0} → Option A → Bool → Verify → Input → Input → Option (List ℕ) → Option (List ℕ) → Result (Unit {0}) Fault → Type 0
AnswersFiles (Some folder) all asked before after old new result = AnswersFrom (board_of asked.board.now) None asked.board.now old new result
AnswersFiles None true asked before after old new result = AnswersBundle (board_of asked.board.now) before after old new result
AnswersFiles None false asked before after old new result = AnswersVerify (board_of asked.board.now) verified_blocks before after old new result

-- What the command of a task answers, of its input before and after it, and of what was printed. No
-- contract knows what the system has in a folder: nothing is said of the bytes of its files.
abbrev pub Answers : Input → Input → Option (List ℕ) → Option (List ℕ) → Task → Result (Unit {0}) Fault → Type 0
Answers before after old new (task.Look asked) result = Looks (board_of asked.board.now) asked.text.now asked.depth old new result
Answers before after old new (task.Stats asked) result = AnswersCount asked.from asked.classes asked old new result
Answers before after old new (task.Build asked) result = AnswersTables asked.into asked old new result
Answers before after old new (task.Verify asked) result = AnswersFiles asked.from asked.all asked before after old new result
Answers before after old new (task.Probe asked) result = AnswersProbe (board_of asked.board.now) asked.text.now before after old new result
Answers before after old new (task.Find asked) result = AnswersFind asked old new result
Answers before after old new (task.Lookup asked) result = AnswersQueries (map (λ t. t.now) asked.strings.items) asked before after old new result

-- whether the command of a task prints tables
abbrev pub prints_tables : Task → Bool
prints_tables (task.Build asked) = is_none asked.into
prints_tables _ = false

-- The same where the output may be a terminal. A command that prints tables is refused there, with
-- nothing read and nothing printed.
abbrev pub AnswersAt : Bool → Input → Input → Option (List ℕ) → Option (List ℕ) → Task → Result (Unit {0}) Fault → Type 0
AnswersAt true before after old new task result = (result ≡ Err fault.Terminal) × (after ≡ before) × Keeps old new
AnswersAt false before after old new task result = Answers before after old new task result

-- the path of the folder that a task works in, where it names one
abbrev pub folder_of : Task → Option (List ℕ)
folder_of (task.Build asked) = option_map (λ path. path.now) asked.into
folder_of (task.Verify asked) = option_map (λ path. path.now) asked.from
folder_of (task.Stats asked) = option_map (λ path. path.now) asked.from
folder_of (task.Lookup asked) = Some asked.from.now
folder_of (task.Find asked) = Some asked.from.now
folder_of _ = None

-- whether the command of a task reads its input
abbrev pub takes_input : Task → Bool
takes_input (task.Verify asked) = is_none asked.from
takes_input (task.Probe asked) = true
takes_input (task.Lookup asked) = length asked.strings.items == 0
takes_input _ = false

-- what was reported of the command's progress: nothing; or, where the arguments ask for it, some
-- lines, of which the first says how much there is to do; on a terminal they take one another's
-- place
abbrev pub ReportsProgress : {E : Type 0} → (E → Option (List ℕ)) → (E → ℕ) → List Text → Bool → E → E → Type 0
ReportsProgress contents failures words on_terminal old new =
    (new ≡ old)
    ⊎ ((request : Request) × AsksFor (named_by words) request × (request.progress ≡ true) × ReportsInOrder contents failures on_terminal old new)

-- the path is that of the folder which the command that was named works in; or there is none
abbrev pub NamesFolder : List Text → Option (List ℕ) → Type 0
NamesFolder words path = (path ≡ None) ⊎ ((request : Request) × AsksFor (named_by words) request × (path ≡ folder_of request.task))

-- the command that was named reads its input
abbrev pub AsksToRead : Option (Text × List Row) → Type 0
AsksToRead named = (request : Request) × AsksFor named request × (takes_input request.task ≡ true)

-- the exit status of a command: 0 where it is done, 1 where it was refused
abbrev pub status_of : {T : Type 0} → Result T Fault → ℕ
status_of (Ok done) = 0
status_of (Err fault) = 1

-- How the arguments were answered, where they have no mistake: by the command that they ask for,
-- whose output may be a terminal; by a text where they ask for help or for the version, or by want
-- of memory, with nothing read.
abbrev pub Ends : Bool → List Text → Input → Input → Option (List ℕ) → Option (List ℕ) → Result (Unit {0}) Fault → Type 0
Ends on_terminal words before after old new answer =
    ((request : Request) × AsksFor (named_by words) request × (faults_of words ≡ [])
    × AnswersAt (prints_tables request.task && on_terminal) before after old new request.task answer)
    ⊎ ((AsksToShow (faults_of words) × (after ≡ before) × ((text : List ℕ) × Prints old new text answer))
    ⊎ ((answer ≡ Err fault.Memory) × (after ≡ before) × Keeps old new))

-- ---- the arguments that the system gives

-- the texts of the arguments that the system gave
abbrev pub texts_of : {A : Type 0} → IntoIter (String A) A → List Text
texts_of words = map string_bytes (into_iter_items words)

-- the line that says that one of them isn't UTF-8
abbrev pub not_text : List ℕ
not_text = codes "error: a word of the command line is not text\n"
