-- Which fault answers a refusal, and what an answer says of what was printed.
use Rattle.std.specs.Prelude.{◌≡◌, ℕ, ◌+◌, ◌<◌, ◌==◌, Bool, true, false, List, [], ◌∷◌, ◌++◌, length, take, codes, Option, Some, None, Result, Ok, Err, if◌then◌else◌}
use Rattle.std.specs.Fmt.{decimal}
use Rattle.std.specs.Io.KnownBytes.{Appends}
use Rattle.morris_board.specs.Streams.{AllSent, CountsFailure, PartSent}
use Rattle.morris_board.specs.declared.faults.TextFault.{TextFault}
use Rattle.morris_board.specs.declared.faults.TextFault.TheVariants as text
use Rattle.morris_index.specs.declared.faults.PairFault.{PairFault}
use Rattle.morris_index.specs.declared.faults.PairFault.TheVariants as pair
use Rattle.morris_index.specs.Pairs.{Counts}
use Rattle.morris_workers.specs.declared.fault.SolveFault.{SolveFault}
use Rattle.morris_workers.specs.declared.fault.SolveFault.TheVariants as solve
use Rattle.morris_pairs.specs.declared.build_fault.BuildFault.{BuildFault}
use Rattle.morris_pairs.specs.declared.build_fault.BuildFault.TheVariants as build
use Rattle.morris_pairs.specs.declared.counting.CountFault.{CountFault}
use Rattle.morris_pairs.specs.declared.counting.CountFault.TheVariants as count
use Rattle.morris_pairs.specs.declared.file_faults.ReadFault.{ReadFault}
use Rattle.morris_pairs.specs.declared.file_faults.ReadFault.TheVariants as read
use Rattle.morris_pairs.specs.declared.verify.VerifyFault.{VerifyFault}
use Rattle.morris_pairs.specs.declared.verify.VerifyFault.TheVariants as verify
use Rattle.morris_board.specs.Printers.{WentOut}
use Rattle.morris_probe.specs.declared.fault.ProbeFault.{ProbeFault}
use Rattle.morris_probe.specs.declared.fault.ProbeFault.TheVariants as probe
use Rattle.morris_jobs.specs.declared.fault.Fault.{Fault}
use Rattle.morris_jobs.specs.declared.fault.Fault.TheVariants as fault
use Rattle.morris_jobs.specs.declared.flaw.Flaw.{Flaw}
use Rattle.morris_jobs.specs.declared.flaw.Flaw.TheVariants as flaw
use Rattle.morris_jobs.specs.declared.wording.Words.{Words}
use Rattle.morris_jobs.specs.declared.wording.Words.TheVariants.{Plain, Number, Pair}

-- the fault that answers a refused position string
abbrev pub text_fault : TextFault → Fault
text_fault text.Length = fault.Length
text_fault (text.Character place) = fault.Character place
text_fault text.Stones = fault.Stones

-- the fault that answers two refused numbers of stones
abbrev pub pair_fault : PairFault → Fault
pair_fault pair.Counts = fault.Counts
pair_fault pair.Crowded = fault.Crowded

-- the fault that answers a refused file
abbrev pub read_fault : ReadFault → Fault
read_fault read.Short = fault.Short
read_fault read.Magic = fault.Magic
read_fault read.Version = fault.Version
read_fault read.BoardId = fault.BoardId
read_fault read.Counts = fault.Counts
read_fault read.Crowded = fault.Crowded
read_fault read.Count = fault.Count
read_fault read.Digest = fault.Digest
read_fault read.Trailing = fault.Trailing
read_fault read.Read = fault.Read
read_fault read.Memory = fault.Memory

-- the fault that answers positions which aren't counted
abbrev pub count_fault : CountFault → Fault
count_fault count.Memory = fault.Memory
count_fault count.Read = fault.Read

-- the fault that answers a missing table
abbrev pub needs_fault : Counts → Fault
needs_fault c = fault.Needs c.greater c.lesser

-- the fault that answers a table which isn't verified
abbrev pub verify_fault : {B : Type 0} → VerifyFault B → Fault
verify_fault (verify.Needs needs) = needs_fault needs.0
verify_fault (verify.Differs index) = fault.Differs index

-- the fault that answers a refusal of the workers
abbrev pub solve_fault : SolveFault → Fault
solve_fault solve.Workers = fault.Workers
solve_fault solve.Blocks = fault.Blocks
solve_fault solve.Memory = fault.Memory
solve_fault (solve.Missing number) = fault.Missing number
solve_fault solve.TooDeep = fault.TooDeep

-- the fault that answers a refused build, or a refused sweep
abbrev pub build_fault : {B : Type 0} → BuildFault B → Fault
build_fault (build.Needs needs) = needs_fault needs.0
build_fault build.Workers = fault.Workers
build_fault build.Blocks = fault.Blocks
build_fault build.Memory = fault.Memory
build_fault (build.Missing number) = fault.Missing number
build_fault build.TooDeep = fault.TooDeep

-- the fault that answers a refused probe
abbrev pub probe_fault : {B : Type 0} → ProbeFault B → Fault
probe_fault (probe.Needs needs) = needs_fault needs.0
probe_fault probe.Memory = fault.Memory
probe_fault (probe.Write sent) = fault.Write sent

-- numbers of stones, with a hyphen (45) between them
abbrev pub stones_text : ℕ → ℕ → List ℕ
stones_text greater lesser = decimal greater ++ (45 ∷ decimal lesser)

-- a text; a number between two texts; or the numbers of stones of a pair between two texts
abbrev pub words_of : Words → List ℕ
words_of (Plain text) = text.now
words_of (Number before number after) = before.now ++ decimal number ++ after.now
words_of (Pair before greater lesser after) = before.now ++ stones_text greater lesser ++ after.now

-- how many bytes stand around the numbers
abbrev pub length_around : Words → ℕ
length_around (Plain text) = length text.now
length_around (Number before number after) = length before.now + length after.now
length_around (Pair before greater lesser after) = length before.now + length after.now

-- the number and the text of a flaw
abbrev pub flaw_description : Flaw → ℕ × List ℕ
flaw_description flaw.Short = (15, codes "file is too short")
flaw_description flaw.Magic = (16, codes "not a table file")
flaw_description flaw.Version = (17, codes "unknown version")
flaw_description flaw.BoardId = (18, codes "another board")
flaw_description flaw.Counts = (4, codes "bad counts")
flaw_description flaw.Crowded = (5, codes "more stones than points")
flaw_description flaw.Count = (19, codes "wrong number of entries")
flaw_description flaw.Digest = (20, codes "digest is wrong")
flaw_description flaw.Trailing = (21, codes "bytes after the table")
flaw_description flaw.Read = (22, codes "reading failed")
flaw_description (flaw.Needs greater lesser) = (13, codes "needs " ++ stones_text greater lesser)
flaw_description (flaw.Differs index) = (14, codes "entry " ++ decimal index ++ codes " differs")

-- how many lines have no answer, in words
abbrev pub unanswered_text : ℕ → List ℕ
unanswered_text count = if count == 1 then codes "1 line has no answer" else decimal count ++ codes " lines have no answer"

-- the number of a fault, and its text without the file in which it was met
abbrev pub fault_description : Fault → ℕ × List ℕ
fault_description fault.Length = (1, codes "text is not one character per point")
fault_description (fault.Character place) = (2, codes "bad character at " ++ decimal place)
fault_description fault.Stones = (3, codes "bad number of stones")
fault_description fault.Counts = flaw_description flaw.Counts
fault_description fault.Crowded = flaw_description flaw.Crowded
fault_description fault.Blocks = (6, codes "blocks must be 1 to 1024")
fault_description (fault.Missing number) = (8, codes "block " ++ decimal number ++ codes " is not complete")
fault_description fault.TooDeep = (10, codes "depth is too great")
fault_description fault.Workers = (11, codes "workers must be 1 to 64")
fault_description fault.Memory = (12, codes "out of memory")
fault_description (fault.Needs greater lesser) = flaw_description (flaw.Needs greater lesser)
fault_description (fault.Differs index) = flaw_description (flaw.Differs index)
fault_description fault.Short = flaw_description flaw.Short
fault_description fault.Magic = flaw_description flaw.Magic
fault_description fault.Version = flaw_description flaw.Version
fault_description fault.BoardId = flaw_description flaw.BoardId
fault_description fault.Count = flaw_description flaw.Count
fault_description fault.Digest = flaw_description flaw.Digest
fault_description fault.Trailing = flaw_description flaw.Trailing
fault_description fault.Read = flaw_description flaw.Read
fault_description (fault.Write sent) = (23, codes "writing failed after " ++ decimal sent ++ codes " bytes")
fault_description fault.Board = (25, codes "no such board")
fault_description fault.PairText = (26, codes "not a pair")
fault_description fault.ValueText = (39, codes "not a value: draw, won, lost, won in D, lost in D or deepest")
fault_description fault.TooMany = (27, codes "more than 64 tables")
fault_description fault.Folder = (28, codes "folder can't be made")
fault_description (fault.Unwritten greater lesser) = (29, codes "file of " ++ stones_text greater lesser ++ codes " can't be written")
fault_description (fault.Unopened greater lesser) = (30, codes "file of " ++ stones_text greater lesser ++ codes " can't be opened")
fault_description (fault.OtherPair greater lesser) = (31, codes "file of " ++ stones_text greater lesser ++ codes " has the table of another pair")
fault_description fault.NoFiles = (32, codes "no table files")
fault_description (fault.Unanswered count) = (33, unanswered_text count)
fault_description fault.Digests = (34, codes "file of digests can't be written")
fault_description fault.Busy = (35, codes "another build is at work in this folder")
fault_description fault.NoFolder = (36, codes "no such folder")
fault_description fault.Disagree = (37, codes "the files of this position and its moves disagree")
fault_description fault.Unlocked = (38, codes "folder can't be locked")
fault_description fault.Terminal = (40, codes "a table isn't for a terminal: add --into FOLDER or > FILE")
fault_description (fault.InFile greater lesser f) = flaw_description f

abbrev pub fault_number : Fault → ℕ
fault_number f = (fault_description f).0

abbrev pub own_text : Fault → List ℕ
own_text f = (fault_description f).1

-- the text of a fault; where it was met in a file, the text says in which one
abbrev pub fault_text : Fault → List ℕ
fault_text (fault.InFile greater lesser f) = (flaw_description f).1 ++ codes ", in the file of " ++ stones_text greater lesser
fault_text f = own_text f

-- the flaw that a fault says a table file has, where it doesn't say which file
abbrev pub flaw_in : Fault → Option Flaw
flaw_in fault.Counts = Some flaw.Counts
flaw_in fault.Crowded = Some flaw.Crowded
flaw_in (fault.Needs greater lesser) = Some (flaw.Needs greater lesser)
flaw_in (fault.Differs index) = Some (flaw.Differs index)
flaw_in fault.Short = Some flaw.Short
flaw_in fault.Magic = Some flaw.Magic
flaw_in fault.Version = Some flaw.Version
flaw_in fault.BoardId = Some flaw.BoardId
flaw_in fault.Count = Some flaw.Count
flaw_in fault.Digest = Some flaw.Digest
flaw_in fault.Trailing = Some flaw.Trailing
flaw_in fault.Read = Some flaw.Read
flaw_in _ = None

-- a fault as it is reported where it was met in the file of a pair: a flaw says of which file it is
abbrev pub in_file : Counts → Fault → Fault
in_file c f = elim (flaw_in f) [ None ↦ f | Some found ↦ fault.InFile c.greater c.lesser found ]

-- a fault with its number: `fault N: TEXT`
unfoldable pub fault_words : Fault → List ℕ
fault_words f = codes "fault " ++ decimal (fault_number f) ++ codes ": " ++ fault_text f

-- the line of a fault
unfoldable pub fault_line : Fault → List ℕ
fault_line f = fault_words f ++ (10 ∷ [])

-- What was printed: all of the text where the answer is `Ok`, and its first `sent` bytes, not all
-- of it, where it is `Write(sent)`.
abbrev pub Prints : {T : Type 0} → Option (List ℕ) → Option (List ℕ) → List ℕ → Result T Fault → Type 0
Prints old new printed (Ok done) = Appends old new printed
Prints old new printed (Err (fault.Write sent)) = (sent < length printed) × Appends old new (take sent printed)
Prints old new printed (Err _) = ⊥

-- a line is printed where `sent` bytes were before, or its first bytes are
abbrev pub PrintsLine : List ℕ → ℕ → Option (List ℕ) → Option (List ℕ) → Result ℕ Fault → Type 0
PrintsLine text sent old new (Ok now) = AllSent old new sent now text
PrintsLine text sent old new (Err (fault.Write now)) = PartSent old new sent now text
PrintsLine text sent old new (Err _) = ⊥

-- whether the answer says that a write failed
abbrev pub is_write : Fault → Bool
is_write (fault.Write sent) = true
is_write _ = false

-- the failures of the sink rose by one where a write failed, and not otherwise
abbrev pub CountsWrites : {T : Type 0} → ℕ → ℕ → Result T Fault → Type 0
CountsWrites old new (Ok done) = new ≡ old
CountsWrites old new (Err f) = new ≡ (if is_write f then old + 1 else old)

-- a text was written to the error sink, or its first bytes up to the write that failed
abbrev pub ReportsText : {E : Type 0} → (E → Option (List ℕ)) → (E → ℕ) → E → E → List ℕ → Type 0
ReportsText contents failures old new text =
    (sent : Result (Unit {0}) ℕ) × WentOut (contents old) (contents new) text sent × CountsFailure (failures old) (failures new) sent

-- the line of a fault was written, or its first bytes
abbrev pub ReportsFault : {E : Type 0} → (E → Option (List ℕ)) → (E → ℕ) → E → E → Fault → Type 0
ReportsFault contents failures old new f = ReportsText contents failures old new (fault_line f)
