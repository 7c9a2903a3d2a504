-- What is answered to the lines of an input.
use Rattle.std.specs.Prelude.{◌≡◌, ◌⊎◌, ℕ, ◌+◌, ◌-◌, ◌^◌, ◌≤◌, List, [], take, length, Option, Some, None, Result, Ok, Err}
use Rattle.std.specs.Io.KnownBytes.{Consumes, IsAtEnd, Keeps}
use Rattle.morris_board.specs.Boards.{Shape}
use Rattle.morris_files.specs.Files.{Files}
use Rattle.morris_jobs.specs.declared.fault.Fault.{Fault}
use Rattle.morris_jobs.specs.declared.fault.Fault.TheVariants as fault
use Rattle.morris_queries.specs.declared.show.Show.{Show}
use Rattle.morris_queries.specs.declared.strings.Tally.{Tally}
use Rattle.morris_queries.specs.Answers.{AnswersStrings, AreOut}
use Rattle.morris_queries.specs.InputLines.{begun_after, strings_ended, strings_in}

-- These bytes were read: the answers to the lines that end in them went out, and the first bytes of
-- the line that is begun after those are retained.
pub record IsReadTo (board : Shape) (name : List ℕ) (known : Option Files) (show : Show) (read : List ℕ) (old new : Option (List ℕ)) (line : List ℕ) (tally : Tally) : Type 0 where
  pub retained : line ≡ take 26 (begun_after [] read)
  pub out : AreOut board name known show (strings_ended read) old new tally

-- why it stops: a write failed, of the answers to the first of these strings
abbrev pub StopsIn : Shape → List ℕ → Option Files → Show → List (List ℕ) → Option (List ℕ) → Option (List ℕ) → Fault → Type 0
StopsIn board name known show strings old new (fault.Write sent) = AnswersStrings board name known show strings old new (Err (fault.Write sent))
StopsIn board name known show strings old new _ = ⊥

-- What the call for the lines of an input answers: of the input some bytes were read. Done: it is
-- at its end, and the answers to all its lines went out. A read failed: the answers to all lines
-- that end in what was read went out; since any read may fail, they do so before the next read. A
-- write failed, of the answers to the first of those lines. Want of memory: nothing was read, and
-- nothing went out.
abbrev pub AnswersLines : Shape → List ℕ → Option Files → Show → Option (List ℕ) → Option (List ℕ) → Option (List ℕ) → Option (List ℕ) → Result ℕ Fault → Type 0
AnswersLines board name known show before after old new (Ok refused) =
    (read : List ℕ) × Consumes before after read × IsAtEnd after × AnswersStrings board name known show (strings_in read) old new (Ok refused)
AnswersLines board name known show before after old new (Err fault.Read) =
    (read : List ℕ) × Consumes before after read × ((refused : ℕ) × AnswersStrings board name known show (strings_ended read) old new (Ok refused))
AnswersLines board name known show before after old new (Err (fault.Write sent)) =
    (read : List ℕ) × Consumes before after read × AnswersStrings board name known show (strings_in read) old new (Err (fault.Write sent))
AnswersLines board name known show before after old new (Err fault.Memory) = Keeps before after × Keeps old new
AnswersLines board name known show before after old new (Err _) = ⊥

-- What is counted of the reads of an input, whose bytes were `before` and are then `after`: none
-- failed where it is done. Where the answer is that a read failed, one did; or so many bytes were
-- read that there may have been as many reads as are made at most. None failed elsewhere.
abbrev pub CountsReads : {T : Type 0} → Option (List ℕ) → Option (List ℕ) → ℕ → ℕ → Result T Fault → Type 0
CountsReads before after old new (Ok done) = new ≡ old
CountsReads before after old new (Err fault.Read) = (new ≡ old + 1) ⊎ ((read : List ℕ) × Consumes before after read × (2 ^ 64 - 1 ≤ length read))
CountsReads before after old new (Err _) = new ≡ old

-- What it answers of a folder that may not be there: that there is no such folder, where its files
-- aren't known, with nothing read and nothing printed; otherwise what it answers from its files.
abbrev pub AnswersFound : Shape → List ℕ → Option Files → Show → Option (List ℕ) → Option (List ℕ) → Option (List ℕ) → Option (List ℕ) → Result ℕ Fault → Type 0
AnswersFound board name known show before after old new (Err fault.NoFolder) = (known ≡ None) × Keeps before after × Keeps old new
AnswersFound board name known show before after old new result = AnswersLines board name known show before after old new result

-- What the command answers to an input: that there is no board of the name, with nothing read and
-- nothing printed; otherwise what it answers on the board.
abbrev pub AnswersInput : Option Shape → List ℕ → Option Files → Show → Option (List ℕ) → Option (List ℕ) → Option (List ℕ) → Option (List ℕ) → Result ℕ Fault → Type 0
AnswersInput None name known show before after old new result = (result ≡ Err fault.Board) × Keeps before after × Keeps old new
AnswersInput (Some board) name known show before after old new result = AnswersFound board name known show before after old new result
