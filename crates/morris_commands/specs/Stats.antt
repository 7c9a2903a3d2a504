-- What `stats` prints of a pair.
use Rattle.std.specs.Prelude.{◌≡◌, ◌⊎◌, ℕ, true, false, List, ◌++◌, Option, Result, Err}
use Rattle.std.specs.Io.KnownBytes.{Keeps}
use Rattle.morris_board.specs.Boards.{Shape}
use Rattle.morris_index.specs.Pairs.{Counts}
use Rattle.morris_pairs.specs.Counting.{HasCode, HasTallies}
use Rattle.morris_jobs.specs.Counted.{PrintsTallies, stats_text}
use Rattle.morris_jobs.specs.declared.counts.Form.{Form}
use Rattle.morris_jobs.specs.declared.counts.Form.TheVariants as forms
use Rattle.morris_jobs.specs.declared.fault.Fault.{Fault}
use Rattle.morris_jobs.specs.declared.fault.Fault.TheVariants as fault
use Rattle.morris_jobs.specs.Faults.{Prints}
use Rattle.morris_jobs.specs.PairText.{read_pair_of}
use Rattle.morris_jobs.specs.Answering.{OnBoard, OnBuildArgs, OnRead}
use Rattle.morris_commands.specs.Build.{HasTooDeep, IsUnbuiltFor}
use Rattle.morris_commands.specs.Deepest.{ShowsDeepest}

-- `stats` prints the counts of all positions of the pair, in the form that is asked for: each code
-- says the game's value and exact depth. The deepest positions stand below the lines of text.
abbrev pub PrintsDeepest : {T : Type 0} → Shape → Counts → Option (List ℕ) → Option (List ℕ) → Result T Fault → Type 0
PrintsDeepest board pair old new result =
    (tallies : List ℕ) × (lines : List ℕ) × HasTallies board pair tallies × ShowsDeepest board pair lines
    × Prints old new (stats_text board.points pair tallies ++ lines) result

abbrev pub PrintsStats : {T : Type 0} → Shape → Counts → Form → Option (List ℕ) → Option (List ℕ) → Result T Fault → Type 0
PrintsStats board pair forms.Text old new result = PrintsTallies board pair false (HasCode board pair) old new result
PrintsStats board pair forms.Deepest old new result = PrintsDeepest board pair old new result
PrintsStats board pair forms.Csv old new result = PrintsTallies board pair true (HasCode board pair) old new result

-- What is answered over a table of the pair: want of memory, with nothing printed; otherwise the
-- text is printed.
abbrev pub AnswersCounts : {T : Type 0} → Shape → Counts → Form → Option (List ℕ) → Option (List ℕ) → Result T Fault → Type 0
AnswersCounts board pair form old new result =
    ((result ≡ Err fault.Memory) × Keeps old new) ⊎ PrintsStats board pair form old new result

-- What `stats` answers of a pair whose table is built by so many blocks, or swept where there are
-- none: why it isn't, with nothing printed; otherwise codes suffice for all depths, and the pair's
-- text is printed.
abbrev pub AnswersPair : {T : Type 0} → Shape → Counts → ℕ → Form → Option (List ℕ) → Option (List ℕ) → Result T Fault → Type 0
AnswersPair board pair blocks form old new result =
    ((refused : Fault) × (result ≡ Err refused) × IsUnbuiltFor board pair blocks refused × Keeps old new)
    ⊎ (¬ HasTooDeep board pair × PrintsStats board pair form old new result)

-- what it answers on a board, of the pair that a text names; and on the board of a name
abbrev pub AnswersOn : {T : Type 0} → Shape → List ℕ → Form → Option (List ℕ) → Option (List ℕ) → Result T Fault → Type 0
AnswersOn board text form old new result =
    OnRead (λ refused. refused) (read_pair_of board.points text) result (Keeps old new) (λ pair. AnswersPair board pair 0 form old new result)

abbrev pub AnswersStats : {T : Type 0} → Option Shape → List ℕ → Form → Option (List ℕ) → Option (List ℕ) → Result T Fault → Type 0
AnswersStats named text form old new result = OnBoard named result (Keeps old new) (λ board. AnswersOn board text form old new result)

-- what it answers where it counts from tables by classes, which so many workers build over so many
-- blocks: it prints the same text
abbrev pub AnswersByClassesOn : {T : Type 0} → Shape → List ℕ → ℕ → ℕ → Form → Option (List ℕ) → Option (List ℕ) → Result T Fault → Type 0
AnswersByClassesOn board text workers blocks form old new result =
    OnBuildArgs board text workers blocks result (Keeps old new) (λ pair. AnswersPair board pair blocks form old new result)

abbrev pub AnswersByClasses : {T : Type 0} → Option Shape → List ℕ → ℕ → ℕ → Form → Option (List ℕ) → Option (List ℕ) → Result T Fault → Type 0
AnswersByClasses named text workers blocks form old new result =
    OnBoard named result (Keeps old new) (λ board. AnswersByClassesOn board text workers blocks form old new result)
