-- What is answered to position strings, and what of the answers went out.
use Rattle.std.specs.Prelude.{◌≡◌, ◌≢◌, ℕ, ◌+◌, ◌-◌, ◌^◌, ◌<◌, min, Bool, List, [], ◌∷◌, ◌++◌, map, take, length, is_err, Option, Some, None, Result, Ok, Err, IfOk, if◌then◌else◌}
use Rattle.std.specs.List.{flat_map, Contains}
use Rattle.std.specs.Io.KnownBytes.{Appends, Keeps}
use Rattle.morris_board.specs.Boards.{Shape}
use Rattle.morris_board.specs.Positions.{Sides, read_of}
use Rattle.morris_board.specs.declared.faults.TextFault.{TextFault}
use Rattle.morris_files.specs.Files.{Files}
use Rattle.morris_jobs.specs.declared.fault.Fault.{Fault}
use Rattle.morris_jobs.specs.declared.fault.Fault.TheVariants as fault
use Rattle.morris_jobs.specs.Faults.{text_fault}
use Rattle.morris_queries.specs.declared.answer.Answered.{Answered}
use Rattle.morris_queries.specs.declared.strings.Tally.{Tally}
use Rattle.morris_queries.specs.declared.show.Show.{Show}
use Rattle.morris_queries.specs.Reports.{PositionReport, Agrees, IsListed, reported_text}
use Rattle.morris_queries.specs.Exactness.{AreExactIn, IsGame}
use Rattle.morris_queries.specs.Printing.{answer_string, head_text}

-- an answer to a string: the report of its position, or a fault
abbrev pub Answer : Type 0
Answer = Result PositionReport Fault

-- what is answered of a position where the files are those of exact tables: what is so in the game,
-- or a fault, which never is that the files disagree
abbrev pub IsExactAnswer : Shape → Show → Sides → Answer → Type 0
IsExactAnswer board show s (Ok t) = IsGame board show s t
IsExactAnswer board show s (Err refused) = refused ≢ fault.Disagree

-- The answer to a string, on the board of this name. A text that isn't a position string is
-- answered by its own fault. Where the files are known, the answer is what they say, unless memory
-- ran out; and where those that are asked for are those of exact tables, it is the game's.
pub record IsAnswer (board : Shape) (name : List ℕ) (known : Option Files) (show : Show) (text : List ℕ) (answer : Answer) : Type 0 where
  pub refused : (fault : TextFault) → read_of board text ≡ Err fault → answer ≡ Err (text_fault fault)
  pub listed : (s : Sides) → read_of board text ≡ Ok s → IfOk answer (IsListed board s)
  pub reported : (files : Files) → known ≡ Some files → Agrees answer (reported_text board name files show text)
  pub exact : (files : Files) → known ≡ Some files → (s : Sides) → read_of board text ≡ Ok s → AreExactIn board name files show s → IsExactAnswer board show s answer

-- a count, which stops at u64::MAX
abbrev pub count_up_to : ℕ → ℕ
count_up_to n = min n (2 ^ 64 - 1)

-- of what was to be printed not all went out, but its first bytes, and so many of them
abbrev pub WentIn : Option (List ℕ) → Option (List ℕ) → List ℕ → ℕ → Type 0
WentIn old new whole sent = (went : ℕ) × (went < length whole) × Appends old new (take went whole) × (sent ≡ count_up_to went)

-- what went out of a text: all of it, and the answer says how many bytes it has and whether it was
-- a fault; or its first bytes up to the write that failed
abbrev pub GoesOut : Option (List ℕ) → Option (List ℕ) → List ℕ → Bool → Result Answered ℕ → Type 0
GoesOut old new whole refused (Ok done) = Appends old new whole × (done.sent ≡ length whole) × (done.is_refused ≡ refused)
GoesOut old new whole refused (Err sent) = WentIn old new whole sent

-- what the call for one string answers
abbrev pub AnswersString : Shape → List ℕ → Option Files → Show → List ℕ → Option (List ℕ) → Option (List ℕ) → Result Answered ℕ → Type 0
AnswersString board name known show text old new result =
    (answer : Answer) × IsAnswer board name known show text answer × GoesOut old new (answer_string board show text answer) (is_err answer) result

-- ---- many strings

-- strings and their answers, in order
abbrev pub Given : Type 0
Given = List (List ℕ × Answer)

-- these strings were answered, each with its answer
pub record AreGiven (board : Shape) (name : List ℕ) (known : Option Files) (show : Show) (strings : List (List ℕ)) (given : Given) : Type 0 where
  pub listed : map (λ (g : List ℕ × Answer). g.0) given ≡ strings
  pub each : (g : List ℕ × Answer) → Contains given g → IsAnswer board name known show g.0 g.1

-- what is printed of them, one after the other, and before them
abbrev pub output_of : Shape → Show → Given → List ℕ
output_of board show given = head_text show ++ flat_map (λ (g : List ℕ × Answer). answer_string board show g.0 g.1) given

-- how many of them are faults
abbrev pub count_refused : Given → ℕ
count_refused [] = 0
count_refused (g ∷ given) = (if is_err g.1 then 1 else 0) + count_refused given

-- all answers to these strings went out, and were counted
pub record AreOut (board : Shape) (name : List ℕ) (known : Option Files) (show : Show) (strings : List (List ℕ)) (old new : Option (List ℕ)) (tally : Tally) : Type 0 where
  pub given : Given
  pub are : AreGiven board name known show strings given
  pub out : Appends old new (output_of board show given)
  pub sent : tally.sent ≡ count_up_to (length (output_of board show given))
  pub refused : tally.refused ≡ count_up_to (count_refused given)

-- what stands before all answers went out, and was counted; or a part of it did
abbrev pub Begins : Show → Option (List ℕ) → Option (List ℕ) → Result Tally ℕ → Type 0
Begins show old new (Ok tally) = Appends old new (head_text show) × (tally.sent ≡ length (head_text show)) × (tally.refused ≡ 0)
Begins show old new (Err sent) = WentIn old new (head_text show) sent

-- What is counted after the next string: the bytes that went out, and whether it was a fault; or
-- the bytes that went out until a write failed.
abbrev pub IsTallied : Tally → Tally → Result Answered ℕ → Result (Unit {0}) Fault → Type 0
IsTallied old new (Ok done) result =
    (result ≡ Ok tt) × (new.sent ≡ count_up_to (old.sent + done.sent))
    × (new.refused ≡ count_up_to (old.refused + (if done.is_refused then 1 else 0)))
IsTallied old new (Err sent) result = result ≡ Err (fault.Write (count_up_to (old.sent + sent)))

-- What the call for a list of strings answers: how many were answered by a fault, where all answers
-- went out; a write that failed, of the answers to the first strings; or, before anything went out,
-- that there is no such folder, where its files aren't known, or want of memory.
abbrev pub AnswersStrings : Shape → List ℕ → Option Files → Show → List (List ℕ) → Option (List ℕ) → Option (List ℕ) → Result ℕ Fault → Type 0
AnswersStrings board name known show strings old new (Ok refused) =
    (given : Given) × AreGiven board name known show strings given × Appends old new (output_of board show given) × (refused ≡ count_up_to (count_refused given))
AnswersStrings board name known show strings old new (Err (fault.Write sent)) =
    (n : ℕ) × (given : Given) × AreGiven board name known show (take n strings) given × WentIn old new (output_of board show given) sent
AnswersStrings board name known show strings old new (Err fault.NoFolder) = (known ≡ None) × Keeps old new
AnswersStrings board name known show strings old new (Err fault.Memory) = Keeps old new
AnswersStrings board name known show strings old new (Err _) = ⊥

-- What the command answers: that there is no board of the name, with nothing printed; otherwise
-- what it answers on the board.
abbrev pub AnswersLookup : Option Shape → List ℕ → Option Files → Show → List (List ℕ) → Option (List ℕ) → Option (List ℕ) → Result ℕ Fault → Type 0
AnswersLookup None name known show strings old new result = (result ≡ Err fault.Board) × Keeps old new
AnswersLookup (Some board) name known show strings old new result = AnswersStrings board name known show strings old new result
