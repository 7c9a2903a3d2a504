-- What `look` prints of a position.
use Rattle.std.specs.Prelude.{ℕ, List, ◌++◌, length, codes, Option, Result}
use Rattle.std.specs.List.{flat_map}
use Rattle.std.specs.Fmt.{decimal}
use Rattle.std.specs.Io.KnownBytes.{Keeps}
use Rattle.morris_board.specs.Sets.{count_of}
use Rattle.morris_board.specs.Boards.{Shape}
use Rattle.morris_board.specs.Positions.{Sides, text_of, read_of}
use Rattle.morris_moves.specs.Rules.{moves_of}
use Rattle.morris_moves.specs.Values.{AnswersWithin}
use Rattle.morris_moves.specs.declared.within.Within.{Within}
use Rattle.morris_moves.specs.declared.within.Within.TheVariants.{Lost, Won, Unknown}
use Rattle.morris_probe.specs.Lines.{line, move_line, number_line}
use Rattle.morris_jobs.specs.declared.fault.Fault.{Fault}
use Rattle.morris_jobs.specs.Faults.{Prints, text_fault}
use Rattle.morris_jobs.specs.Answering.{OnBoard, OnRead}

-- `own A other B`
abbrev pub counts_line : Sides → List ℕ
counts_line s = codes "own " ++ decimal (count_of s.own) ++ number_line (codes " other ") (count_of s.other)

-- `lost in D`, `won in D`, or `unknown within N`
abbrev pub value_line : ℕ → Within → List ℕ
value_line n (Lost d) = number_line (codes "lost in ") d
value_line n (Won d) = number_line (codes "won in ") d
value_line n Unknown = number_line (codes "unknown within ") n

-- all of it: the position and the numbers of stones; each legal move, in order, and how many there
-- are; and its value as far as a search of n plies finds it
unfoldable pub look_text : Shape → Sides → ℕ → Within → List ℕ
look_text board s n found =
    line (text_of board s) ++ counts_line s ++ flat_map move_line (moves_of board s) ++ number_line (codes "moves ") (length (moves_of board s))
    ++ value_line n found

-- `look` prints that text of the value that the search to n plies answers
abbrev pub PrintsLook : {T : Type 0} → Shape → Sides → ℕ → Option (List ℕ) → Option (List ℕ) → Result T Fault → Type 0
PrintsLook board s n old new result = (found : Within) × AnswersWithin board s n found × Prints old new (look_text board s n found) result

-- what `look` answers on a board, of the position of a position string; and on the board of a name
abbrev pub LooksOn : {T : Type 0} → Shape → List ℕ → ℕ → Option (List ℕ) → Option (List ℕ) → Result T Fault → Type 0
LooksOn board text n old new result = OnRead text_fault (read_of board text) result (Keeps old new) (λ s. PrintsLook board s n old new result)

abbrev pub Looks : {T : Type 0} → Option Shape → List ℕ → ℕ → Option (List ℕ) → Option (List ℕ) → Result T Fault → Type 0
Looks named text n old new result = OnBoard named result (Keeps old new) (λ board. LooksOn board text n old new result)
