-- The deepest positions of a pair, of those that are won, or lost, one with the greatest depth; and
-- what `stats --deepest` prints of them after the counts.
use Rattle.std.specs.Prelude.{◌≡◌, ◌≢◌, ◌⊎◌, ℕ, ◌<◌, ◌≤◌, ◌%◌, Bool, true, ◌&&◌, nat_eq, nat_lt, List, ◌++◌, slice_index, codes, Option, Some, None}
use Rattle.morris_board.specs.Boards.{Shape}
use Rattle.morris_board.specs.Positions.{Sides, IsPosition, text_of}
use Rattle.morris_moves.specs.Values.{IsLostIn, IsWonIn}
use Rattle.morris_index.specs.Pairs.{Counts, index_of, is_of}
use Rattle.morris_probe.specs.Lines.{number_line}
use Rattle.morris_commands.specs.declared.deepest.Deep.{Deep}
use Rattle.morris_commands.specs.declared.deepest.Deepest.{Deepest}
use Rattle.morris_commands.specs.declared.deepest.Outcome.{Outcome}
use Rattle.morris_commands.specs.declared.deepest.Outcome.TheVariants.{Won, Lost}

-- the player to move has this outcome in so many plies, and in no fewer
abbrev pub IsDecidedIn : Shape → Outcome → Sides → ℕ → Type 0
IsDecidedIn board Won s depth = IsWonIn board s depth
IsDecidedIn board Lost s depth = IsLostIn board s depth

-- The position is of the pair, and has the outcome in so many plies; no position of the pair has it
-- in more; and of those that have it in as many none has a smaller index among all positions.
pub record IsDeepestAt (board : Shape) (c : Counts) (outcome : Outcome) (s : Sides) (depth : ℕ) : Type 0 where
  pub lawful : IsPosition board s
  pub of : is_of c s ≡ true
  pub decided : IsDecidedIn board outcome s depth
  pub none_deeper : (t : Sides) → IsPosition board t → is_of c t ≡ true → (more : ℕ) → IsDecidedIn board outcome t more → more ≤ depth
  pub least : (t : Sides) → IsPosition board t → is_of c t ≡ true → IsDecidedIn board outcome t depth
      → index_of board.points c s ≤ index_of board.points c t

-- no position of the pair has the outcome
abbrev pub HasNone : Shape → Counts → Outcome → Type 0
HasNone board c outcome = (t : Sides) → IsPosition board t → is_of c t ≡ true → (depth : ℕ) → ¬ IsDecidedIn board outcome t depth

-- what is found: a deepest position with the outcome and its depth, or nothing where none has it
abbrev pub IsDeepest : {B : Type 0} → Shape → Counts → Outcome → Option (Deep B) → Type 0
IsDeepest board c outcome None = HasNone board c outcome
IsDeepest board c outcome (Some deep) = IsDeepestAt board c outcome deep.position deep.depth

-- these are a deepest win and a deepest loss of the pair
abbrev pub HasDeepest : {B : Type 0} → Shape → Counts → Deepest B → Type 0
HasDeepest board c deepest = IsDeepest board c Won deepest.win × IsDeepest board c Lost deepest.loss

-- whether a code says that outcome: codes of losses are odd, and those of wins even and above 0
abbrev pub is_stated_by : Outcome → ℕ → Bool
is_stated_by Won code = nat_lt 0 code && nat_eq (code % 2) 0
is_stated_by Lost code = nat_eq (code % 2) 1

-- of the codes at the first `seen` entries that state the outcome, the one at this entry is the
-- greatest, and it is the first that is so great
pub record IsFirstGreatest (outcome : Outcome) (codes : List ℕ) (seen entry : ℕ) : Type 0 where
  pub inside : entry < seen
  pub reported : is_stated_by outcome (slice_index codes entry) ≡ true
  pub none_greater : (i : ℕ) → i < seen → is_stated_by outcome (slice_index codes i) ≡ true → slice_index codes i ≤ slice_index codes entry
  pub least : (i : ℕ) → i < entry → is_stated_by outcome (slice_index codes i) ≡ true → slice_index codes i < slice_index codes entry

-- this entry, or none where none of these codes states the outcome
abbrev pub IsGreatestStated : Outcome → List ℕ → ℕ → Option ℕ → Type 0
IsGreatestStated outcome codes seen None = (i : ℕ) → i < seen → is_stated_by outcome (slice_index codes i) ≢ true
IsGreatestStated outcome codes seen (Some entry) = IsFirstGreatest outcome codes seen entry

-- ---- what is printed

-- the line of a position that is so deep: a head, the position string, a label and the depth
abbrev pub deep_line : Shape → List ℕ → List ℕ → Sides → ℕ → List ℕ
deep_line board head label s depth = head ++ text_of board s ++ number_line label depth

-- the line that says that there is none: a head and `none`
abbrev pub none_line : List ℕ → List ℕ
none_line head = head ++ codes "none\n"

-- the line of a deepest position, where one was found
abbrev pub found_line : {B : Type 0} → Shape → List ℕ → List ℕ → Option (Deep B) → List ℕ
found_line board head label None = none_line head
found_line board head label (Some deep) = deep_line board head label deep.position deep.depth

-- `deepest win: POSITION won in D` or `deepest win: none`, and the same of losses
abbrev pub deepest_lines : {B : Type 0} → Shape → Deepest B → List ℕ
deepest_lines board deepest =
    found_line board (codes "deepest win: ") (codes " won in ") deepest.win ++ found_line board (codes "deepest loss: ") (codes " lost in ") deepest.loss

-- a line shows a deepest position of the pair with the outcome and its depth, or that no position
-- has the outcome
abbrev pub Shows : Shape → Counts → Outcome → List ℕ → List ℕ → List ℕ → Type 0
Shows board c outcome head label line =
    ((s : Sides) × (depth : ℕ) × IsDeepestAt board c outcome s depth × (line ≡ deep_line board head label s depth))
    ⊎ (HasNone board c outcome × (line ≡ none_line head))

-- the lines show a deepest win and a deepest loss of the pair
abbrev pub ShowsDeepest : Shape → Counts → List ℕ → Type 0
ShowsDeepest board c lines =
    (win : List ℕ) × (loss : List ℕ)
    × Shows board c Won (codes "deepest win: ") (codes " won in ") win
    × Shows board c Lost (codes "deepest loss: ") (codes " lost in ") loss
    × (lines ≡ win ++ loss)
