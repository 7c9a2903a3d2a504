-- The positions of a pair that have a value, by what the entries of a file state, and how they are
-- printed.
use Rattle.std.specs.Prelude.{◌≡◌, ◌≢◌, ◌↔◌, ◌⊎◌, ℕ, ◌+◌, ◌-◌, ◌^◌, ◌≤◌, Bool, true, false, List, [], ◌++◌, length, take, slice_index, Option, Some, None, Result, Ok, Err, IfOk, IfSome, IsOk, if◌then◌else◌}
use Rattle.std.specs.List.{AllPairs, Contains, flat_map, range_with_len, sum_by}
use Rattle.std.specs.Io.KnownBytes.{Appends, Keeps}
use Rattle.morris_board.specs.Boards.{Shape}
use Rattle.morris_board.specs.declared.streams.Failed.{Failed}
use Rattle.morris_board.specs.Positions.{Sides, IsPosition, text_of}
use Rattle.morris_index.specs.Pairs.{Counts, is_of}
use Rattle.morris_pairs.specs.declared.layout.Layout.{Layout}
use Rattle.morris_pairs.specs.declared.value.Value.{Value}
use Rattle.morris_pairs.specs.Codes.{IsValue, value_in}
use Rattle.morris_pairs.specs.Counting.{AreSoMany, AreTallies, CodedEntries, HasStated, IsOfEntry, is_shown, table_of}
use Rattle.morris_pairs.specs.Entries.{entry_index}
use Rattle.morris_pairs.specs.Tables.{Table}
use Rattle.morris_probe.specs.Lines.{line, number_line}
use Rattle.morris_jobs.specs.declared.fault.Fault.{Fault}
use Rattle.morris_jobs.specs.declared.fault.Fault.TheVariants as fault
use Rattle.morris_jobs.specs.Faults.{Prints}
use Rattle.morris_queries.specs.declared.find.Shown.{Shown}
use Rattle.morris_queries.specs.declared.find.Shown.TheVariants.{Strings, Count}
use Rattle.morris_board.specs.declared.streams.printer.Printer.{Printer}
use Rattle.morris_board.specs.Printers.{Takes, has_failed_of}
use Rattle.morris_queries.specs.declared.wanted.Kind.{Kind}
use Rattle.morris_queries.specs.declared.wanted.Wanted.{Wanted}
use Rattle.morris_queries.specs.declared.wanted.Wanted.TheVariants.{Every, Deepest}
use Rattle.morris_queries.specs.Wanted.{AreDeepestKinds, is_of_kind}

-- ---- which positions

-- a position of the pair, shown, whose entry states a value of the kind
pub record IsStated (board : Shape) (t : Table) (all : Bool) (kind : Kind) (s : Sides) : Type 0 where
  pub lawful : IsPosition board s
  pub of : is_of t.pair s ≡ true
  pub shown : is_shown board t.layout all s ≡ true
  pub asked : is_of_kind kind (value_in (slice_index t.codes (entry_index board board.points t.layout t.pair s))) ≡ true

-- a position of the pair, shown, whose value in the game is of the kind
pub record IsInGame (board : Shape) (l : Layout) (c : Counts) (all : Bool) (kind : Kind) (s : Sides) : Type 0 where
  pub lawful : IsPosition board s
  pub of : is_of c s ≡ true
  pub shown : is_shown board l all s ≡ true
  pub value : Value
  pub valued : IsValue board s value
  pub asked : is_of_kind kind value ≡ true

-- These are found, of which there may be so many: each is asked for; they stand in the order of
-- their entries, and none twice; and one that is asked for is among them, or there are as many as
-- there may be, and none of these comes after it.
pub record AreFound (asked : Sides → Type 0) (entry : Sides → ℕ) (most : ℕ) (positions : List Sides) : Type 0 where
  pub each : (s : Sides) → Contains positions s → asked s
  pub in_order : AllPairs (λ s t. (entry s ≤ entry t) × (s ≢ t)) positions
  pub few : length positions ≤ most
  pub whole : (s : Sides) → asked s → Contains positions s ⊎ ((length positions ≡ most) × ((t : Sides) → Contains positions t → entry t ≤ entry s))

-- what is found of one kind, and of two, one after the other; nothing of a kind that there isn't
abbrev pub AreOf : (Kind → Sides → Type 0) → (Sides → ℕ) → ℕ → Option Kind → List Sides → Type 0
AreOf asked entry most None positions = positions ≡ []
AreOf asked entry most (Some kind) positions = AreFound (asked kind) entry most positions

pub record AreOfBoth (asked : Kind → Sides → Type 0) (entry : Sides → ℕ) (most : ℕ) (kinds : Option Kind × Option Kind) (positions : List Sides) : Type 0 where
  pub first : List Sides
  pub second : List Sides
  pub split : positions ≡ first ++ second
  pub of_first : AreOf asked entry most kinds.0 first
  pub of_second : AreOf asked entry (most - length first) kinds.1 second

-- what positions of both kinds there are, counted
pub record AreManyOfBoth (asked : Kind → Sides → Type 0) (kinds : Option Kind × Option Kind) (count : ℕ) : Type 0 where
  pub first : ℕ
  pub second : ℕ
  pub sum : count ≡ first + second
  pub of_first : IfSome kinds.0 (λ kind. AreSoMany (asked kind) first)
  pub of_second : IfSome kinds.1 (λ kind. AreSoMany (asked kind) second)
  pub none_first : kinds.0 ≡ None → first ≡ 0
  pub none_second : kinds.1 ≡ None → second ≡ 0

-- a position that is shown has this code
abbrev pub has_shown : Shape → Table → Bool → Sides → ℕ → Type 0
has_shown board t all s code = HasStated board t s code × (is_shown board t.layout all s ≡ true)

-- The kinds that are asked for: one; or those of the deepest positions, by how many positions say
-- each code.
abbrev pub AreKinds : (Sides → ℕ → Type 0) → Wanted → Option Kind × Option Kind → Type 0
AreKinds says (Every kind) kinds = kinds ≡ (Some kind, None)
AreKinds says Deepest kinds = (tallies : List ℕ) × AreTallies says tallies × AreDeepestKinds tallies kinds

-- ---- what is printed

-- the string of each position, one a line
unfoldable pub found_text : Shape → List Sides → List ℕ
found_text board positions = flat_map (λ s. line (text_of board s)) positions

-- The strings of the positions that are found, as many of them as there may be, or of the first of
-- these where a write failed; or how many there are, as a line.
abbrev pub PrintsFound : {T : Type 0} → Shape → (Sides → ℕ → Type 0) → (Kind → Sides → Type 0) → (Sides → ℕ) → Wanted → Shown → Option (List ℕ) → Option (List ℕ) → Result T Fault → Type 0
PrintsFound board says asked entry wanted (Strings most) old new result =
    (kinds : Option Kind × Option Kind) × (n : ℕ) × (positions : List Sides) × AreKinds says wanted kinds × (n ≤ most) × (IsOk result → n ≡ most)
    × AreOfBoth asked entry n kinds positions × Prints old new (found_text board positions) result
PrintsFound board says asked entry wanted Count old new result =
    (kinds : Option Kind × Option Kind) × (count : ℕ) × AreKinds says wanted kinds × AreManyOfBoth asked kinds count
    × Prints old new (number_line [] count) result

-- some strings, or some number, were printed
abbrev pub PrintsAny : {T : Type 0} → Shape → Shown → Option (List ℕ) → Option (List ℕ) → Result T Fault → Type 0
PrintsAny board (Strings most) old new result = (positions : List Sides) × Prints old new (found_text board positions) result
PrintsAny board Count old new result = (count : ℕ) × Prints old new (number_line [] count) result

-- of entries whose codes are known: what they state
abbrev pub FindsStated : {T : Type 0} → Shape → CodedEntries → List ℕ → Bool → Wanted → Shown → Option (List ℕ) → Option (List ℕ) → Result T Fault → Type 0
FindsStated board entries known all wanted shown old new result =
    PrintsFound board (has_shown board (table_of entries known) all) (IsStated board (table_of entries known) all)
    (entry_index board board.points entries.layout entries.pair) wanted shown old new result

-- these are the first of what is found, so many of them at most
abbrev pub AreFirstFound : (Sides → ℕ → Type 0) → (Kind → Sides → Type 0) → (Sides → ℕ) → Wanted → ℕ → List Sides → Type 0
AreFirstFound says asked entry wanted most positions =
    (kinds : Option Kind × Option Kind) × (n : ℕ) × AreKinds says wanted kinds × (n ≤ most) × AreOfBoth asked entry n kinds positions

-- What was printed before a code that can't be read: nothing, or strings, and where the codes are
-- known those of the first that are found.
abbrev pub PrintsBefore : Shape → CodedEntries → Bool → Wanted → Shown → Option (List ℕ) → Option (List ℕ) → Type 0
PrintsBefore board entries all wanted Count old new = Keeps old new
PrintsBefore board entries all wanted (Strings most) old new =
    Keeps old new
    ⊎ ((positions : List Sides) × Appends old new (found_text board positions)
    × IfSome entries.stated (λ known. AreFirstFound (has_shown board (table_of entries known) all) (IsStated board (table_of entries known) all)
    (entry_index board board.points entries.layout entries.pair) wanted most positions))

-- What is answered: want of memory, with nothing printed; a code that can't be read, where that may
-- be, with what was printed before it; otherwise what is found is printed.
abbrev pub AnswersFind : {T : Type 0} → Shape → CodedEntries → Bool → Wanted → Shown → Option (List ℕ) → Option (List ℕ) → Result T Fault → Type 0
AnswersFind board entries all wanted shown old new result =
    ((result ≡ Err fault.Memory) × Keeps old new)
    ⊎ (((result ≡ Err fault.Read) × (entries.unfailing ≡ false) × PrintsBefore board entries all wanted shown old new)
    ⊎ (PrintsAny board shown old new result × IfSome entries.stated (λ known. FindsStated board entries known all wanted shown old new result)))

-- ---- parts of a call

-- how many of the positions with these tallies have a value of a kind
abbrev pub kind_sum : Option Kind → List ℕ → ℕ
kind_sum None tallies = 0
kind_sum (Some kind) tallies =
    sum_by (λ code. if is_of_kind kind (value_in code) then slice_index tallies code else 0) (range_with_len 0 (length tallies))

-- These positions are what is found: as many as there may be; or, where a read or a write failed,
-- the first of them.
abbrev pub AreFoundTo : {T : Type 0} → (ℕ → List Sides → Type 0) → ℕ → List Sides → Result T Failed → Bool → Type 0
AreFoundTo are most positions result failed = (n : ℕ) × (n ≤ most) × (IsOk result → failed ≡ false → n ≡ most) × are n positions

-- what is answered by what went out and by whether all codes were read: of a write that failed
-- first
abbrev pub end_of : Result ℕ ℕ → Result (Unit {0}) Failed → Result (Unit {0}) Fault
end_of (Err sent) read = Err (fault.Write sent)
end_of (Ok sent) (Err why) = Err fault.Read
end_of (Ok sent) (Ok done) = Ok tt

module _ {S : Type 0} (contents : S → Option (List ℕ)) (failures : S → ℕ) (board : Shape) where
  -- The strings of the positions of an entry went in, so many of them at most, and the answer is
  -- how many more there may be.
  pub record PutsEntry (l : Layout) (c : Counts) (all : Bool) (entry most : ℕ) (old new : Printer S) (left : ℕ) : Type 0 where
    pub positions : List Sides
    pub each : (s : Sides) → Contains positions s ↔ IsOfEntry board l c all entry s
    pub once : AllPairs (λ s t. s ≢ t) positions
    pub few : length positions ≤ 16
    pub takes : Takes contents failures old new (found_text board (take most positions))
    pub rest : left ≡ most - length positions

  -- The strings of some positions went in, and the answer is how many more there may be: of those
  -- that are found of a kind, where the codes are known.
  pub record PutsKind (entries : CodedEntries) (all : Bool) (kind : Option Kind) (most : ℕ) (old new : Printer S) (result : Result ℕ Failed) : Type 0 where
    pub positions : List Sides
    pub few : length positions ≤ 2 ^ 50
    pub takes : Takes contents failures old new (found_text board positions)
    pub rest : IfOk result (λ left. left ≡ most - length positions)
    pub found : IfSome entries.stated (λ known. AreFoundTo (λ n ps. AreOf (IsStated board (table_of entries known) all)
        (entry_index board board.points entries.layout entries.pair) n kind ps) most positions result (has_failed_of new))

  -- the same of both kinds, one after the other
  pub record PutsKinds {T : Type 0} (entries : CodedEntries) (all : Bool) (kinds : Option Kind × Option Kind) (most : ℕ) (old new : Printer S) (result : Result T Failed) : Type 0 where
    pub positions : List Sides
    pub few : length positions ≤ 2 ^ 51
    pub takes : Takes contents failures old new (found_text board positions)
    pub found : IfSome entries.stated (λ known. AreFoundTo (λ n ps. AreOfBoth (IsStated board (table_of entries known) all)
        (entry_index board board.points entries.layout entries.pair) n kinds ps) most positions result (has_failed_of new))
