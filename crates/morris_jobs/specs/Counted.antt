-- How many positions of a pair have each value, as it is printed: as lines of text, or as lines of
-- fields with commas between them.
use Rattle.std.specs.Prelude.{◌≡◌, ◌⊎◌, ℕ, ◌%◌, ◌<◌, Bool, true, false, List, [], ◌∷◌, ◌++◌, nat_eq, length, drop, slice_index, codes, None, Option, Result, Some, Err, IfSome, if◌then◌else◌}
use Rattle.std.specs.List.{flat_map, range_with_len}
use Rattle.std.specs.Option.{option_map_or}
use Rattle.std.specs.Fmt.{decimal}
use Rattle.std.specs.Io.KnownBytes.{Keeps}
use Rattle.morris_board.specs.Boards.{Shape}
use Rattle.morris_board.specs.Positions.{Sides}
use Rattle.morris_index.specs.Pairs.{Counts, pair_text, size_of}
use Rattle.morris_pairs.specs.Counting.{AreTallies, CodedEntries, HasStated, table_of, with_own}
use Rattle.morris_probe.specs.Lines.{number_line}
use Rattle.morris_jobs.specs.declared.fault.Fault.{Fault}
use Rattle.morris_jobs.specs.declared.fault.Fault.TheVariants as fault
use Rattle.morris_jobs.specs.Faults.{Prints}

-- ---- lines of plain text

-- an even depth is lost, an odd one won
abbrev pub depth_label : ℕ → List ℕ
depth_label depth = if nat_eq (depth % 2) 0 then codes "lost in " else codes "won in "

-- `lost in D: K` or `won in D: K` where K positions have the depth D, and nothing where none has it
abbrev pub depth_line : ℕ → ℕ → List ℕ
depth_line depth count =
    if nat_eq count 0 then [] else depth_label depth ++ decimal depth ++ number_line (codes ": ") count

-- the lines of the depths 0, 1, .., where `counts` has how many positions have each
unfoldable pub depth_lines : List ℕ → List ℕ
depth_lines counts = flat_map (λ depth. depth_line depth (slice_index counts depth)) (range_with_len 0 (length counts))

-- All of it, where `tallies` says how many positions have each code, from 0 up: the code 0 is a
-- draw, and any other code is one more than the depth. First `a-b S positions`, where S is how many
-- positions the pair has; then the depths; at last `draw: K`, also where K is 0.
unfoldable pub stats_text : ℕ → Counts → List ℕ → List ℕ
stats_text n pair tallies =
    pair_text pair ++ (codes " " ++ decimal (size_of n pair)) ++ codes " positions\n" ++ depth_lines (drop 1 tallies)
    ++ number_line (codes "draw: ") (slice_index tallies 0)

-- ---- lines of fields

-- `A,B,won,D,K` or `A,B,lost,D,K` where K positions have the depth D, `A,B,draw,,K` where K are
-- draws, and nothing where none is: A stones has the player to move, B the opponent (44 is a comma)
abbrev pub csv_line : ℕ → ℕ → List ℕ → Option ℕ → ℕ → List ℕ
csv_line own other result depth count =
    if nat_eq count 0 then []
    else decimal own ++ (44 ∷ decimal other) ++ result ++ option_map_or decimal depth [] ++ number_line (codes ",") count

-- the lines of the depths 0, 1, .. that are even, or odd ones
unfoldable pub csv_depths : ℕ → ℕ → List ℕ → ℕ → List ℕ → List ℕ
csv_depths own other result odd counts =
    flat_map (λ depth. if nat_eq (depth % 2) odd then csv_line own other result (Some depth) (slice_index counts depth) else [])
    (range_with_len 0 (length counts))

-- the lines of the positions in which the player to move has so many stones: draws, then wins, then
-- losses
unfoldable pub csv_half : ℕ → ℕ → List ℕ → List ℕ
csv_half own other tallies =
    csv_line own other (codes ",draw,") None (slice_index tallies 0) ++ csv_depths own other (codes ",won,") 1 (drop 1 tallies)
    ++ csv_depths own other (codes ",lost,") 0 (drop 1 tallies)

-- the lines of those whose player to move has the smaller number of stones, unless the two numbers
-- are the same
abbrev pub csv_lesser : Counts → List ℕ → List ℕ
csv_lesser pair tallies = if nat_eq pair.greater pair.lesser then [] else csv_half pair.lesser pair.greater tallies

-- All of it: a line of the fields' names, then the smaller number of stones of the player to move,
-- then the larger one.
unfoldable pub csv_text : Counts → List ℕ → List ℕ → List ℕ
csv_text pair lesser greater =
    codes "own,other,result,depth,positions\n" ++ csv_lesser pair lesser ++ csv_half pair.greater pair.lesser greater

-- ---- what is printed of entries

-- What is printed of positions that have their codes in this way: the text of their tallies; or the
-- lines of fields of the tallies for either number of stones of the player to move.
abbrev pub PrintsTallies : {T : Type 0} → Shape → Counts → Bool → (Sides → ℕ → Type 0) → Option (List ℕ) → Option (List ℕ) → Result T Fault → Type 0
PrintsTallies board pair false says old new result =
    (tallies : List ℕ) × AreTallies says tallies × Prints old new (stats_text board.points pair tallies) result
PrintsTallies board pair true says old new result =
    (lesser : List ℕ) × (greater : List ℕ) × (pair.lesser < pair.greater → AreTallies (with_own pair.lesser says) lesser)
    × AreTallies (with_own pair.greater says) greater × Prints old new (csv_text pair lesser greater) result

-- what is printed of some tallies, whatever they are
abbrev pub PrintsSome : {T : Type 0} → Shape → Counts → Bool → Option (List ℕ) → Option (List ℕ) → Result T Fault → Type 0
PrintsSome board pair false old new result = (tallies : List ℕ) × Prints old new (stats_text board.points pair tallies) result
PrintsSome board pair true old new result = (lesser : List ℕ) × (greater : List ℕ) × Prints old new (csv_text pair lesser greater) result

-- What is answered of entries whose codes may be known: want of memory, or a code that can't be
-- read, where that may be, with nothing printed. Otherwise their counts are printed, by the codes
-- that the entries of positions state.
abbrev pub AnswersStated : {T : Type 0} → Shape → CodedEntries → Bool → Option (List ℕ) → Option (List ℕ) → Result T Fault → Type 0
AnswersStated board entries csv old new result =
    ((result ≡ Err fault.Memory) × Keeps old new)
    ⊎ (((result ≡ Err fault.Read) × (entries.unfailing ≡ false) × Keeps old new)
    ⊎ (PrintsSome board entries.pair csv old new result
    × IfSome entries.stated (λ known. PrintsTallies board entries.pair csv (HasStated board (table_of entries known)) old new result)))
