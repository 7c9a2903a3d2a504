-- The values by which positions are looked for, and their names.
use Rattle.std.specs.Prelude.{◌≡◌, ℕ, ◌+◌, ◌%◌, ◌^◌, ◌<◌, Bool, true, false, nat_eq, List, ◌++◌, slice_index, codes, Option, Some, None, option_map, Result, Ok, Err}
use Rattle.std.specs.Str.Parse.{IsNumeral, digits_value, without_leading_plus}
use Rattle.morris_pairs.specs.declared.value.Value.{Value}
use Rattle.morris_pairs.specs.declared.value.Value.TheVariants as value
use Rattle.morris_jobs.specs.declared.fault.Fault.{Fault}
use Rattle.morris_jobs.specs.declared.fault.Fault.TheVariants as fault
use Rattle.morris_queries.specs.declared.wanted.Kind.{Kind}
use Rattle.morris_queries.specs.declared.wanted.Kind.TheVariants.{Draw, Won, Lost, WonIn, LostIn}
use Rattle.morris_queries.specs.declared.wanted.Wanted.{Wanted}
use Rattle.morris_queries.specs.declared.wanted.Wanted.TheVariants.{Every, Deepest}

-- whether a value is of a kind, for the player to move
abbrev pub is_of_kind : Kind → Value → Bool
is_of_kind Draw value.Draw = true
is_of_kind Won (value.Won depth) = true
is_of_kind Lost (value.Lost depth) = true
is_of_kind (WonIn plies) (value.Won depth) = nat_eq plies depth
is_of_kind (LostIn plies) (value.Lost depth) = nat_eq plies depth
is_of_kind _ _ = false

-- a text writes a number of 16 bits in decimal digits, maybe after a plus sign
abbrev pub WritesNumber : List ℕ → ℕ → Type 0
WritesNumber text n = IsNumeral 10 (without_leading_plus text) × (digits_value 10 (without_leading_plus text) ≡ n) × (n < 2 ^ 16)

-- the name of this: `draw`, `won`, `lost`, `won in D`, `lost in D` or `deepest`
abbrev pub IsTextOf : Wanted → List ℕ → Type 0
IsTextOf (Every Draw) text = text ≡ codes "draw"
IsTextOf (Every Won) text = text ≡ codes "won"
IsTextOf (Every Lost) text = text ≡ codes "lost"
IsTextOf (Every (WonIn plies)) text = (digits : List ℕ) × (text ≡ codes "won in " ++ digits) × WritesNumber digits plies
IsTextOf (Every (LostIn plies)) text = (digits : List ℕ) × (text ≡ codes "lost in " ++ digits) × WritesNumber digits plies
IsTextOf Deepest text = text ≡ codes "deepest"

-- what reading a text gives: the values that it names; or the fault of a text that names none
abbrev pub ReadsWanted : List ℕ → Result Wanted Fault → Type 0
ReadsWanted text (Ok wanted) = IsTextOf wanted text
ReadsWanted text (Err refused) = (refused ≡ fault.ValueText) × ((wanted : Wanted) → ¬ IsTextOf wanted text)

-- Of the codes that some position has and that leave this remainder when divided by 2 (0 are those
-- of wins, 1 those of losses), the greatest is this depth and one more; there is none where no
-- position has one.
abbrev pub IsGreatestDepth : List ℕ → ℕ → Option ℕ → Type 0
IsGreatestDepth tallies rest None = (code : ℕ) → 0 < code → code % 2 ≡ rest → slice_index tallies code ≡ 0
IsGreatestDepth tallies rest (Some depth) =
    ((depth + 1) % 2 ≡ rest) × (0 < slice_index tallies (depth + 1))
    × ((code : ℕ) → depth + 1 < code → code % 2 ≡ rest → slice_index tallies code ≡ 0)

-- the kinds of the deepest positions: won in the greatest depth, and lost in the greatest
abbrev pub AreDeepestKinds : List ℕ → Option Kind × Option Kind → Type 0
AreDeepestKinds tallies kinds =
    (win : Option ℕ) × (loss : Option ℕ) × IsGreatestDepth tallies 0 win × IsGreatestDepth tallies 1 loss
    × (kinds ≡ (option_map WonIn win, option_map LostIn loss))

-- the kinds that are asked for, by these tallies
abbrev pub AreKindsBy : Wanted → List ℕ → Option Kind × Option Kind → Type 0
AreKindsBy (Every kind) tallies kinds = kinds ≡ (Some kind, None)
AreKindsBy Deepest tallies kinds = AreDeepestKinds tallies kinds
