-- The lines of an input, and their texts.
use Rattle.std.specs.Prelude.{ℕ, ◌-◌, nat_eq, Bool, true, not, List, [], ◌∷◌, ◌++◌, length, map, filter, take, slice_index, if◌then◌else◌}

-- The lines that end within bytes, each before a line feed (10). What was begun before the bytes
-- belongs to the first of them.
unfoldable pub whole_lines : List ℕ → List ℕ → List (List ℕ)
whole_lines begun [] = []
whole_lines begun (b ∷ bytes) = if nat_eq b 10 then begun ∷ whole_lines [] bytes else whole_lines (begun ++ b ∷ []) bytes

-- what is begun after them of a line that doesn't end there
unfoldable pub begun_after : List ℕ → List ℕ → List ℕ
begun_after begun [] = begun
begun_after begun (b ∷ bytes) = if nat_eq b 10 then begun_after [] bytes else begun_after (begun ++ b ∷ []) bytes

-- the text of a line: all of it but a carriage return (13) at its end
abbrev pub text_in : List ℕ → List ℕ
text_in line = if nat_eq (slice_index line (length line - 1)) 13 then take (length line - 1) line else line

-- a line of this text is passed over: an empty one, or one that begins with `#` (35)
abbrev pub is_passed_over : List ℕ → Bool
is_passed_over [] = true
is_passed_over (b ∷ text) = nat_eq b 35

-- the texts of these lines, but for those that are passed over
abbrev pub strings_of : List (List ℕ) → List (List ℕ)
strings_of lines = filter (λ text. not (is_passed_over text)) (map text_in lines)

-- the texts of the lines that end within bytes, but for those that are passed over
abbrev pub strings_ended : List ℕ → List (List ℕ)
strings_ended bytes = strings_of (whole_lines [] bytes)

-- the texts of all lines of an input, of which the last ends there as before a line feed, but for
-- those that are passed over
abbrev pub strings_in : List ℕ → List (List ℕ)
strings_in bytes = strings_ended (bytes ++ 10 ∷ [])
