-- The file of the digests of the files of a board's tables: a list, as `sha256sum` writes it.
use Rattle.std.specs.Prelude.{ℕ, ◌==◌, Bool, ◌&&◌, ◌||◌, not, List, [], ◌∷◌, ◌++◌, take, drop, codes, if◌then◌else◌}
use Rattle.std.specs.List.{flat_map, list_all, list_any, slice_split}
use Rattle.std.specs.Str.{bytes_eq}
use Rattle.hex.specs.Hex.{encode_lower}
use Rattle.morris_board.specs.Positions.{is_between}
use Rattle.morris_index.specs.Pairs.{Counts, all_pairs, is_below}
use Rattle.morris_files.specs.Names.{name_of}

-- ---- the lines of files

-- the line of a file, as `sha256sum` writes it: the digest in hexadecimal digits, two blanks, and
-- the file's name
abbrev pub digest_line : List ℕ → Counts → List ℕ → List ℕ
digest_line board pair digest = encode_lower digest ++ codes "  " ++ name_of board pair ++ (10 ∷ [])

-- the lines of files, of which it is known whose they are and what their digests are
abbrev pub digest_lines : {W : Type 0} → List ℕ → (W → Counts) → (W → List ℕ) → List W → List ℕ
digest_lines board pair digest written = flat_map (λ w. digest_line board (pair w) (digest w)) written

-- ---- the lines of a list that are retained

-- whether a byte is a digit of a digest: 0 to 9 (48 to 57) or a to f (97 to 102)
abbrev pub is_digit : ℕ → Bool
is_digit byte = is_between 48 byte 57 || is_between 97 byte 102

-- whether a line, without a line feed, is that of a pair's file, whatever the digest: 64 digits,
-- two blanks, and the file's name
unfoldable pub is_line_of : List ℕ → List ℕ → Counts → Bool
is_line_of board line c = list_all is_digit (take 64 line) && bytes_eq (drop 64 line) (codes "  " ++ name_of board c)

-- whether a line is that of a pair's file, which isn't replaced where the files of all pairs below
-- a pair are
abbrev pub is_retained_of : List ℕ → Counts → List ℕ → Counts → Bool
is_retained_of board replaced line c = not (is_below replaced c) && is_line_of board line c

-- whether a line is retained: it is that of such a file, of any of all pairs
unfoldable pub is_retained : List ℕ → Counts → List ℕ → Bool
is_retained board replaced line = list_any (is_retained_of board replaced line) all_pairs

-- a line with its line feed (10) where it is retained, and nothing where it isn't
abbrev pub retained_line : List ℕ → Counts → List ℕ → List ℕ
retained_line board replaced line = if is_retained board replaced line then line ++ 10 ∷ [] else []

-- the lines of a list, which is cut at its line feeds
abbrev pub lines_of : List ℕ → List (List ℕ)
lines_of list = slice_split (λ byte. byte == 10) list

-- the lines of a list that are retained, in order
unfoldable pub retained_of : List ℕ → Counts → List ℕ → List ℕ
retained_of board replaced list = flat_map (retained_line board replaced) (lines_of list)
