-- The file of a table. All numbers stand in it high byte first.
use Rattle.std.specs.Prelude.{ℕ, List, [], ◌∷◌, ◌++◌, length, Option, Some, None}
use Rattle.std.specs.Int.{w16, w64, to_be_bytes}
use Rattle.std.specs.List.{flat_map}
use Rattle.sha2.specs.Sha256.{sha256}
use Rattle.morris_board.specs.Boards.{Shape}
use Rattle.morris_index.specs.Pairs.{Counts}
use Rattle.morris_pairs.specs.declared.layout.Layout.{Layout}
use Rattle.morris_pairs.specs.declared.layout.Layout.TheVariants.{Full, Classes}
use Rattle.morris_pairs.specs.Tables.{Table}

-- the letters NMMT
abbrev pub magic : List ℕ
magic = 78 ∷ 77 ∷ 77 ∷ 84 ∷ []

-- the version of a file says the layout of its table
abbrev pub version_of : Layout → ℕ
version_of Full = 1
version_of Classes = 2

-- The header, 16 bytes: the letters NMMT; a byte each for the version, the number of the board, the
-- greater and the lesser number of stones; and the number of entries in 8 bytes.
unfoldable pub header_of : Shape → Layout → Counts → ℕ → List ℕ
header_of board l c entries = magic ++ version_of l ∷ board.id ∷ c.greater ∷ c.lesser ∷ to_be_bytes w64 entries

-- codes, each in 2 bytes
unfoldable pub code_bytes : List ℕ → List ℕ
code_bytes codes = flat_map (to_be_bytes w16) codes

-- what the digest is taken of: the header, and the code of each entry in the order of the indices
unfoldable pub content_of : Shape → Table → List ℕ
content_of board t = header_of board t.layout t.pair (length t.codes) ++ code_bytes t.codes

-- the file: the content, and then its SHA-256 in 32 bytes
unfoldable pub file_of : Shape → Table → List ℕ
file_of board t = content_of board t ++ sha256 (content_of board t)

-- the file of the next table, and no bytes where there is none
abbrev pub next_file_of : Shape → Option Table → List ℕ
next_file_of board None = []
next_file_of board (Some t) = file_of board t
