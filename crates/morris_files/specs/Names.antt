-- The names of the files of a folder of tables.
use Rattle.std.specs.Prelude.{ℕ, List, ◌++◌, codes, decimal}
use Rattle.morris_index.specs.Pairs.{Counts}

-- the name of the file of a pair's table: the name of the board, the greater and the lesser number
-- of stones, each after a hyphen, and ".nmmt"
abbrev pub name_of : List ℕ → Counts → List ℕ
name_of board c = board ++ codes "-" ++ decimal c.greater ++ codes "-" ++ decimal c.lesser ++ codes ".nmmt"

-- the name of the file of the digests of the files of a board's tables
abbrev pub digests_name_of : List ℕ → List ℕ
digests_name_of board = board ++ codes ".sha256"
