-- What is printed of a table that was verified.
use Rattle.std.specs.Prelude.{ℕ, List, ◌++◌, codes}
use Rattle.std.specs.Fmt.{decimal}
use Rattle.morris_index.specs.Pairs.{Counts, pair_text}

-- `verified a-b: S entries`, where S is how many entries the file has
unfoldable pub verified_text : Counts → ℕ → List ℕ
verified_text pair entries = codes "verified " ++ pair_text pair ++ (codes ": " ++ decimal entries) ++ codes " entries\n"
