-- Several lists of nodes.
use Rattle.std.specs.Prelude.{ℕ, List, [], map, slice_index_or}

-- what lists of nodes hold, where `items` says it of one
abbrev pub contents : {A : Type 0} → (A → List ℕ) → List A → List (List ℕ)
contents items lists = map items lists

-- the list at a place, empty past the last one
abbrev pub list_at : List (List ℕ) → ℕ → List ℕ
list_at lists t = slice_index_or lists t []
