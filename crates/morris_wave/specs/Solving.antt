-- What a search reads of exits and marks in entries, while it goes from wave to wave.
use Rattle.std.specs.Prelude.{◌≡◌, ℕ, ◌<◌, Bool, true, false, List, ◌==◌, if◌then◌else◌, slice_index, slice_index_or, length}
use Rattle.std.specs.List.{list_any, All}
use Rattle.morris_wave.specs.declared.graph.Exits.{Exits}
use Rattle.morris_wave.specs.Exits.{no_exits}
use Rattle.morris_wave.specs.Nets.{Net, times}
use Rattle.morris_wave.specs.Waves.{is_fresh, mark_code}

-- the exits of the node at a place
abbrev pub exits_at : List Exits → ℕ → Exits
exits_at exits k = slice_index_or exits k no_exits

-- whether a number is one of these
abbrev pub among : List ℕ → ℕ → Bool
among nodes k = list_any (λ x. x == k) nodes

-- the open entries that pass the test got the code
abbrev pub Marks : List ℕ → List ℕ → (ℕ → Bool) → ℕ → Type 0
Marks old new test code = (k : ℕ) → k < length old → slice_index new k ≡ mark_code (slice_index old k) (test k) code

-- every part of the wave is applied
abbrev pub every : ℕ → Bool
every j = true

-- no part of it is applied
abbrev pub none : ℕ → Bool
none j = false

-- the list has each fresh node of the wave once, and no other
pub record ListsFresh (g : Net) (n : ℕ) (fresh : List ℕ) : Type 0 where
  pub inside : All (λ k. k < g.size) fresh
  pub once : (k : ℕ) → k < g.size → times k fresh ≡ (if is_fresh g n k then 1 else 0)
