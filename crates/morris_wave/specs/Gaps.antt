-- Ascending numbers stored as the gaps between them.
use Rattle.std.specs.Prelude.{ℕ, ◌+◌, List, [], ◌∷◌, ◌==◌, if◌then◌else◌}

-- The numbers that gaps stand for, if the first one is at least `from`. A gap says how many numbers
-- are left out before the next one; 65,535 says only that so many are left out, and the next gap
-- goes on from there.
abbrev pub numbers_reported : ℕ → List ℕ → List ℕ
numbers_reported from [] = []
numbers_reported from (gap ∷ gaps) =
    if gap == 65535 then numbers_reported (from + 65535) gaps else (from + gap) ∷ numbers_reported (from + gap + 1) gaps

-- the least number that can come after those
abbrev pub next_reported : ℕ → List ℕ → ℕ
next_reported from [] = from
next_reported from (gap ∷ gaps) = if gap == 65535 then next_reported (from + 65535) gaps else next_reported (from + gap + 1) gaps
