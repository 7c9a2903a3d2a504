-- One more exit in what a search has to know of the exits of a node.
use Rattle.std.specs.Prelude.{ℕ, ◌-◌, min, max, Option, Some, None, true, if◌then◌else◌}
use Rattle.morris_wave.specs.declared.graph.Exits.{Exits}
use Rattle.morris_wave.specs.Exits.{is_odd, is_won_code}

-- the lesser, and the greater, of a depth and one that is known already, if there is one
abbrev pub least_with : Option ℕ → ℕ → ℕ
least_with None depth = depth
least_with (Some known) depth = min known depth

abbrev pub greatest_with : Option ℕ → ℕ → ℕ
greatest_with None depth = depth
greatest_with (Some known) depth = max known depth

-- the same of two of which each may be known
abbrev pub least_of : Option ℕ → Option ℕ → Option ℕ
least_of known None = known
least_of known (Some depth) = Some (least_with known depth)

abbrev pub greatest_of : Option ℕ → Option ℕ → Option ℕ
greatest_of known None = known
greatest_of known (Some depth) = Some (greatest_with known depth)

-- the summary with one more exit, of this code: an exit of an odd code is lost, one of an even code
-- above 0 won, and one of code 0 a draw
unfoldable pub add_code : Exits → ℕ → Exits
add_code exits code =
    if is_odd code then record exits { least_lost = Some (least_with exits.least_lost (code - 1)) }
    else if is_won_code code then record exits { greatest_won = Some (greatest_with exits.greatest_won (code - 1)) }
    else record exits { drawn = true }
