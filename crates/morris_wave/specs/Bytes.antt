-- Numbers of 16 bits whose bytes stand in two lists.
use Rattle.std.specs.Prelude.{ℕ, ◌+◌, ◌*◌, List, [], ◌∷◌}

-- the numbers of these low and high bytes, in their order; a high byte that isn't there is 0
unfoldable pub of_bytes : List ℕ → List ℕ → List ℕ
of_bytes [] highs = []
of_bytes (low ∷ lows) [] = low ∷ of_bytes lows []
of_bytes (low ∷ lows) (high ∷ highs) = (low + high * 256) ∷ of_bytes lows highs
