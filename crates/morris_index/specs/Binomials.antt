-- How many subsets of a size a set has.
use Rattle.std.specs.Prelude.{ℕ, zero, suc, ◌+◌}

-- the number of k-subsets of n things: those without the last thing, and those with it
unfoldable pub choose : ℕ → ℕ → ℕ
choose n zero = 1
choose zero (suc k) = 0
choose (suc n) (suc k) = choose n (suc k) + choose n k
