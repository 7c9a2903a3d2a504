-- Sets of points. A set is a number, its mask: bit p stands for point p.
use Rattle.std.specs.Prelude.{ℕ, zero, suc, ◌^◌, Bool, nat_eq, List, [], ◌∷◌, filter, length, bit_or, bit_xor, if◌then◌else◌}
use Rattle.std.specs.Int.{bit_at}
use Rattle.std.specs.List.{range_with_len, list_all}

-- whether the set has the point p
unfoldable pub has : ℕ → ℕ → Bool
has s p = nat_eq (bit_at s p) 1

-- the points of the set, in ascending order
unfoldable pub members : ℕ → List ℕ
members s = filter (has s) (range_with_len 0 32)

-- how many points the set has
unfoldable pub count_of : ℕ → ℕ
count_of s = length (members s)

-- the set and the point p
unfoldable pub with_point : ℕ → ℕ → ℕ
with_point s p = bit_or s (2 ^ p)

-- the set without the point p
unfoldable pub without_point : ℕ → ℕ → ℕ
without_point s p = if has s p then bit_xor s (2 ^ p) else s

-- whether each point of s is one of t
unfoldable pub is_subset : ℕ → ℕ → Bool
is_subset s t = list_all (has t) (members s)

-- the points below n at which the test holds
unfoldable pub set_where : ℕ → (ℕ → Bool) → ℕ
set_where zero test = 0
set_where (suc n) test = if test n then with_point (set_where n test) n else set_where n test

-- the set of the points of a list
unfoldable pub set_of : List ℕ → ℕ
set_of [] = 0
set_of (p ∷ ps) = with_point (set_of ps) p
