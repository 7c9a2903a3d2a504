-- Laws of positions: how many stones each side has.
use Rattle.std.proofs.Common.{◌≡◌, ℕ, ◌≤◌, true, leb, refl}
use Rattle.std.proofs.lemmas.Bool.{and_parts, and_from, leb-true, le-leb}
use Rattle.morris_board.specs.Sets.{count_of}
use Rattle.morris_board.specs.Positions.{Sides, is_between, is_sized}

pub between : (low n high : ℕ) → is_between low n high ≡ true → (low ≤ n) × (n ≤ high)
between low n high h = let parts = and_parts (leb low n) (leb n high) h in (leb-true _ _ parts.0, leb-true _ _ parts.1)

pub from_between : (low n high : ℕ) → low ≤ n → n ≤ high → is_between low n high ≡ true
from_between low n high h k = rw (le-leb low n h, le-leb n high k) refl

pub own_count : (s : Sides) → is_sized s ≡ true → (2 ≤ count_of s.own) × (count_of s.own ≤ 9)
own_count s h = between 2 (count_of s.own) 9 ((and_parts (is_between 2 (count_of s.own) 9) (is_between 3 (count_of s.other) 9) h).0)

pub other_count : (s : Sides) → is_sized s ≡ true → (3 ≤ count_of s.other) × (count_of s.other ≤ 9)
other_count s h = between 3 (count_of s.other) 9 ((and_parts (is_between 2 (count_of s.own) 9) (is_between 3 (count_of s.other) 9) h).1)

pub sized_from : (s : Sides) → 2 ≤ count_of s.own → count_of s.own ≤ 9 → 3 ≤ count_of s.other → count_of s.other ≤ 9 → is_sized s ≡ true
sized_from s own_low own_high other_low other_high =
    and_from _ _ (from_between 2 (count_of s.own) 9 own_low own_high) (from_between 3 (count_of s.other) 9 other_low other_high)
