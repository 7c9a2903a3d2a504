-- Counters of the results that nodes wait for.
use Rattle.std.specs.Prelude.{◌≡◌, ℕ, ◌+◌, ◌<◌, ◌≤◌, ◌==◌, List, length, slice_index, if◌then◌else◌}
use Rattle.morris_wave.specs.Nets.{Net}
use Rattle.morris_wave.specs.NodeRanges.{left_of}
use Rattle.morris_wave.specs.declared.counters.Counters.{Counters}
use Rattle.morris_wave.specs.declared.counters.Counters.TheVariants.{Bytes, Words}

-- so many falls until a counter of 8 bits is spent: one that reads 0 is so already
abbrev pub left_of_byte : ℕ → ℕ
left_of_byte count = if count == 0 then 0 else left_of count

-- No counter falls more often than one of 16 bits that reads the same number, and none less often
-- unless it reads 0.
pub record FallsLike (left : ℕ → ℕ) : Type 0 where
  pub less : (count : ℕ) → left count ≤ left_of count
  pub same : (count : ℕ) → 0 < count → left count ≡ left_of count

-- the numbers that counters read
abbrev pub counts_of : Counters → List ℕ
counts_of (Bytes list) = list.items
counts_of (Words list) = list.items

-- counters are for nodes of fewer quiet results than this
abbrev pub most_of : Counters → ℕ
most_of (Bytes list) = 255
most_of (Words list) = 65536

-- so many falls until the counter at a place is spent
abbrev pub left_at : Counters → ℕ → ℕ
left_at (Bytes list) k = left_of_byte (slice_index list.items k)
left_at (Words list) k = left_of (slice_index list.items k)

-- each of so many nodes from `first` on has fewer quiet results than that
abbrev pub AreFew : Net → ℕ → ℕ → ℕ → Type 0
AreFew g first count most = (k : ℕ) → k < count → length (g.quiet (first + k)) < most
