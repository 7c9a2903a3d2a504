use Rattle.std.proofs.Common.{◌≡◌, ℕ, ◌<◌, true, None, is_some, slice_index_or}
use Rattle.morris_wave.proofs.gathering.first_absent.Given as goal

abbrev pub invariant-loop-number : goal.invariant-loop-number
invariant-loop-number l = (m : ℕ) → m < l.number → is_some (slice_index_or l.places m None) ≡ true
