use Rattle.std.proofs.Common.{◌≡◌, ◌⊎◌, ℕ, ◌+◌, length, slice_index_or, true, false}
use Rattle.std.specs.List.{Contains}
use Rattle.morris_pairs.proofs.chunks.mark.Given as goal

abbrev pub invariant-loop-chunk : goal.invariant-loop-chunk
invariant-loop-chunk l = record {
  known : (i : ℕ) → slice_index_or l.marks i false ≡ true → (slice_index_or l.fn.marks i false ≡ true) ⊎ Contains l.known (l.first + i);
  len : length l.marks ≡ length l.fn.marks;
}
