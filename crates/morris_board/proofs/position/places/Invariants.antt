use Rattle.std.proofs.Common.{◌≡◌, nat_eq, slice_index}
use Rattle.morris_board.specs.Sets.{set_where}
use Rattle.morris_board.proofs.position.places.Given as goal

abbrev pub invariant-loop-place : goal.invariant-loop-place
invariant-loop-place l = l.found ≡ set_where l.place (λ p. nat_eq (slice_index l.text p) l.letter)
