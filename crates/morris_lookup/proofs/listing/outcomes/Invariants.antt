-- The moves so far are written, and the iterator has the others.
use Rattle.std.proofs.Common.{◌≡◌, ◌≤◌, ◌++◌, length, take, Ok}
use Rattle.morris_moves.specs.Rules.{moves_of}
use Rattle.morris_lookup.specs.Views.{contents}
use Rattle.morris_lookup.specs.Views.{HasWordsForAll, AreExactAfter}
use Rattle.morris_lookup.specs.Listing.{outcomes_said, AreExactOutcomes}
use Rattle.morris_lookup.proofs.listing.outcomes.Given as goal

abbrev pub invariant-loop-m : goal.invariant-loop-m
invariant-loop-m g l = record {
  listed : l.yielded ++ l.m-iterator ≡ moves_of g.B.Geometry.shape l.position;
  done : l.done ≡ length l.yielded;
  room : length (moves_of g.B.Geometry.shape l.position) ≤ length l.out;
  said : HasWordsForAll g.B.Geometry.shape l.words (contents l.files) → outcomes_said g.B.Geometry.shape (contents l.files) l.position l.yielded ≡ Ok (take l.done l.out);
  exact : HasWordsForAll g.B.Geometry.shape l.words (contents l.files) → AreExactAfter g.B.Geometry.shape (contents l.files) l.position
      → AreExactOutcomes g.B.Geometry.shape l.position l.yielded (take l.done l.out);
}
