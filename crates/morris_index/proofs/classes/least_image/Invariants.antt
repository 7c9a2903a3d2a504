-- The least image so far, and all symmetries so far that give it.
use Rattle.morris_index.proofs.ClassLaws.{IsLeastSoFar}
use Rattle.morris_index.proofs.classes.least_image.Given as goal

abbrev pub invariant-loop-other : goal.invariant-loop-other
invariant-loop-other g l = IsLeastSoFar g.B.Geometry.shape l.other l.set l.least l.canonicalizing
