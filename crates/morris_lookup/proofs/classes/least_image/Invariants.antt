-- The least image so far, and the first symmetry that leads there.
use Rattle.std.proofs.Common.{◌≡◌}
use Rattle.morris_board.specs.Symmetries.{image_of}
use Rattle.morris_index.proofs.ClassLaws.{IsFirst}
use Rattle.morris_lookup.proofs.classes.least_image.Given as goal

abbrev pub invariant-loop-other : goal.invariant-loop-other
invariant-loop-other g l = record {
  first : IsFirst g.B.Geometry.shape l.other l.fn.set l.symmetry;
  is : l.least ≡ image_of (g.B.Geometry.shape.image l.symmetry) l.fn.set;
}
