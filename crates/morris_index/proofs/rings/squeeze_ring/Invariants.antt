-- The points so far are squeezed.
use Rattle.std.proofs.Common.{◌≡◌}
use Rattle.morris_index.specs.Parts.{squeeze_below}
use Rattle.morris_index.proofs.rings.squeeze_ring.Given as goal

abbrev pub invariant-loop-point : goal.invariant-loop-point
invariant-loop-point l = l.squeeze ≡ squeeze_below l.fn.outside l.fn.points l.point
