-- The image so far is that of the points so far.
use Rattle.std.proofs.Common.{◌≡◌, ◌++◌, map, get_or}
use Rattle.morris_board.specs.Sets.{members, set_of}
use Rattle.morris_board.proofs.symmetries.image_by.Given as goal

abbrev pub invariant-loop-point : goal.invariant-loop-point
invariant-loop-point l = record {
  split : l.yielded ++ members l.point-iterator ≡ members l.fn.set;
  image : l.image ≡ set_of (map (λ p. get_or l.images p 0) l.yielded);
}
