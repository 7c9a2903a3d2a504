use Rattle.std.proofs.Common.{◌≡◌, ◌+◌}
use Rattle.morris_index.specs.Numbering.{number_outside}
use Rattle.morris_index.proofs.Following.{IsFull}
use Rattle.morris_index.proofs.ranks.least.Given as goal

abbrev pub invariant-loop-point : goal.invariant-loop-point
invariant-loop-point l = record {
  full : IsFull l.outside l.point l.found;
  counted : number_outside l.outside l.point + l.left ≡ l.fn.count;
}
