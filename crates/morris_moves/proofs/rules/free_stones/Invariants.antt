use Rattle.std.proofs.Common.{take}
use Rattle.morris_board.specs.Boards.{mills_of}
use Rattle.morris_moves.proofs.MaskLaws.{IsFree}
use Rattle.morris_moves.proofs.rules.free_stones.Given as goal

abbrev pub invariant-loop-number : goal.invariant-loop-number
invariant-loop-number g l = IsFree (take l.number (mills_of g.B.Geometry.shape)) l.other l.free
