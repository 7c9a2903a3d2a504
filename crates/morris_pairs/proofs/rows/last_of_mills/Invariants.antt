use Rattle.std.proofs.Common.{take}
use Rattle.morris_board.specs.Boards.{mills_of}
use Rattle.morris_pairs.proofs.ComerLaws.{AreLast}
use Rattle.morris_pairs.proofs.rows.last_of_mills.Given as goal

abbrev pub invariant-loop-number : goal.invariant-loop-number
invariant-loop-number g l = AreLast (take l.number (mills_of g.B.Geometry.shape)) l.own l.last
