use Rattle.std.proofs.Common.{◌≤◌, length, arith, subst, take_all}
use Rattle.morris_board.specs.Boards.{mills_of}
use Rattle.morris_moves.proofs.MaskLaws.{IsFree, free-all}
use Rattle.morris_moves.proofs.rules.free_stones.Goals as goal

pub returns : goal.returns
returns g c =
    let all : length (mills_of g.B.Geometry.shape) ≤ c.loop-number.number = omega (arith, g.met.B.Geometry.mill_count, c.MILLS-number-end.ensures, c.loop-number-test.false) in
    free-all g.B.Geometry.shape c.args.other c.loop-number.free (rw g.met.B.Geometry.point_count c.requires)
    (subst (λ ms. IsFree ms c.args.other c.loop-number.free) (take_all c.loop-number.number (mills_of g.B.Geometry.shape) all) c.loop-number.invariant)
