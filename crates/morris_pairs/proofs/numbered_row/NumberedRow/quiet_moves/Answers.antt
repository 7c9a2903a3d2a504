use Rattle.std.proofs.Common.{arith}
use Rattle.morris_pairs.proofs.NumberedLaws.{quiet_by_numbers}
use Rattle.morris_pairs.proofs.numbered_row.NumberedRow.quiet_moves.Goals as goal

pub overflow_sub-result : goal.overflow_sub-result
overflow_sub-result g c =
    omega (
      arith,
      quiet_by_numbers g.B.Geometry.shape g.B.Geometry.POINTS g.met.B.Geometry.point_count (omega (arith, g.met.B.Geometry.few)) c.args.self.now c.requires.cache
          c.args.numbers c.requires.stands.0 c.requires.stands.1,
      c.sum_over.ensures,
    )

pub returns : goal.returns
returns g c = λ s at.
    omega (
      arith,
      quiet_by_numbers g.B.Geometry.shape g.B.Geometry.POINTS g.met.B.Geometry.point_count (omega (arith, g.met.B.Geometry.few)) c.args.self.now c.requires.cache
          c.args.numbers s at,
      c.sum_over.ensures,
    )
