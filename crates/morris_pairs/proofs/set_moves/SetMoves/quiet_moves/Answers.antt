use Rattle.std.proofs.Common.{ap, arith}
use Rattle.std.specs.List.{sum_by}
use Rattle.morris_board.specs.Sets.{members}
use Rattle.morris_pairs.specs.NumberedRows.{count_at}
use Rattle.morris_pairs.proofs.SetLaws.{quiet_by_set}
use Rattle.morris_pairs.proofs.set_moves.SetMoves.quiet_moves.Goals as goal

pub overflow_sub-result : goal.overflow_sub-result
overflow_sub-result g c =
    omega (
      arith,
      c.sum_over.ensures,
      ap (λ o. sum_by (count_at c.args.self.now.arrivals) (members o)) c.other.ensures.points,
      quiet_by_set g.B.Geometry.shape g.B.Geometry.POINTS g.met.B.Geometry.point_count (omega (arith, g.met.B.Geometry.few)) c.args.self.now c.requires.tabled c.args.position.now
          c.other.ensures.lawful c.requires.own,
    )

pub returns : goal.returns
returns g c =
    omega (
      arith,
      c.sum_over.ensures,
      ap (λ o. sum_by (count_at c.args.self.now.arrivals) (members o)) c.other.ensures.points,
      quiet_by_set g.B.Geometry.shape g.B.Geometry.POINTS g.met.B.Geometry.point_count (omega (arith, g.met.B.Geometry.few)) c.args.self.now c.requires.tabled c.args.position.now
          c.other.ensures.lawful c.requires.own,
    )
