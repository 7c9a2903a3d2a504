use Rattle.std.proofs.Common.{◌≤◌, arith}
use Rattle.morris_board.specs.Sets.{count_of}
use Rattle.morris_index.proofs.MoveLaws.{own_24, other_24, choices-few, times_few}
use Rattle.morris_index.proofs.predecessors.PredecessorIndices.end.Given as given
use Rattle.morris_index.proofs.predecessors.PredecessorIndices.end.Goals as goal
use Rattle.morris_index.proofs.predecessors.PredecessorIndices.end.Goals.{After-other-other}

few : (g : given.Over) (c : After-other-other g) → c.self.inside.choices ≤ 16777216
few g c =
    omega (
      arith,
      c.self.invariant.choices,
      choices-few g.B.Geometry.POINTS (count_of c.self.inside.position.other) (count_of c.self.inside.position.own) (omega (arith, g.met.B.Geometry.few)),
    )

pub moved_end-requires-clause-board : goal.moved_end-requires-clause-board
moved_end-requires-clause-board g c =
    rw c.other-other.ensures.points (other_24 g.B.Geometry.shape g.B.Geometry.POINTS g.met.B.Geometry.point_count (omega (arith, g.met.B.Geometry.few)) c.self.inside.position c.self.invariant.lawful)

pub overflow_mul-result : goal.overflow_mul-result
overflow_mul-result g c =
    let choices = few g (goal.at.overflow_mul-result g c).After-other-other in
    omega (arith, (times_few c.moved_end.result c.self.inside.choices 0 c.moved_end.ensures.few choices (omega arith)).0)

pub renumbered_end-requires-clause-board : goal.renumbered_end-requires-clause-board
renumbered_end-requires-clause-board g c =
    rw c.own-own.ensures.points (own_24 g.B.Geometry.shape g.B.Geometry.POINTS g.met.B.Geometry.point_count (omega (arith, g.met.B.Geometry.few)) c.self.inside.position c.self.invariant.lawful)

pub overflow_add-result : goal.overflow_add-result
overflow_add-result g c =
    let choices = few g (goal.at.overflow_add-result g c).After-other-other in
    omega (arith, (times_few c.moved_end.result c.self.inside.choices c.renumbered_end.result c.moved_end.ensures.few choices c.renumbered_end.ensures.few).1)

pub returns-clause-few : goal.returns-clause-few
returns-clause-few g c =
    let choices = few g (goal.at.returns-clause-few g c).After-other-other in
    omega (arith, (times_few c.moved_end.result c.self.inside.choices c.renumbered_end.result c.moved_end.ensures.few choices c.renumbered_end.ensures.few).1)
