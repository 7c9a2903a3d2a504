use Rattle.std.proofs.Common.{subst}
use Rattle.std.specs.Option.{option_copied}
use Rattle.morris_pairs.specs.Graphs.{IsPairGraph}
use Rattle.morris_pairs.specs.NetLaws.{points_few}
use Rattle.morris_pairs.proofs.GraphLaws.{known_here, game_values, game_depths}
use Rattle.morris_pairs.proofs.graph.PairGraph.values.Goals as goal

pub returns-clause-values : goal.returns-clause-values
returns-clause-values g c =
    let of_lesser = option_copied c.self.inside.less_lesser in
    let of_greater = option_copied c.self.inside.less_greater in
    let graph : IsPairGraph g.B.Geometry.shape c.args.self.now of_lesser of_greater =
    subst (λ d. IsPairGraph g.B.Geometry.shape d of_lesser of_greater) c.self.view_is c.self.invariant in
    λ o. game_values g.B.Geometry.shape g.met.B.Geometry.is_lawful g.met.B.Geometry.has_symmetries o c.args.self.now graph.lawful
    (known_here g.B.Geometry.shape g.met.B.Geometry.has_symmetries (points_few g.B.Geometry.shape g.met.B.Geometry.is_lawful) c.args.self.now of_lesser of_greater graph)

pub returns-clause-deep : goal.returns-clause-deep
returns-clause-deep g c =
    let of_lesser = option_copied c.self.inside.less_lesser in
    let of_greater = option_copied c.self.inside.less_greater in
    let graph : IsPairGraph g.B.Geometry.shape c.args.self.now of_lesser of_greater =
    subst (λ d. IsPairGraph g.B.Geometry.shape d of_lesser of_greater) c.self.view_is c.self.invariant in
    λ o. game_depths g.B.Geometry.shape g.met.B.Geometry.is_lawful g.met.B.Geometry.has_symmetries o c.args.self.now graph.lawful
    (known_here g.B.Geometry.shape g.met.B.Geometry.has_symmetries (points_few g.B.Geometry.shape g.met.B.Geometry.is_lawful) c.args.self.now of_lesser of_greater graph)
