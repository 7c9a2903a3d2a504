use Rattle.std.proofs.Common.{◌≤◌, ap, subst, sym, arith}
use Rattle.morris_index.specs.ClassPairs.{class_size_of}
use Rattle.morris_index.specs.Pairs.{IsPair}
use Rattle.morris_pairs.specs.EntryLaws.{entries_few}
use Rattle.morris_pairs.specs.Orders.{Classes}
use Rattle.morris_lookup.proofs.check.count_of.Goals as goal

pub returns-in-Classes-clause-few : goal.returns-in-Classes-clause-few
returns-in-Classes-clause-few g c =
    let board = g.B.Geometry.shape in
    let low : board.points ≤ 24 = omega (arith, g.met.B.Geometry.few, g.met.B.Geometry.point_count) in
    let lawful : IsPair board.points c.args.pair = subst (λ n. IsPair n c.args.pair) (sym g.met.B.Geometry.point_count) c.greater.ensures.lawful in
    let few = entries_few board low g.met.B.Geometry.has_symmetries c.args.pair lawful Classes in
    omega (arith, few, ap (λ n. class_size_of board n c.args.pair) g.met.B.Geometry.point_count, c.class_size.ensures)
