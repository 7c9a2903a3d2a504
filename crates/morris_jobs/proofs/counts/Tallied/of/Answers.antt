use Rattle.std.proofs.Common.{◌≤◌, arith}
use Rattle.morris_index.specs.Pairs.{IsPair}
use Rattle.morris_pairs.specs.Counting.{table_of}
use Rattle.morris_pairs.proofs.CountLaws.{tallied_all}
use Rattle.morris_jobs.proofs.CountedLaws.{some_map}
use Rattle.morris_jobs.proofs.counts.Tallied.of.Goals as goal

-- all entries are counted, and so all positions
pub returns-clause-counted : goal.returns-clause-counted
returns-clause-counted g c =
    let board = g.B.Geometry.shape in
    let points = g.met.B.Geometry.point_count in
    let few : board.points ≤ 24 = omega (arith, g.met.B.Geometry.few, points) in
    let entries = c.args.entries.now in
    let lawful : IsPair board.points entries.pair = rw points c.pair-pair.ensures.lawful in
    some_map entries.stated _ _
    (λ known h. tallied_all board few g.met.B.Geometry.has_symmetries (table_of entries known) lawful c.in_ok-tallies.tallies.items
    (rw (c.count-count.ensures.value, ← points) at h))
    c.in_ok-tallies.ensures.counted
