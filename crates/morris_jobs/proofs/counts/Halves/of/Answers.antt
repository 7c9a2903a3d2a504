use Rattle.std.proofs.Common.{◌≤◌, arith}
use Rattle.morris_index.specs.Pairs.{IsPair}
use Rattle.morris_pairs.specs.Counting.{table_of}
use Rattle.morris_pairs.proofs.CountLaws.{tallied_first, tallied_second}
use Rattle.morris_jobs.proofs.CountedLaws.{some_map}
use Rattle.morris_jobs.proofs.counts.Halves.of.Goals as goal

-- the entries of the first half have the larger number of stones of the player to move
pub returns-clause-greater : goal.returns-clause-greater
returns-clause-greater g c =
    let board = g.B.Geometry.shape in
    let points = g.met.B.Geometry.point_count in
    let few : board.points ≤ 24 = omega (arith, g.met.B.Geometry.few, points) in
    let entries = c.args.entries.now in
    let lawful : IsPair board.points entries.pair = rw points c.pair-pair.ensures.lawful in
    some_map entries.stated _ _
    (λ known h. tallied_first board few g.met.B.Geometry.has_symmetries (table_of entries known) lawful c.in_ok-greater.greater.items
    (rw (c.first_half-first.ensures.value, ← points) at h))
    c.in_ok-greater.ensures.counted

-- those of the second half have the smaller one
pub returns-clause-lesser : goal.returns-clause-lesser
returns-clause-lesser g c =
    let board = g.B.Geometry.shape in
    let points = g.met.B.Geometry.point_count in
    let few : board.points ≤ 24 = omega (arith, g.met.B.Geometry.few, points) in
    let entries = c.args.entries.now in
    let lawful : IsPair board.points entries.pair = rw points c.pair-pair.ensures.lawful in
    some_map entries.stated _ _
    (λ known h less. tallied_second board few g.met.B.Geometry.has_symmetries (table_of entries known) lawful less c.in_ok-lesser.lesser.items
    (rw (c.first_half-first.ensures.value, c.count-count.ensures.value, ← points) at h))
    (rw c.in_ok-greater.ensures.stays at c.in_ok-lesser.ensures.counted)
