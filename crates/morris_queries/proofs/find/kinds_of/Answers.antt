use Rattle.std.proofs.Common.{◌≤◌, ◌∙◌, refl, sym, ap, subst, arith}
use Rattle.morris_board.specs.Boards.{Shape}
use Rattle.morris_index.specs.Pairs.{IsPair}
use Rattle.morris_pairs.specs.Counting.{AreTalliesOf, CodedEntries, table_of}
use Rattle.morris_pairs.proofs.CountLaws.{for_some}
use Rattle.morris_jobs.proofs.CountedLaws.{some_map}
use Rattle.morris_pairs.specs.Entries.{entry_count}
use Rattle.morris_queries.proofs.FindLaws.{kinds_stated}
use Rattle.morris_queries.proofs.find.kinds_of.Goals as goal

-- the one that is asked for
pub returns-in-Every-clause-kinds : goal.returns-in-Every-clause-kinds
returns-in-Every-clause-kinds g c = for_some c.args.entries.now.stated _ (λ known is. rw c.in-Every.is refl)

-- the deepest ones, by how many positions have each code
pub returns-in_ok-tallies-in-Deepest-clause-kinds : goal.returns-in_ok-tallies-in-Deepest-clause-kinds
returns-in_ok-tallies-in-Deepest-clause-kinds g c =
    let board : Shape = g.B.Geometry.shape in
    let few : board.points ≤ 24 = omega (arith, g.met.B.Geometry.few, g.met.B.Geometry.point_count) in
    let entries : CodedEntries = c.args.entries.now in
    let lawful : IsPair board.points entries.pair = rw g.met.B.Geometry.point_count c.count-count.ensures.lawful in
    let tallies = c.in_ok-tallies-in-Deepest.tallies.items in
    (kinds_stated board few g.met.B.Geometry.has_symmetries entries lawful c.args.search.all c.args.search.wanted tallies c.kinds_by.result
    (some_map entries.stated _ _
    (λ known h. subst (λ n. AreTalliesOf board (table_of entries known) c.args.search.all 0 n tallies)
    (c.count-count.ensures.value ∙ ap (λ n. entry_count board n entries.layout entries.pair) (sym g.met.B.Geometry.point_count)) h)
    c.in_ok-tallies-in-Deepest.ensures.counted)
    (rw c.as_slice.ensures.value at c.kinds_by.ensures))
