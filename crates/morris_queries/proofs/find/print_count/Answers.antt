use Rattle.std.proofs.Common.{◌≤◌, ◌∙◌, Err, sym, ap, subst, arith}
use Rattle.std.proofs.lemmas.Result.{err_from_is_err_and}
use Rattle.morris_board.specs.Boards.{Shape}
use Rattle.morris_index.specs.Pairs.{IsPair}
use Rattle.morris_pairs.specs.Counting.{AreTalliesOf, CodedEntries, table_of}
use Rattle.morris_queries.specs.declared.find.Shown.TheVariants.{Count}
use Rattle.morris_jobs.proofs.CountedLaws.{some_map}
use Rattle.morris_pairs.specs.Entries.{entry_count}
use Rattle.morris_queries.proofs.FindLaws.{count_answered, refused_find}
use Rattle.morris_queries.proofs.find.print_count.Goals as goal

-- as many as the tallies say of the kinds that are asked for
pub returns-clause-answer : goal.returns-clause-answer
returns-clause-answer g c =
    let board : Shape = g.B.Geometry.shape in
    let few : board.points ≤ 24 = omega (arith, g.met.B.Geometry.few, g.met.B.Geometry.point_count) in
    let entries : CodedEntries = c.args.entries.now in
    let lawful : IsPair board.points entries.pair = rw g.met.B.Geometry.point_count c.count-count.ensures.lawful in
    let tallies = c.in_ok-tallies.tallies.items in
    count_answered board few g.met.B.Geometry.has_symmetries entries lawful c.args.search.all c.args.search.wanted tallies c.kinds_by-kinds.result
    (some_map entries.stated _ _
    (λ known h. subst (λ n. AreTalliesOf board (table_of entries known) c.args.search.all 0 n tallies)
    (c.count-count.ensures.value ∙ ap (λ n. entry_count board n entries.layout entries.pair) (sym g.met.B.Geometry.point_count)) h)
    c.in_ok-tallies.ensures.counted)
    (rw c.as_slice.ensures.value at c.kinds_by-kinds.ensures) (g.S.Sink.contents c.args.output.now) (g.S.Sink.contents c.print.new.output) c.print.result
    (rw (c.sum_of.ensures.sum, c.sum_of-2.ensures.sum, c.as_slice-2.ensures.value, c.as_slice-3.ensures.value) at c.print.ensures.shown)

-- nothing is printed where memory is refused, or where a code can't be read
pub returns-in_err-tallies-clause-answer : goal.returns-in_err-tallies-clause-answer
returns-in_err-tallies-clause-answer g c =
    let failed = err_from_is_err_and c.from_residual.result c.from_residual.ensures.1 in
    refused_find g.B.Geometry.shape c.args.entries.now c.args.search.all c.args.search.wanted Count (g.S.Sink.contents c.args.output.now) c.from_residual.result
    c.in_err-tallies.field-0.0 (failed.1 ∙ ap Err failed.2) c.in_err-tallies.ensures.sure
