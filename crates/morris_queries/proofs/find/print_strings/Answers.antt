use Rattle.std.proofs.Common.{◌≡◌, ◌≤◌, ◌∙◌, Err, ap, sym, arith}
use Rattle.std.proofs.lemmas.Result.{err_from_is_err_and}
use Rattle.morris_board.specs.Boards.{Shape}
use Rattle.morris_pairs.specs.Counting.{CodedEntries}
use Rattle.morris_board.specs.Printers.{sink_of}
use Rattle.morris_queries.specs.declared.find.Shown.TheVariants.{Strings}
use Rattle.morris_queries.proofs.FindLaws.{refused_find, strings_answered, strings_counted}
use Rattle.morris_queries.proofs.find.print_strings.Goals as goal

-- nothing is printed where memory is refused, or where a code can't be read for the deepest kinds
pub returns-in_err-kinds-clause-answer : goal.returns-in_err-kinds-clause-answer
returns-in_err-kinds-clause-answer g c =
    let failed = err_from_is_err_and c.from_residual.result c.from_residual.ensures.1 in
    refused_find g.B.Geometry.shape c.args.entries.now c.args.search.all c.args.search.wanted (Strings c.args.most) (g.S.Sink.contents c.args.output.now) c.from_residual.result
    c.in_err-kinds.field-0.0 (failed.1 ∙ ap Err failed.2) c.in_err-kinds.ensures.sure

-- the output is what the printer went out into
pub returns-clause-answer : goal.returns-clause-answer
returns-clause-answer g c =
    let board : Shape = g.B.Geometry.shape in
    let points : board.points ≤ 24 = omega (arith, g.met.B.Geometry.few, g.met.B.Geometry.point_count) in
    let put = rw c.in_ok-kinds.ensures.stays at c.put_kinds-read.ensures.put in
    let there : c.output-1.given.0 ≡ sink_of c.finish.new.self =
    c.output-1.given.1 (sym (c.finish.ensures.takes.same ∙ (put.takes.same ∙ c.new-out.ensures.lent))) in
    rw (there, ← c.new-out.ensures.sink, c.end_of.ensures)
    (strings_answered g.S.Sink.contents g.S.Sink.failures board points c.args.entries.now c.args.search.all c.args.search.wanted c.in_ok-kinds.kinds c.args.most
    c.put_kinds-read.result c.new-out.result c.put_kinds-read.new.out c.finish.new.self c.new-out.ensures.new c.in_ok-kinds.ensures.kinds put
    c.finish.ensures.takes c.finish.ensures.empty c.finish.result c.finish.ensures.told
    (λ unfailing. c.put_kinds-read.ensures.sure (ap (λ (e : CodedEntries). e.unfailing) c.in_ok-kinds.ensures.stays ∙ unfailing)))

pub returns-clause-counted : goal.returns-clause-counted
returns-clause-counted g c =
    let board : Shape = g.B.Geometry.shape in
    let points : board.points ≤ 24 = omega (arith, g.met.B.Geometry.few, g.met.B.Geometry.point_count) in
    let put = rw c.in_ok-kinds.ensures.stays at c.put_kinds-read.ensures.put in
    let there : c.output-1.given.0 ≡ sink_of c.finish.new.self =
    c.output-1.given.1 (sym (c.finish.ensures.takes.same ∙ (put.takes.same ∙ c.new-out.ensures.lent))) in
    rw (there, ← c.new-out.ensures.sink, c.end_of.ensures)
    (strings_counted g.S.Sink.contents g.S.Sink.failures board points c.args.entries.now c.args.search.all c.args.search.wanted c.in_ok-kinds.kinds c.args.most
    c.put_kinds-read.result c.new-out.result c.put_kinds-read.new.out c.finish.new.self c.new-out.ensures.new c.in_ok-kinds.ensures.kinds put
    c.finish.ensures.takes c.finish.ensures.empty c.finish.result (rw c.new-out.ensures.sink c.requires) c.finish.ensures.told)
