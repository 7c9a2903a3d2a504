use Rattle.std.proofs.Common.{◌≡◌, ◌∙◌, ap, map, subst, sym}
use Rattle.morris_queries.specs.Folders.{IsOf, library_of}
use Rattle.morris_queries.proofs.AnswerLaws.{begun_failed, out_begun}
use Rattle.morris_queries.proofs.strings.answer_strings.Goals as goal

pub returns-in-Ok-begin-clause-answer : goal.returns-in-Ok-begin-clause-answer
returns-in-Ok-begin-clause-answer g c =
    let known = g.L.Library.files c.args.library.now in
    let start = g.O.Sink.contents c.args.output.now in
    c.answer_each.ensures.answer c.args.board.now known start
    (subst (λ k. IsOf g.B.Geometry.shape g.L.Library.files c.args.board.now k c.new-folder.result) c.in_ok-find.ensures.unchanged
    (c.new-folder.ensures.of (c.in-Ok.ensures c.args.board.now (g.L.Library.files c.find.new.self))))
    (out_begun g.B.Geometry.shape c.args.board.now known c.args.show start (g.O.Sink.contents c.begin.new.output) c.in-Ok-begin.tally c.in-Ok-begin.ensures.begun)

-- a write failed before any string was answered
pub returns-clause-answer : goal.returns-clause-answer
returns-clause-answer g c =
    begun_failed g.B.Geometry.shape c.args.board.now (g.L.Library.files c.args.library.now) c.args.show (map (λ t. t.now) c.args.strings.now)
    (g.O.Sink.contents c.args.output.now) (g.O.Sink.contents c.begin.new.output) c.in-Err.sent c.in-Err.ensures.begun

pub returns-in-Ok-begin-clause-unchanged : goal.returns-in-Ok-begin-clause-unchanged
returns-in-Ok-begin-clause-unchanged g c =
    let here : c.library-1.given.0 ≡ library_of c.answer_each.new.folder = c.library-1.given.1 (sym (c.answer_each.ensures.stays.same ∙ c.new-folder.ensures.lent)) in
    ap g.L.Library.files here ∙ c.answer_each.ensures.stays.unchanged ∙ ap g.L.Library.files c.new-folder.ensures.library ∙ c.in_ok-find.ensures.unchanged
