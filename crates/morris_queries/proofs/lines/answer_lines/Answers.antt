use Rattle.std.proofs.Common.{◌≡◌, ◌∙◌, [], ap, subst, sym}
use Rattle.std.proofs.KnownBytes.{Consumes-nil}
use Rattle.morris_queries.specs.Folders.{IsOf, lent_of, library_of}
use Rattle.morris_queries.specs.InputLines.{strings_in}
use Rattle.morris_queries.proofs.AnswerLaws.{begun_failed, out_begun}
use Rattle.morris_queries.proofs.LineAnswerLaws.{lines_found, found_then}
use Rattle.morris_queries.proofs.lines.answer_lines.Goals as goal

pub returns-in-Ok-begin-clause-answer : goal.returns-in-Ok-begin-clause-answer
returns-in-Ok-begin-clause-answer g c =
    let here : c.output-1.given.0 ≡ c.read_all.new.self.output.now = c.output-1.given.1 (sym (c.read_all.ensures.stays.output ∙ c.new-reading.ensures.lent)) in
    let known = g.L.Library.files c.args.library.now in
    let start = g.O.Sink.contents c.args.output.now in
    let begun = out_begun g.B.Geometry.shape c.args.board.now known c.args.show start (g.O.Sink.contents c.begin.new.output) c.in-Ok-begin.tally c.in-Ok-begin.ensures.begun in
    let of = subst (λ k. IsOf g.B.Geometry.shape g.L.Library.files c.args.board.now k c.new-folder.result) c.in_ok-find.ensures.unchanged
    (c.new-folder.ensures.of (c.in-Ok.ensures c.args.board.now (g.L.Library.files c.find.new.self))) in
    rw here
    (lines_found g.B.Geometry.shape c.args.board.now known c.args.show (g.I.Source.remaining c.args.input.now) (g.I.Source.remaining c.read_all.new.input)
    start (g.O.Sink.contents c.read_all.new.self.output.now) c.read_all.result
    (rw c.new-reading.ensures.show at (c.read_all.ensures.answer c.args.board.now known start
    (c.new-reading.ensures.stands c.args.board.now known start of begun))))

pub returns-in-Ok-begin-clause-unread : goal.returns-in-Ok-begin-clause-unread
returns-in-Ok-begin-clause-unread g c = λ e.
    let known = g.L.Library.files c.args.library.now in
    let start = g.O.Sink.contents c.args.output.now in
    let begun = out_begun g.B.Geometry.shape c.args.board.now known c.args.show start (g.O.Sink.contents c.begin.new.output) c.in-Ok-begin.tally c.in-Ok-begin.ensures.begun in
    let of = subst (λ k. IsOf g.B.Geometry.shape g.L.Library.files c.args.board.now k c.new-folder.result) c.in_ok-find.ensures.unchanged
    (c.new-folder.ensures.of (c.in-Ok.ensures c.args.board.now (g.L.Library.files c.find.new.self))) in
    absurd (found_then g.B.Geometry.shape c.args.board.now known c.new-reading.result.show (g.I.Source.remaining c.args.input.now) (g.I.Source.remaining c.read_all.new.input)
    start (g.O.Sink.contents c.read_all.new.self.output.now) c.read_all.result e
    (c.read_all.ensures.answer c.args.board.now known start (c.new-reading.ensures.stands c.args.board.now known start of begun)))

pub returns-in-Ok-begin-clause-counted : goal.returns-in-Ok-begin-clause-counted
returns-in-Ok-begin-clause-counted g c =
    let here : c.output-1.given.0 ≡ c.read_all.new.self.output.now = c.output-1.given.1 (sym (c.read_all.ensures.stays.output ∙ c.new-reading.ensures.lent)) in
    rw here (rw (c.new-reading.ensures.output, c.in-Ok-begin.ensures.counted) at c.read_all.ensures.counted)

pub returns-in-Ok-begin-clause-unchanged : goal.returns-in-Ok-begin-clause-unchanged
returns-in-Ok-begin-clause-unchanged g c =
    let lent = c.read_all.ensures.stays.folder.same ∙ ap lent_of c.new-reading.ensures.folder ∙ c.new-folder.ensures.lent in
    let here : c.library-1.given.0 ≡ library_of c.read_all.new.self.folder = c.library-1.given.1 (sym lent) in
    ap g.L.Library.files here ∙ c.read_all.ensures.stays.folder.unchanged ∙ ap (λ f. g.L.Library.files (library_of f)) c.new-reading.ensures.folder
    ∙ ap g.L.Library.files c.new-folder.ensures.library ∙ c.in_ok-find.ensures.unchanged

pub returns-in-Ok-begin-clause-reads : goal.returns-in-Ok-begin-clause-reads
returns-in-Ok-begin-clause-reads g c =
    let known = g.L.Library.files c.args.library.now in
    let start = g.O.Sink.contents c.args.output.now in
    let begun = out_begun g.B.Geometry.shape c.args.board.now known c.args.show start (g.O.Sink.contents c.begin.new.output) c.in-Ok-begin.tally c.in-Ok-begin.ensures.begun in
    let of = subst (λ k. IsOf g.B.Geometry.shape g.L.Library.files c.args.board.now k c.new-folder.result) c.in_ok-find.ensures.unchanged
    (c.new-folder.ensures.of (c.in-Ok.ensures c.args.board.now (g.L.Library.files c.find.new.self))) in
    c.read_all.ensures.reads c.args.board.now known start (c.new-reading.ensures.stands c.args.board.now known start of begun)

-- a write failed before anything was read
pub returns-clause-answer : goal.returns-clause-answer
returns-clause-answer g c = (
  [],
  Consumes-nil (g.I.Source.remaining c.args.input.now),
  begun_failed g.B.Geometry.shape c.args.board.now (g.L.Library.files c.args.library.now) c.args.show (strings_in []) (g.O.Sink.contents c.args.output.now)
      (g.O.Sink.contents c.begin.new.output) c.in-Err.sent c.in-Err.ensures.begun,
)
