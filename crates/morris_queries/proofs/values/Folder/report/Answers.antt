use Rattle.std.proofs.Common.{◌≡◌, ◌∙◌, Ok, Some, ap, inl, subst, sym}
use Rattle.std.specs.List.{Contains}
use Rattle.std.specs.Prelude.{IfSome, slice_get}
use Rattle.std.proofs.lemmas.Result.{err_from_is_err_and}
use Rattle.morris_moves.specs.Rules.{moves_of}
use Rattle.morris_queries.specs.Reports.{PositionReport, position_report, reported_of}
use Rattle.morris_queries.proofs.FolderLaws.{stays_on}
use Rattle.morris_queries.proofs.TellingLaws.{agreed, first_legal, shown_refused, shown_line_refused, shown_with_line, shown_without}
use Rattle.morris_queries.proofs.values.Folder.report.Goals as goal

pub returns-in_err-reported-clause-reported : goal.returns-in_err-reported-clause-reported
returns-in_err-reported-clause-reported g c = λ name files of.
    let failed = err_from_is_err_and c.from_residual.result c.from_residual.ensures.1 in
    rw (failed.1, failed.2)
    (shown_refused g.B.Geometry.shape name files c.args.position.now c.args.show c.in_err-reported.field-0.0
    (c.in_err-reported.ensures.reported name files of))

pub play_out-requires : goal.play_out-requires
play_out-requires g c =
    let first : c.copied-first.result ≡ slice_get c.in_ok-reported.reported.best 0 =
    c.copied-first.ensures ∙ (c.first.ensures.value ∙ ap (λ ms. slice_get ms 0) c.best.ensures) in
    record {
      legal =
          subst (λ o. IfSome o (Contains (moves_of g.B.Geometry.shape c.args.position.now))) (sym first)
          (first_legal g.B.Geometry.shape c.args.position.now c.in_ok-reported.reported c.in_ok-reported.ensures.listed);
    }

pub returns-in_err-line-in-Line-clause-stays : goal.returns-in_err-line-in-Line-clause-stays
returns-in_err-line-in-Line-clause-stays g c = stays_on c.in_ok-reported.ensures.stays c.in_err-line-in-Line.ensures.stays

pub returns-in_err-line-in-Line-clause-reported : goal.returns-in_err-line-in-Line-clause-reported
returns-in_err-line-in-Line-clause-reported g c = λ name files of.
    let failed = err_from_is_err_and c.from_residual-in_err-line-in-Line.result c.from_residual-in_err-line-in-Line.ensures.1 in
    let t : PositionReport = position_report c.reported.inside.value c.reported.inside.best.items c.reported.inside.outcomes.items c.reported.inside.line.items in
    let found : reported_of g.B.Geometry.shape name files c.args.position.now ≡ Ok t = rw (← c.reported.view_is) at (agreed _ _ (c.in_ok-reported.ensures.reported name files of)) in
    let first : c.copied-first.result ≡ slice_get t.best 0 =
    c.copied-first.ensures ∙ (c.first.ensures.value ∙ ap (λ ms. slice_get ms 0) (c.best.ensures ∙ ap (λ (u : PositionReport). u.best) (sym c.reported.view_is))) in
    rw (failed.1, failed.2, c.in-Line.is)
    (shown_line_refused g.B.Geometry.shape name files c.args.position.now t c.in_err-line-in-Line.field-0.0 found
    (rw (c.depth_of.ensures, first) at (c.in_err-line-in-Line.ensures.reported name files (c.in_ok-reported.ensures.stays.still name (Some files) of))))

pub returns-in_ok-line-in-Line-clause-stays : goal.returns-in_ok-line-in-Line-clause-stays
returns-in_ok-line-in-Line-clause-stays g c = stays_on c.in_ok-reported.ensures.stays c.in_ok-line-in-Line.ensures.stays

pub returns-in_ok-line-in-Line-clause-reported : goal.returns-in_ok-line-in-Line-clause-reported
returns-in_ok-line-in-Line-clause-reported g c = λ name files of.
    let t : PositionReport = position_report c.reported.inside.value c.reported.inside.best.items c.reported.inside.outcomes.items c.reported.inside.line.items in
    let found : reported_of g.B.Geometry.shape name files c.args.position.now ≡ Ok t = rw (← c.reported.view_is) at (agreed _ _ (c.in_ok-reported.ensures.reported name files of)) in
    let first : c.copied-first.result ≡ slice_get t.best 0 =
    c.copied-first.ensures ∙ (c.first.ensures.value ∙ ap (λ ms. slice_get ms 0) (c.best.ensures ∙ ap (λ (u : PositionReport). u.best) (sym c.reported.view_is))) in
    rw c.in-Line.is
    (inl (shown_with_line g.B.Geometry.shape name files c.args.position.now t c.in_ok-line-in-Line.line.items found
    (rw (c.depth_of.ensures, first) at (c.in_ok-line-in-Line.ensures.reported name files (c.in_ok-reported.ensures.stays.still name (Some files) of)))))

pub returns-in_default : goal.returns-in_default
returns-in_default g c = record {
  stays = c.in_ok-reported.ensures.stays;
  listed = c.in_ok-reported.ensures.listed;
  few = c.in_ok-reported.ensures.few;
  reported = λ name files of.
      inl (shown_without g.B.Geometry.shape name files c.args.position.now c.args.show c.in_ok-reported.reported c.in_default.not-Line
      (agreed _ _ (c.in_ok-reported.ensures.reported name files of)));
}
