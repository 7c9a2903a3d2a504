use Rattle.std.proofs.Common.{◌≡◌, ◌∙◌, ◌-◌, ◌+◌, ◌++◌, Some, ap, arith, length, length-append, subst, sym, [], ◌∷◌}
use Rattle.std.specs.List.{Contains}
use Rattle.std.specs.Prelude.{IfSome, slice_get}
use Rattle.std.proofs.lemmas.Result.{err_from_is_err_and}
use Rattle.morris_moves.specs.Rules.{moves_of}
use Rattle.morris_queries.specs.Reports.{reported_line}
use Rattle.morris_queries.proofs.FolderLaws.{stays_here, stays_on}
use Rattle.morris_queries.proofs.TellingLaws.{agreed, first_legal, line_refused, line_ends, line_more, line_all, prepended-nil}
use Rattle.morris_queries.proofs.values.Folder.play_out.Goals as goal

pub loop-init : goal.loop-init
loop-init g c = record {
  few = omega (arith, ap length c.new-line.ensures.items);
  stays = stays_here;
  legal = c.requires.legal;
  reported = λ name files of.
      let all : c.args.plies - 0 ≡ c.args.plies = omega arith in
      rw (c.new-line.ensures.items, all) (prepended-nil _);
}

pub returns-in_default-clause-stays : goal.returns-in_default-clause-stays
returns-in_default-clause-stays g c = c.loop.invariant.stays

pub returns-in_default-clause-few : goal.returns-in_default-clause-few
returns-in_default-clause-few g c = omega (arith, c.loop.invariant.few, c.loop-test.true)

pub returns-in_default-clause-reported : goal.returns-in_default-clause-reported
returns-in_default-clause-reported g c = λ name files of.
    line_ends g.B.Geometry.shape name files c.loop.here c.loop.line.items (c.args.plies - c.loop.counter) (c.args.plies - (c.loop.counter + 1)) c.loop.next
    (reported_line g.B.Geometry.shape name files c.args.plies c.args.position.now c.args.first) (c.loop.invariant.reported name files of) (omega arith) c.in_default.is

pub play-here-requires : goal.play-here-requires
play-here-requires g c = subst (λ o. IfSome o (Contains (moves_of g.B.Geometry.shape c.loop.here))) c.in-Some.is c.loop.invariant.legal

pub returns-in_err-reported-clause-stays : goal.returns-in_err-reported-clause-stays
returns-in_err-reported-clause-stays g c = stays_on c.loop.invariant.stays c.in_err-reported.ensures.stays

pub returns-in_err-reported-clause-reported : goal.returns-in_err-reported-clause-reported
returns-in_err-reported-clause-reported g c = λ name files of.
    let failed = err_from_is_err_and c.from_residual.result c.from_residual.ensures.1 in
    rw (failed.1, failed.2)
    (line_refused g.B.Geometry.shape name files c.loop.here c.loop.line.items (c.args.plies - c.loop.counter) (c.args.plies - (c.loop.counter + 1)) c.loop.next
    (reported_line g.B.Geometry.shape name files c.args.plies c.args.position.now c.args.first) (c.loop.invariant.reported name files of) (omega arith)
    c.in-Some.m c.play-here.result c.in-Some.is c.play-here.ensures c.in_err-reported.field-0.0
    (c.in_err-reported.ensures.reported name files (c.loop.invariant.stays.still name (Some files) of)))

pub returns-in_err-push_or_refuse-clause-stays : goal.returns-in_err-push_or_refuse-clause-stays
returns-in_err-push_or_refuse-clause-stays g c = stays_on c.loop.invariant.stays c.in_ok-reported.ensures.stays

pub loop-preserved : goal.loop-preserved
loop-preserved g c =
    let first : c.copied-next.result ≡ slice_get c.in_ok-reported.reported.best 0 =
    c.copied-next.ensures ∙ (c.first.ensures.value ∙ ap (λ ms. slice_get ms 0) c.best.ensures) in
    record {
      few = omega (arith, ap length c.in_ok-push_or_refuse.ensures, length-append c.loop.line.items (c.ply_to.result ∷ []), c.loop.invariant.few);
      stays = stays_on c.loop.invariant.stays c.in_ok-reported.ensures.stays;
      legal =
          subst (λ o. IfSome o (Contains (moves_of g.B.Geometry.shape c.play-here.result))) (sym first)
          (first_legal g.B.Geometry.shape c.play-here.result c.in_ok-reported.reported c.in_ok-reported.ensures.listed);
      reported = λ name files of.
          line_more g.B.Geometry.shape name files c.loop.here c.loop.line.items (c.args.plies - c.loop.counter) (c.args.plies - (c.loop.counter + 1)) c.loop.next
          (reported_line g.B.Geometry.shape name files c.args.plies c.args.position.now c.args.first) (c.loop.invariant.reported name files of) (omega arith)
          c.in-Some.m c.play-here.result c.in-Some.is c.play-here.ensures c.in_ok-reported.reported c.push_or_refuse.new.list.items c.copied-next.result
          (agreed _ _ (c.in_ok-reported.ensures.reported name files (c.loop.invariant.stays.still name (Some files) of))) first
          (c.in_ok-push_or_refuse.ensures ∙ ap (λ p. c.loop.line.items ++ p ∷ []) c.ply_to.ensures);
    }

pub returns-clause-stays : goal.returns-clause-stays
returns-clause-stays g c = c.loop.invariant.stays

pub returns-clause-few : goal.returns-clause-few
returns-clause-few g c = omega (arith, c.loop.invariant.few)

pub returns-clause-reported : goal.returns-clause-reported
returns-clause-reported g c = λ name files of.
    line_all g.B.Geometry.shape name files c.loop.here c.loop.line.items (c.args.plies - c.loop.counter) 0 c.loop.next
    (reported_line g.B.Geometry.shape name files c.args.plies c.args.position.now c.args.first) (c.loop.invariant.reported name files of) (omega arith)
