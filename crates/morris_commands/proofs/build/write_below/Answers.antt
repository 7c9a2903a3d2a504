use Rattle.std.proofs.Common.{◌≡◌, [], ◌∷◌, ◌++◌, sym, ap, subst, ◌∙◌, arith, append_assoc, append-nil, length-append}
use Rattle.std.specs.List.{flat_map}
use Rattle.std.proofs.lemmas.Result.{err_from_is_err_and}
use Rattle.morris_board.specs.Streams.{AllSent}
use Rattle.morris_board.proofs.SentLaws.{AllSent-append, PartSent-within}
use Rattle.morris_index.specs.Pairs.{below_of}
use Rattle.morris_commands.specs.Build.{file_on}
use Rattle.morris_commands.proofs.BuildLaws.{files_split, one_file_more}
use Rattle.morris_commands.proofs.build.write_below.Goals as goal

pub returns-in_err-sent-clause-sent : goal.returns-in_err-sent-clause-sent
returns-in_err-sent-clause-sent g c =
    let failed = err_from_is_err_and c.from_residual.result c.from_residual.ensures.1 in
    let file = file_on g.B.Geometry.shape c.args.tables.now in
    let split : c.loop-below.yielded ++ (c.in-Some.below ∷ c.next.new.self) ≡ below_of c.args.pair =
    ap (λ rest. c.loop-below.yielded ++ rest) (sym c.in-Some.ensures.steps) ∙ c.loop-below.invariant.split in
    rw (failed.1, failed.2)
    (PartSent-within (g.O.Sink.contents c.args.output.now) (g.O.Sink.contents c.loop-below.output) (g.O.Sink.contents c.write_one.new.output) 0
    c.loop-below.sent c.in_err-sent.field-0.0 (flat_map file c.loop-below.yielded) (file c.in-Some.below) (flat_map file c.next.new.self)
    (flat_map file (below_of c.args.pair)) c.loop-below.invariant.sent c.in_err-sent.ensures.sent
    (files_split file c.loop-below.yielded c.next.new.self (below_of c.args.pair) c.in-Some.below split))

pub loop-below-preserved : goal.loop-below-preserved
loop-below-preserved g c =
    let file = file_on g.B.Geometry.shape c.args.tables.now in
    let old = g.O.Sink.contents c.args.output.now in
    let new = g.O.Sink.contents c.write_one.new.output in
    record {
      sent =
          subst (AllSent old new 0 c.in_ok-sent.sent) (one_file_more file c.loop-below.yielded c.in-Some.below)
          (AllSent-append old (g.O.Sink.contents c.loop-below.output) new 0 c.loop-below.sent c.in_ok-sent.sent (flat_map file c.loop-below.yielded)
          (file c.in-Some.below) c.loop-below.invariant.sent c.in_ok-sent.ensures.sent);
      split =
          append_assoc c.loop-below.yielded (c.in-Some.below ∷ []) c.next.new.self
          ∙ (ap (λ rest. c.loop-below.yielded ++ rest) (sym c.in-Some.ensures.steps) ∙ c.loop-below.invariant.split);
      few = omega (arith, c.in_ok-sent.ensures.few, c.loop-below.invariant.few, length-append c.loop-below.yielded (c.in-Some.below ∷ []));
      uncounted = c.in_ok-sent.ensures.counted ∙ c.loop-below.invariant.uncounted;
    }

pub returns-clause-sent : goal.returns-clause-sent
returns-clause-sent g c =
    let all : c.loop-below.yielded ≡ below_of c.args.pair =
    sym (append-nil c.loop-below.yielded) ∙ (ap (λ rest. c.loop-below.yielded ++ rest) (sym c.in-None.ensures.steps.0) ∙ c.loop-below.invariant.split) in
    subst
    (λ pairs. AllSent (g.O.Sink.contents c.args.output.now) (g.O.Sink.contents c.loop-below.output) 0 c.loop-below.sent
    (flat_map (file_on g.B.Geometry.shape c.args.tables.now) pairs)) all c.loop-below.invariant.sent
