use Rattle.std.proofs.Common.{◌≡◌, ◌∷◌, [], ◌++◌, sym, ap, subst, ◌∙◌, append_assoc, arith}
use Rattle.std.specs.List.{Contains}
use Rattle.std.proofs.lemmas.List.{append-nil}
use Rattle.std.proofs.Math.Path.{ap₂}
use Rattle.std.proofs.lemmas.Bool.{and_parts, eqb-true, not-false}
use Rattle.std.proofs.lemmas.Result.{err_from_is_err_and}
use Rattle.morris_index.specs.Pairs.{below_of, counts}
use Rattle.morris_commands.specs.Build.{HasExactBut}
use Rattle.morris_commands.proofs.BeforeLaws.{AreBuiltBut, built-itself, built-last, built-more, built-ready, every-itself, every-more, told_apart, unbuilt-one}
use Rattle.morris_commands.proofs.build.build_before.Goals as goal

pub returns-in_err-tables-clause-reported : goal.returns-in_err-tables-clause-reported
returns-in_err-tables-clause-reported g c = g.met.T.Watch.stays c.args.progress.now

pub returns-in_err-tables-clause-refused : goal.returns-in_err-tables-clause-refused
returns-in_err-tables-clause-refused g c =
    let failed = err_from_is_err_and c.from_residual.result c.from_residual.ensures.1 in
    rw (failed.1, failed.2) tt

pub loop-below-init : goal.loop-below-init
loop-below-init g c = record {
  split = cc;
  built = λ d m. absurd (omega (arith, m.1));
  every = λ all d m. absurd (omega (arith, m.1));
  reported = g.met.T.Watch.stays c.args.progress.now;
}

pub build_onto-requires-clause-ready : goal.build_onto-requires-clause-ready
build_onto-requires-clause-ready g c = λ κs within.
    built-ready g.B.Geometry.shape c.args.layout c.args.pair c.loop-below.yielded c.next.new.self c.in-Some.below
    (ap (λ rest. c.loop-below.yielded ++ rest) (sym c.in-Some.ensures.steps) ∙ c.loop-below.invariant.split)
    c.loop-below.tables c.drop_unneeded.new.tables c.below-below-items.ensures.needs_first c.loop-below.invariant.built c.drop_unneeded.ensures.near

pub returns-in_err-build_onto-clause-reported : goal.returns-in_err-build_onto-clause-reported
returns-in_err-build_onto-clause-reported g c = g.met.T.Watch.joins _ _ _ c.loop-below.invariant.reported c.build_onto.ensures.reported

pub returns-in_err-build_onto-clause-refused : goal.returns-in_err-build_onto-clause-refused
returns-in_err-build_onto-clause-refused g c =
    let failed = err_from_is_err_and c.from_residual-in_err-build_onto.result c.from_residual-in_err-build_onto.ensures.1 in
    rw (failed.1, failed.2)
    (unbuilt-one g.B.Geometry.shape c.args.layout c.args.pair c.loop-below.yielded c.next.new.self c.in-Some.below
    (ap (λ rest. c.loop-below.yielded ++ rest) (sym c.in-Some.ensures.steps) ∙ c.loop-below.invariant.split) c.args.context.parallelism.blocks
    (told_apart _ _ (sym c.ne.ensures ∙ c.if-ne.true)) _ c.in_err-build_onto.ensures.refused)

pub returns-clause-reported : goal.returns-clause-reported
returns-clause-reported g c = c.loop-below.invariant.reported

pub loop-below-preserved : goal.loop-below-preserved
loop-below-preserved g c =
    let both = and_parts _ _ (not-false _ (sym c.ne.ensures ∙ c.if-ne.false)) in
    let itself : c.in-Some.below ≡ c.args.pair = ap₂ counts (eqb-true _ _ both.0) (eqb-true _ _ both.1) in
    let split : c.loop-below.yielded ++ (c.in-Some.below ∷ c.next.new.self) ≡ below_of c.args.pair =
    ap (λ rest. c.loop-below.yielded ++ rest) (sym c.in-Some.ensures.steps) ∙ c.loop-below.invariant.split in
    record {
      split = append_assoc c.loop-below.yielded (c.in-Some.below ∷ []) c.next.new.self ∙ split;
      built =
          built-itself g.B.Geometry.shape c.args.layout c.args.pair c.loop-below.yielded c.next.new.self c.in-Some.below split
          c.loop-below.tables c.drop_unneeded.new.tables c.loop-below.invariant.built c.drop_unneeded.ensures.near itself;
      every = λ all.
          every-itself g.B.Geometry.shape c.args.layout c.loop-below.tables c.drop_unneeded.new.tables c.args.pair c.loop-below.yielded c.in-Some.below
          (c.loop-below.invariant.every all) (c.drop_unneeded.ensures.all all) itself;
      reported = c.loop-below.invariant.reported;
    }

pub loop-below-preserved-in-Continue-branch-2 : goal.loop-below-preserved-in-Continue-branch-2
loop-below-preserved-in-Continue-branch-2 g c =
    let split : c.loop-below.yielded ++ (c.in-Some.below ∷ c.next.new.self) ≡ below_of c.args.pair =
    ap (λ rest. c.loop-below.yielded ++ rest) (sym c.in-Some.ensures.steps) ∙ c.loop-below.invariant.split in
    record {
      split = append_assoc c.loop-below.yielded (c.in-Some.below ∷ []) c.next.new.self ∙ split;
      built =
          built-more g.B.Geometry.shape c.args.layout c.args.pair c.loop-below.yielded c.next.new.self c.in-Some.below split
          c.loop-below.tables c.drop_unneeded.new.tables c.build_onto.new.tables c.loop-below.invariant.built c.drop_unneeded.ensures.near
          c.in_ok-build_onto.ensures.exact c.in_ok-build_onto.ensures.within c.in_ok-build_onto.ensures.others;
      every = λ all.
          every-more g.B.Geometry.shape c.args.layout c.loop-below.tables c.drop_unneeded.new.tables c.build_onto.new.tables c.args.pair c.loop-below.yielded
          c.in-Some.below (c.loop-below.invariant.every all) (c.drop_unneeded.ensures.all all) c.in_ok-build_onto.ensures.exact c.in_ok-build_onto.ensures.others;
      reported = g.met.T.Watch.joins _ _ _ c.loop-below.invariant.reported c.build_onto.ensures.reported;
    }

pub returns-clause-ready : goal.returns-clause-ready
returns-clause-ready g c =
    let all : c.loop-below.yielded ≡ below_of c.args.pair =
    sym (append-nil c.loop-below.yielded) ∙ (ap (λ rest. c.loop-below.yielded ++ rest) (sym c.in-None.ensures.steps.0) ∙ c.loop-below.invariant.split) in
    let last = c.below-below-items.ensures.last in
    built-last g.B.Geometry.shape c.args.layout c.loop-below.tables c.args.pair last.0 c.below-below-items.ensures.needs_first last.1
    (subst (AreBuiltBut g.B.Geometry.shape c.args.layout c.loop-below.tables c.args.pair) all c.loop-below.invariant.built)

pub returns-clause-within : goal.returns-clause-within
returns-clause-within g c = λ deep.
    let all : c.loop-below.yielded ≡ below_of c.args.pair =
    sym (append-nil c.loop-below.yielded) ∙ (ap (λ rest. c.loop-below.yielded ++ rest) (sym c.in-None.ensures.steps.0) ∙ c.loop-below.invariant.split) in
    (c.loop-below.invariant.built deep.0 (subst (λ cs. Contains cs deep.0) (sym all) deep.1) deep.2).1 deep.3

pub returns-clause-every : goal.returns-clause-every
returns-clause-every g c = λ every.
    let all : c.loop-below.yielded ≡ below_of c.args.pair =
    sym (append-nil c.loop-below.yielded) ∙ (ap (λ rest. c.loop-below.yielded ++ rest) (sym c.in-None.ensures.steps.0) ∙ c.loop-below.invariant.split) in
    subst (HasExactBut g.B.Geometry.shape c.args.layout c.loop-below.tables c.args.pair) all (c.loop-below.invariant.every every)
