use Rattle.std.proofs.Common.{◌≡◌, ℕ, List, true, sym, ap, ◌∙◌, arith}
use Rattle.morris_board.specs.Sets.{has, members}
use Rattle.morris_moves.specs.Rules.{moves_from}
use Rattle.morris_moves.proofs.SetLaws.{point_lt}
use Rattle.morris_pairs.specs.Agreement.{quiet_codes}
use Rattle.morris_pairs.specs.Scores.{best_of, score_of, code_of_score}
use Rattle.morris_pairs.proofs.BackLawsLoops.{end_of, next_points, none_left}
use Rattle.morris_pairs.proofs.AgreementLaws.{quiet_codes-none, codes_by, codes_by-more, codes_by-all, best-all, small_codes}
use Rattle.morris_pairs.proofs.WorthLaws.{best_of-none, best_of-append}
use Rattle.morris_pairs.proofs.agreeing.best_after.Goals as goal

pub loop-from-init : goal.loop-from-init
loop-from-init g c = record {
  points = ap members (c.into_iter-from-iterator.ensures.into_iter_gives ∙ (c.iter-from-items.ensures.points ∙ c.own.ensures.points));
  best = c.score_of-best.ensures.value
      ∙ sym (ap (best_of (score_of c.args.captures)) (quiet_codes-none g.B.Geometry.shape c.args.raw.now c.args.position.now) ∙ best_of-none (score_of c.args.captures));
}

pub best_from-best-requires-clause-start : goal.best_from-best-requires-clause-start
best_from-best-requires-clause-start g c =
    end_of c.args.position.now.own c.in-Some.from c.loop-from.yielded _ _ c.loop-from.invariant.points c.in-Some.ensures.steps

pub best_from-best-requires-clause-inside : goal.best_from-best-requires-clause-inside
best_from-best-requires-clause-inside g c =
    let here : has c.args.position.now.own c.in-Some.from ≡ true =
    end_of c.args.position.now.own c.in-Some.from c.loop-from.yielded _ _ c.loop-from.invariant.points c.in-Some.ensures.steps in
    omega (
      arith,
      g.met.B.Geometry.point_count,
      point_lt c.args.position.now.own g.B.Geometry.shape.points c.in-Some.from c.own.ensures.lawful.stones.own_within here,
    )

pub loop-from-preserved : goal.loop-from-preserved
loop-from-preserved g c =
    let more : List ℕ = quiet_codes g.B.Geometry.shape c.args.raw.now c.args.position.now (moves_from g.B.Geometry.shape c.args.position.now c.in-Some.from) in
    record {
      points = next_points c.loop-from.yielded c.in-Some.from _ _ _ c.loop-from.invariant.points c.in-Some.ensures.steps;
      best = c.best_from-best.ensures
          ∙ ap (λ best. best_of best more) c.loop-from.invariant.best
          ∙ sym (best_of-append (score_of c.args.captures) (codes_by g.B.Geometry.shape c.args.raw.now c.args.position.now c.loop-from.yielded) more)
          ∙ ap (best_of (score_of c.args.captures)) (sym (codes_by-more g.B.Geometry.shape c.args.raw.now c.args.position.now c.loop-from.yielded c.in-Some.from));
    }

pub returns : goal.returns
returns g c =
    let each = none_left c.loop-from.yielded _ _ c.loop-from.invariant.points c.in-None.ensures.steps.0 in
    ap code_of_score
    (c.loop-from.invariant.best
    ∙ ap (λ (us : List ℕ). best_of (score_of c.args.captures) (codes_by g.B.Geometry.shape c.args.raw.now c.args.position.now us)) each
    ∙ ap (best_of (score_of c.args.captures)) (codes_by-all g.B.Geometry.shape c.args.raw.now c.args.position.now))
    ∙ best-all g.B.Geometry.shape c.args.raw.now c.args.position.now c.args.captures c.requires.captures c.score_of-best.ensures.short
    (small_codes c.args.raw.now.codes c.pair.ensures.raw.small)
