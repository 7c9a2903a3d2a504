use Rattle.std.proofs.Common.{◌≡◌, ℕ, List, true, false, max, None, sym, ap, ap₂, ◌∙◌, arith}
use Rattle.morris_board.specs.Sets.{has, members}
use Rattle.morris_moves.specs.Rules.{closes, reach, move}
use Rattle.morris_moves.proofs.LegalLaws.{reached}
use Rattle.morris_pairs.specs.Scores.{best_of, score}
use Rattle.morris_pairs.proofs.AgreementLaws.{quiet_listed, stated_at, quiet_codes-none, codes_to, codes_to-closing, codes_to-quiet, codes_to-all}
use Rattle.morris_pairs.proofs.BackLawsLoops.{end_of, next_points, none_left}
use Rattle.morris_pairs.proofs.CaptureLaws.{quiet_elsewhere}
use Rattle.morris_pairs.proofs.WorthLaws.{best_of-none, best_of-more}
use Rattle.morris_pairs.proofs.agreeing.best_from.Given as given
use Rattle.morris_pairs.proofs.agreeing.best_from.Goals as goal
use Rattle.morris_pairs.proofs.agreeing.best_from.Goals.{In-Some, Joined-then-not-has, then-not-has-via-then-not-has, then-not-has-via-else-not-has+then-not-closes}

-- the stone may go there
here : (g : given.Over) (c : In-Some g) → has (reach g.B.Geometry.shape c.args.position.now c.args.from) c.in-Some.to ≡ true
here g c = end_of (reach g.B.Geometry.shape c.args.position.now c.args.from) c.in-Some.to c.loop-to.yielded _ _ c.loop-to.invariant.points c.in-Some.ensures.steps

pub loop-to-init : goal.loop-to-init
loop-to-init g c = record {
  points = ap members (c.into_iter-to-iterator.ensures.into_iter_gives ∙ (c.iter-to-items.ensures.points ∙ c.reach.ensures));
  best = sym (ap (best_of c.args.known) (quiet_codes-none g.B.Geometry.shape c.args.raw.now c.args.position.now) ∙ best_of-none c.args.known);
}

-- where no move closes a mill, and where this one is seen not to, it doesn't
quiet : (g : given.Over) (c : Joined-then-not-has g) → has (reach g.B.Geometry.shape c.args.position.now c.args.from) c.in-Some.to ≡ true
    → closes g.B.Geometry.shape c.args.position.now.own c.args.from c.in-Some.to ≡ false
quiet g c reaches = elim c.then-not-has.branch [
  | then-not-has-via-then-not-has w ↦ quiet_elsewhere g.B.Geometry.shape g.B.Geometry.POINTS g.met.B.Geometry.point_count g.met.B.Geometry.few
      c.args.position.now c.own-own.ensures.lawful c.args.closing c.requires.closing c.args.from c.in-Some.to c.requires.start reaches (sym c.has.ensures ∙ w.if-not-has.true)
  | then-not-has-via-else-not-has+then-not-closes w ↦
      ap (λ o. closes g.B.Geometry.shape o c.args.from c.in-Some.to) (sym c.own-own.ensures.points) ∙ sym w.closes.ensures ∙ w.if-not-closes.true
]

pub has-requires : goal.has-requires
has-requires g c =
    let at = reached g.B.Geometry.shape c.args.position.now c.args.from c.in-Some.to (here g (goal.at.has-requires g c).In-Some) in
    omega (arith, at.within, g.met.B.Geometry.point_count, g.met.B.Geometry.few)

pub closes-requires-clause-end : goal.closes-requires-clause-end
closes-requires-clause-end g c =
    let at = reached g.B.Geometry.shape c.args.position.now c.args.from c.in-Some.to (here g (goal.at.closes-requires-clause-end g c).In-Some) in
    omega (arith, at.within, g.met.B.Geometry.point_count)

pub entry_after-after-requires-clause-listed : goal.entry_after-after-requires-clause-listed
entry_after-after-requires-clause-listed g c =
    let at = goal.at.entry_after-after-requires-clause-listed g c in
    quiet_listed g.B.Geometry.shape g.met.B.Geometry.is_lawful c.args.position.now c.own-own.ensures.lawful c.args.from c.in-Some.to c.requires.start
    (here g at.In-Some) (quiet g at.Joined-then-not-has (here g at.In-Some))

pub loop-to-preserved-in-loop-to : goal.loop-to-preserved-in-loop-to
loop-to-preserved-in-loop-to g c =
    let at = goal.at.loop-to-preserved-in-loop-to g c in
    let b = g.B.Geometry.shape in
    let t = c.args.raw.now in
    let s = c.args.position.now in
    let u = c.args.from in
    let v = c.in-Some.to in
    let stated = stated_at b g.B.Geometry.POINTS g.met.B.Geometry.point_count t s (move u v None) c.entry_after-after.result c.code.result c.entry_after-after.ensures.entry c.code.ensures in
    record {
      points = next_points c.loop-to.yielded v _ _ _ c.loop-to.invariant.points c.in-Some.ensures.steps;
      best = c.max-best.ensures
          ∙ ap₂ max c.loop-to.invariant.best (c.score.ensures ∙ ap score stated)
          ∙ sym (best_of-more c.args.known (codes_to b t s u c.loop-to.yielded) _)
          ∙ ap (best_of c.args.known) (sym (codes_to-quiet b t s u c.loop-to.yielded v (quiet g at.Joined-then-not-has (here g at.In-Some))));
    }

pub loop-to-preserved : goal.loop-to-preserved
loop-to-preserved g c = record {
  points = next_points c.loop-to.yielded c.in-Some.to _ _ _ c.loop-to.invariant.points c.in-Some.ensures.steps;
  best = c.loop-to.invariant.best
      ∙ ap (best_of c.args.known) (sym (codes_to-closing g.B.Geometry.shape c.args.raw.now c.args.position.now c.args.from c.loop-to.yielded c.in-Some.to (ap (λ o. closes g.B.Geometry.shape o c.args.from c.in-Some.to) (sym c.own-own.ensures.points) ∙ sym c.closes.ensures ∙ c.if-not-closes.false)));
}

pub returns : goal.returns
returns g c =
    let each = none_left c.loop-to.yielded _ _ c.loop-to.invariant.points c.in-None.ensures.steps.0 in
    c.loop-to.invariant.best
    ∙ ap (λ (vs : List ℕ). best_of c.args.known (codes_to g.B.Geometry.shape c.args.raw.now c.args.position.now c.args.from vs)) each
    ∙ ap (best_of c.args.known) (codes_to-all g.B.Geometry.shape c.args.raw.now c.args.position.now c.args.from)
