use Rattle.std.proofs.Common.{◌≡◌, ◌≤◌, ◌∙◌, List, [], ◌∷◌, ◌++◌, length, take, sym, ap, subst, arith, rules, append_assoc, append-nil, length-append}
use Rattle.std.proofs.lemmas.List.{take-append-le, take_all}
use Rattle.morris_board.specs.Positions.{Sides}
use Rattle.morris_board.specs.Printers.{Takes}
use Rattle.morris_board.proofs.PrinterLaws.{Takes-nil, and_then_as}
use Rattle.morris_queries.specs.Found.{found_text}
use Rattle.morris_queries.proofs.FoundLaws.{found_text-push}
use Rattle.morris_queries.proofs.find.put_orbit.Goals as goal

pub loop-position-init : goal.loop-position-init
unfolding found_text
loop-position-init g c = record {
  split = search rules;
  few = omega arith;
  takes = Takes-nil g.S.Sink.contents g.S.Sink.failures c.args.out.now;
  left = omega arith;
}

pub loop-position-preserved : goal.loop-position-preserved
loop-position-preserved g c =
    let seen : List Sides = c.loop-position.yielded in
    record {
      split =
          append_assoc seen (c.in-Some.position ∷ []) c.next.new.self
          ∙ (ap (λ rest. seen ++ rest) (sym c.in-Some.ensures.steps) ∙ c.loop-position.invariant.split);
      few = omega (arith, c.loop-position.invariant.left, c.if-left-eq0.false, length-append seen (c.in-Some.position ∷ []));
      takes = and_then_as (found_text-push g.B.Geometry.shape seen c.in-Some.position) c.loop-position.invariant.takes c.put_position.ensures;
      left = omega (arith, c.loop-position.invariant.left, length-append seen (c.in-Some.position ∷ []));
    }

-- as many as there may be went in
pub returns-then-left-eq0-clause-takes : goal.returns-then-left-eq0-clause-takes
returns-then-left-eq0-clause-takes g c =
    let seen : List Sides = c.loop-position.yielded in
    let full : c.args.most ≤ length seen = omega (arith, c.loop-position.invariant.left, c.if-left-eq0.true) in
    let same : take c.args.most c.args.orbit ≡ seen =
    ap (take c.args.most) (sym c.loop-position.invariant.split)
    ∙ (take-append-le c.args.most seen c.loop-position.position-iterator full ∙ take_all c.args.most seen c.loop-position.invariant.few) in
    subst (λ (all : List Sides). Takes g.S.Sink.contents g.S.Sink.failures c.args.out.now c.loop-position.out (found_text g.B.Geometry.shape all)) (sym same)
    c.loop-position.invariant.takes

pub returns-then-left-eq0-clause-left : goal.returns-then-left-eq0-clause-left
returns-then-left-eq0-clause-left g c =
    let seen : List Sides = c.loop-position.yielded in
    omega (
      arith,
      c.loop-position.invariant.left,
      c.if-left-eq0.true,
      ap length c.loop-position.invariant.split,
      length-append seen c.loop-position.position-iterator,
    )

-- or all
pub returns-clause-takes : goal.returns-clause-takes
returns-clause-takes g c =
    let seen : List Sides = c.loop-position.yielded in
    let all : c.args.orbit ≡ seen = sym c.loop-position.invariant.split ∙ (ap (λ rest. seen ++ rest) c.in-None.ensures.steps.0 ∙ append-nil seen) in
    let same : take c.args.most c.args.orbit ≡ seen = ap (take c.args.most) all ∙ take_all c.args.most seen c.loop-position.invariant.few in
    subst (λ (ps : List Sides). Takes g.S.Sink.contents g.S.Sink.failures c.args.out.now c.loop-position.out (found_text g.B.Geometry.shape ps)) (sym same)
    c.loop-position.invariant.takes
