use Rattle.std.proofs.Common.{◌≡◌, ◌<◌, ◌≤◌, true, false, sym, ◌∙◌, arith}
use Rattle.morris_board.specs.Sets.{has}
use Rattle.morris_moves.specs.Rules.{reach}
use Rattle.morris_moves.proofs.LegalLaws.{listed_iff, no_start, no_end, own_above, reach_above, legal_where_taken}
use Rattle.morris_moves.proofs.MaskLaws.{reach-has}
use Rattle.morris_moves.proofs.rules.is_legal.Goals as goal
use Rattle.morris_moves.proofs.rules.is_legal.Goals.{then-m-POINTS-via-then-m-POINTS, then-m-POINTS-via-else-m-POINTS+then-not-has, then-m-POINTS-2-via-then-m-POINTS-2, then-m-POINTS-2-via-else-m-POINTS-2+then-not-may_go}

pub returns-then-m-POINTS-clause-answer : goal.returns-then-m-POINTS-clause-answer
returns-then-m-POINTS-clause-answer g c =
    let none : has c.args.position.now.own c.args.m.from ≡ false = elim c.then-m-POINTS.branch [
      | then-m-POINTS-via-then-m-POINTS w ↦
          let high : g.B.Geometry.shape.points ≤ c.args.m.from = omega (arith, g.met.B.Geometry.point_count) in
          own_above g.B.Geometry.shape c.args.position.now c.args.m.from c.own-own.ensures.lawful.stones high
      | then-m-POINTS-via-else-m-POINTS+then-not-has w ↦ rw (← c.own-own.ensures.points) (sym w.has.ensures ∙ w.if-not-has.true)
    ] in
    sym (no_start g.B.Geometry.shape c.args.position.now c.args.m none)

pub returns-then-m-POINTS-clause-listed : goal.returns-then-m-POINTS-clause-listed
returns-then-m-POINTS-clause-listed g c =
    let small : g.B.Geometry.shape.points ≤ 24 = omega (arith, g.met.B.Geometry.few, g.met.B.Geometry.point_count) in
    listed_iff g.B.Geometry.shape c.args.position.now small c.own-own.ensures.lawful.stones c.args.m false (returns-then-m-POINTS-clause-answer g c)

pub returns-then-m-POINTS-2-clause-answer : goal.returns-then-m-POINTS-2-clause-answer
returns-then-m-POINTS-2-clause-answer g c =
    let none : has (reach g.B.Geometry.shape c.args.position.now c.args.m.from) c.args.m.to ≡ false = elim c.then-m-POINTS-2.branch [
      | then-m-POINTS-2-via-then-m-POINTS-2 w ↦
          let high : g.B.Geometry.shape.points ≤ c.args.m.to = omega (arith, g.met.B.Geometry.point_count) in
          reach_above g.B.Geometry.shape c.args.position.now c.args.m.from c.args.m.to high
      | then-m-POINTS-2-via-else-m-POINTS-2+then-not-may_go w ↦
          let low : c.args.m.to < g.B.Geometry.shape.points = omega (arith, g.met.B.Geometry.point_count, w.if-m-POINTS-2.false, c.POINTS-2.ensures) in
          reach-has g.B.Geometry.shape c.args.position.now c.args.m.from c.args.m.to low ∙ (sym w.may_go.ensures ∙ w.if-not-may_go.true)
    ] in
    sym (no_end g.B.Geometry.shape c.args.position.now c.args.m none)

pub returns-then-m-POINTS-2-clause-listed : goal.returns-then-m-POINTS-2-clause-listed
returns-then-m-POINTS-2-clause-listed g c =
    let small : g.B.Geometry.shape.points ≤ 24 = omega (arith, g.met.B.Geometry.few, g.met.B.Geometry.point_count) in
    listed_iff g.B.Geometry.shape c.args.position.now small c.own-own.ensures.lawful.stones c.args.m false (returns-then-m-POINTS-2-clause-answer g c)

pub returns-clause-answer : goal.returns-clause-answer
returns-clause-answer g c =
    let start : has c.args.position.now.own c.args.m.from ≡ true = rw (← c.own-own.ensures.points) (sym c.has.ensures ∙ c.if-not-has.false) in
    let end : has (reach g.B.Geometry.shape c.args.position.now c.args.m.from) c.args.m.to ≡ true =
    let low : c.args.m.to < g.B.Geometry.shape.points = omega (arith, g.met.B.Geometry.point_count, c.if-m-POINTS-2.false, c.POINTS-2.ensures) in
    reach-has g.B.Geometry.shape c.args.position.now c.args.m.from c.args.m.to low ∙ (sym c.may_go.ensures ∙ c.if-not-may_go.false) in
    c.takes_rightly.ensures ∙ legal_where_taken g.B.Geometry.shape c.args.position.now c.args.m start end

pub returns-clause-listed : goal.returns-clause-listed
returns-clause-listed g c =
    let small : g.B.Geometry.shape.points ≤ 24 = omega (arith, g.met.B.Geometry.few, g.met.B.Geometry.point_count) in
    listed_iff g.B.Geometry.shape c.args.position.now small c.own-own.ensures.lawful.stones c.args.m c.takes_rightly.result (returns-clause-answer g c)
