use Rattle.std.proofs.Common.{◌≡◌, ◌||◌, not, true, ap, ◌∙◌, arith}
use Rattle.morris_board.specs.Sets.{has, count_of}
use Rattle.morris_index.specs.Moves.{InPair}
use Rattle.morris_index.proofs.IndexLaws.{placed}
use Rattle.morris_board.proofs.PositionLaws.{own_count, other_count}
use Rattle.morris_index.proofs.MoveLaws.{own_24, own_lt, vacant_own, vacant_other, start-few, after_few, after_index, regrouped}
use Rattle.morris_index.proofs.successors.SuccessorIndices.index.Goals as goal

pub rank-requires-clause-board : goal.rank-requires-clause-board
rank-requires-clause-board g c = rw c.own-own.ensures.points (own_24 g.B.Geometry.shape g.B.Geometry.POINTS g.met.B.Geometry.point_count (omega (arith, g.met.B.Geometry.few)) c.self.inside.position c.self.invariant.lawful)

pub rank-requires-clause-from : goal.rank-requires-clause-from
rank-requires-clause-from g c =
    let here : has c.self.inside.position.own c.args.from ≡ true = ap (λ (q : InPair). has q.position.own c.args.from) c.self.view_is ∙ c.requires.start in
    omega (arith, g.met.B.Geometry.few, own_lt g.B.Geometry.shape g.B.Geometry.POINTS g.met.B.Geometry.point_count (omega (arith, g.met.B.Geometry.few)) c.self.inside.position c.self.invariant.lawful c.args.from here)

pub overflow_add-result : goal.overflow_add-result
overflow_add-result g c =
    let here : has c.self.inside.position.own c.args.from ≡ true = ap (λ (q : InPair). has q.position.own c.args.from) c.self.view_is ∙ c.requires.start in
    let vacant : not (has c.self.inside.position.own c.args.to || has c.self.inside.position.other c.args.to) ≡ true =
    ap (λ (q : InPair). not (has q.position.own c.args.to || has q.position.other c.args.to)) c.self.view_is ∙ c.requires.vacant in
    rw (c.rank.ensures, c.own-own.ensures.points, c.other-other.ensures.points)
    (omega (
      arith,
      after_few g.B.Geometry.POINTS (omega (arith, g.met.B.Geometry.few)) c.self.inside.pair c.self.inside.position
          (placed g.B.Geometry.shape g.B.Geometry.POINTS c.self.inside.position g.met.B.Geometry.point_count c.self.invariant.lawful)
          ((own_count c.self.inside.position c.self.invariant.lawful.sized).1) ((other_count c.self.inside.position c.self.invariant.lawful.sized).1)
          c.args.from c.args.to c.requires.end (vacant_own _ _ vacant) (vacant_other _ _ vacant) here,
      c.self.invariant.start,
      start-few g.B.Geometry.POINTS c.self.inside.pair (count_of c.self.inside.position.other) (omega (arith, g.met.B.Geometry.few)) c.self.invariant.pair,
    ))

pub returns : goal.returns
returns g c =
    let here : has c.self.inside.position.own c.args.from ≡ true = ap (λ (q : InPair). has q.position.own c.args.from) c.self.view_is ∙ c.requires.start in
    let vacant : not (has c.self.inside.position.own c.args.to || has c.self.inside.position.other c.args.to) ≡ true =
    ap (λ (q : InPair). not (has q.position.own c.args.to || has q.position.other c.args.to)) c.self.view_is ∙ c.requires.vacant in
    rw (← c.self.view_is, c.rank.ensures, c.self.invariant.start, c.own-own.ensures.points, c.other-other.ensures.points)
    (regrouped _ _ _ ∙ after_index g.B.Geometry.POINTS (omega (arith, g.met.B.Geometry.few)) c.self.inside.pair c.self.inside.position
    (placed g.B.Geometry.shape g.B.Geometry.POINTS c.self.inside.position g.met.B.Geometry.point_count c.self.invariant.lawful)
    ((own_count c.self.inside.position c.self.invariant.lawful.sized).1) ((other_count c.self.inside.position c.self.invariant.lawful.sized).1)
    c.args.from c.args.to c.requires.end (vacant_own _ _ vacant) (vacant_other _ _ vacant) here)
