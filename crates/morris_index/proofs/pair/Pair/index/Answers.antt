use Rattle.std.proofs.Common.{◌≡◌, ◌≢◌, ◌∙◌, sym, arith}
use Rattle.morris_board.specs.Sets.{count_of}
use Rattle.morris_index.proofs.IndexLaws.{placed, index-first, index-second, index-lt, index-same, half_index-few}
use Rattle.morris_board.proofs.PositionLaws.{own_count, other_count}
use Rattle.morris_index.proofs.pair.Pair.index.Goals as goal

pub overflow_add-result : goal.overflow_add-result
overflow_add-result g c =
    omega (
      arith,
      c.half_size.ensures.few,
      c.half_index-within_half.ensures.value,
      half_index-few g.B.Geometry.POINTS c.args.position.now (omega (arith, g.met.B.Geometry.few))
          (placed g.B.Geometry.shape g.B.Geometry.POINTS c.args.position.now g.met.B.Geometry.point_count c.own.ensures.lawful)
          ((own_count c.args.position.now c.own.ensures.lawful.sized).1) ((other_count c.args.position.now c.own.ensures.lawful.sized).1),
    )

pub returns-then-count-self-clause-value : goal.returns-then-count-self-clause-value
returns-then-count-self-clause-value g c =
    let first : count_of c.args.position.now.own ≡ c.self.inside.greater = rw (← c.own.ensures.points, ← c.count.ensures.value) c.if-count-self.true in
    rw (c.half_index-within_half.ensures.value, ← c.self.view_is) (sym (index-first g.B.Geometry.POINTS _ c.args.position.now first))

pub returns-then-count-self-clause-below : goal.returns-then-count-self-clause-below
returns-then-count-self-clause-below g c =
    rw (returns-then-count-self-clause-value g c)
    (index-lt g.B.Geometry.POINTS c.args.self.now (omega (arith, g.met.B.Geometry.few)) c.args.position.now
    (placed g.B.Geometry.shape g.B.Geometry.POINTS c.args.position.now g.met.B.Geometry.point_count c.own.ensures.lawful) c.requires)

pub returns-then-count-self-clause-alone : goal.returns-then-count-self-clause-alone
returns-then-count-self-clause-alone g c = λ s h of e.
    index-same g.B.Geometry.POINTS c.args.self.now (omega (arith, g.met.B.Geometry.few)) s c.args.position.now
    (placed g.B.Geometry.shape g.B.Geometry.POINTS s g.met.B.Geometry.point_count h)
    (placed g.B.Geometry.shape g.B.Geometry.POINTS c.args.position.now g.met.B.Geometry.point_count c.own.ensures.lawful) of c.requires
    (e ∙ returns-then-count-self-clause-value g c)

pub returns-else-count-self-clause-value : goal.returns-else-count-self-clause-value
returns-else-count-self-clause-value g c =
    let second : count_of c.args.position.now.own ≢ c.self.inside.greater = rw (← c.own.ensures.points, ← c.count.ensures.value) c.if-count-self.false in
    rw (c.half_index-within_half.ensures.value, c.half_size.ensures.value, ← c.self.view_is)
    (sym (index-second g.B.Geometry.POINTS _ c.args.position.now second))

pub returns-else-count-self-clause-below : goal.returns-else-count-self-clause-below
returns-else-count-self-clause-below g c =
    rw (returns-else-count-self-clause-value g c)
    (index-lt g.B.Geometry.POINTS c.args.self.now (omega (arith, g.met.B.Geometry.few)) c.args.position.now
    (placed g.B.Geometry.shape g.B.Geometry.POINTS c.args.position.now g.met.B.Geometry.point_count c.own.ensures.lawful) c.requires)

pub returns-else-count-self-clause-alone : goal.returns-else-count-self-clause-alone
returns-else-count-self-clause-alone g c = λ s h of e.
    index-same g.B.Geometry.POINTS c.args.self.now (omega (arith, g.met.B.Geometry.few)) s c.args.position.now
    (placed g.B.Geometry.shape g.B.Geometry.POINTS s g.met.B.Geometry.point_count h)
    (placed g.B.Geometry.shape g.B.Geometry.POINTS c.args.position.now g.met.B.Geometry.point_count c.own.ensures.lawful) of c.requires
    (e ∙ returns-else-count-self-clause-value g c)
