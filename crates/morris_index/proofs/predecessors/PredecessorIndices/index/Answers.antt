use Rattle.std.proofs.Common.{◌≡◌, ◌+◌, ◌||◌, not, true, ltb, refl, ap, ap₂, sym, ◌∙◌, arith}
use Rattle.morris_board.specs.Sets.{has}
use Rattle.morris_index.specs.Pairs.{index_of}
use Rattle.morris_index.specs.Moves.{InPair, unmove_sides, end_taken_back}
use Rattle.morris_index.proofs.IndexLaws.{placed}
use Rattle.morris_board.proofs.PositionLaws.{own_count, other_count}
use Rattle.morris_index.proofs.MoveLaws.{other_lt, vacant_own, vacant_other, turned_index-few, end_index}
use Rattle.morris_index.proofs.predecessors.PredecessorIndices.index.Given as given
use Rattle.morris_index.proofs.predecessors.PredecessorIndices.index.Goals as goal
use Rattle.morris_index.proofs.predecessors.PredecessorIndices.index.Goals.{After-end-2}

pub overflow_add-result : goal.overflow_add-result
overflow_add-result g c =
    omega (
      arith,
      c.self.invariant.swap_sides,
      c.end.ensures.few,
      turned_index-few g.B.Geometry.POINTS (omega (arith, g.met.B.Geometry.few)) c.self.inside.position
          (placed g.B.Geometry.shape g.B.Geometry.POINTS c.self.inside.position g.met.B.Geometry.point_count c.self.invariant.lawful)
          ((own_count c.self.inside.position c.self.invariant.lawful.sized).1) ((other_count c.self.inside.position c.self.invariant.lawful.sized).1) c.self.inside.pair c.self.invariant.pair,
    )

pub end-requires-2 : goal.end-requires-2
end-requires-2 g c =
    let end : has c.self.inside.position.other c.args.to ≡ true = ap (λ (q : InPair). has q.position.other c.args.to) c.self.view_is ∙ c.requires.end in
    omega (arith, other_lt g.B.Geometry.shape g.B.Geometry.POINTS g.met.B.Geometry.point_count (omega (arith, g.met.B.Geometry.few)) c.self.inside.position c.self.invariant.lawful c.args.to end)

-- what is added and what is taken away
grown : (g : given.Over) (c : After-end-2 g) → index_of g.B.Geometry.POINTS c.self.inside.pair (unmove_sides c.self.inside.position c.args.from c.args.to) + c.end-2.result
    ≡ c.self.inside.swap_sides + c.end.result
grown g c =
    let end : has c.self.inside.position.other c.args.to ≡ true = ap (λ (q : InPair). has q.position.other c.args.to) c.self.view_is ∙ c.requires.end in
    let vacant : not (has c.self.inside.position.own c.args.from || has c.self.inside.position.other c.args.from) ≡ true =
    ap (λ (q : InPair). not (has q.position.own c.args.from || has q.position.other c.args.from)) c.self.view_is ∙ c.requires.vacant in
    let come : c.end.result ≡ end_taken_back (ltb c.args.from c.args.to) g.B.Geometry.POINTS c.self.inside.position c.args.from =
    c.end.ensures.value ∙ ap (λ (q : InPair). end_taken_back (ltb c.args.from c.args.to) g.B.Geometry.POINTS q.position c.args.from) (sym c.self.view_is) in
    let gone : c.end-2.result ≡ end_taken_back (ltb c.args.from c.args.to) g.B.Geometry.POINTS c.self.inside.position c.args.to =
    c.end-2.ensures.value ∙ ap (λ (q : InPair). end_taken_back (ltb c.args.from c.args.to) g.B.Geometry.POINTS q.position c.args.to) (sym c.self.view_is) in
    ap (λ x. index_of g.B.Geometry.POINTS c.self.inside.pair (unmove_sides c.self.inside.position c.args.from c.args.to) + x) gone
    ∙ (end_index g.B.Geometry.POINTS (omega (arith, g.met.B.Geometry.few)) c.self.inside.pair c.self.inside.position
    (placed g.B.Geometry.shape g.B.Geometry.POINTS c.self.inside.position g.met.B.Geometry.point_count c.self.invariant.lawful)
    ((own_count c.self.inside.position c.self.invariant.lawful.sized).1) ((other_count c.self.inside.position c.self.invariant.lawful.sized).1)
    c.args.from c.args.to c.requires.start (vacant_own _ _ vacant) (vacant_other _ _ vacant) end
    c.self.inside.moved c.self.invariant.moved c.self.inside.renumbered c.self.invariant.renumbered (ltb c.args.from c.args.to) refl
    ∙ ap₂ (λ x y. x + y) (sym c.self.invariant.swap_sides) (sym come))

pub overflow_sub-result : goal.overflow_sub-result
overflow_sub-result g c = omega (arith, grown g (goal.at.overflow_sub-result g c).After-end-2)

pub returns : goal.returns
returns g c = rw (← c.self.view_is) (omega (arith, grown g (goal.at.returns g c).After-end-2))
