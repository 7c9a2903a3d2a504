use Rattle.std.proofs.Common.{◌≡◌, ◌<◌, ◌+◌, ◌-◌, ◌||◌, not, true, ap, ap₂, sym, ◌∙◌, arith}
use Rattle.morris_board.specs.Sets.{has}
use Rattle.morris_index.specs.Pairs.{index_of}
use Rattle.morris_index.specs.Moves.{InPair, unmove_sides, end_taken_back}
use Rattle.morris_index.proofs.IndexLaws.{placed}
use Rattle.morris_board.proofs.PositionLaws.{own_count, other_count}
use Rattle.morris_index.proofs.CarriedLaws.{member_has, split_after, pushed}
use Rattle.morris_index.proofs.MoveLaws.{other_lt, vacant_own, vacant_other, turned_index-few, end_index}
use Rattle.morris_index.proofs.predecessors.PredecessorIndices.add_from.Given as given
use Rattle.morris_index.proofs.predecessors.PredecessorIndices.add_from.Goals as goal
use Rattle.morris_index.proofs.predecessors.PredecessorIndices.add_from.Goals.{After-end}

pub end-gone-requires : goal.end-gone-requires
end-gone-requires g c =
    let end : has c.self.inside.position.other c.args.to ≡ true = ap (λ (q : InPair). has q.position.other c.args.to) c.self.view_is ∙ c.requires.end in
    other_lt g.B.Geometry.shape g.B.Geometry.POINTS g.met.B.Geometry.point_count (omega (arith, g.met.B.Geometry.few)) c.self.inside.position c.self.invariant.lawful c.args.to end

pub end-requires : goal.end-requires
end-requires g c =
    (c.requires.sources c.in-Some.from (member_has c.args.sources c.in-Some.from c.loop-from.yielded _ _ c.loop-from.invariant.split c.in-Some.ensures.steps)).0

pub overflow_add-swap_sides : goal.overflow_add-swap_sides
overflow_add-swap_sides g c =
    omega (
      arith,
      c.self.invariant.swap_sides,
      c.end.ensures.few,
      turned_index-few g.B.Geometry.POINTS (omega (arith, g.met.B.Geometry.few)) c.self.inside.position
          (placed g.B.Geometry.shape g.B.Geometry.POINTS c.self.inside.position g.met.B.Geometry.point_count c.self.invariant.lawful)
          ((own_count c.self.inside.position c.self.invariant.lawful.sized).1) ((other_count c.self.inside.position c.self.invariant.lawful.sized).1) c.self.inside.pair c.self.invariant.pair,
    )

-- what is added and what is taken away
grown : (g : given.Over) (c : After-end g) → index_of g.B.Geometry.POINTS c.self.inside.pair (unmove_sides c.self.inside.position c.in-Some.from c.args.to) + c.end-gone.result
    ≡ c.self.inside.swap_sides + c.end.result
grown g c =
    let end : has c.self.inside.position.other c.args.to ≡ true = ap (λ (q : InPair). has q.position.other c.args.to) c.self.view_is ∙ c.requires.end in
    let here : has c.args.sources c.in-Some.from ≡ true =
    member_has c.args.sources c.in-Some.from c.loop-from.yielded _ _ c.loop-from.invariant.split c.in-Some.ensures.steps in
    let start : c.in-Some.from < g.B.Geometry.POINTS = (c.requires.sources c.in-Some.from here).0 in
    let vacant : not (has c.self.inside.position.own c.in-Some.from || has c.self.inside.position.other c.in-Some.from) ≡ true =
    ap (λ (q : InPair). not (has q.position.own c.in-Some.from || has q.position.other c.in-Some.from)) c.self.view_is ∙ (c.requires.sources c.in-Some.from here).1 in
    let come : c.end.result ≡ end_taken_back c.args.lower g.B.Geometry.POINTS c.self.inside.position c.in-Some.from =
    c.end.ensures.value ∙ ap (λ (q : InPair). end_taken_back c.args.lower g.B.Geometry.POINTS q.position c.in-Some.from) (sym c.self.view_is) in
    let gone : c.end-gone.result ≡ end_taken_back c.args.lower g.B.Geometry.POINTS c.self.inside.position c.args.to =
    c.end-gone.ensures.value ∙ ap (λ (q : InPair). end_taken_back c.args.lower g.B.Geometry.POINTS q.position c.args.to) (sym c.self.view_is) in
    ap (λ x. index_of g.B.Geometry.POINTS c.self.inside.pair (unmove_sides c.self.inside.position c.in-Some.from c.args.to) + x) gone
    ∙ (end_index g.B.Geometry.POINTS (omega (arith, g.met.B.Geometry.few)) c.self.inside.pair c.self.inside.position
    (placed g.B.Geometry.shape g.B.Geometry.POINTS c.self.inside.position g.met.B.Geometry.point_count c.self.invariant.lawful)
    ((own_count c.self.inside.position c.self.invariant.lawful.sized).1) ((other_count c.self.inside.position c.self.invariant.lawful.sized).1)
    c.in-Some.from c.args.to start (vacant_own _ _ vacant) (vacant_other _ _ vacant) end
    c.self.inside.moved c.self.invariant.moved c.self.inside.renumbered c.self.invariant.renumbered c.args.lower (c.requires.side c.in-Some.from here)
    ∙ ap₂ (λ x y. x + y) (sym c.self.invariant.swap_sides) (sym come))

pub overflow_sub-swap_sides : goal.overflow_sub-swap_sides
overflow_sub-swap_sides g c = omega (arith, grown g (goal.at.overflow_sub-swap_sides g c).After-end)

pub loop-from-preserved : goal.loop-from-preserved
loop-from-preserved g c =
    let index : c.self.inside.swap_sides + c.end.result - c.end-gone.result ≡ index_of g.B.Geometry.POINTS c.self.inside.pair (unmove_sides c.self.inside.position c.in-Some.from c.args.to) =
    omega (arith, grown g (goal.at.loop-from-preserved g c).After-end) in
    record {
      split = split_after c.loop-from.yielded _ c.in-Some.from _ _ c.in-Some.ensures.steps c.loop-from.invariant.split;
      added = c.in_ok-push.ensures.items ∙ pushed _ c.args.out.now.items c.loop-from.yielded c.loop-from.out.items c.in-Some.from _ c.loop-from.invariant.added
          (index ∙ ap (λ (q : InPair). index_of g.B.Geometry.POINTS q.pair (unmove_sides q.position c.in-Some.from c.args.to)) c.self.view_is);
    }
