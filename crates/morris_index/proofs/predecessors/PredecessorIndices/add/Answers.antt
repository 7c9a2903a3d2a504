use Rattle.std.proofs.Common.{◌≡◌, ℕ, ◌++◌, List, true, map, ap, sym, ◌∙◌, arith, append_assoc}
use Rattle.std.proofs.lemmas.List.{map-append}
use Rattle.std.proofs.lemmas.Result.{on_ok_weaker}
use Rattle.morris_board.specs.Sets.{has, members}
use Rattle.morris_index.specs.Pairs.{index_of}
use Rattle.morris_index.specs.Moves.{InPair, unmove_sides}
use Rattle.morris_index.proofs.MoveLaws.{other_lt}
use Rattle.morris_index.proofs.SourceLaws.{members-split}
use Rattle.morris_index.proofs.predecessors.PredecessorIndices.add.Goals as goal

pub below-below-requires : goal.below-below-requires
below-below-requires g c =
    let end : has c.self.inside.position.other c.args.to ≡ true = ap (λ (q : InPair). has q.position.other c.args.to) c.self.view_is ∙ c.requires.end in
    omega (arith, g.met.B.Geometry.few, other_lt g.B.Geometry.shape g.B.Geometry.POINTS g.met.B.Geometry.point_count (omega (arith, g.met.B.Geometry.few)) c.self.inside.position c.self.invariant.lawful c.args.to end)

pub returns : goal.returns
returns g c =
    let split : members c.intersection.result ++ members c.difference.result ≡ members c.args.sources =
    members-split c.args.sources c.below-below.result c.intersection.result c.difference.result _ c.below-below.ensures c.intersection.ensures c.difference.ensures in
    on_ok_weaker c.add_from-2.result (λ (e : c.add_from-2.new.out.items ≡ c.add_from.new.out.items
    ++ map (λ p. index_of g.B.Geometry.POINTS c.args.self.now.pair (unmove_sides c.args.self.now.position p c.args.to)) (members c.difference.result)).
    e ∙ (ap (λ (xs : List ℕ). xs ++ map (λ p. index_of g.B.Geometry.POINTS c.args.self.now.pair (unmove_sides c.args.self.now.position p c.args.to)) (members c.difference.result)) c.in_ok-add_from.ensures
    ∙ (append_assoc c.args.out.now.items _ _
    ∙ ap (λ (xs : List ℕ). c.args.out.now.items ++ xs) (sym (map-append (λ p. index_of g.B.Geometry.POINTS c.args.self.now.pair (unmove_sides c.args.self.now.position p c.args.to)) (members c.intersection.result) (members c.difference.result))
    ∙ ap (map (λ p. index_of g.B.Geometry.POINTS c.args.self.now.pair (unmove_sides c.args.self.now.position p c.args.to))) split)))) c.add_from-2.ensures
