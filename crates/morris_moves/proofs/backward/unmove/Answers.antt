use Rattle.std.proofs.Common.{◌≡◌, Ok, None, ap, ◌∙◌}
use Rattle.morris_board.specs.Positions.{Sides, sides}
use Rattle.morris_board.specs.Sets.{count_of}
use Rattle.morris_moves.specs.Rules.{move, result_of}
use Rattle.morris_moves.specs.Backward.{unmove}
use Rattle.morris_moves.proofs.BackLaws.{IsMade, end_low, is_made}
use Rattle.morris_moves.proofs.backward.unmove.Given as given
use Rattle.morris_moves.proofs.backward.unmove.Goals as goal
use Rattle.morris_moves.proofs.backward.unmove.Goals.{After-own}

made : (g : given.Over) (c : After-own g) → IsMade g.B.Geometry.shape c.args.position.now (move c.args.from c.args.to None) (sides c.with-mover.result c.own.result)
made g c =
    is_made g.B.Geometry.shape g.B.Geometry.POINTS g.met.B.Geometry.point_count g.met.B.Geometry.few c.args.position.now c.other.ensures.lawful
    c.args.from c.args.to c.requires.start c.requires.vacant c.requires.end c.requires.enough
    c.with-mover.result c.without.result c.other.result c.own.result c.with-mover.ensures c.without.ensures c.other.ensures.points c.own.ensures.points

pub without-requires : goal.without-requires
without-requires g c =
    end_low g.B.Geometry.shape g.B.Geometry.POINTS g.met.B.Geometry.point_count g.met.B.Geometry.few c.args.position.now c.other.ensures.lawful
    c.args.from c.args.to c.requires.start c.requires.vacant c.requires.end

pub new-requires : goal.new-requires
new-requires g c =
    let is = made g (goal.at.new-requires g c).After-own in
    is.apart

pub unreachable-requires : goal.unreachable-requires
unreachable-requires g c =
    let is = made g (goal.at.unreachable-requires g c).After-own in
    let result : c.new.result ≡ Ok (unmove c.args.position.now (move c.args.from c.args.to None)) = c.new.ensures ∙ is.made_is in
    cc

pub returns-clause-value : goal.returns-clause-value
returns-clause-value g c =
    let is = made g (goal.at.returns-clause-value g c).After-own in
    let result : c.new.result ≡ Ok (unmove c.args.position.now (move c.args.from c.args.to None)) = c.new.ensures ∙ is.made_is in
    cc

pub returns-clause-own : goal.returns-clause-own
returns-clause-own g c =
    let is = made g (goal.at.returns-clause-own g c).After-own in
    ap (λ (s : Sides). count_of s.own) (returns-clause-value g c) ∙ is.own

pub returns-clause-leads : goal.returns-clause-leads
returns-clause-leads g c =
    let is = made g (goal.at.returns-clause-leads g c).After-own in
    ap (λ s. result_of s (move c.args.from c.args.to None)) (returns-clause-value g c) ∙ is.leads
