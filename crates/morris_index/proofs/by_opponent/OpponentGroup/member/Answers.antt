-- The image of the position with the other player to move is a member.
use Rattle.std.proofs.Common.{◌≡◌, ◌<◌, true, sym, ap, ap₂, subst, ◌∙◌, arith}
use Rattle.morris_board.specs.Positions.{Sides}
use Rattle.morris_board.specs.Sets.{count_of}
use Rattle.morris_board.specs.Symmetries.{image_of, image_sides}
use Rattle.morris_index.specs.ClassMoves.{class_start_of}
use Rattle.morris_index.specs.ClassPairs.{class_index_of}
use Rattle.morris_index.specs.ByOpponent.{swap_sides}
use Rattle.morris_index.specs.Moves.{InPair}
use Rattle.morris_index.specs.Pairs.{is_of}
use Rattle.morris_index.proofs.CarriedLaws.{IsCarried}
use Rattle.morris_index.proofs.FacingLaws.{same_others, faced_carried, faced_from, is_faced}
use Rattle.morris_index.proofs.by_opponent.OpponentGroup.member.Given as given
use Rattle.morris_index.proofs.by_opponent.OpponentGroup.member.Goals as goal
use Rattle.morris_index.proofs.by_opponent.OpponentGroup.member.Goals.{After-count}

-- the position that is read, that it is one of the pair, and its image with the sides swapped
facing_it : (g : given.Over) (c : After-count g)
    → (c.image_of-other.result ≡ image_of (g.B.Geometry.shape.image c.args.symmetry) c.args.position.now.own)
    × (is_of c.self.inside.pair.now c.args.position.now ≡ true) × (c.args.symmetry < g.B.Geometry.shape.symmetries)
    × IsCarried g.B.Geometry.shape g.B.Geometry.POINTS (swap_sides c.args.position.now) c.args.symmetry
facing_it g c =
    let of : is_of c.self.inside.pair.now c.args.position.now ≡ true = subst (λ (q : InPair). is_of q.pair c.args.position.now ≡ true) (sym c.self.view_is) c.requires.counts in
    let s_in : c.args.symmetry < g.B.Geometry.shape.symmetries = omega (arith, c.requires.symmetry, g.met.B.Geometry.symmetry_count) in (
      c.image_of-other.ensures ∙ ap (image_of (g.B.Geometry.shape.image c.args.symmetry)) (c.other.ensures.points ∙ ap (λ (s : Sides). s.other) c.requires.from),
      of,
      s_in,
      faced_carried g.B.Geometry.shape g.B.Geometry.POINTS g.met.B.Geometry.few g.met.B.Geometry.point_count g.met.B.Geometry.has_symmetries c.self.inside.pair.now c.self.invariant.0.pair c.args.position.now c.own.ensures.lawful of c.requires.own c.args.symmetry s_in c.requires.gives_unmove,
    )

pub entry_outside-entry-requires-clause-board : goal.entry_outside-entry-requires-clause-board
entry_outside-entry-requires-clause-board g c =
    let is = facing_it g (goal.at.entry_outside-entry-requires-clause-board g c).After-count in
    rw is.0 is.3.within

pub entry_outside-entry-requires-clause-few : goal.entry_outside-entry-requires-clause-few
entry_outside-entry-requires-clause-few g c =
    let is = facing_it g (goal.at.entry_outside-entry-requires-clause-few g c).After-count in
    rw is.0 is.3.most

pub entry_outside-entry-requires-clause-apart : goal.entry_outside-entry-requires-clause-apart
entry_outside-entry-requires-clause-apart g c =
    let is = facing_it g (goal.at.entry_outside-entry-requires-clause-apart g c).After-count in
    rw (c.requires.representative, is.0) is.3.apart

pub invariant_of-result : goal.invariant_of-result
invariant_of-result g c =
    let is = facing_it g (goal.at.invariant_of-result g c).After-count in
    let same : c.args.position.now.own ≡ c.self.inside.position.own = c.requires.same ∙ ap (λ (q : InPair). q.position.own) (sym c.self.view_is) in
    let others : count_of c.args.position.now.other ≡ count_of c.self.inside.position.other =
    same_others c.self.inside.pair.now c.args.position.now c.self.inside.position is.1 c.self.invariant.0.counts same in
    let first : c.self.inside.start ≡ class_start_of g.B.Geometry.shape g.B.Geometry.POINTS c.self.inside.pair.now c.args.position.now.own (count_of c.args.position.now.other) =
    c.self.invariant.0.start ∙ ap₂ (class_start_of g.B.Geometry.shape g.B.Geometry.POINTS c.self.inside.pair.now) (sym same) (sym others) in
    let start : c.args.start ≡ class_start_of g.B.Geometry.shape g.B.Geometry.POINTS c.self.inside.pair.now c.args.position.now.other (count_of c.args.position.now.own) =
    subst (λ (q : InPair). c.args.start ≡ class_start_of g.B.Geometry.shape g.B.Geometry.POINTS q.pair c.args.position.now.other (count_of c.args.position.now.own)) (sym c.self.view_is) c.requires.start in
    let entry : c.entry_outside-entry.result ≡ class_index_of g.B.Geometry.shape g.B.Geometry.POINTS c.self.inside.pair.now (image_sides (g.B.Geometry.shape.image c.args.symmetry) (swap_sides c.args.position.now)) =
    rw (c.entry_outside-entry.ensures, c.requires.representative, is.0, start) (is.3.entry c.self.inside.pair.now) in
    rw c.requires.from (
      is_faced g.B.Geometry.shape g.B.Geometry.POINTS g.met.B.Geometry.few g.met.B.Geometry.point_count g.met.B.Geometry.has_symmetries c.self.inside.pair.now c.self.invariant.0.pair c.args.position.now c.own.ensures.lawful is.1 c.requires.own c.args.symmetry is.2 c.requires.gives_unmove c.entry_outside-entry.result entry,
      faced_from g.B.Geometry.shape g.B.Geometry.POINTS g.met.B.Geometry.few g.met.B.Geometry.point_count g.met.B.Geometry.has_symmetries c.self.inside.pair.now c.self.invariant.0.pair c.args.position.now c.own.ensures.lawful is.1 c.requires.own c.args.symmetry is.2 c.requires.gives_unmove c.self.inside.place c.self.inside.start (c.self.invariant.1 ∙ sym same) first c.self.invariant.0.few,
    )
