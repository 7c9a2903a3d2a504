-- With the sides swapped, the stones of the player to move are the opponent's.
use Rattle.std.proofs.Common.{◌≡◌, ◌&&◌, ltb, true, sym, ap, ap₂, subst, ◌∙◌}
use Rattle.morris_board.specs.Sets.{count_of}
use Rattle.morris_board.specs.Positions.{Sides}
use Rattle.morris_index.specs.Unmoves.{gives_unmove, IsTransversal}
use Rattle.morris_index.specs.Classes.{AreCanonicalizing}
use Rattle.morris_index.specs.ClassMoves.{class_start_of}
use Rattle.morris_index.specs.Halves.{HalfOf}
use Rattle.morris_index.specs.Moves.{InPair}
use Rattle.morris_index.specs.Pairs.{is_of}
use Rattle.morris_index.proofs.IndexLaws.{placed}
use Rattle.morris_index.proofs.CarriedLaws.{both_carry}
use Rattle.morris_index.proofs.FacingLaws.{turned_of}
use Rattle.morris_index.proofs.by_opponent.OpponentGroup.member_symmetries.Goals as goal

pub canonicalize-start-requires-clause-within : goal.canonicalize-start-requires-clause-within
canonicalize-start-requires-clause-within g c =
    rw c.own-own.ensures.points (placed g.B.Geometry.shape g.B.Geometry.POINTS c.args.from.now g.met.B.Geometry.point_count c.own-own.ensures.lawful).own_within

pub half-half-requires : goal.half-half-requires
half-half-requires g c =
    let of : is_of c.self.inside.pair.now c.args.position.now ≡ true =
    subst (λ (q : InPair). is_of q.pair c.args.position.now ≡ true) (sym c.self.view_is) c.requires.counts in
    rw (c.count.ensures.value, c.own-own.ensures.points, c.count-2.ensures.value, c.other.ensures.points, c.requires.from) (turned_of c.self.inside.pair.now c.args.position.now of)

pub returns-clause-start : goal.returns-clause-start
returns-clause-start g c =
    rw (← c.self.view_is) (c.canonicalize-start.ensures.start
    ∙ ap (λ (h : HalfOf). class_start_of g.B.Geometry.shape g.B.Geometry.POINTS h.pair c.own-own.result h.other) c.half-half.ensures
    ∙ ap₂ (λ a b. class_start_of g.B.Geometry.shape g.B.Geometry.POINTS c.self.inside.pair.now a b)
    (c.own-own.ensures.points ∙ ap (λ (s : Sides). s.own) c.requires.from)
    (c.count-2.ensures.value ∙ ap count_of (c.other.ensures.points ∙ ap (λ (s : Sides). s.other) c.requires.from)))

pub returns-clause-member_symmetries : goal.returns-clause-member_symmetries
returns-clause-member_symmetries g c =
    let set_classes : AreCanonicalizing g.B.Geometry.shape c.args.position.now.other c.canonicalize-start.result.2 =
    subst (λ x. AreCanonicalizing g.B.Geometry.shape x c.canonicalize-start.result.2) (c.own-own.ensures.points ∙ ap (λ (s : Sides). s.own) c.requires.from) c.canonicalize-start.ensures.symmetries in
    let same : c.self.inside.position.own ≡ c.args.position.now.own = ap (λ (q : InPair). q.position.own) c.self.view_is ∙ sym c.requires.same in
    let returns : IsTransversal g.B.Geometry.shape c.args.position.now.own c.self.inside.transversal =
    subst (λ x. IsTransversal g.B.Geometry.shape x c.self.inside.transversal) same c.self.invariant.0.returns in
    λ t. both_carry g.B.Geometry.shape c.args.position.now c.args.position.now.other c.canonicalize-start.result.2 c.self.inside.transversal c.intersection.result set_classes returns c.intersection.ensures t
    ∙ ap (λ n. ltb t n && gives_unmove g.B.Geometry.shape c.args.position.now c.args.position.now.other t) g.met.B.Geometry.symmetry_count
