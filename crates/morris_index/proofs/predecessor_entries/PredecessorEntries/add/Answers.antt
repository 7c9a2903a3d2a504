-- Each symmetry that gives an un-move gives one entry.
use Rattle.std.proofs.Common.{◌≡◌, ◌||◌, ◌<◌, ◌++◌, not, true, map, refl, sym, ap, subst, ◌∙◌, arith}
use Rattle.std.proofs.lemmas.List.{append-nil}
use Rattle.morris_board.specs.Sets.{has, members, with_point, without_point}
use Rattle.morris_board.specs.Symmetries.{image_of, image_sides}
use Rattle.morris_index.specs.Classes.{AreCanonicalizing}
use Rattle.morris_index.specs.ClassPairs.{class_index_of}
use Rattle.morris_index.specs.Moves.{InPair, in_pair, unmove_sides}
use Rattle.morris_index.specs.Unmoves.{entry_predecessors}
use Rattle.morris_index.specs.Halves.{HalfOf}
use Rattle.morris_index.specs.Pairs.{IsPair, is_of}
use Rattle.morris_board.specs.Positions.{IsPosition}
use Rattle.morris_index.proofs.StepLaws.{adds_entries}
use Rattle.morris_index.proofs.MoveLaws.{other_lt}
use Rattle.morris_index.proofs.CarriedLaws.{IsCarried, mover_count, member_has, split_after, pushed, before_here, members_are, carried_before}
use Rattle.morris_index.proofs.predecessor_entries.PredecessorEntries.add.Given as given
use Rattle.morris_index.proofs.predecessor_entries.PredecessorEntries.add.Goals as goal
use Rattle.morris_index.proofs.predecessor_entries.PredecessorEntries.add.Goals.{In-Some}

-- the symmetry at hand gives an un-move: what it makes of the predecessor
unmoved : (g : given.Over) (c : In-Some g) → (c.in-Some.symmetry < g.B.Geometry.shape.symmetries)
    × (c.with-mover.result ≡ (unmove_sides c.self.inside.position c.args.from c.args.to).own)
    × IsCarried g.B.Geometry.shape g.B.Geometry.POINTS (unmove_sides c.self.inside.position c.args.from c.args.to) c.in-Some.symmetry
unmoved g c =
    let end : has c.self.inside.position.other c.args.to ≡ true = ap (λ (q : InPair). has q.position.other c.args.to) c.self.view_is ∙ c.requires.end in
    let vacant : not (has c.self.inside.position.own c.args.from || has c.self.inside.position.other c.args.from) ≡ true =
    ap (λ (q : InPair). not (has q.position.own c.args.from || has q.position.other c.args.from)) c.self.view_is ∙ c.requires.vacant in
    let mover : c.with-mover.result ≡ (unmove_sides c.self.inside.position c.args.from c.args.to).own =
    c.with-mover.ensures ∙ ap (λ x. with_point x c.args.from) (c.without.ensures ∙ ap (λ x. without_point x c.args.to) c.other.ensures.points) in
    let set_classes : AreCanonicalizing g.B.Geometry.shape (unmove_sides c.self.inside.position c.args.from c.args.to).own c.canonicalize-start.result.2 = rw mover at c.canonicalize-start.ensures.symmetries in
    let items : c.into_iter-symmetry-iterator.result ≡ c.intersection-member_symmetries.result = c.into_iter-symmetry-iterator.ensures.into_iter_gives ∙ c.iter-symmetry-items.ensures.points in
    let inside : has c.intersection-member_symmetries.result c.in-Some.symmetry ≡ true =
    member_has c.intersection-member_symmetries.result c.in-Some.symmetry c.loop-symmetry.yielded _ _ (c.loop-symmetry.invariant.split ∙ ap members items) c.in-Some.ensures.steps in
    let found =
    carried_before g.B.Geometry.shape g.B.Geometry.POINTS (omega (arith, g.met.B.Geometry.few)) g.met.B.Geometry.point_count g.met.B.Geometry.has_symmetries (in_pair c.self.inside.pair.now c.self.inside.position) c.self.inside.transversal c.self.invariant.0 c.args.from c.args.to c.requires.start vacant end c.canonicalize-start.result.2 c.intersection-member_symmetries.result set_classes c.intersection-member_symmetries.ensures c.in-Some.symmetry inside in
    (found.0, mover, found.1)

pub without-requires : goal.without-requires
without-requires g c =
    let end : has c.self.inside.position.other c.args.to ≡ true = ap (λ (q : InPair). has q.position.other c.args.to) c.self.view_is ∙ c.requires.end in
    omega (arith, g.met.B.Geometry.few, other_lt g.B.Geometry.shape g.B.Geometry.POINTS g.met.B.Geometry.point_count (omega (arith, g.met.B.Geometry.few)) c.self.inside.position c.self.invariant.0.lawful c.args.to end)

pub canonicalize-start-requires : goal.canonicalize-start-requires
canonicalize-start-requires g c =
    let end : has c.self.inside.position.other c.args.to ≡ true = ap (λ (q : InPair). has q.position.other c.args.to) c.self.view_is ∙ c.requires.end in
    let vacant : not (has c.self.inside.position.own c.args.from || has c.self.inside.position.other c.args.from) ≡ true =
    ap (λ (q : InPair). not (has q.position.own c.args.from || has q.position.other c.args.from)) c.self.view_is ∙ c.requires.vacant in
    let mover : c.with-mover.result ≡ (unmove_sides c.self.inside.position c.args.from c.args.to).own =
    c.with-mover.ensures ∙ ap (λ x. with_point x c.args.from) (c.without.ensures ∙ ap (λ x. without_point x c.args.to) c.other.ensures.points) in
    record {
      within = rw mover (before_here g.B.Geometry.shape g.B.Geometry.POINTS (omega (arith, g.met.B.Geometry.few)) g.met.B.Geometry.point_count g.met.B.Geometry.has_symmetries (in_pair c.self.inside.pair.now c.self.inside.position) c.self.inside.transversal c.self.invariant.0 c.args.from c.args.to c.requires.start vacant end).own_within;
      count = rw (mover, c.self.invariant.2) (mover_count g.B.Geometry.shape g.B.Geometry.POINTS (omega (arith, g.met.B.Geometry.few)) g.met.B.Geometry.point_count g.met.B.Geometry.has_symmetries (in_pair c.self.inside.pair.now c.self.inside.position) c.self.inside.transversal c.self.invariant.0 c.args.from c.args.to c.requires.start vacant end);
    }

pub loop-symmetry-init : goal.loop-symmetry-init
loop-symmetry-init g c = record { split = refl; added = sym (append-nil _) }

pub image_of-image-requires-clause-symmetry : goal.image_of-image-requires-clause-symmetry
image_of-image-requires-clause-symmetry g c =
    omega (arith, (unmoved g (goal.at.image_of-image-requires-clause-symmetry g c).In-Some).0, g.met.B.Geometry.symmetry_count)

pub entry_outside-requires : goal.entry_outside-requires
entry_outside-requires g c =
    let is = unmoved g (goal.at.entry_outside-requires g c).In-Some in
    let at : c.image_of-image.result ≡ image_of (g.B.Geometry.shape.image c.in-Some.symmetry) c.self.inside.position.own = c.image_of-image.ensures ∙ ap (image_of (g.B.Geometry.shape.image c.in-Some.symmetry)) c.own.ensures.points in
    record {
      start = c.canonicalize-start.ensures.few;
      board = rw at is.2.within;
      counted = rw at (c.self.invariant.1 ∙ sym is.2.counted);
      few = rw at is.2.most;
      apart = rw (at, c.canonicalize-start.ensures.representative, is.1) is.2.apart;
    }

pub loop-symmetry-preserved : goal.loop-symmetry-preserved
loop-symmetry-preserved g c =
    let is = unmoved g (goal.at.loop-symmetry-preserved g c).In-Some in
    let at : c.image_of-image.result ≡ image_of (g.B.Geometry.shape.image c.in-Some.symmetry) c.self.inside.position.own = c.image_of-image.ensures ∙ ap (image_of (g.B.Geometry.shape.image c.in-Some.symmetry)) c.own.ensures.points in
    let entry : c.entry_outside.result ≡ class_index_of g.B.Geometry.shape g.B.Geometry.POINTS c.self.inside.pair.now (image_sides (g.B.Geometry.shape.image c.in-Some.symmetry) (unmove_sides c.self.inside.position c.args.from c.args.to)) =
    rw (c.entry_outside.ensures, at, c.canonicalize-start.ensures.start, c.canonicalize-start.ensures.representative, c.self.invariant.2, is.1) (is.2.entry c.self.inside.pair.now) in
    record {
      split = split_after c.loop-symmetry.yielded _ c.in-Some.symmetry _ _ c.in-Some.ensures.steps c.loop-symmetry.invariant.split;
      added = c.in_ok-push.ensures.items ∙ pushed _ c.args.out.now.items c.loop-symmetry.yielded c.loop-symmetry.out.items c.in-Some.symmetry _ c.loop-symmetry.invariant.added
          (entry ∙ ap (λ (q : InPair). class_index_of g.B.Geometry.shape g.B.Geometry.POINTS q.pair (image_sides (g.B.Geometry.shape.image c.in-Some.symmetry) (unmove_sides q.position c.args.from c.args.to))) c.self.view_is);
    }

pub returns-clause-in_order : goal.returns-clause-in_order
unfolding entry_predecessors
returns-clause-in_order g c =
    let end : has c.self.inside.position.other c.args.to ≡ true = ap (λ (q : InPair). has q.position.other c.args.to) c.self.view_is ∙ c.requires.end in
    let vacant : not (has c.self.inside.position.own c.args.from || has c.self.inside.position.other c.args.from) ≡ true =
    ap (λ (q : InPair). not (has q.position.own c.args.from || has q.position.other c.args.from)) c.self.view_is ∙ c.requires.vacant in
    let mover : c.with-mover.result ≡ (unmove_sides c.self.inside.position c.args.from c.args.to).own =
    c.with-mover.ensures ∙ ap (λ x. with_point x c.args.from) (c.without.ensures ∙ ap (λ x. without_point x c.args.to) c.other.ensures.points) in
    let set_classes : AreCanonicalizing g.B.Geometry.shape (unmove_sides c.self.inside.position c.args.from c.args.to).own c.canonicalize-start.result.2 = rw mover at c.canonicalize-start.ensures.symmetries in
    let items : c.into_iter-symmetry-iterator.result ≡ c.intersection-member_symmetries.result = c.into_iter-symmetry-iterator.ensures.into_iter_gives ∙ c.iter-symmetry-items.ensures.points in
    let all : c.loop-symmetry.yielded ≡ members c.intersection-member_symmetries.result =
    sym (append-nil c.loop-symmetry.yielded) ∙ ap (λ t. c.loop-symmetry.yielded ++ t) (sym c.in-None.ensures.steps.0) ∙ c.loop-symmetry.invariant.split ∙ ap members items in
    rw (← c.self.view_is) (rw (← c.self.view_is) at c.loop-symmetry.invariant.added
    ∙ ap (λ ts. c.args.out.now.items ++ map (λ s. class_index_of g.B.Geometry.shape g.B.Geometry.POINTS c.self.inside.pair.now (image_sides (g.B.Geometry.shape.image s) (unmove_sides c.self.inside.position c.args.from c.args.to))) ts)
    (all ∙ members_are g.B.Geometry.shape g.B.Geometry.POINTS (omega (arith, g.met.B.Geometry.few)) g.met.B.Geometry.point_count g.met.B.Geometry.has_symmetries (in_pair c.self.inside.pair.now c.self.inside.position) c.self.inside.transversal c.self.invariant.0 c.args.from c.args.to c.requires.start vacant end c.canonicalize-start.result.2 c.intersection-member_symmetries.result set_classes c.intersection-member_symmetries.ensures (omega (arith, g.met.B.Geometry.symmetry_count, g.met.B.Geometry.few_symmetries))))

pub returns-clause-added : goal.returns-clause-added
returns-clause-added g c =
    adds_entries g.B.Geometry.shape g.B.Geometry.POINTS (omega (arith, g.met.B.Geometry.few)) g.met.B.Geometry.point_count g.met.B.Geometry.has_symmetries
    c.args.self.now.pair (subst (λ (q : InPair). IsPair g.B.Geometry.POINTS q.pair) c.self.view_is (subst (λ (h : HalfOf). IsPair g.B.Geometry.POINTS h.pair) c.self.invariant.2 c.canonicalize-start.ensures.lawful))
    c.args.self.now.position (subst (λ (q : InPair). IsPosition g.B.Geometry.shape q.position) c.self.view_is c.self.invariant.0.lawful)
    (subst (λ (q : InPair). is_of q.pair q.position ≡ true) c.self.view_is c.self.invariant.0.counts) c.args.from c.args.to c.requires.start c.requires.vacant
    c.requires.end c.args.out.now.items c.loop-symmetry.out.items (returns-clause-in_order g c)
