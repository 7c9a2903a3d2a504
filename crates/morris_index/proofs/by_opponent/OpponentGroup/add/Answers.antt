-- Each symmetry that is at hand gives one member.
use Rattle.std.proofs.Common.{◌≡◌, ℕ, ◌++◌, ◌&&◌, ltb, true, map, refl, sym, ap, subst, ◌∙◌, arith}
use Rattle.std.proofs.lemmas.List.{append-nil}
use Rattle.morris_board.specs.Sets.{has, members}
use Rattle.morris_board.specs.Symmetries.{image_sides}
use Rattle.morris_index.specs.Unmoves.{gives_unmove}
use Rattle.morris_index.specs.ByOpponent.{swap_sides, by_opponent}
use Rattle.morris_index.specs.Moves.{in_pair}
use Rattle.morris_index.proofs.CarriedLaws.{member_has, split_after, pushed, carrying_members, one_carries}
use Rattle.morris_index.proofs.by_opponent.OpponentGroup.add.Goals as goal

pub loop-symmetry-init : goal.loop-symmetry-init
loop-symmetry-init g c = record { split = refl; added = sym (append-nil _) }

pub member-requires-clause-symmetry : goal.member-requires-clause-symmetry
member-requires-clause-symmetry g c =
    let items : c.into_iter-symmetry-iterator.result ≡ c.member_symmetries-start.result.2 = c.into_iter-symmetry-iterator.ensures.into_iter_gives ∙ c.iter-symmetry-items.ensures.points in
    let inside : has c.member_symmetries-start.result.2 c.in-Some.symmetry ≡ true =
    member_has c.member_symmetries-start.result.2 c.in-Some.symmetry c.loop-symmetry.yielded _ _ (c.loop-symmetry.invariant.split ∙ ap members items) c.in-Some.ensures.steps in
    let carry : (t : ℕ) → has c.member_symmetries-start.result.2 t ≡ (ltb t g.B.Geometry.shape.symmetries && gives_unmove g.B.Geometry.shape c.args.position.now c.args.position.now.other t) =
    subst (λ n. (t : ℕ) → has c.member_symmetries-start.result.2 t ≡ (ltb t n && gives_unmove g.B.Geometry.shape c.args.position.now c.args.position.now.other t)) (sym g.met.B.Geometry.symmetry_count) c.member_symmetries-start.ensures.member_symmetries in
    omega (arith, (one_carries g.B.Geometry.shape c.args.position.now c.args.position.now.other c.member_symmetries-start.result.2 carry c.in-Some.symmetry inside).0, g.met.B.Geometry.symmetry_count)

pub member-requires-clause-gives_unmove : goal.member-requires-clause-gives_unmove
member-requires-clause-gives_unmove g c =
    let items : c.into_iter-symmetry-iterator.result ≡ c.member_symmetries-start.result.2 = c.into_iter-symmetry-iterator.ensures.into_iter_gives ∙ c.iter-symmetry-items.ensures.points in
    let inside : has c.member_symmetries-start.result.2 c.in-Some.symmetry ≡ true =
    member_has c.member_symmetries-start.result.2 c.in-Some.symmetry c.loop-symmetry.yielded _ _ (c.loop-symmetry.invariant.split ∙ ap members items) c.in-Some.ensures.steps in
    let carry : (t : ℕ) → has c.member_symmetries-start.result.2 t ≡ (ltb t g.B.Geometry.shape.symmetries && gives_unmove g.B.Geometry.shape c.args.position.now c.args.position.now.other t) =
    subst (λ n. (t : ℕ) → has c.member_symmetries-start.result.2 t ≡ (ltb t n && gives_unmove g.B.Geometry.shape c.args.position.now c.args.position.now.other t)) (sym g.met.B.Geometry.symmetry_count) c.member_symmetries-start.ensures.member_symmetries in
    (one_carries g.B.Geometry.shape c.args.position.now c.args.position.now.other c.member_symmetries-start.result.2 carry c.in-Some.symmetry inside).1

pub loop-symmetry-preserved : goal.loop-symmetry-preserved
loop-symmetry-preserved g c = record {
  split = split_after c.loop-symmetry.yielded _ c.in-Some.symmetry _ _ c.in-Some.ensures.steps c.loop-symmetry.invariant.split;
  added = c.in_ok-push.ensures.items ∙ pushed _ c.args.out.now.items c.loop-symmetry.yielded c.loop-symmetry.out.items c.in-Some.symmetry _ c.loop-symmetry.invariant.added c.member.ensures;
}

pub returns : goal.returns
unfolding by_opponent
returns g c =
    let items : c.into_iter-symmetry-iterator.result ≡ c.member_symmetries-start.result.2 = c.into_iter-symmetry-iterator.ensures.into_iter_gives ∙ c.iter-symmetry-items.ensures.points in
    let all : c.loop-symmetry.yielded ≡ members c.member_symmetries-start.result.2 =
    sym (append-nil c.loop-symmetry.yielded) ∙ ap (λ t. c.loop-symmetry.yielded ++ t) (sym c.in-None.ensures.steps.0) ∙ c.loop-symmetry.invariant.split ∙ ap members items in
    let carry : (t : ℕ) → has c.member_symmetries-start.result.2 t ≡ (ltb t g.B.Geometry.shape.symmetries && gives_unmove g.B.Geometry.shape c.args.position.now c.args.position.now.other t) =
    subst (λ n. (t : ℕ) → has c.member_symmetries-start.result.2 t ≡ (ltb t n && gives_unmove g.B.Geometry.shape c.args.position.now c.args.position.now.other t)) (sym g.met.B.Geometry.symmetry_count) c.member_symmetries-start.ensures.member_symmetries in
    c.loop-symmetry.invariant.added
    ∙ ap (λ ts. c.args.out.now.items ++ map (λ s. in_pair c.args.self.now.pair (image_sides (g.B.Geometry.shape.image s) (swap_sides c.args.position.now))) ts)
    (all ∙ carrying_members g.B.Geometry.shape c.args.position.now c.args.position.now.other c.member_symmetries-start.result.2 carry (omega (arith, g.met.B.Geometry.symmetry_count, g.met.B.Geometry.few_symmetries)))
