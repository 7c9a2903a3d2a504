use Rattle.std.proofs.Common.{ℕ, ◌<◌, sym, subst, arith}
use Rattle.morris_index.specs.ClassPairs.{class_size_of}
use Rattle.morris_index.specs.Pairs.{IsPair}
use Rattle.morris_pairs.specs.Entries.{entry_count}
use Rattle.morris_pairs.proofs.FaceLaws.{group-all}
use Rattle.morris_pairs.proofs.chunks.Claim.group_agrees.Goals as goal

pub known_until-requires-clause-inside : goal.known_until-requires-clause-inside
known_until-requires-clause-inside g c = omega (arith, c.min.ensures, c.loop-round-test.true, c.round_count-round-end.ensures.count, c.len-count.ensures.size)

pub returns-clause-agree : goal.returns-clause-agree
returns-clause-agree g c =
    let board = g.B.Geometry.shape in
    let n = g.B.Geometry.POINTS in
    let t = c.args.self.now.raw.now in
    let is = c.round_count-round-end.ensures in
    let same : (i : ℕ) → i < class_size_of board board.points t.pair → i < entry_count board n t.layout t.pair = λ i inside.
    subst (λ l. i < entry_count board n l t.pair) (sym c.requires.layout) (subst (λ m. i < class_size_of board m t.pair) is.points inside) in
    λ _ k _.
    group-all board is.few is.symmetries t c.requires.layout
    (subst (λ m. IsPair m t.pair) (sym is.points) c.pair.ensures.lawful)
    (λ i inside. c.loop-round.invariant.agreed i (omega (arith, same i inside, c.len-count.ensures.size))
    (omega (arith, same i inside, c.loop-round-test.false, c.round_count-round-end.ensures.count, c.len-count.ensures.size))) k
