use Rattle.std.proofs.Common.{◌<◌, ◌+◌, ◌++◌, ◌∷◌, ℕ, List, ap, ◌∙◌, subst, drop, length, slice_index, length-append, get_or-append-add, arith}
use Rattle.std.specs.List.{All}
use Rattle.std.proofs.lemmas.List.{drop_more}
use Rattle.morris_wave.specs.Gaps.{numbers_reported}
use Rattle.morris_wave.proofs.GapLists.{reported_near}
use Rattle.morris_wave.proofs.gaps.read_gaps.Goals as goal

pub put_last-requires-clause-node : goal.put_last-requires-clause-node
put_last-requires-clause-node g c =
    let i = c.loop-gap.gap-index in
    let next = c.loop-gap.next in
    let gaps = c.args.gaps.now in
    let gap = slice_index gaps i in
    let items = g.L.NodeList.items c.loop-gap.nodes in
    let rest = numbers_reported (next + gap + 1) (drop (i + 1) gaps) in
    let all : All (λ k. k < g.L.NodeList.limit) (items ++ (next + gap) ∷ rest) =
    subst (λ (xs : List ℕ). All (λ k. k < g.L.NodeList.limit) xs)
    (c.loop-gap.invariant.0 ∙ ap (λ (xs : List ℕ). items ++ xs) (ap (numbers_reported next) (drop_more gaps i 0 c.loop-gap-test.true) ∙ reported_near next gap (drop (i + 1) gaps) c.if-gap.true)) c.requires.short in
    omega (arith, all (length items + 0) 0 (omega (arith, length-append items ((next + gap) ∷ rest))), get_or-append-add items ((next + gap) ∷ rest) 0 0, c.from-next.ensures)
