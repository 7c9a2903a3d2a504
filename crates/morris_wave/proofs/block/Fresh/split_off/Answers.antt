use Rattle.std.proofs.Common.{◌≡◌, ◌<◌, length, get_or, ap, arith}
use Rattle.std.proofs.lemmas.List.{get_or_read}
use Rattle.morris_wave.specs.Batches.{FreshState}
use Rattle.morris_wave.proofs.Pieces.{rest_holds, piece_holds}
use Rattle.morris_wave.proofs.block.Fresh.split_off.Goals as goal

pub invariant_of-result : goal.invariant_of-result
invariant_of-result g c =
    let nodes = c.self.inside.nodes.items in
    let within : c.args.place < length nodes = omega (arith, c.requires.inside, ap (λ (t : FreshState). length t.nodes) c.self.view_is) in
    let low : c.index-low.result.now ≡ get_or nodes c.args.place 0 = get_or_read nodes c.args.place c.index-low.result.now within c.index-low.ensures 0 in
    rw (c.in_ok-nodes.ensures.tail, low) (piece_holds (g.N.Levels.net c.self.inside.level) _ c.self.invariant c.args.place c.requires.some within)

pub invariant_of-self-2 : goal.invariant_of-self-2
invariant_of-self-2 g c =
    let nodes = c.self.inside.nodes.items in
    let within : c.args.place < length nodes = omega (arith, c.requires.inside, ap (λ (t : FreshState). length t.nodes) c.self.view_is) in
    let low : c.index-low.result.now ≡ get_or nodes c.args.place 0 = get_or_read nodes c.args.place c.index-low.result.now within c.index-low.ensures 0 in
    rw (c.in_ok-nodes.ensures.items, low) (rest_holds (g.N.Levels.net c.self.inside.level) _ c.self.invariant c.args.place c.requires.some within)
