use Rattle.std.proofs.Common.{◌≡◌, length, take}
use Rattle.morris_wave.specs.Lists.{contents}
use Rattle.morris_wave.specs.Scattering.{AreSorted, Deals}
use Rattle.morris_wave.proofs.scattering.deal.Given as goal

abbrev pub invariant-loop-node : goal.invariant-loop-node
invariant-loop-node g l =
    (length l.lists.items ≡ length l.initial.lists.items)
    × AreSorted l.finder.cut (contents g.L.NodeList.items l.lists.items)
    × Deals l.finder.cut (contents g.L.NodeList.items l.initial.lists.items) (contents g.L.NodeList.items l.lists.items) (take l.node-index l.nodes)
