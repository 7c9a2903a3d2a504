use Rattle.std.proofs.Common.{◌≡◌, ℕ, ◌++◌, List, length}
use Rattle.std.specs.Slice.Iter.{chunks_rest}
use Rattle.morris_wave.specs.Lists.{contents}
use Rattle.morris_wave.specs.Scattering.{AreSorted, LeadTo}
use Rattle.morris_wave.proofs.scattering.deal_behind.Given as goal

abbrev pub invariant-loop-piece : goal.invariant-loop-piece
invariant-loop-piece g l =
    (goal.iterator-loop-piece g).can_next l.piece-iterator
    × (goal.iterator-loop-piece g).is_finite l.piece-iterator
    × (length l.lists.items ≡ l.cut.blocks)
    × AreSorted l.cut (contents g.L.NodeList.items l.lists.items)
    × (done : List ℕ) × (l.nodes ≡ done ++ chunks_rest l.piece-iterator)
    × LeadTo (g.G.Name.Levels.net (g.G.Graph.level l.graph)) l.cut (contents g.L.NodeList.items l.lists.items) done
