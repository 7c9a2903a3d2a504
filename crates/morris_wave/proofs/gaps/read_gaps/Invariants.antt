use Rattle.std.proofs.Common.{◌≡◌, ◌+◌, ◌*◌, ◌≤◌, ◌++◌, length, drop}
use Rattle.morris_wave.specs.Gaps.{numbers_reported, next_reported}
use Rattle.morris_wave.proofs.gaps.read_gaps.Given as goal

abbrev pub invariant-loop-gap : goal.invariant-loop-gap
invariant-loop-gap g l =
    (numbers_reported l.from l.gaps ≡ g.L.NodeList.items l.nodes ++ numbers_reported l.next (drop l.gap-index l.gaps))
    × (next_reported l.from l.gaps ≡ next_reported l.next (drop l.gap-index l.gaps))
    × (l.next ≤ l.from + 65536 * l.gap-index)
    × (length (g.L.NodeList.items l.nodes) ≤ l.gap-index)
    × (256 ≤ g.L.NodeList.capacity l.nodes)
