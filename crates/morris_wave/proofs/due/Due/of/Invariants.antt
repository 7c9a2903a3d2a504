use Rattle.std.proofs.Common.{◌≡◌, ◌+◌, ◌≤◌, length, slice_index}
use Rattle.std.specs.List.{All}
use Rattle.morris_wave.specs.GapLists.{nodes_of}
use Rattle.morris_wave.specs.Lists.{contents}
use Rattle.morris_wave.specs.NodeRanges.{ListsDue}
use Rattle.morris_wave.proofs.due.Due.of.Given as goal

abbrev pub invariant-loop-place : goal.invariant-loop-place
invariant-loop-place l =
    (length l.lists.items ≡ length l.initial.lists.items)
    × All (λ list. list.next ≤ l.first + l.place) l.lists.items
    × ListsDue (λ k. slice_index l.waves k) 0 l.first l.place (contents nodes_of l.lists.items)
