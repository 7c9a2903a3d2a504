use Rattle.std.proofs.Common.{◌≡◌, ◌≤◌, ℕ, [], length}
use Rattle.std.specs.List.{All}
use Rattle.morris_wave.specs.GapLists.{nodes_of}
use Rattle.morris_wave.specs.Lists.{contents, list_at}
use Rattle.morris_wave.proofs.due.empty_lists.Given as goal

abbrev pub invariant-loop-count : goal.invariant-loop-count
invariant-loop-count l =
    (length l.lists.items ≡ l.count-index)
    × ((n : ℕ) → list_at (contents nodes_of l.lists.items) n ≡ [])
    × All (λ list. list.next ≤ l.first) l.lists.items
