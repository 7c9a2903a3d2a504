use Rattle.std.proofs.Common.{◌≡◌, ℕ, [], length}
use Rattle.morris_wave.specs.Lists.{contents, list_at}
use Rattle.morris_wave.proofs.scattering.no_lists.Given as goal

abbrev pub invariant-loop : goal.invariant-loop
invariant-loop g l = (length l.lists.items ≡ l.counter) × ((t : ℕ) → list_at (contents g.L.NodeList.items l.lists.items) t ≡ [])
