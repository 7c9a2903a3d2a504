use Rattle.std.proofs.Common.{◌≡◌, ◌+◌, ◌*◌}
use Rattle.morris_wave.specs.GapLists.{nodes_of}
use Rattle.morris_wave.proofs.gaps.Gaps.put.Given as goal

abbrev pub invariant-loop : goal.invariant-loop
invariant-loop l = (nodes_of l.self ≡ nodes_of l.initial.self) × (l.self.next ≡ l.initial.self.next + 65535 * l.counter)
