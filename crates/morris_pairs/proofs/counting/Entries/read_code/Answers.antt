use Rattle.std.proofs.Common.{arith}
use Rattle.morris_pairs.proofs.counting.Entries.read_code.Goals as goal

pub read_code-requires : goal.read_code-requires
read_code-requires g c = omega (arith, rw (← c.self.view_is) at c.requires, c.self.invariant)
