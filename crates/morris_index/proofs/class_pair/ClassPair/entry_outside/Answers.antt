-- A rank is far less than a number of 64 bits has room for.
use Rattle.std.proofs.Common.{arith}
use Rattle.morris_index.proofs.SumLaws.{rank-small}
use Rattle.morris_index.proofs.class_pair.ClassPair.entry_outside.Goals as goal

pub overflow_add-result : goal.overflow_add-result
overflow_add-result g c = omega (arith, c.requires.start, c.rank_outside.ensures, rank-small c.args.outside c.args.set c.requires.board)
