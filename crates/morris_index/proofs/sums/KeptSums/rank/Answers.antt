use Rattle.std.proofs.Common.{arith}
use Rattle.morris_index.proofs.SumLaws.{differ, rank_down, rank_up, rank-few}
use Rattle.morris_index.proofs.sums.KeptSums.rank.Goals as goal

pub overflow_add-result : goal.overflow_add-result
overflow_add-result c = omega (arith, c.moved_end.ensures.few, rank-few 1 c.args.outside c.args.set c.args.self.now c.requires.sums)

pub overflow_sub-result : goal.overflow_sub-result
overflow_sub-result c = omega (arith, c.moved_end.ensures.value, c.moved_end-then-to-from.ensures.value, rank_down c.args.outside c.args.set c.args.to c.args.from c.requires.board c.requires.end c.requires.start c.requires.to c.requires.from c.args.self.now c.requires.sums c.if-to-from.true)

pub returns-then-to-from : goal.returns-then-to-from
returns-then-to-from c = omega (arith, c.moved_end.ensures.value, c.moved_end-then-to-from.ensures.value, rank_down c.args.outside c.args.set c.args.to c.args.from c.requires.board c.requires.end c.requires.start c.requires.to c.requires.from c.args.self.now c.requires.sums c.if-to-from.true)

pub overflow_add-result-else-to-from : goal.overflow_add-result-else-to-from
overflow_add-result-else-to-from c = omega (arith, c.moved_end-else-to-from.ensures.few, rank-few 1 c.args.outside c.args.set c.args.self.now c.requires.sums)

pub overflow_sub-result-else-to-from : goal.overflow_sub-result-else-to-from
overflow_sub-result-else-to-from c = omega (arith, c.moved_end-else-to-from.ensures.value, c.moved_end-else-to-from-2.ensures.value, rank_up c.args.outside c.args.set c.args.to c.args.from c.requires.board c.requires.end c.requires.start c.requires.to c.requires.from c.args.self.now c.requires.sums (differ c.args.set c.args.to c.args.from c.requires.end c.requires.start c.if-to-from.false))

pub returns-else-to-from : goal.returns-else-to-from
returns-else-to-from c = omega (arith, c.moved_end-else-to-from.ensures.value, c.moved_end-else-to-from-2.ensures.value, rank_up c.args.outside c.args.set c.args.to c.args.from c.requires.board c.requires.end c.requires.start c.requires.to c.requires.from c.args.self.now c.requires.sums (differ c.args.set c.args.to c.args.from c.requires.end c.requires.start c.if-to-from.false))
