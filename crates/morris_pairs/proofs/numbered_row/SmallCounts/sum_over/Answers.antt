use Rattle.std.proofs.Common.{arith}
use Rattle.morris_board.specs.Sets.{members}
use Rattle.morris_pairs.proofs.NumberedLaws.{count_common, sum_digits}
use Rattle.morris_pairs.proofs.numbered_row.SmallCounts.sum_over.Goals as goal

pub returns : goal.returns
returns c =
    omega (
      arith,
      count_common c.args.numbers c.args.self.ones c.intersection.result c.intersection.ensures,
      count_common c.args.numbers c.args.self.twos c.intersection-2.result c.intersection-2.ensures,
      count_common c.args.numbers c.args.self.fours c.intersection-3.result c.intersection-3.ensures,
      count_common c.args.numbers c.args.self.eights c.intersection-4.result c.intersection-4.ensures,
      sum_digits c.args.self (members c.args.numbers),
    )
