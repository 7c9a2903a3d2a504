use Rattle.morris_pairs.proofs.NumberedLaws.{counts_more}
use Rattle.morris_pairs.proofs.numbered_row.SmallCounts.with.Goals as goal

pub returns : goal.returns
returns c =
    counts_more c.args.self (record {
      ones = c.with_where.result;
      twos = c.with_where-2.result;
      fours = c.with_where-3.result;
      eights = c.with_where-4.result;
    }) c.args.number c.args.count c.requires.none c.with_where.ensures c.with_where-2.ensures c.with_where-3.ensures c.with_where-4.ensures
