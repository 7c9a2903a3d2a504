use Rattle.std.proofs.Common.{◌∙◌, sym, ap, map, arith}
use Rattle.morris_board.specs.Sets.{members, count_of}
use Rattle.morris_index.specs.Numbering.{rank_of, number_outside}
use Rattle.morris_index.proofs.NumberLaws.{numbers_count}
use Rattle.morris_index.proofs.Squeezing.{squeeze-24, squeeze-rank}
use Rattle.morris_index.proofs.rank_tables.RankTable.rank_outside.Goals as goal

pub rank-requires-clause-board : goal.rank-requires-clause-board
rank-requires-clause-board c = rw c.squeeze.ensures (squeeze-24 c.args.outside c.args.set c.requires.apart 24 (omega arith))

pub rank-requires-clause-counted : goal.rank-requires-clause-counted
rank-requires-clause-counted c =
    ap count_of c.squeeze.ensures ∙ numbers_count c.args.outside c.args.set c.requires.apart 24 (omega arith) c.requires.board ∙ sym c.requires.counted ∙ sym c.rows.ensures

pub rows-requires : goal.rows-requires
rows-requires c = omega (arith, c.requires.counted, c.requires.few)

pub returns : goal.returns
returns c =
    c.rank.ensures
    ∙ ap (λ s. rank_of (map (number_outside 0) (members s))) c.squeeze.ensures
    ∙ squeeze-rank c.args.outside c.args.set c.requires.apart c.requires.board
