use Rattle.std.proofs.Common.{◌≡◌, ◌-◌, ◌∙◌, ap, arith}
use Rattle.morris_board.specs.Sets.{has, count_of}
use Rattle.morris_index.specs.Parts.{part_rank}
use Rattle.morris_index.proofs.RankLaws.{count_below}
use Rattle.morris_index.proofs.SetLaws.{count_of-below}
use Rattle.morris_index.proofs.rank_tables.upper_rank.Goals as goal

pub returns-then-own-count : goal.returns-then-own-count
returns-then-own-count c = λ few.
    let own : c.count-own.result ≡ count_below (has c.args.points) 12 =
    c.count-own.ensures.value ∙ ap count_of c.from_mask.ensures ∙ count_of-below c.args.points 12 c.requires.points (omega arith) in
    absurd (omega (arith, own, few))

pub returns : goal.returns
returns c = λ few.
    let own : c.count-own.result ≡ count_below (has c.args.points) 12 =
    c.count-own.ensures.value ∙ ap count_of c.from_mask.ensures ∙ count_of-below c.args.points 12 c.requires.points (omega arith) in
    c.half_rank.ensures (omega (arith, own, few)) ∙ ap (λ k. part_rank 12 12 (c.args.count - k) c.args.points) own
