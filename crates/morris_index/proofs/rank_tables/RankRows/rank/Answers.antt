-- Each half is looked up, the second in the row of the number of points below it.
use Rattle.std.proofs.Common.{◌≡◌, ◌+◌, ◌-◌, ◌≤◌, ◌/◌, ◌%◌, ◌∙◌, sym, ap, ap₂, slice_index, arith}
use Rattle.morris_board.specs.Sets.{has, count_of}
use Rattle.morris_index.specs.Parts.{part_rank}
use Rattle.morris_index.proofs.RankLaws.{count_below}
use Rattle.morris_index.proofs.Following.{rank_set}
use Rattle.morris_index.proofs.RankTables.{rank-halves, count-halves, few_lower}
use Rattle.morris_index.proofs.rank_tables.RankRows.rank.Goals as goal

pub returns : goal.returns
returns c =
    let rows = c.self.invariant in
    let counted : count_of c.args.set ≡ c.self.inside.count = c.requires.counted ∙ sym c.self.view_is in
    let few : count_of c.args.set ≤ 9 = omega (arith, counted, rows.few) in
    let both = count-halves c.args.set c.requires.board few in
    let low : c.mask-lower.result % 4096 ≡ c.args.set % 4096 = ap (λ m. m % 4096) c.mask-lower.ensures in
    let at : c.mask-upper.result / 4096 ≡ c.args.set / 4096 = ap (λ m. m / 4096) c.mask-upper.ensures in
    let place : c.self.inside.count - count_below (has (c.args.set / 4096)) 12 ≡ count_below (has c.args.set) 12 = omega (arith, both, counted) in
    let lower : slice_index c.self.inside.lower.now (c.mask-lower.result % 4096) ≡ part_rank 0 12 0 (c.args.set % 4096) =
    ap (λ k. slice_index c.self.inside.lower.now k) low
    ∙ rows.lower (c.args.set % 4096) (omega arith) (few_lower c.args.set c.requires.board few) in
    let upper : slice_index c.self.inside.upper.now (c.mask-upper.result / 4096) ≡ part_rank 12 12 (count_below (has c.args.set) 12) (c.args.set / 4096) =
    ap (λ k. slice_index c.self.inside.upper.now k) at
    ∙ rows.upper (c.args.set / 4096) (omega (arith, c.requires.board)) (omega (arith, both, counted))
    ∙ ap (λ k. part_rank 12 12 k (c.args.set / 4096)) place in
    ap₂ (λ a b. a + b) (c.from.ensures ∙ lower) (c.from-2.ensures ∙ upper)
    ∙ sym (rank-halves c.args.set c.requires.board)
    ∙ sym (rank_set 24 0 (omega arith) c.args.set c.requires.board)
