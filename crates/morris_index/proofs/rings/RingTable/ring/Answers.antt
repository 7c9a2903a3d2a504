use Rattle.std.proofs.Common.{◌+◌, ◌*◌, ◌∙◌, arith}
use Rattle.std.proofs.lemmas.Grind.{get_or_default_zero}
use Rattle.std.proofs.Math.Nat.{pow-le-pow_right}
use Rattle.morris_index.specs.Numbering.{number_outside}
use Rattle.morris_index.proofs.RankLaws.{number-count}
use Rattle.morris_index.proofs.RingLaws.{squeezed_lt}
use Rattle.morris_index.proofs.rings.RingTable.ring.Goals as goal

pub returns-clause-value : goal.returns-clause-value
returns-clause-value c =
    let table = c.args.self.now.full in
    c.from.ensures
    ∙ c.index.ensures
    ∙ get_or_default_zero c.args.self.now.rings.items (c.args.outside * 256 + c.args.points) _ (omega (arith, table.len, c.requires.outside, c.requires.points))
    ∙ table.each c.args.outside c.args.points c.requires.outside c.requires.points

pub returns-clause-small : goal.returns-clause-small
returns-clause-small c =
    omega (
      arith,
      returns-clause-value c,
      squeezed_lt c.args.outside c.args.points 8,
      pow-le-pow_right {n = 2} (omega arith) {i = number_outside c.args.outside 8} {j = 8} (omega (arith, number-count c.args.outside 8)),
    )
