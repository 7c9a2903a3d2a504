use Rattle.std.proofs.Common.{◌∙◌}
use Rattle.morris_moves.proofs.MaskLaws.{in_mill-lines}
use Rattle.morris_moves.proofs.rules.in_mill.Goals as goal

pub returns-then-is_subset : goal.returns-then-is_subset
returns-then-is_subset g c =
    let e = in_mill-lines g.B.Geometry.shape c.args.stones c.args.point c.mills_through-first.result.0 c.mills_through-first.result.1 c.mills_through-first.ensures in
    c.if-is_subset.true ∙ (rw (← c.is_subset.ensures, c.if-is_subset.true) at e)

pub returns-else-is_subset : goal.returns-else-is_subset
returns-else-is_subset g c =
    let e = in_mill-lines g.B.Geometry.shape c.args.stones c.args.point c.mills_through-first.result.0 c.mills_through-first.result.1 c.mills_through-first.ensures in
    rw (← c.is_subset.ensures, c.if-is_subset.false, ← c.is_subset-else-is_subset.ensures) at e
