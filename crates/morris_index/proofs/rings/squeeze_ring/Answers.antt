-- Each point of the set that is free adds the mask of its number.
use Rattle.std.proofs.Common.{◌≡◌, ◌+◌, true, false, not, ◌&&◌, sym, ap, ◌∙◌, arith}
use Rattle.morris_board.specs.Sets.{has}
use Rattle.morris_index.specs.Numbering.{number_outside}
use Rattle.morris_index.proofs.RankLaws.{number-count}
use Rattle.morris_index.proofs.RingLaws.{squeeze-with, squeeze-without, squeezed_fits}
use Rattle.morris_index.proofs.Squeezing.{mask-none}
use Rattle.morris_index.proofs.rings.squeeze_ring.Goals as goal
use Rattle.morris_index.proofs.rings.squeeze_ring.Goals.{then-has, else-has}

pub loop-point-init : goal.loop-point-init
loop-point-init c = sym (mask-none c.args.outside c.args.points)

pub overflow_shl-squeeze : goal.overflow_shl-squeeze
overflow_shl-squeeze c = omega (arith, c.number_outside.ensures, number-count c.from_mask-taken.result c.loop-point.point)

pub overflow_add-squeeze : goal.overflow_add-squeeze
overflow_add-squeeze c =
    let free : (has c.args.points c.loop-point.point && not (has c.args.outside c.loop-point.point)) ≡ true =
    rw (← c.from_mask.ensures, ← c.from_mask-taken.ensures, ← c.difference-set.ensures c.loop-point.point, ← c.has.ensures) c.if-has.true in
    let next = squeeze-with c.args.outside c.args.points c.loop-point.point c.number_outside.result c.loop-point.squeeze (omega arith) c.loop-point.invariant free
    (c.number_outside.ensures ∙ ap (λ o. number_outside o c.loop-point.point) c.from_mask-taken.ensures) in
    omega (arith, next, squeezed_fits c.args.outside c.args.points (c.loop-point.point + 1) (omega arith))

pub loop-point-preserved : goal.loop-point-preserved
loop-point-preserved c = elim c.if-has.branch [
  | then-has w ↦
      let free : (has c.args.points c.loop-point.point && not (has c.args.outside c.loop-point.point)) ≡ true =
      rw (← c.from_mask.ensures, ← c.from_mask-taken.ensures, ← c.difference-set.ensures c.loop-point.point, ← c.has.ensures) w.if-has.true in
      w.squeeze-is
      ∙ squeeze-with c.args.outside c.args.points c.loop-point.point w.number_outside.result c.loop-point.squeeze (omega arith) c.loop-point.invariant free
      (w.number_outside.ensures ∙ ap (λ o. number_outside o c.loop-point.point) c.from_mask-taken.ensures)
  | else-has w ↦
      let free : (has c.args.points c.loop-point.point && not (has c.args.outside c.loop-point.point)) ≡ false =
      rw (← c.from_mask.ensures, ← c.from_mask-taken.ensures, ← c.difference-set.ensures c.loop-point.point, ← c.has.ensures) w.if-has.false in
      w.squeeze-is ∙ squeeze-without c.args.outside c.args.points c.loop-point.point c.loop-point.squeeze c.loop-point.invariant free
]
