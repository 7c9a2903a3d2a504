-- Each ring is looked up, and moved to where the numbers of its free points begin.
use Rattle.std.proofs.Common.{◌/◌, ◌%◌, ◌∙◌, ap, ap₂, arith}
use Rattle.morris_index.specs.Parts.{squeeze_below}
use Rattle.morris_index.proofs.RankLaws.{number-count}
use Rattle.morris_index.proofs.RingLaws.{rings_sum, rings_low}
use Rattle.morris_index.proofs.rings.RingTable.squeeze.Goals as goal

pub overflow_shl-second : goal.overflow_shl-second
overflow_shl-second c = omega (arith, c.outside.invariant.0, number-count c.outside.inside.points 8)

pub overflow_shl-third : goal.overflow_shl-third
overflow_shl-third c = omega (arith, c.outside.invariant.1, number-count c.outside.inside.points 16)

pub overflow_add-first : goal.overflow_add-first
overflow_add-first c =
    let low =
    rings_low c.outside.inside.points c.args.set c.ring-first.result c.ring-second.result c.ring-third.result c.outside.inside.second c.outside.inside.third c.requires
    (c.ring-first.ensures.value ∙ ap₂ (λ o s. squeeze_below (o % 256) (s % 256) 8) c.mask-taken.ensures c.mask-points.ensures)
    (c.ring-second.ensures.value ∙ ap₂ (λ o s. squeeze_below (o / 256 % 256) (s / 256 % 256) 8) c.mask-taken.ensures c.mask-points.ensures)
    (c.ring-third.ensures.value ∙ ap₂ (λ o s. squeeze_below (o / 65536 % 256) (s / 65536) 8) c.mask-taken.ensures c.mask-points.ensures)
    c.outside.invariant.0 c.outside.invariant.1 in
    omega (arith, low)

pub overflow_add-first-2 : goal.overflow_add-first-2
overflow_add-first-2 c =
    let low =
    rings_low c.outside.inside.points c.args.set c.ring-first.result c.ring-second.result c.ring-third.result c.outside.inside.second c.outside.inside.third c.requires
    (c.ring-first.ensures.value ∙ ap₂ (λ o s. squeeze_below (o % 256) (s % 256) 8) c.mask-taken.ensures c.mask-points.ensures)
    (c.ring-second.ensures.value ∙ ap₂ (λ o s. squeeze_below (o / 256 % 256) (s / 256 % 256) 8) c.mask-taken.ensures c.mask-points.ensures)
    (c.ring-third.ensures.value ∙ ap₂ (λ o s. squeeze_below (o / 65536 % 256) (s / 65536) 8) c.mask-taken.ensures c.mask-points.ensures)
    c.outside.invariant.0 c.outside.invariant.1 in
    omega (arith, low)

pub returns : goal.returns
returns c =
    c.from_mask.ensures
    ∙ rings_sum c.outside.inside.points c.args.set c.ring-first.result c.ring-second.result c.ring-third.result c.outside.inside.second c.outside.inside.third c.requires
    (c.ring-first.ensures.value ∙ ap₂ (λ o s. squeeze_below (o % 256) (s % 256) 8) c.mask-taken.ensures c.mask-points.ensures)
    (c.ring-second.ensures.value ∙ ap₂ (λ o s. squeeze_below (o / 256 % 256) (s / 256 % 256) 8) c.mask-taken.ensures c.mask-points.ensures)
    (c.ring-third.ensures.value ∙ ap₂ (λ o s. squeeze_below (o / 65536 % 256) (s / 65536) 8) c.mask-taken.ensures c.mask-points.ensures)
    c.outside.invariant.0 c.outside.invariant.1
    ∙ ap (λ o. squeeze_below o c.args.set 24) c.outside.view_is
