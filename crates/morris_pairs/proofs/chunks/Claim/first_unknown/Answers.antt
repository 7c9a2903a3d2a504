use Rattle.std.proofs.Common.{◌≡◌, ℕ, ◌<◌, true, false, slice_index_or, subst, arith}
use Rattle.morris_pairs.proofs.SharingLaws.{marked-known}
use Rattle.morris_pairs.proofs.chunks.Claim.first_unknown.Goals as goal

pub overflow_add-result : goal.overflow_add-result
overflow_add-result g c = omega (arith, c.first_unset.ensures.inside, c.deref-2.ensures.len, c.loop-worker.invariant.len, c.requires.order, c.ranges.end.fits)

pub returns-clause-known : goal.returns-clause-known
returns-clause-known g c =
    marked-known g.B.Geometry.shape g.B.Geometry.POINTS c.args.self.now.raw.now c.args.grouping c.args.first c.loop-worker.marks.items c.first_unset.result
    c.loop-worker.invariant.marked (subst (λ xs. (i : ℕ) → i < c.first_unset.result → slice_index_or xs i false ≡ true) c.deref-2.ensures.value c.first_unset.ensures.before)
