use Rattle.std.proofs.Common.{◌≡◌, ℕ, ◌%◌, slice_index, refl, ap, ◌∙◌, arith}
use Rattle.morris_pairs.specs.NumberedRows.{count_at}
use Rattle.morris_pairs.specs.Rows.{arrivals}
use Rattle.morris_pairs.proofs.NumberedLaws.{counts_none}
use Rattle.morris_pairs.proofs.SetLaws.{counted_more, none_more}
use Rattle.morris_pairs.proofs.set_moves.SetMoves.of.Goals as goal

pub loop-point-init : goal.loop-point-init
loop-point-init g c = record {
  each = λ v low. absurd (omega (arith, low));
  none = λ v high. counts_none _ refl refl refl refl v;
}

pub with-arrivals-requires-clause-none : goal.with-arrivals-requires-clause-none
with-arrivals-requires-clause-none g c = c.loop-point.invariant.none c.loop-point.point (omega arith)

pub loop-point-preserved : goal.loop-point-preserved
loop-point-preserved g c =
    let inv = c.loop-point.invariant in
    let point : ℕ = c.loop-point.point in
    let f : ℕ → ℕ = λ v. arrivals g.B.Geometry.shape c.args.own v % 16 in
    let tabled : ℕ → ℕ = count_at c.loop-point.arrivals in
    let next : ℕ → ℕ = count_at c.with-arrivals.result in
    let is : slice_index c.of-row.result.arrivals point % 16 ≡ f point = ap (λ k. k % 16) (c.of-row.ensures.row.each point (omega arith) ∙ ap (λ o. arrivals g.B.Geometry.shape o point) c.of-row.ensures.own) in
    record {
      each = counted_more f tabled next point _ c.with-arrivals.ensures inv.none is inv.each;
      none = none_more f tabled next point _ c.with-arrivals.ensures inv.none;
    }
