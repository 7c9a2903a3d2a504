use Rattle.std.proofs.Common.{◌≡◌, ℕ, ◌+◌, ◌%◌, ◌≤◌, suc, false, slice_index, sym, ap, ◌∙◌, arith, refl}
use Rattle.morris_board.specs.Sets.{has}
use Rattle.morris_index.specs.Numbering.{number_outside}
use Rattle.morris_index.proofs.RankLaws.{number-zero, number-outside, number-inside}
use Rattle.morris_board.proofs.PointsLaws.{has-none}
use Rattle.morris_pairs.specs.NumberedRows.{count_at}
use Rattle.morris_pairs.specs.Rows.{arrivals}
use Rattle.morris_pairs.proofs.NumberedLaws.{number_low, each-free, each-own, none-above, counts_none, marked-free, marked-own, above-free}
use Rattle.morris_pairs.proofs.numbered_row.NumberedRow.of.Goals as goal
use Rattle.morris_pairs.proofs.numbered_row.NumberedRow.of.Goals.{then-not-has, else-not-has}

pub loop-point-init : goal.loop-point-init
loop-point-init g c = record {
  numbered = sym (number-zero c.args.row.now.own);
  each = λ v h. absurd (omega arith);
  none = λ k h. counts_none _ refl refl refl refl k;
  closing = λ v h. absurd (omega arith);
  above = λ k h. has-none k;
}

pub loop-point-preserved : goal.loop-point-preserved
loop-point-preserved g c =
    let own = c.args.row.now.own in
    let point = c.loop-point.point in
    let number = c.loop-point.number in
    let inv = c.loop-point.invariant in
    let step : suc point ≡ point + 1 = omega arith in
    let arrive : slice_index c.args.row.now.arrivals point ≡ arrivals g.B.Geometry.shape own point = c.requires.each point (omega arith) in
    let above : (k : ℕ) → number_outside own point ≤ k → has c.loop-point.closing k ≡ false = λ k h. inv.above k (omega (arith, inv.numbered, h)) in
    record {
      numbered = elim c.if-not-has.branch [
        | then-not-has w ↦ omega (arith, w.number-is, inv.numbered, number-outside own point (sym c.has.ensures ∙ w.if-not-has.true), ap (number_outside own) step)
        | else-not-has w ↦ omega (arith, w.number-is, inv.numbered, number-inside own point (sym c.has.ensures ∙ w.if-not-has.false), ap (number_outside own) step)
      ];
      each = elim c.if-not-has.branch [
        | then-not-has w ↦ rw w.arrivals-is
            (each-free own (λ v. arrivals g.B.Geometry.shape own v % 16) (count_at c.loop-point.arrivals) point inv.each number _ (count_at w.with-arrivals.result)
            inv.numbered (inv.none number (omega arith)) w.with-arrivals.ensures (omega (arith, arrive)))
        | else-not-has w ↦ rw w.arrivals-is
            (each-own own (λ v. arrivals g.B.Geometry.shape own v % 16) (count_at c.loop-point.arrivals) point inv.each (sym c.has.ensures ∙ w.if-not-has.false))
      ];
      none = elim c.if-not-has.branch [
        | then-not-has w ↦ rw (w.arrivals-is, w.number-is)
            (none-above (count_at c.loop-point.arrivals) (count_at w.with-arrivals.result) number _ inv.none w.with-arrivals.ensures)
        | else-not-has w ↦ rw (w.arrivals-is, w.number-is) inv.none
      ];
      closing = elim c.if-not-has.branch [
        | then-not-has w ↦ rw w.closing-is
            (marked-free own (has c.args.row.now.closing) c.loop-point.closing point inv.closing above number w.with_where-closing.result w.has-then-not-has.result inv.numbered
            w.with_where-closing.ensures w.has-then-not-has.ensures)
        | else-not-has w ↦ rw w.closing-is
            (marked-own own (has c.args.row.now.closing) c.loop-point.closing point inv.closing above (sym c.has.ensures ∙ w.if-not-has.false))
      ];
      above = elim c.if-not-has.branch [
        | then-not-has w ↦ rw (w.closing-is, w.number-is)
            (above-free own (has c.args.row.now.closing) c.loop-point.closing point inv.closing above number w.with_where-closing.result w.has-then-not-has.result inv.numbered
            w.with_where-closing.ensures)
        | else-not-has w ↦ rw (w.closing-is, w.number-is) inv.above
      ];
    }

pub with-arrivals-requires-clause-number : goal.with-arrivals-requires-clause-number
with-arrivals-requires-clause-number g c = omega (arith, number_low c.args.row.now.own c.loop-point.point, c.loop-point.invariant.numbered, g.met.B.Geometry.few)

pub with-arrivals-requires-clause-none : goal.with-arrivals-requires-clause-none
with-arrivals-requires-clause-none g c = c.loop-point.invariant.none c.loop-point.number (omega arith)

pub with_where-closing-requires : goal.with_where-closing-requires
with_where-closing-requires g c = omega (arith, number_low c.args.row.now.own c.loop-point.point, c.loop-point.invariant.numbered, g.met.B.Geometry.few)

pub overflow_add-number : goal.overflow_add-number
overflow_add-number g c = omega (arith, number_low c.args.row.now.own c.loop-point.point, c.loop-point.invariant.numbered, g.met.B.Geometry.few)
