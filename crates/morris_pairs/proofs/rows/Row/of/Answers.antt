use Rattle.std.proofs.Common.{◌≡◌, ℕ, ◌+◌, ◌&&◌, suc, sym, ap, ◌∙◌, arith, refl}
use Rattle.std.proofs.lemmas.List.{length-set}
use Rattle.morris_board.specs.Sets.{has}
use Rattle.morris_index.proofs.Moving.{total, total-zero, total-suc}
use Rattle.morris_pairs.specs.Rows.{arrivals, may_close, is_closing_end}
use Rattle.morris_pairs.proofs.ComerLaws.{count-quiet, closing-some, closing-none, holds_more}
use Rattle.morris_pairs.proofs.RowLaws.{each_more, below-start, below-yes, below-no, some_mask, no_mask}
use Rattle.morris_pairs.proofs.rows.Row.of.Goals as goal
use Rattle.morris_pairs.proofs.rows.Row.of.Goals.{then-ne, else-ne}

pub loop-to-init : goal.loop-to-init
loop-to-init g c = record {
  len = refl;
  each = λ v h. absurd (omega arith);
  all = sym (total-zero (arrivals g.B.Geometry.shape c.args.own));
  few = omega arith;
  closers_len = refl;
  closers = λ v h. absurd (omega arith);
  closing = below-start (may_close g.B.Geometry.shape c.args.own);
}

pub loop-to-preserved : goal.loop-to-preserved
loop-to-preserved g c =
    let step : suc c.loop-to.to ≡ c.loop-to.to + 1 = omega arith in
    let counted : c.from-count.result ≡ arrivals g.B.Geometry.shape c.args.own c.loop-to.to =
    omega (
      arith,
      c.from-count.ensures,
      c.count.ensures.value,
      count-quiet g.B.Geometry.shape c.args.own c.loop-to.to c.arrivals_and_closers-quiet.result.0 c.arrivals_and_closers-quiet.ensures.quiet,
    ) in
    let cache : (u : ℕ) → has c.mask.result u ≡ (has c.args.own u && is_closing_end g.B.Geometry.shape c.args.own u c.loop-to.to) =
    λ u. ap (λ s. has s u) c.mask.ensures ∙ c.arrivals_and_closers-quiet.ensures.closing u in
    record {
      len = length-set c.loop-to.arrivals c.loop-to.to c.from-count.result ∙ c.loop-to.invariant.len;
      each = each_more (arrivals g.B.Geometry.shape c.args.own) c.loop-to.arrivals c.loop-to.to c.from-count.result
          (omega (arith, c.loop-to.invariant.len, g.met.B.Geometry.few)) counted c.loop-to.invariant.each;
      all = omega (
        arith,
        c.loop-to.invariant.all,
        counted,
        total-suc (arrivals g.B.Geometry.shape c.args.own) c.loop-to.to,
        ap (total (arrivals g.B.Geometry.shape c.args.own)) step,
      );
      few = omega (arith, c.loop-to.invariant.few, c.count.ensures.few, c.from-count.ensures);
      closers_len = length-set c.loop-to.closers c.loop-to.to c.mask.result ∙ c.loop-to.invariant.closers_len;
      closers = holds_more (λ v x. (u : ℕ) → has x u ≡ (has c.args.own u && is_closing_end g.B.Geometry.shape c.args.own u v)) c.loop-to.closers c.loop-to.to c.mask.result
          (omega (arith, c.loop-to.invariant.closers_len, g.met.B.Geometry.few)) cache c.loop-to.invariant.closers;
      closing = elim c.if-ne.branch [
        | then-ne w ↦
            rw (w.closing-is, w.with-closing.ensures)
            (below-yes (may_close g.B.Geometry.shape c.args.own) c.loop-to.closing c.loop-to.to c.loop-to.invariant.closing
            (closing-some g.B.Geometry.shape c.args.own c.loop-to.to c.arrivals_and_closers-quiet.result.1 c.arrivals_and_closers-quiet.ensures.closing
            (some_mask c.arrivals_and_closers-quiet.result.1 (sym c.ne.ensures ∙ w.if-ne.true)) (omega arith)))
        | else-ne w ↦
            rw w.closing-is
            (below-no (may_close g.B.Geometry.shape c.args.own) c.loop-to.closing c.loop-to.to c.loop-to.invariant.closing
            (closing-none g.B.Geometry.shape c.args.own c.loop-to.to c.arrivals_and_closers-quiet.result.1 c.arrivals_and_closers-quiet.ensures.closing
            (no_mask c.arrivals_and_closers-quiet.result.1 (sym c.ne.ensures ∙ w.if-ne.false))))
      ];
    }
