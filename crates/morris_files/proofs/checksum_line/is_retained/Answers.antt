-- One pair after the other is tried.
use Rattle.std.proofs.Common.{true, false, sym, ◌∙◌, arith}
use Rattle.morris_index.specs.Pairs.{counts}
use Rattle.morris_files.proofs.LineLaws.{any-more, is_retained-here, is_retained-none, is_retained_of-other, is_retained_of-replaced}
use Rattle.morris_files.proofs.checksum_line.is_retained.Goals as goal

pub loop-place-preserved-then-is_below : goal.loop-place-preserved-then-is_below
loop-place-preserved-then-is_below c =
    any-more _ c.args.line.now (counts c.args.replaced.0 c.args.replaced.1) c.loop-place.place _ c.pair_at-greater.ensures c.loop-place.invariant
    (is_retained_of-replaced _ c.args.line.now (counts c.args.replaced.0 c.args.replaced.1) _ (sym c.is_below.ensures ∙ c.if-is_below.true))

pub loop-place-preserved : goal.loop-place-preserved
loop-place-preserved c =
    any-more _ c.args.line.now (counts c.args.replaced.0 c.args.replaced.1) c.loop-place.place _ c.pair_at-greater.ensures c.loop-place.invariant
    (is_retained_of-other _ c.args.line.now (counts c.args.replaced.0 c.args.replaced.1) _ (sym c.is_below.ensures ∙ c.if-is_below.false) false (sym c.in_ok-is_line_of.ensures ∙ c.if-branch.false))

pub returns-then-branch : goal.returns-then-branch
returns-then-branch c =
    is_retained-here _ c.args.line.now (counts c.args.replaced.0 c.args.replaced.1) c.loop-place.place _ c.pair_at-greater.ensures
    (is_retained_of-other _ c.args.line.now (counts c.args.replaced.0 c.args.replaced.1) _ (sym c.is_below.ensures ∙ c.if-is_below.false) true (sym c.in_ok-is_line_of.ensures ∙ c.if-branch.true))

pub returns : goal.returns
returns c = is_retained-none _ c.args.line.now (counts c.args.replaced.0 c.args.replaced.1) c.loop-place.place (omega arith) c.loop-place.invariant
