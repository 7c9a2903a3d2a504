use Rattle.std.proofs.Common.{◌≡◌, ℕ, List, length, slice_index, subst, arith}
use Rattle.std.specs.List.{flat_map, range_with_len}
use Rattle.morris_board.specs.Printers.{Takes}
use Rattle.morris_board.proofs.PrinterLaws.{and_then_as}
use Rattle.morris_jobs.specs.Counted.{depth_line, depth_lines}
use Rattle.morris_jobs.proofs.LineLaws.{one_more}
use Rattle.morris_jobs.proofs.print_counts.put_depths.Goals as goal

abbrev lines : List ℕ → ℕ → List ℕ
lines counts depth = depth_line depth (slice_index counts depth)

pub loop-depth-preserved : goal.loop-depth-preserved
loop-depth-preserved g c =
    and_then_as (one_more (lines c.args.counts.now) c.loop-depth.depth) c.loop-depth.invariant c.put_depth.ensures

pub returns : goal.returns
unfolding depth_lines
returns g c =
    let counts = c.args.counts.now in
    let end : c.loop-depth.depth ≡ length counts = omega arith in
    subst (λ n. Takes g.S.Sink.contents g.S.Sink.failures c.args.out.now c.loop-depth.out (flat_map (lines counts) (range_with_len 0 n))) end
    c.loop-depth.invariant
