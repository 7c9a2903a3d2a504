use Rattle.std.proofs.Common.{◌%◌, [], Some, slice_index}
use Rattle.std.specs.List.{flat_map, range_with_len}
use Rattle.std.specs.Prelude.{nat_eq, if◌then◌else◌}
use Rattle.morris_board.specs.Printers.{Takes}
use Rattle.morris_jobs.specs.Counted.{csv_line}
use Rattle.morris_jobs.proofs.print_counts.put_csv_depths.Given as goal

-- the lines of the depths so far have gone in
abbrev pub invariant-loop-depth : goal.invariant-loop-depth
invariant-loop-depth g l =
    Takes g.S.Sink.contents g.S.Sink.failures l.initial.out l.out
    (flat_map (λ depth. if nat_eq (depth % 2) l.odd then csv_line l.own l.other l.field (Some depth) (slice_index l.counts depth) else []) (range_with_len 0 l.depth))
