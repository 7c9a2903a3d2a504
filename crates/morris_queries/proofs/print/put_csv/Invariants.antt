use Rattle.std.proofs.Common.{take}
use Rattle.std.specs.List.{flat_map}
use Rattle.morris_board.specs.Printers.{Takes}
use Rattle.morris_queries.specs.Printing.{csv_line}
use Rattle.morris_queries.proofs.print.put_csv.Given as goal

-- the lines of those so far have gone in
abbrev pub invariant-loop-outcome : goal.invariant-loop-outcome
invariant-loop-outcome g l =
    Takes g.S.Sink.contents g.S.Sink.failures l.initial.out l.out (flat_map (csv_line l.points l.text) (take l.outcome-index l.outcomes))
