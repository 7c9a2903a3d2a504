use Rattle.std.proofs.Common.{take}
use Rattle.std.specs.List.{flat_map}
use Rattle.morris_board.specs.Printers.{Takes}
use Rattle.morris_queries.proofs.print.put_list.Given as goal

-- the texts of those so far have gone in
abbrev pub invariant-loop-item : goal.invariant-loop-item
invariant-loop-item g l = Takes g.S.Sink.contents g.S.Sink.failures l.initial.out l.out (flat_map g.T.Listed.text (take l.item-index l.list))
