use Rattle.std.proofs.Common.{◌≡◌, ◌++◌, None, map}
use Rattle.morris_board.specs.Sets.{members}
use Rattle.morris_moves.specs.Rules.{move}
use Rattle.morris_pairs.specs.declared.layout.Layout.TheVariants.{Classes}
use Rattle.morris_pairs.specs.Predecessors.{predecessors_of}
use Rattle.morris_pairs.proofs.numbering.add_predecessor.Given as goal

abbrev pub invariant-loop-from : goal.invariant-loop-from
invariant-loop-from g l = record {
  points : l.yielded ++ members l.from-iterator ≡ members l.fn.sources;
  listed : l.out.items ≡ l.initial.out.items
      ++ predecessors_of Classes g.B.Geometry.shape g.B.Geometry.POINTS l.entries.pair l.entries.position
      (map (λ u. move u l.to None) l.yielded);
}
