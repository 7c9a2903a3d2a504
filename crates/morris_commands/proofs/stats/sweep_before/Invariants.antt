use Rattle.std.proofs.Common.{◌≡◌, ◌++◌}
use Rattle.morris_index.specs.Pairs.{below_of}
use Rattle.morris_pairs.specs.declared.layout.Layout.TheVariants.{Full}
use Rattle.morris_commands.proofs.BeforeLaws.{AreBuiltBut}
use Rattle.morris_commands.proofs.stats.sweep_before.Given as goal

-- of the pairs so far but the last one there are the tables, and codes suffice for them; the
-- iterator has the others; since the start `progress` has changed by reports alone
abbrev pub invariant-loop-below : goal.invariant-loop-below
invariant-loop-below g l = record {
  split : l.yielded ++ l.below-iterator ≡ below_of l.fn.pair;
  built : AreBuiltBut g.B.Geometry.shape Full l.shelf l.fn.pair l.yielded;
  reported : g.T.Watch.becomes l.initial.progress l.progress;
}
