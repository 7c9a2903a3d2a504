use Rattle.std.proofs.Common.{◌≡◌, ◌++◌, true}
use Rattle.morris_index.specs.Pairs.{below_of}
use Rattle.morris_commands.specs.Build.{HasExactBut}
use Rattle.morris_commands.proofs.BeforeLaws.{AreBuiltBut}
use Rattle.morris_commands.proofs.build.build_before.Given as goal

-- of the pairs so far but the last one there are the tables that a later one may need, or all where
-- all are retained, and codes suffice for them; the iterator has the others; since the start
-- `progress` has changed by reports alone
abbrev pub invariant-loop-below : goal.invariant-loop-below
invariant-loop-below g l = record {
  split : l.yielded ++ l.below-iterator ≡ below_of l.fn.pair;
  built : AreBuiltBut g.B.Geometry.shape l.fn.layout l.tables l.fn.pair l.yielded;
  every : l.fn.all ≡ true → HasExactBut g.B.Geometry.shape l.fn.layout l.tables l.fn.pair l.yielded;
  reported : g.T.Watch.becomes l.initial.progress l.progress;
}
