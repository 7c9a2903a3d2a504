use Rattle.std.proofs.Common.{◌≡◌, ◌+◌, ◌++◌, [], true, length, vec_len}
use Rattle.std.specs.Prelude.{IfSome, option_to_list}
use Rattle.morris_index.specs.Pairs.{below_of}
use Rattle.morris_jobs.proofs.NearLaws.{HasNear, IsLast}
use Rattle.morris_folder_commands.specs.Filling.{IsThere, LeadsTo, rest_of}
use Rattle.morris_folder_commands.specs.Into.{place_of}
use Rattle.morris_folder_commands.proofs.into.add_files.Given as goal

-- there are the tables of the pairs so far that a later one may need, and that of the pair whose
-- file waits, which is the last one; the lines of all other files are printed in order; where the
-- other pairs lead, all lead; the folder is locked; since the start `progress` has changed by
-- reports alone
abbrev pub invariant-loop-below : goal.invariant-loop-below
invariant-loop-below g l = record {
  split : l.yielded ++ l.below-iterator ≡ below_of l.fn.filling.pair;
  near : HasNear g.B.Geometry.shape l.fn.filling.layout l.tables l.yielded;
  there : IfSome l.filled.waiting (IsThere g.B.Geometry.shape l.fn.filling.layout l.tables);
  last : IfSome l.filled.waiting (IsLast l.yielded);
  leads : LeadsTo g.B.Geometry.shape l.fn.filling.layout l.fn.filling.board.now l.fn.filling.context.parallelism.blocks
      (record {
        pairs = below_of l.fn.filling.pair;
        sent = 0;
        digests = [];
        here = place_of (g.F.Folder.files l.initial.folder) (g.O.Sink.contents l.initial.output);
      })
      (rest_of l.fn.filling.board.now l.filled.written.items l.filled.sent l.filled.waiting l.below-iterator
      (place_of (g.F.Folder.files l.folder) (g.O.Sink.contents l.output)));
  count : vec_len l.filled.written + length (option_to_list l.filled.waiting) ≡ length l.yielded;
  locked : g.F.Folder.locked l.folder ≡ true;
  unfailed : g.F.Folder.failures l.folder ≡ g.F.Folder.failures l.initial.folder;
  uncounted : g.O.Sink.failures l.output ≡ g.O.Sink.failures l.initial.output;
  reported : g.T.Watch.becomes l.initial.progress l.progress;
}
