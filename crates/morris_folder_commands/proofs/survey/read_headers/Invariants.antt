-- No file is changed, and each was opened so far.
use Rattle.std.proofs.Common.{◌≡◌}
use Rattle.morris_files.specs.Files.{AreUnchanged}
use Rattle.morris_folder_commands.proofs.survey.read_headers.Given as goal

abbrev pub invariant-loop-place : goal.invariant-loop-place
invariant-loop-place g l = record {
  unchanged : AreUnchanged (g.F.Folder.files l.fn.folder) (g.F.Folder.files l.folder);
  unfailed : g.F.Folder.failures l.folder ≡ g.F.Folder.failures l.fn.folder;
}
