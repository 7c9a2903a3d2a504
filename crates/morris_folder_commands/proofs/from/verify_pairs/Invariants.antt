use Rattle.std.proofs.Common.{◌≡◌, ℕ, ◌*◌, ◌-◌, ◌<◌, ◌≤◌, ◌^◌, drop}
use Rattle.std.specs.List.{filter}
use Rattle.morris_files.specs.Files.{AreUnchanged}
use Rattle.morris_index.specs.Pairs.{all_pairs}
use Rattle.morris_folder_commands.specs.From.{fits}
use Rattle.morris_folder_commands.specs.FromSteps.{IsAhead, StopsAt}
use Rattle.morris_folder_commands.proofs.FromLaws.{Leads}
use Rattle.morris_folder_commands.proofs.from.verify_pairs.Given as goal

-- where the pairs that are left lead, all lead; what is known of a file is so of the file of the
-- next pair; the file that wasn't opened, if there is one, is still to come; no file is changed;
-- since the start `progress` has changed by reports alone
abbrev pub invariant-loop-place : goal.invariant-loop-place
invariant-loop-place g l = record {
  leads : Leads g.B.Geometry.shape (g.F.Folder.files l.fn.folder) l.board (g.O.Sink.contents l.fn.output) l.fn.tables
      (filter (fits g.B.Geometry.shape) (drop l.place all_pairs)) l.tables l.found l.sent (g.O.Sink.contents l.output);
  known : IsAhead g.F.Reader.Source.failures g.B.Geometry.shape (g.F.Folder.files l.fn.folder) l.board l.place l.ahead.answer;
  inside : l.place ≤ l.ahead.end;
  stops : (before : ℕ) → StopsAt g.B.Geometry.shape l.fn.ahead.end before (g.F.Folder.failures l.fn.folder)
      → StopsAt g.B.Geometry.shape l.ahead.end before (g.F.Folder.failures l.folder);
  room : g.F.Folder.failures l.folder < 2 ^ 64 - 1;
  unchanged : AreUnchanged (g.F.Folder.files l.fn.folder) (g.F.Folder.files l.folder);
  few : l.sent ≤ 2 ^ 10 * l.place;
  uncounted : g.O.Sink.failures l.output ≡ g.O.Sink.failures l.fn.output;
  reported : g.T.Watch.becomes l.fn.progress l.progress;
}
