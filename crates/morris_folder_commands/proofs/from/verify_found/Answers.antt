-- The files are those that the folder has once the headers were read.
use Rattle.std.proofs.Common.{ℕ, refl, inl, inr}
use Rattle.std.proofs.lemmas.Result.{err_from_is_err_and}
use Rattle.std.proofs.KnownBytes.{Keeps-refl}
use Rattle.morris_jobs.specs.Inputs.{MayFail}
use Rattle.morris_folder_commands.specs.FromSteps.{StopsAt}
use Rattle.morris_folder_commands.proofs.FromLaws.{kept_as_is, kept_on}
use Rattle.morris_folder_commands.proofs.SurveyLaws.{room, stops}
use Rattle.morris_folder_commands.proofs.from.verify_found.Goals as goal

pub verify_pairs-requires-clause-room : goal.verify_pairs-requires-clause-room
verify_pairs-requires-clause-room g c κs within =
    let new = g.F.Folder.failures c.look_ahead.new.folder in
    let may_fail : MayFail new (g.O.Sink.failures c.args.output.now) =
    (room g.B.Geometry.shape c.in_ok-end.end (g.F.Folder.failures c.args.folder.now) new c.in_ok-end.ensures.end c.requires.room.0, c.requires.room.1) in
    may_fail

pub verify_pairs-requires-clause-stops : goal.verify_pairs-requires-clause-stops
verify_pairs-requires-clause-stops g c κs within =
    let old = g.F.Folder.failures c.args.folder.now in
    let new = g.F.Folder.failures c.look_ahead.new.folder in
    let some : (before : ℕ) × StopsAt g.B.Geometry.shape c.in_ok-end.end before new =
    (old, stops g.B.Geometry.shape c.in_ok-end.end old new c.in_ok-end.ensures.end) in
    some

pub returns-clause-answer : goal.returns-clause-answer
returns-clause-answer g c = (
  g.F.Folder.files c.look_ahead.new.folder,
  c.look_ahead.ensures.unchanged,
  inr (c.in_ok-tables.tables, c.in_ok-tables.ensures.none, c.verify_pairs.ensures.answer),
)

pub returns-clause-unchanged : goal.returns-clause-unchanged
returns-clause-unchanged g c =
    kept_on (g.F.Folder.files c.args.folder.now) (g.F.Folder.files c.look_ahead.new.folder) (g.F.Folder.files c.verify_pairs.new.folder)
    c.look_ahead.ensures.unchanged c.verify_pairs.ensures.unchanged

pub returns-clause-caused : goal.returns-clause-caused
returns-clause-caused g c =
    let old = g.F.Folder.failures c.args.folder.now in
    c.verify_pairs.ensures.caused old
    (stops g.B.Geometry.shape c.in_ok-end.end old (g.F.Folder.failures c.look_ahead.new.folder) c.in_ok-end.ensures.end)

pub returns-clause-reported : goal.returns-clause-reported
returns-clause-reported g c = g.met.T.Watch.joins _ _ _ c.look_ahead.ensures.reported c.verify_pairs.ensures.reported

-- there is no room for a set of tables, or for the name of a file
pub returns-in_err-tables-clause-answer : goal.returns-in_err-tables-clause-answer
returns-in_err-tables-clause-answer g c =
    let failed = err_from_is_err_and c.from_residual.result c.from_residual.ensures.1 in
    let files = g.F.Folder.files c.args.folder.now in
    rw (failed.1, failed.2)
    (files, kept_as_is files, inl (refl, Keeps-refl (g.O.Sink.contents c.args.output.now)))

pub returns-in_err-end-clause-answer : goal.returns-in_err-end-clause-answer
returns-in_err-end-clause-answer g c =
    let failed = err_from_is_err_and c.from_residual-in_err-end.result c.from_residual-in_err-end.ensures.1 in
    rw (failed.1, failed.2, c.in_err-end.ensures.refused)
    (g.F.Folder.files c.look_ahead.new.folder, c.look_ahead.ensures.unchanged, inl (refl, Keeps-refl (g.O.Sink.contents c.args.output.now)))
