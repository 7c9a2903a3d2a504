-- What the folder holds is verified, once the folder is found.
use Rattle.std.proofs.Common.{Some, false, inr}
use Rattle.morris_folder_commands.proofs.CauseLaws.{cause_on}
use Rattle.morris_folder_commands.proofs.FromLaws.{kept_on}
use Rattle.morris_folder_commands.proofs.from.from_on.Goals as goal

pub returns-in-Ok-clause-answer : goal.returns-in-Ok-clause-answer
returns-in-Ok-clause-answer g c =
    let said = c.verify_found.ensures.answer in
    inr (
      said.0,
      kept_on (g.F.Folder.files c.args.folder.now) (g.F.Folder.files c.find.new.self) said.0 c.find.ensures.unchanged said.1,
      said.2,
    )

pub returns-in-Ok-clause-caused : goal.returns-in-Ok-clause-caused
returns-in-Ok-clause-caused g c =
    cause_on g.F.Reader.Source.failures g.F.Writer.Sink.failures (Some false) (Some false) ⊥ ⊥ (g.F.Folder.failures c.args.folder.now)
    (g.F.Folder.failures c.find.new.self) (g.F.Folder.failures c.verify_found.new.folder) c.in-Ok.ensures.counted (λ h. h) (λ h. h) c.verify_found.result
    c.verify_found.ensures.caused
