-- A folder that is filled is ended.
use Rattle.std.proofs.Common.{Some, false}
use Rattle.morris_folder_commands.specs.Into.{place_of}
use Rattle.morris_folder_commands.proofs.CauseLaws.{cause_on}
use Rattle.morris_folder_commands.proofs.FillLaws.{ends_with}
use Rattle.morris_folder_commands.proofs.into.fill_locked.Goals as goal

pub returns-clause-filled : goal.returns-clause-filled
returns-clause-filled g c =
    let reported = g.O.Sink.contents c.fill.new.output in
    let here = place_of (g.F.Folder.files c.fill.new.folder) reported in
    let after = place_of (g.F.Folder.files c.end.new.folder) reported in
    c.in_ok-written.ensures.filled c.args.unchanged.now after c.end.result
    (ends_with c.args.filling.now.board.now c.args.unchanged.now _ c.in_ok-written.written.items here after c.end.result c.as_slice.ensures.value
    (c.end.ensures.ended reported))

pub returns-clause-caused : goal.returns-clause-caused
returns-clause-caused g c =
    cause_on g.F.Reader.Source.failures g.F.Writer.Sink.failures (Some false) (Some false) ⊥ ⊥ (g.F.Folder.failures c.args.folder.now)
    (g.F.Folder.failures c.fill.new.folder) (g.F.Folder.failures c.end.new.folder) c.in_ok-written.ensures.caused (λ h. h) (λ h. h) c.end.result
    c.end.ensures.caused
