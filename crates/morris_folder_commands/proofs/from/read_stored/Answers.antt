-- A file that can't be read is answered by its fault.
use Rattle.std.proofs.Common.{◌≡◌, Err, Some, false, sym, ap, subst, ◌∙◌, arith}
use Rattle.morris_files.specs.declared.stored.StoredFault.TheVariants as stored
use Rattle.morris_jobs.specs.Faults.{in_file, read_fault}
use Rattle.morris_folder_commands.specs.Causes.{IsCaused}
use Rattle.morris_folder_commands.proofs.CauseLaws.{refused_caused}
use Rattle.morris_folder_commands.proofs.from.read_stored.Goals as goal

pub returns-in-Err-Unopened-clause-caused : goal.returns-in-Err-Unopened-clause-caused
returns-in-Err-Unopened-clause-caused g c = omega (arith, rw c.in-Err-Unopened.field-0-is at c.in-Err-Unopened.ensures.counted)

pub returns-in-Err-Refused-clause-caused : goal.returns-in-Err-Refused-clause-caused
returns-in-Err-Refused-clause-caused g c =
    let reading = g.F.Reader.Source.failures in
    let writing = g.F.Writer.Sink.failures in
    let old = g.F.Folder.failures c.args.folder.now in
    let new = g.F.Folder.failures c.read_or_known.new.folder in
    let is : c.in_file.result ≡ in_file c.args.pair (read_fault c.in-Err-Refused.refused) = c.in_file.ensures ∙ ap (in_file c.args.pair) c.from.ensures in
    subst (IsCaused reading writing (Some false) ⊥ old new) (sym is)
    (refused_caused reading writing (Some false) ⊥ old new c.args.pair c.in-Err-Refused.refused
    (λ e. c.in-Err-Refused.ensures.unread (ap (λ f. Err f) (c.in-Err-Refused.field-0-is ∙ ap stored.Refused e))))
