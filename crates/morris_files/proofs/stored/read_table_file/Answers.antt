-- What was read is what the file of that name has.
use Rattle.std.proofs.Common.{◌≡◌, arith}
use Rattle.std.proofs.lemmas.Result.{err_from_is_err_and}
use Rattle.morris_pairs.specs.declared.file_faults.ReadFault.TheVariants.{Read}
use Rattle.morris_files.specs.declared.stored.StoredFault.TheVariants as stored
use Rattle.morris_files.specs.Names.{name_of}
use Rattle.morris_files.proofs.KeptLaws.{unopened_unread}
use Rattle.morris_files.proofs.stored.read_table_file.Goals as goal

pub returns-clause-answer : goal.returns-clause-answer
returns-clause-answer g c =
    let opened = rw c.in-Some.is at c.in_ok-reader.ensures.opened in
    c.read_opened.ensures.answer (g.F.Folder.files c.args.folder.now) (name_of c.args.board.now c.args.pair) opened.0

pub returns-clause-counted : goal.returns-clause-counted
returns-clause-counted g c = omega (arith, c.in_ok-reader.ensures.counted, c.read_opened.ensures.opened)

-- what isn't opened isn't read
pub returns-in_err-reader-clause-unread : goal.returns-in_err-reader-clause-unread
returns-in_err-reader-clause-unread g c =
    let failed = err_from_is_err_and c.from_residual.result c.from_residual.ensures.1 in
    rw (failed.1, failed.2)
    (λ e.
    let is : c.in_err-reader.field-0.0 ≡ stored.Refused Read = cc in
    absurd (unopened_unread c.in_err-reader.field-0.0 c.in_err-reader.ensures.refused is))
