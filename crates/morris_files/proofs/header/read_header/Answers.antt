-- What was read of a file's first bytes says what the file says.
use Rattle.std.proofs.Common.{◌≡◌, take, arith}
use Rattle.std.proofs.lemmas.List.{length-take-le}
use Rattle.std.proofs.lemmas.Result.{err_from_is_err_and}
use Rattle.morris_pairs.specs.declared.file_faults.ReadFault.TheVariants.{Read}
use Rattle.morris_files.specs.declared.stored.StoredFault.TheVariants as stored
use Rattle.morris_files.specs.Names.{name_of}
use Rattle.morris_files.proofs.HeaderLaws.{file_there, header_read}
use Rattle.morris_files.proofs.KeptLaws.{unopened_header, unopened_unread}
use Rattle.morris_files.proofs.header.read_header.Goals as goal

pub returns-in-Ok-clause-answer : goal.returns-in-Ok-clause-answer
returns-in-Ok-clause-answer g c =
    let files = g.F.Folder.files c.args.folder.now in
    let name = name_of c.args.board.now c.args.pair in
    let opened = rw c.in-Some.is at c.in_ok-reader.ensures.opened in
    let few = length-take-le c.in-Ok.count c.fill.new.buffer c.in-Ok.ensures.within in
    header_read (take c.in-Ok.count c.fill.new.buffer) (omega (arith, few, c.in-Ok.ensures.within, c.fill.auto.buffer)) g.B.Geometry.shape _ c.args.pair name files _ _ _ opened.0
    c.in-Ok.ensures.bytes (λ short. c.in-Ok.ensures.end (omega (arith, few, short, c.fill.auto.buffer))) c.header_in.ensures

-- a read of it that failed
pub returns-clause-answer : goal.returns-clause-answer
returns-clause-answer g c =
    let opened = rw c.in-Some.is at c.in_ok-reader.ensures.opened in
    file_there (name_of c.args.board.now c.args.pair) (g.F.Folder.files c.args.folder.now) _ opened.0

pub returns-clause-unread : goal.returns-clause-unread
returns-clause-unread g c = λ e. (c.fill.new.source, omega (arith, c.in-Err.ensures.counted))

-- what isn't opened isn't read
pub returns-in_err-reader-clause-answer : goal.returns-in_err-reader-clause-answer
returns-in_err-reader-clause-answer g c =
    let failed = err_from_is_err_and c.from_residual.result c.from_residual.ensures.1 in
    rw (failed.1, failed.2)
    (unopened_header g.B.Geometry.shape g.B.Geometry.POINTS (g.F.Folder.files c.args.folder.now) (name_of c.args.board.now c.args.pair) c.args.pair
    c.in_err-reader.field-0.0 c.in_err-reader.ensures.refused)

pub returns-in_err-reader-clause-unread : goal.returns-in_err-reader-clause-unread
returns-in_err-reader-clause-unread g c =
    let failed = err_from_is_err_and c.from_residual.result c.from_residual.ensures.1 in
    rw (failed.1, failed.2)
    (λ e.
    let is : c.in_err-reader.field-0.0 ≡ stored.Refused Read = cc in
    absurd (unopened_unread c.in_err-reader.field-0.0 c.in_err-reader.ensures.refused is))
