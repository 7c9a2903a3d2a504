-- What was read is what the file has from which the reader was opened.
use Rattle.std.proofs.Common.{◌≡◌, sym, ap, ◌∙◌, Err}
use Rattle.morris_pairs.specs.declared.file_faults.ReadFault.TheVariants.{Read}
use Rattle.morris_files.proofs.KeptLaws.{alike, apart, file_read, file_refused, read_failed}
use Rattle.morris_files.proofs.stored.read_opened.Goals as goal

pub returns-in-Err-clause-answer : goal.returns-in-Err-clause-answer
returns-in-Err-clause-answer g c = λ files name is.
    file_refused g.B.Geometry.shape name files _ _ c.in-Err.refused is c.in-Err.ensures.outcome (λ e. c.in-Err.ensures.memory (ap Err e))

pub returns-in-Err-clause-unread : goal.returns-in-Err-clause-unread
returns-in-Err-clause-unread g c = λ e.
    let is : c.in-Err.refused ≡ Read = cc in
    read_failed g.S.Source.failures _ c.read_table.new.source c.in-Err.refused c.in-Err.ensures.counted is

pub returns-then-ne-clause-answer : goal.returns-then-ne-clause-answer
returns-then-ne-clause-answer g c = λ files name is. (
  c.in-Ok.raw,
  λ same. apart c.pair.result c.args.pair (sym c.ne.ensures ∙ c.if-ne.true) (c.pair.ensures.value ∙ same),
  file_read g.B.Geometry.shape name files _ _ c.in-Ok.raw is c.in-Ok.ensures.outcome c.in-Ok.ensures.file,
)

pub returns-clause-answer : goal.returns-clause-answer
returns-clause-answer g c = λ files name is. (
  sym c.pair.ensures.value ∙ alike c.pair.result c.args.pair (sym c.ne.ensures ∙ c.if-ne.false),
  file_read g.B.Geometry.shape name files _ _ c.in-Ok.raw is c.in-Ok.ensures.outcome c.in-Ok.ensures.file,
)
