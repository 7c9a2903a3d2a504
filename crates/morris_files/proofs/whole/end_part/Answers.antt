-- A refusal leaves what the step that failed left, and then what the removal of the part did.
use Rattle.std.proofs.Common.{◌≡◌, List, ℕ, sym, subst, ◌∙◌}
use Rattle.morris_files.specs.Files.{Goes}
use Rattle.morris_files.specs.Whole.{AreGivenUp, IsBegunPart, part_of}
use Rattle.morris_files.proofs.WholeLaws.{goes-trans, unwritten}
use Rattle.morris_files.proofs.whole.end_part.Goals as goal

pub returns-clause-answer : goal.returns-clause-answer
returns-clause-answer g c = λ files start bytes begun given.
    let this : c.as_str.result.now ≡ part_of c.args.name.now = c.as_str.ensures.value ∙ c.requires.name in
    let again : c.as_str-in-Err.result.now ≡ c.as_str.result.now = c.as_str-in-Err.ensures.value ∙ sym c.as_str.ensures.value in
    let left = c.in-Err.ensures.answer files start bytes
    (subst (λ (under : List ℕ). IsBegunPart g.F.Writer.Sink.contents files (g.F.Folder.files c.args.folder.now) under start) (sym this) begun) given in
    goes-trans (unwritten _ c.args.name.now bytes _ c.give_up.result this c.give_up.ensures.step left.1) _ _ _ left.0
    (subst (λ (under : List ℕ). Goes (g.F.Folder.files c.sync_part.new.folder) (g.F.Folder.files c.give_up.new.folder) (AreGivenUp under c.give_up.result)) again c.give_up.ensures.given_up)
