-- A refusal leaves what the renaming left, and then what the removal of the part did.
use Rattle.morris_files.proofs.WholeLaws.{goes-trans_three, unrenamed}
use Rattle.morris_files.proofs.whole.rename_part.Goals as goal

pub returns-in-Err-clause-answer : goal.returns-in-Err-clause-answer
returns-in-Err-clause-answer g c = λ files bytes done.
    goes-trans_three (unrenamed _ c.args.name.now bytes c.give_up.result c.requires.part c.give_up.ensures.step)
    _ _ _ _ done c.in-Err.ensures.renamed c.give_up.ensures.given_up
