use Rattle.morris_board.proofs.PrinterLaws.{and_then}
use Rattle.morris_folder_commands.specs.Into.{filed_text}
use Rattle.morris_folder_commands.proofs.print_filed.FiledPrinted.put_into.Goals as goal

pub returns-clause-takes : goal.returns-clause-takes
unfolding filed_text
returns-clause-takes g c =
    let file = c.args.self.now.file.now in
    and_then (and_then (and_then c.put_pair.ensures c.put_count.ensures) c.put_count-2.ensures) c.put_digest.ensures
