use Rattle.morris_commands.proofs.print_look.put_within.Goals as goal

pub returns-in-Unknown : goal.returns-in-Unknown
returns-in-Unknown g c = rw c.in-Unknown.is (rw c.from-in-Unknown.ensures at c.put_number_line-in-Unknown.ensures)
