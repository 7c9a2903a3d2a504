use Rattle.morris_table.proofs.building.build_watched.Goals as goal

pub returns-in-Classes-clause-refused : goal.returns-in-Classes-clause-refused
returns-in-Classes-clause-refused g c = rw c.in-Classes.is c.build_by_rows.ensures.refused

pub returns-in-Classes-2-clause-refused : goal.returns-in-Classes-2-clause-refused
returns-in-Classes-2-clause-refused g c = rw c.in-Classes-2.is c.build_by_classes.ensures.refused
