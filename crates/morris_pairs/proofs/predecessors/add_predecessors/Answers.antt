use Rattle.morris_pairs.proofs.predecessors.add_predecessors.Goals as goal

pub returns-in-Full : goal.returns-in-Full
returns-in-Full g c = rw c.in-Full.is (rw c.of-indices.ensures at c.add_all_predecessors.ensures)

pub returns-in-Classes : goal.returns-in-Classes
returns-in-Classes g c = rw c.in-Classes.is (rw c.of-entries.ensures at c.add_all_predecessors-in-Classes.ensures)
