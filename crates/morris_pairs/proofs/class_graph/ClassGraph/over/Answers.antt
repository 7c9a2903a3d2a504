use Rattle.morris_pairs.specs.declared.layout.Layout.TheVariants.{Classes}
use Rattle.morris_pairs.proofs.class_graph.ClassGraph.over.Goals as goal

pub returns-in_err-graph-clause-blocks : goal.returns-in_err-graph-clause-blocks
returns-in_err-graph-clause-blocks g c = c.over.ensures.blocks

pub returns-in_err-numbering-clause-blocks : goal.returns-in_err-numbering-clause-blocks
returns-in_err-numbering-clause-blocks g c = c.over.ensures.blocks

pub returns-clause-values : goal.returns-clause-values
returns-clause-values g c = c.in_ok-graph.ensures.values Classes

pub returns-clause-deep : goal.returns-clause-deep
returns-clause-deep g c = c.in_ok-graph.ensures.deep Classes

pub returns-clause-blocks : goal.returns-clause-blocks
returns-clause-blocks g c = c.over.ensures.blocks
