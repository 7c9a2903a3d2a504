use Rattle.morris_lookup.proofs.opened.Opened.count.Goals as goal

pub returns-clause-value : goal.returns-clause-value
returns-clause-value g c = rw (← c.numbering.ensures.layout, ← c.numbering.ensures.pair) (c.count.ensures.value c.numbering.ensures.lists_fit)
