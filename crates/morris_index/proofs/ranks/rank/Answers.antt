use Rattle.morris_index.proofs.ranks.rank.Goals as goal

pub returns-clause-value : goal.returns-clause-value
returns-clause-value c = c.rank_outside.ensures.value
