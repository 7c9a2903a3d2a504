use Rattle.morris_commands.proofs.stats.sweep_onto.Goals as goal

pub returns-in_err-table-clause-reported : goal.returns-in_err-table-clause-reported
returns-in_err-table-clause-reported g c = g.met.T.Watch.joins _ _ _ c.begin_pair.ensures.reported c.sweep_pair_watched.ensures.watched

pub returns-clause-reported : goal.returns-clause-reported
returns-clause-reported g c =
    g.met.T.Watch.joins _ _ _ (g.met.T.Watch.joins _ _ _ c.begin_pair.ensures.reported c.sweep_pair_watched.ensures.watched) c.end_pair.ensures.reported
