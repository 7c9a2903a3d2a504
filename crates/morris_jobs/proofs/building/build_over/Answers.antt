use Rattle.morris_jobs.proofs.building.build_over.Goals as goal

pub returns-in_err-table-clause-reported : goal.returns-in_err-table-clause-reported
returns-in_err-table-clause-reported g c = g.met.T.Watch.joins _ _ _ c.begin_pair.ensures.reported c.build_watched.ensures.watched

pub returns-clause-reported : goal.returns-clause-reported
returns-clause-reported g c = g.met.T.Watch.joins _ _ _ (g.met.T.Watch.joins _ _ _ c.begin_pair.ensures.reported c.build_watched.ensures.watched) c.end_pair.ensures.reported
