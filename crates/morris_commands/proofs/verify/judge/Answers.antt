use Rattle.morris_commands.proofs.verify.judge.Goals as goal

pub returns-in-Some-clause-reported : goal.returns-in-Some-clause-reported
returns-in-Some-clause-reported g c = c.build_alike.ensures.reported

pub returns-in-None-clause-reported : goal.returns-in-None-clause-reported
returns-in-None-clause-reported g c = g.met.T.Watch.joins _ _ _ c.build_alike.ensures.reported c.verify_over.ensures.reported
