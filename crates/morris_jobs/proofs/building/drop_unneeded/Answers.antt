use Rattle.morris_jobs.proofs.NearLaws.{let_go-keeps, let_go-spares}
use Rattle.morris_jobs.proofs.building.drop_unneeded.Goals as goal

pub returns-then-not-all-clause-near : goal.returns-then-not-all-clause-near
returns-then-not-all-clause-near g c = let_go-spares c.args.tables.now c.let_go.new.self c.args.pair (rw (← c.greater.ensures.value, ← c.lesser.ensures.value) c.let_go.ensures)

pub returns-then-not-all-clause-gone : goal.returns-then-not-all-clause-gone
returns-then-not-all-clause-gone g c = λ few. let_go-keeps c.args.tables.now c.let_go.new.self c.args.pair (rw (← c.greater.ensures.value, ← c.lesser.ensures.value) c.let_go.ensures)
