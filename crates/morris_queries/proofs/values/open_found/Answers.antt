use Rattle.morris_jobs.proofs.BundleLaws.{read_unwritten}
use Rattle.morris_queries.proofs.values.open_found.Goals as goal

-- a fault of a file isn't one of a write
pub returns-in-Err-File-clause-unwritten : goal.returns-in-Err-File-clause-unwritten
returns-in-Err-File-clause-unwritten g c = rw c.from-in-Err-File.ensures (read_unwritten c.in-Err-File.refusal)
