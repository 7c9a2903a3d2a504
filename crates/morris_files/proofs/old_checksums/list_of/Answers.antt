-- A read that failed was one of the list's reader.
use Rattle.std.proofs.Common.{arith}
use Rattle.morris_files.proofs.old_checksums.list_of.Goals as goal

pub returns-in-Ok-Some-clause-unread : goal.returns-in-Ok-Some-clause-unread
returns-in-Ok-Some-clause-unread g c = λ e. (c.read_all.new.source, omega (arith, c.read_all.ensures.unread e))
