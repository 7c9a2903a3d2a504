use Rattle.std.proofs.Common.{◌+◌, ◌*◌, length}
use Rattle.morris_workers.proofs.wave.+threads.Given as goal

abbrev pub decreases-Site::work_all : goal.decreases-Site::work_all
decreases-Site::work_all g l = 2 * length l.seats.now

abbrev pub decreases-here : goal.decreases-here
decreases-here g l = 2 * length l.rest.now + 1
