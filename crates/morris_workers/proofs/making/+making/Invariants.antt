use Rattle.std.proofs.Common.{◌+◌, ◌*◌, length}
use Rattle.morris_workers.proofs.making.+making.Given as goal

abbrev pub decreases-make_all : goal.decreases-make_all
decreases-make_all g l = 2 * length l.seats.now

abbrev pub decreases-here : goal.decreases-here
decreases-here g l = 2 * length l.rest.now + 1
