use Rattle.std.proofs.Common.{vec_len}
use Rattle.morris_workers.proofs.wave.spare_room.Given as goal

abbrev pub decreases-loop-batch : goal.decreases-loop-batch
decreases-loop-batch g l = vec_len l.batches
