use Rattle.std.proofs.Common.{vec_len}
use Rattle.morris_workers.proofs.wave.Outbox.empty.Given as goal

abbrev pub decreases-loop-batches : goal.decreases-loop-batches
decreases-loop-batches g l = vec_len l.self.pieces
