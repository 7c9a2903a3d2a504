use Rattle.std.proofs.Common.{◌≡◌, ◌≤◌, ◌+◌, vec_len, vec_capacity}
use Rattle.morris_workers.proofs.yard.Yard.new.Given as goal

abbrev pub invariant-loop-block : goal.invariant-loop-block
invariant-loop-block g l = (vec_len l.locks + vec_len l.blocks ≡ vec_len l.fn.blocks) × (vec_len l.fn.blocks ≤ vec_capacity l.blocks)

abbrev pub decreases-loop-block : goal.decreases-loop-block
decreases-loop-block g l = vec_len l.blocks
