use Rattle.std.proofs.Common.{◌≡◌, ◌≤◌, ◌+◌, vec_len, vec_capacity}
use Rattle.morris_workers.proofs.yard.Yard.into_blocks.Given as goal

abbrev pub invariant-loop-lock : goal.invariant-loop-lock
invariant-loop-lock g l = (vec_len l.locks + vec_len l.home ≡ l.fn.self) × (l.fn.self ≤ vec_capacity l.home)

abbrev pub decreases-loop-lock : goal.decreases-loop-lock
decreases-loop-lock g l = vec_len l.locks
