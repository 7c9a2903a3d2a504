use Rattle.std.proofs.Common.{◌≡◌, ℕ, ◌%◌, ◌≤◌, get_or}
use Rattle.morris_queries.proofs.wanted.greatest_depth.Given as goal

-- no position has one of the codes that were looked at
abbrev pub invariant-loop-code : goal.invariant-loop-code
invariant-loop-code l = (k : ℕ) → l.code ≤ k → k % 2 ≡ l.rest → get_or l.tallies k 0 ≡ 0
