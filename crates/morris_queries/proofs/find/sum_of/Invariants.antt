use Rattle.std.proofs.Common.{◌≡◌, ◌*◌, ◌^◌, ◌≤◌, get_or}
use Rattle.std.specs.List.{range_with_len, sum_by}
use Rattle.std.specs.Prelude.{if◌then◌else◌}
use Rattle.morris_pairs.specs.Codes.{value_in}
use Rattle.morris_queries.specs.Wanted.{is_of_kind}
use Rattle.morris_queries.proofs.find.sum_of.Given as goal

-- the sum is that of the codes so far
abbrev pub invariant-loop-code : goal.invariant-loop-code
invariant-loop-code l = record {
  sum : l.sum ≡ sum_by (λ code. if is_of_kind l.kind (value_in code) then get_or l.tallies code 0 else 0) (range_with_len 0 l.code);
  small : l.sum ≤ 2 ^ 44 * l.code;
}
