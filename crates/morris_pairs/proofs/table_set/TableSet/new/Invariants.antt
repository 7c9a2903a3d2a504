use Rattle.std.proofs.Common.{◌≡◌, ℕ, ◌≤◌, length, get_or, None}
use Rattle.std.specs.Prelude.{vec_capacity}
use Rattle.morris_pairs.proofs.table_set.TableSet.new.Given as goal

abbrev pub invariant-loop : goal.invariant-loop
invariant-loop g l = record {
  count : length l.tables.items ≡ l.counter;
  room : 49 ≤ vec_capacity l.tables;
  empty : (k : ℕ) → get_or l.tables.items k None ≡ None;
}
