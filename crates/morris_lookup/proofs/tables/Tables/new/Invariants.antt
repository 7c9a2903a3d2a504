use Rattle.std.proofs.Common.{◌≡◌, ℕ, length, get_or, None}
use Rattle.morris_lookup.proofs.tables.Tables.new.Given as goal

abbrev pub invariant-loop : goal.invariant-loop
invariant-loop g l = record {
  count : length l.files.items ≡ l.counter;
  empty : (k : ℕ) → get_or l.files.items k None ≡ None;
}
