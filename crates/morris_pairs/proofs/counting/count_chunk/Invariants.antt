use Rattle.std.proofs.Common.{◌≡◌, ℕ, ◌*◌, ◌<◌, ◌≤◌, Bool, Some, get_or}
use Rattle.morris_board.specs.Boards.{Shape}
use Rattle.morris_pairs.specs.Counting.{AreSoMany, AreTalliesOf, IsOfEntry}
use Rattle.morris_pairs.specs.Tables.{Table}
use Rattle.morris_pairs.proofs.counting.count_chunk.Given as goal

-- the entries so far are counted
abbrev pub invariant-loop-entry : goal.invariant-loop-entry
invariant-loop-entry g l = record {
  stated : g.C.Coded.stated l.codes ≡ g.C.Coded.stated l.initial.codes;
  unfailing : g.C.Coded.unfailing l.codes ≡ g.C.Coded.unfailing l.initial.codes;
  many : g.C.Coded.many l.codes ≡ g.C.Coded.many l.initial.codes;
  small : (k : ℕ) → get_or l.tallies k 0 ≤ 16 * l.entry;
  counted : (board : Shape) (t : Table) (all : Bool) (start : ℕ) → start ≤ l.first → g.C.Coded.stated l.initial.codes ≡ Some t.codes
      → ((entry : ℕ) → l.first ≤ entry → entry < l.end → AreSoMany (IsOfEntry board t.layout t.pair all entry) l.orbit_size)
      → AreTalliesOf board t all start l.first l.initial.tallies → AreTalliesOf board t all start l.entry l.tallies;
}
