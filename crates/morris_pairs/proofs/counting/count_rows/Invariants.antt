use Rattle.std.proofs.Common.{◌≡◌, ℕ, ◌-◌, ◌*◌, ◌≤◌, true, Some, get_or}
use Rattle.morris_pairs.specs.declared.layout.Layout.TheVariants.{Classes}
use Rattle.morris_pairs.specs.Counting.{AreTalliesOf}
use Rattle.morris_pairs.specs.Tables.{Table}
use Rattle.morris_pairs.proofs.counting.count_rows.Given as goal

-- the entries of the rows so far are counted
abbrev pub invariant-loop-entry : goal.invariant-loop-entry
invariant-loop-entry g l = record {
  from : l.first ≤ l.entry;
  to : l.entry ≤ l.end;
  stated : g.C.Coded.stated l.codes ≡ g.C.Coded.stated l.initial.codes;
  unfailing : g.C.Coded.unfailing l.codes ≡ g.C.Coded.unfailing l.initial.codes;
  many : g.C.Coded.many l.codes ≡ g.C.Coded.many l.initial.codes;
  small : (k : ℕ) → get_or l.tallies k 0 ≤ 16 * l.entry;
  counted : (t : Table) → t.layout ≡ Classes → t.pair ≡ l.classes → g.C.Coded.stated l.initial.codes ≡ Some t.codes
      → AreTalliesOf g.B.Geometry.shape t true l.first l.entry l.tallies;
}

abbrev pub decreases-loop-entry : goal.decreases-loop-entry
decreases-loop-entry g l = l.end - l.entry
