use Rattle.std.proofs.Common.{◌≡◌, ℕ, ◌++◌, ◌&&◌, eqb}
use Rattle.std.specs.List.{list_any}
use Rattle.morris_board.specs.Sets.{has, members}
use Rattle.morris_pairs.specs.Rows.{may_close}
use Rattle.morris_pairs.proofs.rows.closing_at.Given as goal

abbrev pub invariant-loop-to : goal.invariant-loop-to
invariant-loop-to g l = record {
  points : l.yielded ++ members l.to-iterator ≡ members l.initial.to-iterator;
  closing : (v : ℕ) → has l.closing v ≡ (list_any (eqb v) l.yielded && may_close g.B.Geometry.shape l.own v);
}
