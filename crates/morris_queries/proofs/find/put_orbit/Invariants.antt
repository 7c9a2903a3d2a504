use Rattle.std.proofs.Common.{◌≡◌, ◌-◌, ◌≤◌, ◌++◌, length}
use Rattle.morris_board.specs.Printers.{Takes}
use Rattle.morris_queries.specs.Found.{found_text}
use Rattle.morris_queries.proofs.find.put_orbit.Given as goal

-- the strings of the positions so far went in, of which there are as many as there may be at most;
-- the iterator has the others
abbrev pub invariant-loop-position : goal.invariant-loop-position
invariant-loop-position g l = record {
  split : l.yielded ++ l.position-iterator ≡ l.fn.orbit;
  few : length l.yielded ≤ l.fn.most;
  takes : Takes g.S.Sink.contents g.S.Sink.failures l.initial.out l.out (found_text g.B.Geometry.shape l.yielded);
  left : l.left ≡ l.fn.most - length l.yielded;
}
