use Rattle.std.proofs.Common.{◌<◌, ◌≤◌, length, sym, subst, take_all, ◌∙◌, arith}
use Rattle.std.proofs.lemmas.Bool.{false≢true}
use Rattle.morris_board.specs.Boards.{mills_of}
use Rattle.morris_pairs.proofs.ComerLaws.{AreLast, last-more, last-same, last-all}
use Rattle.morris_pairs.proofs.rows.last_of_mills.Goals as goal
use Rattle.morris_pairs.proofs.rows.last_of_mills.Goals.{then-eq, else-eq}

pub loop-number-init : goal.loop-number-init
loop-number-init g c = λ v free any. absurd (false≢true any)

pub loop-number-preserved : goal.loop-number-preserved
loop-number-preserved g c =
    let mills = mills_of g.B.Geometry.shape in
    let inside : c.loop-number.number < length mills = omega (arith, g.met.B.Geometry.mill_count, c.MILLS-number-end.ensures, c.loop-number-test.true) in
    elim c.if-eq.branch [
      | then-eq w ↦ rw w.last-is (last-more c.args.own c.mill.result c.difference-missing.result (omega arith) c.difference-missing.ensures
          mills c.loop-number.number inside (sym c.mill.ensures) c.loop-number.last c.loop-number.invariant w.union-last.result w.union-last.ensures)
      | else-eq w ↦ rw w.last-is (last-same c.args.own c.mill.result c.difference-missing.result (omega arith) c.difference-missing.ensures
          mills c.loop-number.number inside (sym c.mill.ensures) c.loop-number.last c.loop-number.invariant c.without_first.result (omega arith) c.without_first.ensures
          (sym c.eq.ensures ∙ w.if-eq.false))
    ]

pub returns : goal.returns
returns g c =
    let all : length (mills_of g.B.Geometry.shape) ≤ c.loop-number.number = omega (arith, g.met.B.Geometry.mill_count, c.MILLS-number-end.ensures, c.loop-number-test.false) in
    last-all g.B.Geometry.shape c.args.own c.loop-number.last
    (subst (λ ms. AreLast ms c.args.own c.loop-number.last) (take_all c.loop-number.number (mills_of g.B.Geometry.shape) all) c.loop-number.invariant)
