use Rattle.std.proofs.Common.{arith}
use Rattle.morris_index.proofs.BinomialTable.{binomial_of}
use Rattle.morris_index.proofs.Highest.{highest-start, highest-more, highest-same}
use Rattle.morris_index.proofs.binomials.highest_point.Goals as goal
use Rattle.morris_index.proofs.binomials.highest_point.Goals.{then-choices-n, else-choices-n}

pub loop-n-init : goal.loop-n-init
loop-n-init c = highest-start c.args.k c.args.rank c.requires.some

pub loop-n-preserved : goal.loop-n-preserved
loop-n-preserved c =
    let here = binomial_of c.loop-n.n c.args.k (omega (arith, c.loop-n-test.true)) (omega (arith, c.requires.chosen)) in
    elim c.if-choices-n.branch [
      | then-choices-n w ↦ rw w.point-is (highest-more _ _ _ _ c.loop-n.invariant (omega (arith, w.if-choices-n.true, here)))
      | else-choices-n w ↦ rw w.point-is (highest-same _ _ _ _ c.loop-n.invariant (omega (arith, w.if-choices-n.false, here)))
    ]

pub overflow_sub-result : goal.overflow_sub-result
overflow_sub-result c =
    let here = binomial_of c.loop-n.point c.args.k (omega (arith, c.loop-n.invariant.inside)) (omega (arith, c.requires.chosen)) in
    omega (arith, here, c.loop-n.invariant.fits)

pub returns-clause-left : goal.returns-clause-left
returns-clause-left c =
    let here = binomial_of c.loop-n.point c.args.k (omega (arith, c.loop-n.invariant.inside)) (omega (arith, c.requires.chosen)) in
    omega (arith, here, c.loop-n.invariant.fits)
