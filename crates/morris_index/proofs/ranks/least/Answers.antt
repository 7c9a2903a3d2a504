use Rattle.std.proofs.Common.{◌≡◌, suc, ◌+◌, true, false, sym, ap, ◌∙◌, subst, arith}
use Rattle.morris_board.specs.Sets.{has}
use Rattle.morris_index.specs.Numbering.{number_outside, IsRanked}
use Rattle.morris_index.proofs.RankLaws.{number-zero, number-outside, number-inside}
use Rattle.morris_index.proofs.Following.{full-start, full-inside, full-more, full-end}
use Rattle.morris_index.proofs.ranks.least.Goals as goal
use Rattle.morris_index.proofs.ranks.least.Goals.{then-not-has, else-not-has}

pub loop-point-init : goal.loop-point-init
loop-point-init c = record {
  full = full-start c.args.outside;
  counted = omega (arith, number-zero c.args.outside);
}

pub returns-then-left-eq0 : goal.returns-then-left-eq0
returns-then-left-eq0 c =
    let all : number_outside c.args.outside c.loop-point.point ≡ c.args.count = omega (arith, c.loop-point.invariant.counted, c.if-left-eq0.true) in
    subst (λ k. IsRanked c.args.end c.args.outside k 0 c.loop-point.found) all
    (full-end c.args.outside c.loop-point.point c.loop-point.found c.loop-point.invariant.full c.args.end (omega arith) (omega arith))

pub loop-point-preserved : goal.loop-point-preserved
loop-point-preserved c =
    let unmove : suc c.loop-point.point ≡ c.loop-point.point + 1 = omega arith in
    elim c.if-not-has.branch [
      | then-not-has w ↦
          let free : has c.args.outside c.loop-point.point ≡ false = sym c.has.ensures ∙ w.if-not-has.true in
          record {
            full = rw (w.found-is, w.with-found.ensures, ← unmove) (full-more c.args.outside c.loop-point.point c.loop-point.found c.loop-point.invariant.full free);
            counted = omega (arith, w.left-is, ap (number_outside c.args.outside) unmove, number-outside c.args.outside c.loop-point.point free, c.loop-point.invariant.counted);
          }
      | else-not-has w ↦
          let taken : has c.args.outside c.loop-point.point ≡ true = sym c.has.ensures ∙ w.if-not-has.false in
          record {
            full = rw (w.found-is, ← unmove) (full-inside c.args.outside c.loop-point.point c.loop-point.found c.loop-point.invariant.full taken);
            counted = omega (arith, w.left-is, ap (number_outside c.args.outside) unmove, number-inside c.args.outside c.loop-point.point taken, c.loop-point.invariant.counted);
          }
    ]

pub returns : goal.returns
returns c =
    let end_ : c.loop-point.point ≡ c.args.end = omega arith in
    let all : number_outside c.args.outside c.loop-point.point ≡ c.args.count =
    omega (arith, c.loop-point.invariant.counted, c.requires.fits, ap (number_outside c.args.outside) end_) in
    subst (λ k. IsRanked c.args.end c.args.outside k 0 c.loop-point.found) all
    (full-end c.args.outside c.loop-point.point c.loop-point.found c.loop-point.invariant.full c.args.end (omega arith) (omega arith))
