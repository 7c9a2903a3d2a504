-- The numbers of the points are found by their rank, and then the points that have them.
use Rattle.std.proofs.Common.{◌≡◌, ℕ, ◌-◌, ◌<◌, ◌≤◌, refl, arith}
use Rattle.std.proofs.Math.Nat.{pow-le-pow_right}
use Rattle.morris_index.specs.Binomials.{choose}
use Rattle.morris_index.specs.Numbering.{number_outside, IsRanked}
use Rattle.morris_index.proofs.BinomialTable.{choose_small}
use Rattle.morris_index.proofs.RankLaws.{number-count}
use Rattle.morris_index.proofs.Spreading.{spread-ranked, listed-fits}
use Rattle.morris_index.proofs.Unranking.{unranking-start, unranking-unmove, unranking-end, unranking-last, last_lt}
use Rattle.morris_index.proofs.ranks.unrank.Goals as goal
use Rattle.morris_index.proofs.ranks.unrank.Goals.{Then-left-eq1, Joined-left-eq1, then-left-eq1, else-left-eq1}

numbers_few : (outside points : ℕ) → points ≤ 24 → number_outside outside points ≤ 24
numbers_few outside points board = omega (arith, number-count outside points)

pub overflow_cast-rest : goal.overflow_cast-rest
overflow_cast-rest c =
    let few = numbers_few c.args.outside c.args.points c.requires.board in
    omega (arith, c.requires.small, choose_small (number_outside c.args.outside c.args.points) c.args.count (omega (arith, few)) (omega (arith, c.requires.few)))

pub loop-left-init : goal.loop-left-init
loop-left-init c = unranking-start (number_outside c.args.outside c.args.points) c.args.count c.args.rank c.requires.small

pub loop-left-preserved : goal.loop-left-preserved
loop-left-preserved c =
    let few = numbers_few c.args.outside c.args.points c.requires.board in
    let lower : c.loop-left.rest - choose c.highest_point-number.result.0 c.loop-left.left ≡ c.highest_point-number.result.1 = omega (arith, c.highest_point-number.ensures.left) in
    rw (c.with-numbers.ensures, ← lower)
    (unranking-unmove _ _ _ _ _ _ _ (omega arith) c.loop-left.invariant few (omega (arith, c.highest_point-number.ensures.left)) c.highest_point-number.ensures.highest)

-- the rank of a set of one point
last_low : (c : Then-left-eq1) → c.loop-left.rest < 24
last_low c =
    omega (arith, last_lt _ _ _ c.loop-left.rest c.loop-left.numbers (rw c.if-left-eq1.true at c.loop-left.invariant) (numbers_few c.args.outside c.args.points c.requires.board))

pub overflow_cast-rest-then-left-eq1 : goal.overflow_cast-rest-then-left-eq1
overflow_cast-rest-then-left-eq1 c = omega (arith, last_low (goal.at.overflow_cast-rest-then-left-eq1 c).Then-left-eq1)

pub with-numbers-requires-then-left-eq1 : goal.with-numbers-requires-then-left-eq1
with-numbers-requires-then-left-eq1 c = omega (arith, last_low (goal.at.with-numbers-requires-then-left-eq1 c).Then-left-eq1)

-- the numbers that are found have the rank
found : (c : Joined-left-eq1) → IsRanked (number_outside c.args.outside c.args.points) 0 c.args.count c.args.rank c.if-left-eq1.numbers
found c = elim c.if-left-eq1.branch [
  | then-left-eq1 w ↦ rw (w.numbers-is, w.with-numbers-then-left-eq1.ensures)
      (unranking-last _ _ _ c.loop-left.rest c.loop-left.numbers (rw w.if-left-eq1.true at c.loop-left.invariant) (numbers_few c.args.outside c.args.points c.requires.board))
  | else-left-eq1 w ↦
      let none : c.loop-left.left ≡ 0 = omega (arith, w.if-left-eq1.false) in
      rw w.numbers-is (unranking-end _ _ _ c.loop-left.rest c.loop-left.numbers (rw none at c.loop-left.invariant))
]

pub spread-requires : goal.spread-requires
spread-requires c = record {
  board = omega (arith, c.requires.within, pow-le-pow_right {n = 2} (omega arith) {i = c.args.points} {j = 24} c.requires.board);
  fits =
      listed-fits c.args.points (number_outside c.args.outside c.args.points) c.args.count c.args.rank c.if-left-eq1.numbers c.args.outside c.requires.board refl
      (found (goal.at.spread-requires c).Joined-left-eq1);
}

pub returns : goal.returns
returns c =
    spread-ranked c.args.points c.args.outside c.args.count c.args.rank c.if-left-eq1.numbers c.spread.result c.requires.board
    (found (goal.at.returns c).Joined-left-eq1) c.spread.ensures.within c.spread.ensures.apart c.spread.ensures.squeeze
