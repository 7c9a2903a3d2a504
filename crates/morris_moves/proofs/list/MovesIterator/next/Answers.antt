-- The loop has in hand what is still to come of the list, and each arm of it goes on by one element
-- of that list.
use Rattle.std.proofs.Common.{◌≡◌, ℕ, suc, ◌+◌, ◌*◌, ◌<◌, ◌≤◌, true, false, List, ◌∷◌, length, sym, ap, ◌∙◌, arith, Some}
use Rattle.std.specs.Iterator.{MakesProgress, item_count}
use Rattle.morris_board.specs.Sets.{members, count_of}
use Rattle.morris_board.proofs.PointsLaws.{count_of-le}
use Rattle.morris_moves.specs.declared.game_move.Move.{Move}
use Rattle.morris_moves.specs.Rules.{closes}
use Rattle.morris_moves.proofs.SetLaws.{point_lt, without_point-lt, count_of-first}
use Rattle.morris_moves.proofs.MaskLaws.{reach-lt}
use Rattle.morris_moves.proofs.ListingLaws.{capture_next, quiet_next, closing_next, stone_next, moves_left_none}
use Rattle.morris_moves.proofs.list.MovesIterator.next.Goals as goal

progress : (s t : List Move) (m : Move) → s ≡ m ∷ t → MakesProgress (λ _. Unit {0}) (item_count (λ list. list)) s (Some m) t
progress s t m e = record {
  on = λ f. (tt, tt, (let one : length s ≡ suc (length t) = ap length e in omega arith));
  keeps = tt;
  rests = λ f. tt;
}

-- the measure goes down where a point is taken from `to_left`, whatever may then be captured, and
-- where a stone is taken from `from_left`
fewer_points : (stones points less takes more : ℕ) → points ≡ suc less → more ≤ 32
    → 10000 * stones + (100 * less + more) < 10000 * stones + (100 * points + takes)
fewer_points stones points less takes more e few = omega arith

fewer_stones : (stones less points more takes : ℕ) → stones ≡ suc less → more ≤ 32
    → 10000 * less + (100 * more + takes) < 10000 * stones + (100 * points + takes)
fewer_stones stones less points more takes e few = omega arith

pub returns-in-Some-clause-steps : goal.returns-in-Some-clause-steps
returns-in-Some-clause-steps g c =
    let next : members c.loop-taken.self-inside.take_left ≡ c.in-Some.taken ∷ members c.without-self-inside.result =
    rw c.without-self-inside.ensures c.in-Some.ensures.rest in
    sym c.loop-taken.invariant.same ∙ capture_next g.B.Geometry.shape c.loop-taken.self-inside.position c.loop-taken.self-inside.from_left c.loop-taken.self-inside.from c.loop-taken.self-inside.to_left c.loop-taken.self-inside.to
    c.loop-taken.self-inside.take_left c.without-self-inside.result c.in-Some.taken next

pub returns-in-Some-clause-goes : goal.returns-in-Some-clause-goes
returns-in-Some-clause-goes g c = progress _ _ _ (returns-in-Some-clause-steps g c)

pub returns-then-not-closes-clause-steps : goal.returns-then-not-closes-clause-steps
returns-then-not-closes-clause-steps g c =
    let next : members c.loop-taken.self-inside.to_left ≡ c.in-Some-first.to ∷ members c.without-self-inside-in-Some-first.result =
    rw c.without-self-inside-in-Some-first.ensures c.in-Some-first.ensures.rest in
    let quiet : closes g.B.Geometry.shape c.loop-taken.self-inside.position.own c.loop-taken.self-inside.from c.in-Some-first.to ≡ false =
    rw (← c.own.ensures.points) (sym c.closes.ensures ∙ c.if-not-closes.true) in
    sym c.loop-taken.invariant.same ∙ quiet_next g.B.Geometry.shape c.loop-taken.self-inside.position c.loop-taken.self-inside.from_left c.loop-taken.self-inside.from c.loop-taken.self-inside.to_left c.loop-taken.self-inside.to
    c.loop-taken.self-inside.take_left c.without-self-inside-in-Some-first.result c.in-Some-first.to c.in-None.ensures.rest next quiet

pub returns-then-not-closes-clause-goes : goal.returns-then-not-closes-clause-goes
returns-then-not-closes-clause-goes g c = progress _ _ _ (returns-then-not-closes-clause-steps g c)

pub loop-taken-smaller-in-Some-first : goal.loop-taken-smaller-in-Some-first
loop-taken-smaller-in-Some-first g c =
    let next : members c.loop-taken.self-inside.to_left ≡ c.in-Some-first.to ∷ members c.without-self-inside-in-Some-first.result =
    rw c.without-self-inside-in-Some-first.ensures c.in-Some-first.ensures.rest in
    fewer_points (count_of c.loop-taken.self-inside.from_left) (count_of c.loop-taken.self-inside.to_left)
    (count_of c.without-self-inside-in-Some-first.result) (count_of c.loop-taken.self-inside.take_left) (count_of c.takable_stones-self-inside.result)
    (count_of-first _ _ _ next) (count_of-le c.takable_stones-self-inside.result)

pub loop-taken-preserved-in-Some-first : goal.loop-taken-preserved-in-Some-first
loop-taken-preserved-in-Some-first g c =
    let next : members c.loop-taken.self-inside.to_left ≡ c.in-Some-first.to ∷ members c.without-self-inside-in-Some-first.result =
    rw c.without-self-inside-in-Some-first.ensures c.in-Some-first.ensures.rest in
    let shut : closes g.B.Geometry.shape c.loop-taken.self-inside.position.own c.loop-taken.self-inside.from c.in-Some-first.to ≡ true =
    rw (← c.own.ensures.points) (sym c.closes.ensures ∙ c.if-not-closes.false) in
    record {
      same = rw (c.takable_stones-self-inside.ensures, c.other.ensures.points)
          (sym (closing_next g.B.Geometry.shape c.loop-taken.self-inside.position c.loop-taken.self-inside.from_left c.loop-taken.self-inside.from c.loop-taken.self-inside.to_left c.loop-taken.self-inside.to
          c.loop-taken.self-inside.take_left c.without-self-inside-in-Some-first.result c.in-Some-first.to c.in-None.ensures.rest next shut) ∙ c.loop-taken.invariant.same);
      stones = c.loop-taken.invariant.stones;
      stone = c.loop-taken.invariant.stone;
      ends = rw c.without-self-inside-in-Some-first.ensures (without_point-lt _ _ _ c.loop-taken.invariant.ends);
    }

pub returns-in_err-from-in-None-first-clause-steps : goal.returns-in_err-from-in-None-first-clause-steps
returns-in_err-from-in-None-first-clause-steps g c =
    let done = moves_left_none g.B.Geometry.shape c.loop-taken.self-inside.position c.loop-taken.self-inside.from_left c.loop-taken.self-inside.from c.loop-taken.self-inside.to_left c.loop-taken.self-inside.to
    c.loop-taken.self-inside.take_left c.in-None.ensures.rest c.in-None-first.ensures.rest c.in_err-from-in-None-first.ensures.rest in
    rw c.from_residual.ensures (sym c.loop-taken.invariant.same ∙ done, done)

pub reach-self-inside-requires : goal.reach-self-inside-requires
reach-self-inside-requires g c =
    point_lt c.loop-taken.self-inside.from_left g.B.Geometry.POINTS c.in_ok-from-in-None-first.from c.loop-taken.invariant.stones
    c.in_ok-from-in-None-first.ensures.point.1

pub loop-taken-smaller : goal.loop-taken-smaller
loop-taken-smaller g c =
    let next : members c.loop-taken.self-inside.from_left ≡ c.in_ok-from-in-None-first.from ∷ members c.without-self-inside-in-None-first.result =
    rw c.without-self-inside-in-None-first.ensures c.in_ok-from-in-None-first.ensures.rest in
    fewer_stones (count_of c.loop-taken.self-inside.from_left) (count_of c.without-self-inside-in-None-first.result)
    (count_of c.loop-taken.self-inside.to_left) (count_of c.reach-self-inside.result) (count_of c.loop-taken.self-inside.take_left)
    (count_of-first _ _ _ next) (count_of-le c.reach-self-inside.result)

pub loop-taken-preserved : goal.loop-taken-preserved
loop-taken-preserved g c =
    let next : members c.loop-taken.self-inside.from_left ≡ c.in_ok-from-in-None-first.from ∷ members c.without-self-inside-in-None-first.result =
    rw c.without-self-inside-in-None-first.ensures c.in_ok-from-in-None-first.ensures.rest in
    record {
      same = rw c.reach-self-inside.ensures
          (sym (stone_next g.B.Geometry.shape c.loop-taken.self-inside.position c.loop-taken.self-inside.from_left c.loop-taken.self-inside.from c.loop-taken.self-inside.to_left c.loop-taken.self-inside.to
          c.loop-taken.self-inside.take_left c.without-self-inside-in-None-first.result c.in_ok-from-in-None-first.from c.in-None.ensures.rest c.in-None-first.ensures.rest next)
          ∙ c.loop-taken.invariant.same);
      stones = rw c.without-self-inside-in-None-first.ensures (without_point-lt _ _ _ c.loop-taken.invariant.stones);
      stone = c.in_ok-from-in-None-first.ensures.point.0;
      ends = reach-lt g.B.Geometry.shape g.B.Geometry.POINTS g.met.B.Geometry.point_count _ _ _ c.reach-self-inside.ensures;
    }

pub closes-requires-clause-end : goal.closes-requires-clause-end
closes-requires-clause-end g c =
    point_lt c.loop-taken.self-inside.to_left g.B.Geometry.POINTS c.in-Some-first.to c.loop-taken.invariant.ends c.in-Some-first.ensures.point.1

pub invariant_of-self-then-not-closes : goal.invariant_of-self-then-not-closes
invariant_of-self-then-not-closes g c = (
  c.loop-taken.invariant.stones,
  c.loop-taken.invariant.stone,
  rw c.without-self-inside-in-Some-first.ensures (without_point-lt _ _ _ c.loop-taken.invariant.ends),
)
