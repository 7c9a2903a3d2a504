-- The loop has in hand what is still to come of the list, and each arm of it goes on by one element
-- of that list.
use Rattle.std.proofs.Common.{◌≡◌, ℕ, suc, ◌+◌, ◌*◌, ◌<◌, ◌≤◌, true, not, eqb, List, ◌∷◌, length, sym, ap, ◌∙◌, arith, None, Some}
use Rattle.std.proofs.lemmas.Bool.{and_parts}
use Rattle.std.specs.Iterator.{MakesProgress, item_count}
use Rattle.morris_board.specs.Sets.{has, members, count_of, without_point}
use Rattle.morris_board.specs.Boards.{Shape}
use Rattle.morris_board.specs.Positions.{Sides}
use Rattle.morris_board.proofs.PointsLaws.{count_of-le, has-without}
use Rattle.morris_board.proofs.SetLaws.{count_of-first}
use Rattle.morris_moves.specs.declared.game_move.Move.{Move}
use Rattle.morris_moves.specs.Rules.{move}
use Rattle.morris_moves.specs.Backward.{unmove}
use Rattle.morris_moves.specs.Listing.{AreVacant, AreTargets}
use Rattle.morris_moves.proofs.BackListLaws.{target}
use Rattle.morris_moves.proofs.ListingLaws.{back_next, source_next, backs_left_none}
use Rattle.morris_moves.proofs.backward.BacksIterator.next.Goals as goal

progress : (s t : List (Sides × Move)) (x : Sides × Move) → s ≡ x ∷ t → MakesProgress (λ _. Unit {0}) (item_count (λ list. list)) s (Some x) t
progress s t x e = record {
  on = λ f. (tt, tt, (let one : length s ≡ suc (length t) = ap length e in omega arith));
  keeps = tt;
  rests = λ f. tt;
}

-- the measure goes down where a point is taken from `from_left`, whatever stones may then have come
-- from there
fewer_sources : (froms less tos more : ℕ) → froms ≡ suc less → more ≤ 32 → 100 * less + more < 100 * froms + tos
fewer_sources froms less tos more e few = omega arith

stays : (s r p q : ℕ) → r ≡ without_point s p → has r q ≡ true → has s q ≡ true
stays s r p q e here = (and_parts (not (eqb q p)) (has s q) (sym (has-without s p q) ∙ (ap (λ t. has t q) (sym e) ∙ here))).1

fewer_vacant : (b : Shape) (q : Sides) (froms rest p : ℕ) → rest ≡ without_point froms p → AreVacant b q froms → AreVacant b q rest
fewer_vacant b q froms rest p e each u here = each u (stays froms rest p u e here)

fewer_targets : (b : Shape) (q : Sides) (u tos rest p : ℕ) → rest ≡ without_point tos p → AreTargets b q u tos → AreTargets b q u rest
fewer_targets b q u tos rest p e each v here = each v (stays tos rest p v e here)

pub unmove-requires-clause-end : goal.unmove-requires-clause-end
unmove-requires-clause-end g c =
    let t = c.loop-to.invariant.ends c.in-Some.to c.in-Some.ensures.point.1 in
    (target g.B.Geometry.shape c.loop-to.self-inside.position c.loop-to.self-inside.from c.in-Some.to t.2).end

pub unmove-requires-clause-enough : goal.unmove-requires-clause-enough
unmove-requires-clause-enough g c =
    let t = c.loop-to.invariant.ends c.in-Some.to c.in-Some.ensures.point.1 in
    (target g.B.Geometry.shape c.loop-to.self-inside.position c.loop-to.self-inside.from c.in-Some.to t.2).enough

pub invariant_of-self : goal.invariant_of-self
invariant_of-self g c = (
  c.loop-to.invariant.stones,
  c.loop-to.invariant.sources,
  fewer_targets g.B.Geometry.shape c.loop-to.self-inside.position c.loop-to.self-inside.from c.loop-to.self-inside.to_left c.without-self-inside.result c.in-Some.to
      c.without-self-inside.ensures c.loop-to.invariant.ends,
)

pub returns-in-Some-clause-steps : goal.returns-in-Some-clause-steps
returns-in-Some-clause-steps g c =
    let next : members c.loop-to.self-inside.to_left ≡ c.in-Some.to ∷ members c.without-self-inside.result =
    rw c.without-self-inside.ensures c.in-Some.ensures.rest in
    let value : c.unmove.result ≡ unmove c.loop-to.self-inside.position (move c.loop-to.self-inside.from c.in-Some.to None) = c.unmove.ensures.value in
    rw value (sym c.loop-to.invariant.same ∙ back_next g.B.Geometry.shape c.loop-to.self-inside.position c.loop-to.self-inside.from_left c.loop-to.self-inside.from
    c.loop-to.self-inside.to_left c.without-self-inside.result c.in-Some.to next)

pub returns-in-Some-clause-goes : goal.returns-in-Some-clause-goes
returns-in-Some-clause-goes g c = progress _ _ _ (returns-in-Some-clause-steps g c)

pub returns-in_err-from-in-None-clause-steps : goal.returns-in_err-from-in-None-clause-steps
returns-in_err-from-in-None-clause-steps g c =
    let done = backs_left_none g.B.Geometry.shape c.loop-to.self-inside.position c.loop-to.self-inside.from_left c.loop-to.self-inside.from c.loop-to.self-inside.to_left
    c.in-None.ensures.rest c.in_err-from-in-None.ensures.rest in
    rw c.from_residual.ensures (sym c.loop-to.invariant.same ∙ done, done)

pub loop-to-smaller : goal.loop-to-smaller
loop-to-smaller g c =
    let next : members c.loop-to.self-inside.from_left ≡ c.in_ok-from-in-None.from ∷ members c.without-self-inside-in-None.result =
    rw c.without-self-inside-in-None.ensures c.in_ok-from-in-None.ensures.rest in
    fewer_sources (count_of c.loop-to.self-inside.from_left) (count_of c.without-self-inside-in-None.result) (count_of c.loop-to.self-inside.to_left)
    (count_of c.targets-self-inside.result) (count_of-first _ _ _ next) (count_of-le c.targets-self-inside.result)

pub loop-to-preserved : goal.loop-to-preserved
loop-to-preserved g c =
    let next : members c.loop-to.self-inside.from_left ≡ c.in_ok-from-in-None.from ∷ members c.without-self-inside-in-None.result =
    rw c.without-self-inside-in-None.ensures c.in_ok-from-in-None.ensures.rest in
    let here = c.loop-to.invariant.sources c.in_ok-from-in-None.from c.in_ok-from-in-None.ensures.point.1 in
    record {
      same = rw c.targets-self-inside.ensures
          (sym (source_next g.B.Geometry.shape c.loop-to.self-inside.position c.loop-to.self-inside.from_left c.loop-to.self-inside.from c.loop-to.self-inside.to_left
          c.without-self-inside-in-None.result c.in_ok-from-in-None.from c.in-None.ensures.rest next) ∙ c.loop-to.invariant.same);
      stones = c.loop-to.invariant.stones;
      sources = fewer_vacant g.B.Geometry.shape c.loop-to.self-inside.position c.loop-to.self-inside.from_left c.without-self-inside-in-None.result
          c.in_ok-from-in-None.from c.without-self-inside-in-None.ensures c.loop-to.invariant.sources;
      ends = λ v found. (here.0, here.1, ap (λ s. has s v) (sym c.targets-self-inside.ensures) ∙ found);
    }
