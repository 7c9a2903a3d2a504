use Rattle.std.proofs.Common.{◌≡◌, ℕ, eqb, not, ◌&&◌, ◌+◌, ◌<◌, ◌++◌, ◌∷◌, [], true, false, List, None, map, refl, sym, ap, ap₂, subst, ◌∙◌, arith, append_assoc}
use Rattle.std.proofs.lemmas.Bool.{and_right}
use Rattle.std.proofs.lemmas.List.{append-nil}
use Rattle.morris_board.specs.Positions.{sides, IsPosition}
use Rattle.morris_board.specs.Sets.{has, members, with_point, without_point}
use Rattle.morris_board.proofs.PointsLaws.{has-without}
use Rattle.morris_moves.specs.Rules.{is_vacant, move}
use Rattle.morris_index.specs.ClassPairs.{class_index_of}
use Rattle.morris_index.specs.Moves.{InPair}
use Rattle.morris_index.specs.Standings.{IsCanonicalStanding}
use Rattle.morris_index.proofs.MoveLaws.{vacant_other}
use Rattle.morris_pairs.specs.Predecessors.{predecessors_in_rows, predecessors_in}
use Rattle.morris_pairs.specs.Orders.{Rows}
use Rattle.morris_pairs.proofs.BackLawsLoops.{end_of, next_points, leading_into_none, leading_into_more, none_left}
use Rattle.morris_pairs.proofs.RowBackLaws.{row_lawful, row_low, row_before}
use Rattle.morris_pairs.proofs.RowStepLaws.{lesser_count}
use Rattle.morris_pairs.proofs.row_predecessors.add_into_row.Given as given
use Rattle.morris_pairs.proofs.row_predecessors.add_into_row.Goals as goal
use Rattle.morris_pairs.proofs.row_predecessors.add_into_row.Goals.{In-Some, After-entry_on}

-- the point that the stone came from
source : (g : given.Over) (c : In-Some g) → (c.in-Some.from < g.B.Geometry.POINTS) × (is_vacant c.args.position.now c.in-Some.from ≡ true)
source g c = c.requires.sources c.in-Some.from (end_of c.args.sources c.in-Some.from c.loop-from.yielded _ _ c.loop-from.invariant.points c.in-Some.ensures.steps)

-- the entry of the position with the stone there
entry : (g : given.Over) (c : After-entry_on g) → c.entry_on.result
    ≡ class_index_of g.B.Geometry.shape g.B.Geometry.POINTS c.args.classes.now (sides c.args.position.now.own (with_point (without_point c.args.position.now.other c.args.to) c.in-Some.from))
entry g c =
    c.entry_on.ensures.value
    ∙ ap (λ (q : InPair). class_index_of g.B.Geometry.shape g.B.Geometry.POINTS q.pair (sides q.position.own (with_point q.position.other c.in-Some.from))) c.elsewhere-elsewhere.ensures.value

pub loop-from-init : goal.loop-from-init
loop-from-init g c = record {
  points = ap members (c.into_iter-from-iterator.ensures.into_iter_gives ∙ c.iter-from-items.ensures.points);
  listed = sym (ap (λ xs. c.args.out.now.items ++ xs)
      (leading_into_none Rows g.B.Geometry.shape g.B.Geometry.POINTS c.args.classes.now c.args.position.now c.args.to) ∙ append-nil c.args.out.now.items);
}

pub elsewhere-elsewhere-requires-clause-stands : goal.elsewhere-elsewhere-requires-clause-stands
elsewhere-elsewhere-requires-clause-stands g c =
    subst (λ (m : ℕ). IsCanonicalStanding g.B.Geometry.shape g.B.Geometry.POINTS c.args.classes.now m c.args.standing.now)
    (sym (lesser_count g.B.Geometry.POINTS c.args.classes.now c.pair.ensures.lawful c.requires.two c.args.position.now c.requires.counts c.requires.to_first_half)) c.requires.stands

pub entry_on-requires-clause-free : goal.entry_on-requires-clause-free
entry_on-requires-clause-free g c =
    let is = source g (goal.at.entry_on-requires-clause-free g c).In-Some in
    ap (λ (q : InPair). has q.position.other c.in-Some.from) c.elsewhere-elsewhere.ensures.value
    ∙ (has-without c.args.position.now.other c.args.to c.in-Some.from
    ∙ ap (λ x. not (eqb c.in-Some.from c.args.to) && x) (vacant_other (has c.args.position.now.own c.in-Some.from) (has c.args.position.now.other c.in-Some.from) is.1)
    ∙ and_right (not (eqb c.in-Some.from c.args.to)) false refl)

pub entry_on-requires-clause-lawful : goal.entry_on-requires-clause-lawful
entry_on-requires-clause-lawful g c =
    let is = source g (goal.at.entry_on-requires-clause-lawful g c).In-Some in
    subst (λ (q : InPair). IsPosition g.B.Geometry.shape (sides q.position.own (with_point q.position.other c.in-Some.from))) (sym c.elsewhere-elsewhere.ensures.value)
    (row_lawful g.B.Geometry.shape g.B.Geometry.POINTS g.met.B.Geometry.few g.met.B.Geometry.point_count g.met.B.Geometry.has_symmetries c.args.classes.now c.pair.ensures.lawful c.requires.two
    c.args.position.now c.elsewhere-elsewhere.ensures.lawful c.requires.counts c.requires.to_first_half c.requires.own c.args.position.now.own refl c.args.to c.requires.end c.in-Some.from is.0 is.1
    (with_point (without_point c.args.position.now.other c.args.to) c.in-Some.from) refl)

pub overflow_add-split : goal.overflow_add-split
overflow_add-split g c =
    let is = source g (goal.at.overflow_add-split g c).In-Some in
    omega (
      arith,
      entry g (goal.at.overflow_add-split g c).After-entry_on,
      c.first_half-split.ensures.value,
      c.first_half-split.ensures.few,
      row_low g.B.Geometry.shape g.B.Geometry.POINTS g.met.B.Geometry.few g.met.B.Geometry.point_count g.met.B.Geometry.has_symmetries c.args.classes.now c.pair.ensures.lawful c.requires.two
          c.args.position.now c.elsewhere-elsewhere.ensures.lawful c.requires.counts c.requires.to_first_half c.requires.own c.args.position.now.own refl c.args.to c.requires.end c.in-Some.from is.0 is.1
          (with_point (without_point c.args.position.now.other c.args.to) c.in-Some.from) refl,
    )

pub loop-from-preserved : goal.loop-from-preserved
loop-from-preserved g c =
    let is = source g (goal.at.loop-from-preserved g c).In-Some in
    let one : (c.first_half-split.result + c.entry_on.result) ∷ [] ≡ predecessors_in_rows g.B.Geometry.shape g.B.Geometry.POINTS c.args.classes.now c.args.position.now c.in-Some.from c.args.to =
    ap₂ (λ (i j : ℕ). (i + j) ∷ []) c.first_half-split.ensures.value (entry g (goal.at.loop-from-preserved g c).After-entry_on)
    ∙ sym (row_before g.B.Geometry.shape g.B.Geometry.POINTS g.met.B.Geometry.few g.met.B.Geometry.point_count g.met.B.Geometry.has_symmetries c.args.classes.now c.pair.ensures.lawful c.requires.two
    c.args.position.now c.elsewhere-elsewhere.ensures.lawful c.requires.counts c.requires.to_first_half c.requires.own c.args.position.now.own refl c.args.to c.requires.end c.in-Some.from is.0 is.1
    (with_point (without_point c.args.position.now.other c.args.to) c.in-Some.from) refl) in
    record {
      points = next_points c.loop-from.yielded c.in-Some.from _ _ _ c.loop-from.invariant.points c.in-Some.ensures.steps;
      listed = c.in_ok-push.ensures.items
          ∙ (ap₂ (λ (xs ys : List ℕ). xs ++ ys) c.loop-from.invariant.listed one
          ∙ (append_assoc c.args.out.now.items _ _
          ∙ ap (λ (xs : List ℕ). c.args.out.now.items ++ xs)
          (leading_into_more Rows g.B.Geometry.shape g.B.Geometry.POINTS c.args.classes.now c.args.position.now c.loop-from.yielded c.in-Some.from c.args.to)));
    }

pub returns : goal.returns
returns g c =
    let all = none_left c.loop-from.yielded _ _ c.loop-from.invariant.points c.in-None.ensures.steps.0 in
    c.loop-from.invariant.listed
    ∙ ap (λ (us : List ℕ). c.args.out.now.items ++ predecessors_in Rows g.B.Geometry.shape g.B.Geometry.POINTS c.args.classes.now c.args.position.now (map (λ u. move u c.args.to None) us)) all
