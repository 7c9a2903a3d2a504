use Rattle.std.proofs.Common.{◌≡◌, ℕ, ◌<◌, ◌≤◌, ◌+◌, ◌++◌, ◌∷◌, [], List, true, length, filter, slice_index, sym, ap, ◌∙◌, arith, length-append}
use Rattle.std.proofs.lemmas.List.Sums.{sum_by_push}
use Rattle.std.specs.List.{sum_by}
use Rattle.morris_board.specs.Sets.{has, members}
use Rattle.morris_board.specs.Boards.{Shape}
use Rattle.morris_board.specs.Positions.{Sides, IsPosition}
use Rattle.morris_moves.specs.Rules.{moves_of}
use Rattle.morris_moves.proofs.SetLaws.{point_lt}
use Rattle.morris_index.proofs.Moving.{total}
use Rattle.morris_pairs.specs.declared.rows.Row.{Row}
use Rattle.morris_pairs.specs.PairNets.{is_quiet}
use Rattle.morris_pairs.specs.Rows.{arrivals, IsRow}
use Rattle.morris_pairs.proofs.BackLawsLoops.{end_of, next_points, none_left}
use Rattle.morris_pairs.proofs.RowLaws.{arrivals-few, quiet_by_row}
use Rattle.morris_pairs.proofs.rows.Row.quiet_moves.Given as given
use Rattle.morris_pairs.proofs.rows.Row.quiet_moves.Goals as goal
use Rattle.morris_pairs.proofs.rows.Row.quiet_moves.Goals.{In-Some}

-- a stone of the other
module _ (b : Shape) (n : ℕ) (points : b.points ≡ n) (s : Sides) (lawful : IsPosition b s) (row : Row) (own : row.own ≡ s.own) (is : IsRow b n row)
    (v : ℕ) (here : has s.other v ≡ true) where
  pub here_lt : v < n
  here_lt = point_lt s.other n v (rw (← points) lawful.stones.other_within) here

  pub here_is : slice_index row.arrivals v ≡ arrivals b s.own v
  here_is = is.each v here_lt ∙ ap (λ o. arrivals b o v) own

next : (g : given.Over) (c : In-Some g) → has c.args.position.now.other c.in-Some.to ≡ true
next g c = end_of c.args.position.now.other c.in-Some.to c.loop-to.yielded _ _ c.loop-to.invariant.points c.in-Some.ensures.steps

pub bounds-self-to : goal.bounds-self-to
bounds-self-to g c =
    omega (
      arith,
      g.met.B.Geometry.few,
      here_lt g.B.Geometry.shape g.B.Geometry.POINTS g.met.B.Geometry.point_count c.args.position.now c.other.ensures.lawful
          c.args.self.now c.requires.own c.requires.row c.in-Some.to (next g (goal.at.bounds-self-to g c).In-Some),
    )

pub overflow_add-gone : goal.overflow_add-gone
overflow_add-gone g c =
    let split : c.loop-to.yielded ++ c.in-Some.to ∷ members c.next.new.self ≡ members c.args.position.now.other =
    ap (λ (zs : List ℕ). c.loop-to.yielded ++ zs) (sym c.in-Some.ensures.steps) ∙ c.loop-to.invariant.points in
    omega (
      arith,
      arrivals-few g.B.Geometry.shape c.args.position.now.own c.in-Some.to,
      c.loop-to.invariant.few,
      here_is g.B.Geometry.shape g.B.Geometry.POINTS g.met.B.Geometry.point_count c.args.position.now c.other.ensures.lawful
          c.args.self.now c.requires.own c.requires.row c.in-Some.to (next g (goal.at.overflow_add-gone g c).In-Some),
      c.iter-to-items.ensures.few,
      c.other.ensures.points,
      ap length split,
      length-append c.loop-to.yielded (c.in-Some.to ∷ members c.next.new.self),
      ap (λ s. length (members s)) c.other.ensures.points,
    )

pub loop-to-preserved : goal.loop-to-preserved
loop-to-preserved g c =
    let is : slice_index c.args.self.now.arrivals c.in-Some.to ≡ arrivals g.B.Geometry.shape c.args.position.now.own c.in-Some.to =
    here_is g.B.Geometry.shape g.B.Geometry.POINTS g.met.B.Geometry.point_count c.args.position.now c.other.ensures.lawful
    c.args.self.now c.requires.own c.requires.row c.in-Some.to (next g (goal.at.loop-to-preserved g c).In-Some) in
    record {
      points = next_points c.loop-to.yielded c.in-Some.to _ _ _ c.loop-to.invariant.points c.in-Some.ensures.steps;
      summed = omega (arith, is, c.loop-to.invariant.summed, sum_by_push (arrivals g.B.Geometry.shape c.args.position.now.own) c.loop-to.yielded c.in-Some.to);
      few = omega (
        arith,
        is,
        arrivals-few g.B.Geometry.shape c.args.position.now.own c.in-Some.to,
        c.loop-to.invariant.few,
        length-append c.loop-to.yielded (c.in-Some.to ∷ []),
      );
    }

-- all of the other's stones were gone through
module _ (b : Shape) (n : ℕ) (points : b.points ≡ n) (low : n ≤ 24) (s : Sides) (lawful : IsPosition b s) (row : Row) (own : row.own ≡ s.own) (is : IsRow b n row)
    (ys zs : List ℕ) (split : ys ++ zs ≡ members s.other) (none : zs ≡ []) (gone : ℕ) (summed : gone ≡ sum_by (arrivals b s.own) ys) where
  pub all_is : length (filter is_quiet (moves_of b s)) + gone ≡ row.all
  all_is =
      let each = none_left ys zs _ split none in
      let low' : n ≤ 32 = omega arith in
      omega (arith, quiet_by_row b s n points low' lawful, summed, ap (sum_by (arrivals b s.own)) each, is.all, ap (λ o. total (arrivals b o) n) own)

pub overflow_sub-result : goal.overflow_sub-result
overflow_sub-result g c =
    omega (
      arith,
      all_is g.B.Geometry.shape g.B.Geometry.POINTS g.met.B.Geometry.point_count g.met.B.Geometry.few c.args.position.now c.other.ensures.lawful
          c.args.self.now c.requires.own c.requires.row c.loop-to.yielded (members c.loop-to.to-iterator) c.loop-to.invariant.points c.in-None.ensures.steps.0
          c.loop-to.gone c.loop-to.invariant.summed,
    )

pub returns : goal.returns
returns g c =
    omega (
      arith,
      all_is g.B.Geometry.shape g.B.Geometry.POINTS g.met.B.Geometry.point_count g.met.B.Geometry.few c.args.position.now c.other.ensures.lawful
          c.args.self.now c.requires.own c.requires.row c.loop-to.yielded (members c.loop-to.to-iterator) c.loop-to.invariant.points c.in-None.ensures.steps.0
          c.loop-to.gone c.loop-to.invariant.summed,
    )
