use Rattle.std.proofs.Common.{◌≡◌, ◌++◌, true, List, slice_index, sym, ap, subst, ◌∙◌, arith}
use Rattle.morris_board.specs.Sets.{has, members, count_of, without_point}
use Rattle.morris_moves.specs.declared.game_move.Move.{Move}
use Rattle.morris_pairs.specs.Captured.{IsStandingIn, IsLeft, captures_at, captures_to}
use Rattle.morris_pairs.specs.Graphs.{exits_by}
use Rattle.morris_pairs.specs.CaptureCaches.{open_ends}
use Rattle.morris_pairs.proofs.BackLawsLoops.{end_of, next_points, none_left}
use Rattle.morris_pairs.proofs.CaptureLaws.{GoesOn, goes_none, goes_more, open_low, closers_close}
use Rattle.morris_pairs.proofs.CapturedLaws.{taken_in, left_within, left_counts}
use Rattle.morris_pairs.proofs.graph.with_captures.Given as given
use Rattle.morris_pairs.proofs.graph.with_captures.Goals as goal
use Rattle.morris_pairs.proofs.graph.with_captures.Goals.{After-standing-standing, In-Some}

-- where the results of taking a stone stand
left : (g : given.Over) (c : After-standing-standing g) → IsLeft g.B.Geometry.shape g.B.Geometry.POINTS c.args.position.now c.args.table.now c.args.taken c.standing-standing.result
left g c = record {
  takes = c.requires.taken;
  own = c.standing-standing.ensures.own ∙ (c.without-left.ensures ∙ ap (λ o. without_point o c.args.taken) c.other.ensures.points);
  stands = subst (λ k. IsStandingIn g.B.Geometry.shape g.B.Geometry.POINTS c.args.table.now.layout c.args.table.now.pair k c.standing-standing.result)
      (c.count.ensures.value ∙ ap count_of c.own.ensures.points) c.standing-standing.ensures.stands;
}

-- the point is one at which a mill is closed
here : (g : given.Over) (c : In-Some g) → has (open_ends g.B.Geometry.shape c.args.position.now.own c.args.position.now.other) c.in-Some.to ≡ true
here g c =
    subst (λ e. has e c.in-Some.to ≡ true) c.requires.ends (end_of c.args.ends c.in-Some.to c.loop-to.yielded _ _ c.loop-to.invariant.points c.in-Some.ensures.steps)

pub without-left-requires : goal.without-left-requires
without-left-requires g c =
    omega (arith, taken_in g.B.Geometry.shape g.B.Geometry.POINTS g.met.B.Geometry.point_count g.met.B.Geometry.few c.args.position.now c.requires.lawful c.args.taken c.requires.taken)

pub standing-standing-requires-clause-within : goal.standing-standing-requires-clause-within
standing-standing-requires-clause-within g c =
    rw (c.without-left.ensures, c.other.ensures.points) (left_within g.B.Geometry.shape g.B.Geometry.POINTS g.met.B.Geometry.point_count g.met.B.Geometry.few c.args.position.now c.requires.lawful c.args.taken c.requires.taken)

pub standing-standing-requires-clause-counts : goal.standing-standing-requires-clause-counts
standing-standing-requires-clause-counts g c =
    rw (c.without-left.ensures, c.other.ensures.points, c.count.ensures.value, c.own.ensures.points)
    (left_counts g.B.Geometry.shape g.B.Geometry.POINTS g.met.B.Geometry.point_count g.met.B.Geometry.few c.args.position.now c.requires.lawful c.args.taken c.requires.taken c.args.table.now c.requires.table)

pub loop-to-init : goal.loop-to-init
loop-to-init g c = record {
  points = ap members (c.into_iter-to-iterator.ensures.into_iter_gives ∙ c.iter-to-items.ensures.points);
  summed = goes_none g.B.Geometry.shape c.args.position.now c.args.known;
}

pub bounds-row-to : goal.bounds-row-to
bounds-row-to g c =
    omega (
      arith,
      c.requires.row.closers_len,
      g.met.B.Geometry.few,
      open_low g.B.Geometry.shape g.B.Geometry.POINTS g.met.B.Geometry.point_count g.met.B.Geometry.few c.args.position.now c.requires.lawful
          c.in-Some.to (here g (goal.at.bounds-row-to g c).In-Some),
    )

pub with_closers-exits-requires-clause-standing : goal.with_closers-exits-requires-clause-standing
with_closers-exits-requires-clause-standing g c = (c.args.taken, left g (goal.at.with_closers-exits-requires-clause-standing g c).After-standing-standing)

pub with_closers-exits-requires-clause-closers : goal.with_closers-exits-requires-clause-closers
with_closers-exits-requires-clause-closers g c = λ u h.
    closers_close g.B.Geometry.shape g.B.Geometry.POINTS g.met.B.Geometry.point_count g.met.B.Geometry.few c.args.position.now c.requires.lawful
    c.args.row.now c.requires.own c.requires.row u c.in-Some.to (here g (goal.at.with_closers-exits-requires-clause-closers g c).In-Some) (ap (λ s. has s u) (sym c.from_mask-closers.ensures) ∙ h)

pub loop-to-preserved : goal.loop-to-preserved
loop-to-preserved g c = record {
  points = next_points c.loop-to.yielded c.in-Some.to _ _ _ c.loop-to.invariant.points c.in-Some.ensures.steps;
  summed = goes_more g.B.Geometry.shape c.args.position.now c.args.known
      (λ v. captures_at c.args.taken (slice_index c.args.row.now.closers v) v)
      c.loop-to.exits c.with_closers-exits.result c.in-Some.to c.loop-to.yielded c.loop-to.invariant.summed
      (subst (λ closers. (done : List Move) → c.loop-to.exits ≡ exits_by g.B.Geometry.shape c.args.position.now done
      → c.with_closers-exits.result ≡ exits_by g.B.Geometry.shape c.args.position.now (done ++ captures_at c.args.taken closers c.in-Some.to))
      c.from_mask-closers.ensures
      (c.with_closers-exits.ensures c.args.taken (left g (goal.at.loop-to-preserved g c).After-standing-standing)));
}

pub returns : goal.returns
returns g c =
    let each = none_left c.loop-to.yielded _ _ c.loop-to.invariant.points c.in-None.ensures.steps.0 in
    subst (λ vs. GoesOn g.B.Geometry.shape c.args.position.now c.args.known c.loop-to.exits (captures_to c.args.row.now.closers c.args.taken vs)) each
    c.loop-to.invariant.summed
