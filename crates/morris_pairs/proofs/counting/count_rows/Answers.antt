use Rattle.std.proofs.Common.{◌≡◌, ◌+◌, ◌-◌, ◌<◌, ◌≤◌, ◌∙◌, true, refl, sym, subst, arith}
use Rattle.morris_board.specs.Boards.{Shape}
use Rattle.morris_index.specs.Orbits.{HasPositions}
use Rattle.morris_index.specs.Pairs.{Counts, IsPair}
use Rattle.morris_pairs.specs.declared.layout.Layout.{Layout}
use Rattle.morris_pairs.specs.declared.layout.Layout.TheVariants.{Classes}
use Rattle.morris_pairs.specs.Counting.{AreSoMany, IsOfEntry}
use Rattle.morris_pairs.proofs.CountLaws.{many_classes, tallied_none}
use Rattle.morris_pairs.proofs.counting.count_rows.Goals as goal

pub loop-entry-init : goal.loop-entry-init
loop-entry-init g c = record {
  from = omega arith;
  to = c.requires.order;
  stated = refl;
  unfailing = refl;
  many = refl;
  small = λ k. omega (arith, c.requires.none k);
  counted = λ t layout pair known. tallied_none g.B.Geometry.shape t true c.args.first c.args.tallies.now c.requires.none;
}

pub loop-entry-preserved : goal.loop-entry-preserved
loop-entry-preserved g c =
    let board : Shape = g.B.Geometry.shape in
    let few : board.points ≤ 24 = omega (arith, g.met.B.Geometry.few, g.met.B.Geometry.point_count) in
    let entry = c.loop-entry.entry in
    let next = c.min-next.result in
    record {
      from = omega (arith, c.loop-entry.invariant.from, c.min-next.ensures, c.len.ensures.some);
      to = omega (arith, c.min-next.ensures);
      stated = c.in_ok-count_chunk.ensures.stays.0 ∙ c.loop-entry.invariant.stated;
      unfailing = c.in_ok-count_chunk.ensures.stays.1 ∙ c.loop-entry.invariant.unfailing;
      many = c.in_ok-count_chunk.ensures.stays.2 ∙ c.loop-entry.invariant.many;
      small = c.in_ok-count_chunk.ensures.small;
      counted = λ t layout pair known.
          let lawful : IsPair board.points t.pair =
          subst (λ n. IsPair n t.pair) (sym g.met.B.Geometry.point_count) (subst (IsPair g.B.Geometry.POINTS) (sym pair) c.pair.ensures.lawful) in
          c.in_ok-count_chunk.ensures.counted board t true c.args.first c.loop-entry.invariant.from (c.loop-entry.invariant.stated ∙ known)
          (λ e low less.
          let place : entry + (e - entry) ≡ e = omega arith in
          let inside : e - entry < c.row_from-row.result.len = omega (arith, c.min-next.ensures, c.len.ensures.value, low, less) in
          let here : HasPositions board g.B.Geometry.POINTS c.args.classes.now (c.row_from-row.result.first + (e - entry)) c.orbit_size.result = c.orbit_size.ensures.each (e - entry) inside in
          let at : HasPositions board g.B.Geometry.POINTS c.args.classes.now e c.orbit_size.result =
          subst (λ i. HasPositions board g.B.Geometry.POINTS c.args.classes.now i c.orbit_size.result) (rw c.row_from-row.ensures.first place) here in
          let counted : AreSoMany (IsOfEntry board Classes t.pair true e) c.orbit_size.result =
          many_classes board few g.met.B.Geometry.has_symmetries t.pair lawful e c.orbit_size.result
          (subst (λ (d : Counts). HasPositions board board.points d e c.orbit_size.result) (sym pair)
          (subst (λ n. HasPositions board n c.args.classes.now e c.orbit_size.result) (sym g.met.B.Geometry.point_count) at)) in
          subst (λ (l : Layout). AreSoMany (IsOfEntry board l t.pair true e) c.orbit_size.result) (sym layout) counted)
          (c.loop-entry.invariant.counted t layout pair known);
    }
