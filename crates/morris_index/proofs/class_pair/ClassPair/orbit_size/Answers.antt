use Rattle.std.proofs.Common.{◌≡◌, ◌+◌, ◌<◌, ◌∙◌, List, length, refl, sym, ap, subst, arith}
use Rattle.std.proofs.lemmas.Iterator.Consumers.{YieldsList-from_first, count_from_yields_List}
use Rattle.morris_board.specs.Positions.{Sides}
use Rattle.morris_index.specs.Orbits.{HasPositions, orbit_from}
use Rattle.morris_index.proofs.FallLaws.{falls-listed, falls-once, falls_same}
use Rattle.morris_index.proofs.class_pair.ClassPair.orbit_size.Goals as goal

pub returns-clause-each : goal.returns-clause-each
returns-clause-each g c = λ place inside.
    let board = g.B.Geometry.shape in
    let n = g.B.Geometry.POINTS in
    let row = c.args.row.now in
    let low : place < c.len.result = omega (arith, inside, c.len.ensures.value) in
    let found = c.len.ensures.stand place low in
    let s : Sides = found.0 in
    let at = found.1.inside in
    let own : s.own ≡ c.position-first.result.own = at.own ∙ sym c.position-first.ensures.own in
    let counted : length c.orbit_of.result ≡ c.count.result =
    sym (count_from_yields_List c.orbit_of.result c.count.result c.count.ensures.ran
    (YieldsList-from_first (λ (t : Sides). t) (λ (list : List Sides). list) c.orbit_of.result refl)) in
    subst (λ d. HasPositions board n d (row.first + place) c.count.result) c.requires
    (record {
      positions = orbit_from board s 0;
      listed =
          falls-listed board n (omega (arith, g.met.B.Geometry.few)) g.met.B.Geometry.point_count g.met.B.Geometry.has_symmetries row.pair (row.first + place) s
          (record { lawful = at.lawful; counts = at.counts; entry_is = at.entry }) found.1.canonical_form;
      once = falls-once board s;
      many = falls_same board c.position-first.result s own ∙ (ap length (sym c.orbit_of.ensures.value) ∙ counted);
    })
