use Rattle.std.proofs.Common.{◌≡◌, false, [], sym, ap, ◌∙◌, arith}
use Rattle.morris_board.specs.Boards.{Shape}
use Rattle.morris_board.specs.Sets.{has, without_point}
use Rattle.morris_wave.specs.Exits.{exits_of}
use Rattle.morris_pairs.specs.CaptureCaches.{codes_left}
use Rattle.morris_pairs.proofs.CapturedLaws.{taken_in}
use Rattle.morris_pairs.proofs.GraphLaws.{exits_by-none}
use Rattle.morris_pairs.proofs.KeptLaws.{some_left, left_tells}
use Rattle.morris_pairs.proofs.graph.captures_of.Goals as goal

pub has-requires : goal.has-requires
has-requires g c =
    omega (arith, taken_in g.B.Geometry.shape g.B.Geometry.POINTS g.met.B.Geometry.point_count g.met.B.Geometry.few c.args.position.now c.requires.lawful c.args.taken c.requires.taken)

pub returns-then-has-clause-value : goal.returns-then-has-clause-value
returns-then-has-clause-value g c = c.with_captures.ensures [] (sym (exits_by-none g.B.Geometry.shape c.args.position.now))

pub without-left-requires : goal.without-left-requires
without-left-requires g c =
    omega (arith, taken_in g.B.Geometry.shape g.B.Geometry.POINTS g.met.B.Geometry.point_count g.met.B.Geometry.few c.args.position.now c.requires.lawful c.args.taken c.requires.taken)

pub get-requires : goal.get-requires
get-requires g c =
    rw (c.without-left.ensures, c.other.ensures.points)
    (some_left g.B.Geometry.shape g.B.Geometry.POINTS g.met.B.Geometry.point_count g.met.B.Geometry.few c.args.position.now c.requires.lawful
    c.args.taken c.requires.taken)

pub returns-in-Some-clause-value : goal.returns-in-Some-clause-value
returns-in-Some-clause-value g c =
    let b : Shape = g.B.Geometry.shape in
    let apart : has c.args.row.now.closing c.args.taken ≡ false = cc in
    c.in-Some.ensures (codes_left b) c.requires.cache
    ∙ (ap (λ own. exits_of (codes_left b own c.without-left.result)) c.requires.own
    ∙ (ap (λ left. exits_of (codes_left b c.args.position.now.own left)) (c.without-left.ensures ∙ ap (λ o. without_point o c.args.taken) c.other.ensures.points)
    ∙ sym (left_tells b g.B.Geometry.POINTS g.met.B.Geometry.point_count g.met.B.Geometry.few c.args.position.now c.requires.lawful
    c.args.taken c.args.row.now c.requires.own c.requires.row apart c.args.ends c.requires.ends)))

pub returns-clause-value : goal.returns-clause-value
returns-clause-value g c = c.with_captures-results.ensures [] (sym (exits_by-none g.B.Geometry.shape c.args.position.now))

pub returns-clause-cache : goal.returns-clause-cache
returns-clause-cache g c =
    let b : Shape = g.B.Geometry.shape in
    let apart : has c.args.row.now.closing c.args.taken ≡ false = cc in
    c.put.ensures (codes_left b) c.requires.cache
    (c.with_captures-results.ensures [] (sym (exits_by-none b c.args.position.now))
    ∙ (left_tells b g.B.Geometry.POINTS g.met.B.Geometry.point_count g.met.B.Geometry.few c.args.position.now c.requires.lawful
    c.args.taken c.args.row.now c.requires.own c.requires.row apart c.args.ends c.requires.ends
    ∙ (ap (λ left. exits_of (codes_left b c.args.position.now.own left)) (sym (c.without-left.ensures ∙ ap (λ o. without_point o c.args.taken) c.other.ensures.points))
    ∙ ap (λ own. exits_of (codes_left b own c.without-left.result)) (sym c.requires.own))))
