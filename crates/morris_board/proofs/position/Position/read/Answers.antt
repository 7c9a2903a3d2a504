use Rattle.std.proofs.Common.{◌≡◌, ◌≢◌, ◌∙◌, sym, arith, Err, length, rules}
use Rattle.morris_board.specs.Positions.{read_of, sides_of_text}
use Rattle.morris_board.specs.declared.faults.TextFault.TheVariants as fault
use Rattle.morris_board.proofs.TextLaws.{IsApart-shown, complete_of, shows_of, ok_made, err_made, read_short, read_bad}
use Rattle.morris_board.proofs.position.Position.read.Goals as goal

pub new-requires : goal.new-requires
unfolding sides_of_text
new-requires g c =
    let long : length c.args.bytes.now ≡ g.B.Geometry.shape.points = omega (arith, c.POINTS.ensures, g.met.B.Geometry.point_count) in
    rw (c.places.ensures, c.places-in-None.ensures) (IsApart-shown g.B.Geometry.shape c.args.bytes.now long)

pub returns-in_err-new-in-None-clause-answer : goal.returns-in_err-new-in-None-clause-answer
returns-in_err-new-in-None-clause-answer g c =
    let long : length c.args.bytes.now ≡ g.B.Geometry.shape.points = omega (arith, c.POINTS.ensures, g.met.B.Geometry.point_count) in
    let is : read_of g.B.Geometry.shape c.args.bytes.now ≡ Err fault.Stones =
    err_made g.B.Geometry.shape c.args.bytes.now c.places.result c.places-in-None.result long c.first_other.result c.first_other.ensures c.in-None.is c.places.ensures
    c.places-in-None.ensures c.new.result c.new.ensures c.in_err-new-in-None.field-0.0 c.in_err-new-in-None.was in
    rw is (search rules)

pub returns-in_ok-new-in-None-clause-answer : goal.returns-in_ok-new-in-None-clause-answer
returns-in_ok-new-in-None-clause-answer g c =
    let long : length c.args.bytes.now ≡ g.B.Geometry.shape.points = omega (arith, c.POINTS.ensures, g.met.B.Geometry.point_count) in
    sym (ok_made g.B.Geometry.shape c.args.bytes.now c.places.result c.places-in-None.result long c.first_other.result c.first_other.ensures c.in-None.is c.places.ensures
    c.places-in-None.ensures c.new.result c.new.ensures c.in_ok-new-in-None.field-0 c.in_ok-new-in-None.was)

pub returns-in_ok-new-in-None-clause-shows : goal.returns-in_ok-new-in-None-clause-shows
returns-in_ok-new-in-None-clause-shows g c =
    shows_of g.B.Geometry.shape c.args.bytes.now c.in_ok-new-in-None.field-0 (sym (returns-in_ok-new-in-None-clause-answer g c))

pub returns-in_ok-new-in-None-clause-complete : goal.returns-in_ok-new-in-None-clause-complete
returns-in_ok-new-in-None-clause-complete g c = λ s h e.
    returns-in_ok-new-in-None-clause-answer g c ∙ complete_of g.B.Geometry.shape c.args.bytes.now s h e

pub returns-in_err-new-in-None-clause-complete : goal.returns-in_err-new-in-None-clause-complete
returns-in_err-new-in-None-clause-complete g c = λ s h e.
    returns-in_err-new-in-None-clause-answer g c ∙ complete_of g.B.Geometry.shape c.args.bytes.now s h e

pub returns-then-bytes-POINTS-clause-complete : goal.returns-then-bytes-POINTS-clause-complete
returns-then-bytes-POINTS-clause-complete g c = λ s h e.
    let short : length c.args.bytes.now ≢ g.B.Geometry.shape.points =
    omega (arith, c.if-bytes-POINTS.true, c.POINTS.ensures, g.met.B.Geometry.point_count) in
    sym (read_short g.B.Geometry.shape c.args.bytes.now short) ∙ complete_of g.B.Geometry.shape c.args.bytes.now s h e

pub returns-in-Some-clause-complete : goal.returns-in-Some-clause-complete
returns-in-Some-clause-complete g c = λ s h e.
    let long : length c.args.bytes.now ≡ g.B.Geometry.shape.points = omega (arith, c.POINTS.ensures, g.met.B.Geometry.point_count) in
    sym (read_bad g.B.Geometry.shape c.args.bytes.now c.in-Some.place long c.first_other.result c.first_other.ensures c.in-Some.is)
    ∙ complete_of g.B.Geometry.shape c.args.bytes.now s h e
