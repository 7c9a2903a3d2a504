use Rattle.std.proofs.Common.{◌≡◌, ◌<◌, ◌≤◌, length, arith, ◌∙◌, sym}
use Rattle.std.proofs.lemmas.Grind.{same_number_lists}
use Rattle.morris_board.specs.Positions.{text_of}
use Rattle.morris_board.proofs.TextLaws.{length-text_of, get_or-text_of, read_of-text_of}
use Rattle.morris_board.proofs.position.Position.write_to.Goals as goal

pub returns-clause-text : goal.returns-clause-text
returns-clause-text g c =
    let points : length c.loop-point.out ≡ g.B.Geometry.shape.points =
    omega (arith, c.requires, c.loop-point.auto.out, g.met.B.Geometry.point_count) in
    let done : length c.loop-point.out ≤ c.loop-point.point = omega (arith, c.loop-point-test.false, c.loop-point.auto.out) in
    same_number_lists c.loop-point.out (text_of g.B.Geometry.shape c.args.self.now) (points ∙ sym (length-text_of g.B.Geometry.shape c.args.self.now)) (λ k low.
    let here : k < c.loop-point.point = omega arith in
    let there : k < g.B.Geometry.shape.points = omega arith in
    rw (get_or-text_of g.B.Geometry.shape c.args.self.now k there, ← c.self.view_is) (c.loop-point.invariant k here))

pub returns-clause-reads_back : goal.returns-clause-reads_back
returns-clause-reads_back g c = rw (returns-clause-text g c, ← c.self.view_is) (read_of-text_of g.B.Geometry.shape _ c.self.invariant)
