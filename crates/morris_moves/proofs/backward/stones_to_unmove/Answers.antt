use Rattle.std.proofs.Common.{◌≡◌, sym, ap, ◌∙◌, arith}
use Rattle.std.proofs.lemmas.Bool.{lt-ltb, le-ltb}
use Rattle.morris_board.specs.Sets.{count_of}
use Rattle.morris_moves.specs.Rules.{free_stones}
use Rattle.morris_moves.proofs.ListingLaws.{arrived-few, arrived-enough}
use Rattle.morris_moves.proofs.backward.stones_to_unmove.Goals as goal

pub returns-then-count-lt3-clause-stones : goal.returns-then-count-lt3-clause-stones
returns-then-count-lt3-clause-stones g c =
    let stones : c.count.result ≡ count_of c.args.position.now.own = c.count.ensures.value ∙ ap count_of c.own.ensures.points in
    sym (arrived-few g.B.Geometry.shape c.args.position.now (lt-ltb _ 3 (omega (arith, stones, c.if-count-lt3.true))))

pub returns-clause-stones : goal.returns-clause-stones
returns-clause-stones g c =
    let stones : c.count.result ≡ count_of c.args.position.now.own = c.count.ensures.value ∙ ap count_of c.own.ensures.points in
    c.free_stones.ensures ∙ (ap (free_stones g.B.Geometry.shape) c.other.ensures.points
    ∙ sym (arrived-enough g.B.Geometry.shape c.args.position.now (le-ltb _ 3 (omega (arith, stones, c.if-count-lt3.false)))))
