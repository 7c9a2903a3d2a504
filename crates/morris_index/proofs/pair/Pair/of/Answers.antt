use Rattle.std.proofs.Common.{◌∙◌, ap, arith, ◌+◌, ◌≤◌}
use Rattle.std.specs.Result.{result_ok}
use Rattle.morris_board.specs.Sets.{count_of}
use Rattle.morris_index.proofs.IndexLaws.{counts_fit, placed}
use Rattle.morris_index.proofs.PairLaws.{ok-pair_made}
use Rattle.morris_index.proofs.pair.Pair.of.Goals as goal

pub returns-clause-pair : goal.returns-clause-pair
returns-clause-pair g c =
    let fits : count_of c.args.position.now.own + count_of c.args.position.now.other ≤ g.B.Geometry.POINTS =
    counts_fit g.B.Geometry.POINTS (omega (arith, g.met.B.Geometry.few)) c.args.position.now
    (placed g.B.Geometry.shape g.B.Geometry.POINTS c.args.position.now g.met.B.Geometry.point_count c.own.ensures.lawful) in
    c.ok.ensures.value
    ∙ ap result_ok (rw (c.new.ensures, c.count.ensures.value, c.count-2.ensures.value, c.own.ensures.points, c.other.ensures.points))
    ∙ ok-pair_made g.B.Geometry.POINTS c.args.position.now c.own.ensures.lawful.sized fits
