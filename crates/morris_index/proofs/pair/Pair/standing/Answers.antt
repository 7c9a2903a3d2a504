use Rattle.std.proofs.Common.{◌≡◌, ◌+◌, ◌*◌, ◌≤◌, ◌-◌, refl, ap, ap₂, ◌∙◌, arith}
use Rattle.morris_board.specs.Sets.{members, count_of}
use Rattle.morris_index.specs.Binomials.{choose}
use Rattle.morris_index.specs.Numbering.{rank_of}
use Rattle.morris_index.specs.Moves.{start_of}
use Rattle.morris_index.proofs.IndexLaws.{within_24, map_number-none}
use Rattle.morris_index.proofs.StandingLaws.{product_few, own_rank-few}
use Rattle.morris_index.proofs.pair.Pair.standing.Goals as goal

pub rank-requires-clause-board : goal.rank-requires-clause-board
rank-requires-clause-board g c = within_24 c.args.own g.B.Geometry.POINTS c.requires.within (omega (arith, g.met.B.Geometry.few))

pub overflow_mul-result : goal.overflow_mul-result
overflow_mul-result g c =
    let rank : c.rank.result ≤ 1307504 =
    rw c.rank.ensures.value (own_rank-few g.B.Geometry.POINTS c.args.own c.args.other c.args.self.now (omega (arith, g.met.B.Geometry.few)) c.requires.within c.start_of-start.ensures.lawful c.requires.counts) in
    omega (arith, product_few c.rank.result c.binomial.result rank (omega arith))

pub overflow_add-result : goal.overflow_add-result
overflow_add-result g c =
    let rank : c.rank.result ≤ 1307504 =
    rw c.rank.ensures.value (own_rank-few g.B.Geometry.POINTS c.args.own c.args.other c.args.self.now (omega (arith, g.met.B.Geometry.few)) c.requires.within c.start_of-start.ensures.lawful c.requires.counts) in
    omega (arith, c.start_of-start.ensures.few, product_few c.rank.result c.binomial.result rank (omega arith))

pub returns-clause-stands : goal.returns-clause-stands
returns-clause-stands g c =
    let count : c.count-count.result ≡ count_of c.args.own = c.count-count.ensures.value in
    let choices : c.binomial.result ≡ choose (g.B.Geometry.POINTS - count_of c.args.own) c.args.other =
    c.binomial.ensures.value ∙ ap₂ (λ n k. choose (n - k) c.args.other) c.POINTS.ensures count in
    record {
      pair = c.start_of-start.ensures.lawful;
      counts = c.requires.counts;
      place = refl;
      start = ap₂ (λ x y. x + y) (c.start_of-start.ensures.value ∙ ap (start_of g.B.Geometry.POINTS c.args.self.now) count)
          (ap₂ (λ x y. x * y) (c.rank.ensures.value ∙ ap rank_of (map_number-none (members c.args.own))) choices);
    }
