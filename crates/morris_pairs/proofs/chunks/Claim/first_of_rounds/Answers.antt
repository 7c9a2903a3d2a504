use Rattle.std.proofs.Common.{◌≡◌, ℕ, ◌+◌, ◌*◌, ◌≤◌, sym, subst, arith}
use Rattle.morris_pairs.specs.Entries.{entry_count}
use Rattle.morris_pairs.proofs.SharingLaws.{round-differs}
use Rattle.morris_pairs.proofs.chunks.Claim.first_of_rounds.Goals as goal

pub known_until-from-requires-clause-inside : goal.known_until-from-requires-clause-inside
known_until-from-requires-clause-inside g c = omega (arith, c.min.ensures, c.loop-round-test.true, c.round_count-round-end.ensures.count, c.len-count.ensures.size)

pub returns-in-Some-clause-first : goal.returns-in-Some-clause-first
returns-in-Some-clause-first g c =
    let board = g.B.Geometry.shape in
    let t = c.args.self.now.raw.now in
    let end : ℕ = c.loop-round.round * 4194304 + c.min.result in
    let all : c.len-count.result ≡ entry_count board board.points t.layout t.pair =
    subst (λ n. c.len-count.result ≡ entry_count board n t.layout t.pair) (sym c.round_count-round-end.ensures.points) c.len-count.ensures.size in
    let within : c.loop-round.round * 4194304 + c.min.result ≤ c.len-count.result =
    omega (arith, c.min.ensures, c.loop-round-test.true, c.round_count-round-end.ensures.count, c.len-count.ensures.size) in
    round-differs board t c.len-count.result c.loop-round.round c.known_until-from.result end c.in-Some.index all within c.loop-round.invariant.agreed c.known_until-from.ensures.known c.in-Some.ensures
