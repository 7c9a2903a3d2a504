use Rattle.std.proofs.Common.{◌≡◌, ◌-◌, ◌*◌, ◌≤◌, ◌∙◌, length, take, drop, ◌++◌, sym, ap, subst, arith}
use Rattle.std.specs.Int.{w16, from_be_bytes}
use Rattle.morris_pairs.specs.Entries.{entry_count}
use Rattle.morris_pairs.proofs.CountLaws.{written_back}
use Rattle.morris_lookup.specs.Storage.{bytes_at}
use Rattle.morris_lookup.proofs.PieceLaws.{chunk_known}
use Rattle.morris_lookup.proofs.codes.CodesCoded.read_code.Goals as goal

-- the entry is in the chunk
pub returns-then-entry-self-clause-read : goal.returns-then-entry-self-clause-read
returns-then-entry-self-clause-read g c =
    let board = g.B.Geometry.shape in
    let codes = c.self.inside in
    let file = codes.file.now in
    let within : codes.end ≤ entry_count board board.points file.layout file.pair =
    subst (λ n. codes.end ≤ entry_count board n file.layout file.pair) (sym g.met.B.Geometry.point_count) c.self.invariant.3 in
    rw (← c.self.view_is)
    (chunk_known file.held codes.chunk.items codes.first codes.end (entry_count board board.points file.layout file.pair) c.args.entry c.code_in.result
    c.self.invariant.4 c.if-self-entry.true c.if-entry-self.true within (rw c.as_slice.ensures.value at c.code_in.ensures))

-- it is the first one that was read
pub returns-clause-read : goal.returns-clause-read
returns-clause-read g c =
    let board = g.B.Geometry.shape in
    let codes = c.self.inside in
    let file = codes.file.now in
    let chunk = c.read_codes.new.out in
    let end = c.in_ok-self-inside.field-0 in
    let within : end ≤ entry_count board board.points file.layout file.pair =
    subst (λ n. end ≤ entry_count board n file.layout file.pair) (sym g.met.B.Geometry.point_count) c.in_ok-self-inside.ensures.within in
    let back : take codes.chunk.len (chunk ++ drop (length chunk) codes.chunk.items) ≡ chunk =
    written_back codes.chunk.items chunk codes.chunk.len codes.chunk.ok.0 (c.read_codes.auto.out ∙ ap length c.as_mut_slice.ensures.value) in
    let first : 0 ≡ 2 * (c.args.entry - c.args.entry) = omega arith in
    rw (← c.self.view_is)
    (chunk_known file.held chunk c.args.entry end (entry_count board board.points file.layout file.pair) c.args.entry c.code_in-2.result
    c.in_ok-self-inside.ensures.read (omega arith) c.in_ok-self-inside.ensures.more within
    (rw (c.as_slice-2.ensures.value, back) at c.code_in-2.ensures ∙ ap (λ p. from_be_bytes w16 (bytes_at chunk p 2)) first))
