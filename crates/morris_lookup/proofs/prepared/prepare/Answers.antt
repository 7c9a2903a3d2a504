use Rattle.std.proofs.Common.{arith}
use Rattle.morris_lookup.proofs.PreparedLaws.{start-up}
use Rattle.morris_lookup.proofs.prepared.prepare.Goals as goal

pub returns-then-words-listed-clause-room : goal.returns-then-words-listed-clause-room
returns-then-words-listed-clause-room g c =
    omega (arith, c.if-words-listed.true, c.list_all-listed.ensures.end, c.list_all-listed.auto.words, start-up g.B.Geometry.shape 7 11 (omega arith))

pub write_all-requires-clause-prepared : goal.write_all-requires-clause-prepared
write_all-requires-clause-prepared g c = c.list_all-listed.ensures.prepared (omega (arith, c.if-words-listed.false, c.list_all-listed.auto.words))
