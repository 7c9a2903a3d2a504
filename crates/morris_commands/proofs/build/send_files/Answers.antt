-- Where there is an exact table of each pair, there is a table of each.
use Rattle.std.proofs.Common.{[], ◌∷◌, subst}
use Rattle.morris_index.specs.Pairs.{below_of}
use Rattle.morris_moves.proofs.ListLaws.{Contains-head}
use Rattle.morris_commands.specs.Build.{HasExact, pairs_written}
use Rattle.morris_commands.proofs.BuildLaws.{has_tables}
use Rattle.morris_commands.proofs.build.send_files.Goals as goal

pub write_below-requires-clause-there : goal.write_below-requires-clause-there
write_below-requires-clause-there g c =
    has_tables g.B.Geometry.shape c.args.layout c.args.tables.now (below_of c.args.pair)
    (subst (λ b. HasExact g.B.Geometry.shape c.args.layout c.args.tables.now (pairs_written b c.args.pair)) c.if-all.true c.requires.exact)

pub write_one-requires-clause-there : goal.write_one-requires-clause-there
write_one-requires-clause-there g c =
    has_tables g.B.Geometry.shape c.args.layout c.args.tables.now (c.args.pair ∷ [])
    (subst (λ b. HasExact g.B.Geometry.shape c.args.layout c.args.tables.now (pairs_written b c.args.pair)) c.if-all.false c.requires.exact)
    c.args.pair (Contains-head c.args.pair [])
