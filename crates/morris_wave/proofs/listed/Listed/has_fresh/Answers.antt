use Rattle.std.proofs.Common.{ltb, ap, ◌∙◌}
use Rattle.morris_wave.proofs.Ranks.{some_this}
use Rattle.morris_wave.proofs.listed.Listed.has_fresh.Goals as goal

pub returns : goal.returns
returns g c =
    let s = c.args.self.now in
    ap (ltb s.here) c.count.ensures ∙ some_this s.first s.wave s.before s.here s.codes (g.L.NodeList.items s.decided) s.ranked
