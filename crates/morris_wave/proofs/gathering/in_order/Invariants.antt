use Rattle.morris_wave.proofs.Gathered.{KnownTo}
use Rattle.morris_wave.proofs.gathering.in_order.Given as goal

abbrev pub invariant-loop-number : goal.invariant-loop-number
invariant-loop-number g l = KnownTo (g.N.Levels.net l.level) l.wave l.cut l.number l.codes.items
