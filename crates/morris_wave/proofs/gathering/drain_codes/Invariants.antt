use Rattle.std.proofs.Common.{◌≡◌, ◌++◌, length}
use Rattle.morris_wave.proofs.Gathered.{KnownTo}
use Rattle.morris_wave.proofs.gathering.drain_codes.Given as goal

abbrev pub invariant-loop-block : goal.invariant-loop-block
invariant-loop-block g l =
    (l.initial.block-iterator.rest.items ≡ l.yielded ++ l.block-iterator.rest.items)
    × KnownTo (g.N.Levels.net l.level) l.wave l.cut (length l.yielded) l.codes.items
