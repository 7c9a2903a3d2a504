use Rattle.std.proofs.Common.{◌≡◌, [], take, drop}
use Rattle.morris_wave.specs.Gathering.{first_complaint}
use Rattle.morris_wave.proofs.Gathered.{PlacesTo}
use Rattle.morris_wave.proofs.gathering.walk.Given as goal

abbrev pub invariant-loop-place : goal.invariant-loop-place
invariant-loop-place g l =
    PlacesTo l.blocks l.place l.places
    × (first_complaint l.level l.wave l.cut [] l.blocks ≡ first_complaint l.level l.wave l.cut (take l.place l.blocks) (drop l.place l.blocks))
