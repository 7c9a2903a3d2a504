use Rattle.std.proofs.Common.{◌≡◌, ◌++◌, take}
use Rattle.morris_wave.proofs.codes.Codes.add_to.Given as goal

abbrev pub invariant-loop-place : goal.invariant-loop-place
invariant-loop-place l = l.list.items ≡ l.initial.list.items ++ take l.place l.self
