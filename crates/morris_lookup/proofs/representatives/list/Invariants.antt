-- The representatives of the chunks so far are listed.
use Rattle.std.proofs.Common.{◌*◌}
use Rattle.morris_index.specs.Classes.{is_representative}
use Rattle.morris_lookup.specs.Representatives.{chunk_size, AreListed}
use Rattle.morris_lookup.proofs.ListLaws.{between}
use Rattle.morris_lookup.proofs.representatives.list.Given as goal

abbrev pub invariant-loop-number : goal.invariant-loop-number
invariant-loop-number g l = AreListed (between (is_representative g.B.Geometry.shape l.count) 0 (l.number * chunk_size g.B.Geometry.POINTS)) l.start l.end l.words l.fn.words
