-- The representatives below the mask are listed.
use Rattle.std.proofs.Common.{◌*◌, ◌-◌, ◌≤◌}
use Rattle.morris_index.specs.Classes.{is_representative}
use Rattle.morris_lookup.specs.Representatives.{chunk_size, AreListed}
use Rattle.morris_lookup.proofs.ListLaws.{between}
use Rattle.morris_lookup.proofs.representatives.list_chunk.Given as goal

abbrev pub invariant-loop-mask : goal.invariant-loop-mask
invariant-loop-mask g l = record {
  from : l.number * chunk_size g.B.Geometry.POINTS ≤ l.mask;
  listed : AreListed (between (is_representative g.B.Geometry.shape l.count) (l.number * chunk_size g.B.Geometry.POINTS) (l.mask - l.number * chunk_size g.B.Geometry.POINTS)) l.start l.end l.words l.fn.words;
}
