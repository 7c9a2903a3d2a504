use Rattle.std.proofs.Common.{◌≡◌, ◌+◌, suc, ap, arith}
use Rattle.morris_index.specs.Binomials.{choose}
use Rattle.morris_lookup.specs.Prepared.{start_of}
use Rattle.morris_lookup.proofs.PreparedLaws.{start-suc, size-canonical_form}
use Rattle.morris_lookup.proofs.prepared.prepared_count.Goals as goal

pub loop-k-init : goal.loop-k-init
loop-k-init g c = record { ends = c.list_all-end.ensures.end; few = omega (arith, c.list_all-end.ensures.few) }

pub loop-k-preserved : goal.loop-k-preserved
loop-k-preserved g c =
    let next : suc (7 + c.loop-k.k) ≡ 7 + (c.loop-k.k + 1) = omega arith in
    record {
      ends = omega (
        arith,
        c.loop-k.invariant.ends,
        c.set_count-end.ensures.value,
        ap (λ n. choose n (3 + c.loop-k.k)) g.met.B.Geometry.point_count,
        start-suc g.B.Geometry.shape (7 + c.loop-k.k),
        size-canonical_form g.B.Geometry.shape c.loop-k.k,
        ap (start_of g.B.Geometry.shape) next,
      );
      few = omega (arith, c.loop-k.invariant.few, c.set_count-end.ensures.few);
    }
