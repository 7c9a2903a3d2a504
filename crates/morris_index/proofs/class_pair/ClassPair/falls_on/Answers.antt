use Rattle.std.proofs.Common.{◌≢◌, ◌↔◌, sym, subst, arith}
use Rattle.std.specs.List.{AllPairs, Contains}
use Rattle.morris_index.specs.Orbits.{HasEntry}
use Rattle.morris_index.proofs.FallLaws.{falls-listed, falls-once}
use Rattle.morris_index.proofs.class_pair.ClassPair.falls_on.Goals as goal

pub returns-clause-listed : goal.returns-clause-listed
returns-clause-listed g c = λ s.
    subst (λ list. Contains list s ↔ HasEntry g.B.Geometry.shape g.B.Geometry.POINTS c.args.self.now c.args.index s) (sym c.orbit_of.ensures.value)
    (falls-listed g.B.Geometry.shape g.B.Geometry.POINTS (omega (arith, g.met.B.Geometry.few)) g.met.B.Geometry.point_count g.met.B.Geometry.has_symmetries c.args.self.now c.args.index c.position-position.result
    (record {
      lawful = c.position-position.ensures.lawful;
      counts = c.position-position.ensures.counts;
      entry_is = c.position-position.ensures.index;
    })
    c.position-position.ensures.canonical_form s)

pub returns-clause-once : goal.returns-clause-once
returns-clause-once g c = subst (AllPairs (λ s t. s ≢ t)) (sym c.orbit_of.ensures.value) (falls-once g.B.Geometry.shape c.position-position.result)
