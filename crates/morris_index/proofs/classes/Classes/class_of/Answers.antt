use Rattle.std.proofs.Common.{◌∙◌, sym, arith}
use Rattle.morris_index.specs.Classes.{classes_in, canonicalizing_in}
use Rattle.morris_index.proofs.IndexLaws.{within_24}
use Rattle.morris_index.proofs.KeepLaws.{lead_in, lead_class, lead_leads, class_of-lt}
use Rattle.morris_index.proofs.classes.Classes.class_of.Goals as goal

pub rank-requires-clause-board : goal.rank-requires-clause-board
rank-requires-clause-board g c = within_24 c.args.set g.B.Geometry.POINTS c.requires.within (omega (arith, g.met.B.Geometry.few))

pub rank-requires-clause-few : goal.rank-requires-clause-few
rank-requires-clause-few g c = omega (arith, c.requires.count, c.self.view_is, c.self.invariant.few)

pub index-set_class-requires : goal.index-set_class-requires
index-set_class-requires g c =
    omega (arith, lead_in g.B.Geometry.shape g.B.Geometry.POINTS c.self.inside.count (omega (arith, g.met.B.Geometry.few)) g.met.B.Geometry.point_count g.met.B.Geometry.has_symmetries c.self.inside.table.set_classes.items c.self.inside.table.representatives.items c.self.invariant c.args.set c.rank.result c.requires.within (c.requires.count ∙ sym c.self.view_is) c.rank.ensures.value)

pub least_canonicalizing-requires-clause-canonicalizing : goal.least_canonicalizing-requires-clause-canonicalizing
least_canonicalizing-requires-clause-canonicalizing g c =
    rw c.from_mask-canonicalizing.ensures (lead_leads g.B.Geometry.shape g.B.Geometry.POINTS c.self.inside.count (omega (arith, g.met.B.Geometry.few)) g.met.B.Geometry.point_count g.met.B.Geometry.has_symmetries c.self.inside.table.set_classes.items c.self.inside.table.representatives.items c.self.invariant c.args.set c.rank.result c.requires.within (c.requires.count ∙ sym c.self.view_is) c.rank.ensures.value c.index-set_class.result.now c.index-set_class.ensures)

pub returns-clause-class : goal.returns-clause-class
returns-clause-class g c =
    lead_class g.B.Geometry.shape g.B.Geometry.POINTS c.self.inside.count (omega (arith, g.met.B.Geometry.few)) g.met.B.Geometry.point_count g.met.B.Geometry.has_symmetries c.self.inside.table.set_classes.items c.self.inside.table.representatives.items c.self.invariant c.args.set c.rank.result c.requires.within (c.requires.count ∙ sym c.self.view_is) c.rank.ensures.value c.index-set_class.result.now c.index-set_class.ensures

pub returns-clause-below : goal.returns-clause-below
returns-clause-below g c =
    rw (returns-clause-class g c, ← c.self.view_is)
    (class_of-lt g.B.Geometry.shape g.B.Geometry.POINTS c.self.inside.count (omega (arith, g.met.B.Geometry.few)) g.met.B.Geometry.point_count g.met.B.Geometry.has_symmetries (classes_in c.self.inside.table.set_classes.items) (canonicalizing_in c.self.inside.table.set_classes.items) c.self.inside.table.representatives.items c.self.invariant c.args.set c.requires.within (c.requires.count ∙ sym c.self.view_is))
