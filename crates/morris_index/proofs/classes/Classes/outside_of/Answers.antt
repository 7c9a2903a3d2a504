use Rattle.std.proofs.Common.{◌≡◌, ◌<◌, ◌∙◌, length, get_or, arith}
use Rattle.morris_index.specs.Classes.{classes_in, canonicalizing_in, class_count}
use Rattle.morris_index.proofs.KeepLaws.{class_count-is, found_is}
use Rattle.std.proofs.lemmas.Grind.{get_or_default_zero}
use Rattle.morris_index.proofs.classes.Classes.outside_of.Goals as goal

pub index-requires : goal.index-requires
index-requires g c =
    let low : c.args.class < class_count g.B.Geometry.shape c.self.inside.count = rw c.self.view_is c.requires in
    omega (
      arith,
      class_count-is g.B.Geometry.shape g.B.Geometry.POINTS c.self.inside.count (omega (arith, g.met.B.Geometry.few)) g.met.B.Geometry.point_count g.met.B.Geometry.has_symmetries
          (classes_in c.self.inside.table.set_classes.items) (canonicalizing_in c.self.inside.table.set_classes.items) c.self.inside.table.representatives.items c.self.invariant,
    )

pub returns : goal.returns
returns g c =
    let low : c.args.class < class_count g.B.Geometry.shape c.self.inside.count = rw c.self.view_is c.requires in
    let under : c.args.class < length c.self.inside.table.representatives.items = omega (
      arith,
      class_count-is g.B.Geometry.shape g.B.Geometry.POINTS c.self.inside.count (omega (arith, g.met.B.Geometry.few)) g.met.B.Geometry.point_count g.met.B.Geometry.has_symmetries
          (classes_in c.self.inside.table.set_classes.items) (canonicalizing_in c.self.inside.table.set_classes.items) c.self.inside.table.representatives.items c.self.invariant,
    ) in
    let is : c.index.result.now ≡ get_or c.self.inside.table.representatives.items c.args.class 0 =
    c.index.ensures ∙ get_or_default_zero c.self.inside.table.representatives.items c.args.class _ under in
    let found = found_is g.B.Geometry.shape g.B.Geometry.POINTS c.self.inside.count (omega (arith, g.met.B.Geometry.few)) g.met.B.Geometry.point_count g.met.B.Geometry.has_symmetries
    (classes_in c.self.inside.table.set_classes.items) (canonicalizing_in c.self.inside.table.set_classes.items) c.self.inside.table.representatives.items c.self.invariant c.args.class low in
    rw is (record { least = found.own; count = found.counted ∙ c.self.view_is; class = found.class_is; within = found.within })
