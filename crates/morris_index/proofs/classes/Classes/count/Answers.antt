use Rattle.std.proofs.Common.{◌≡◌, ◌∙◌, length, sym, ap, arith}
use Rattle.morris_index.specs.Classes.{classes_in, canonicalizing_in, class_count}
use Rattle.morris_index.proofs.KeepLaws.{class_count-is, classes_few}
use Rattle.morris_index.proofs.classes.Classes.count.Goals as goal

pub overflow_cast-result : goal.overflow_cast-result
overflow_cast-result g c =
    let few = classes_few g.B.Geometry.shape g.B.Geometry.POINTS c.self.inside.count (omega (arith, g.met.B.Geometry.few)) g.met.B.Geometry.point_count g.met.B.Geometry.has_symmetries
    (classes_in c.self.inside.table.set_classes.items) (canonicalizing_in c.self.inside.table.set_classes.items) c.self.inside.table.representatives.items c.self.invariant in
    omega (arith, few, c.len.ensures)

pub returns-clause-value : goal.returns-clause-value
returns-clause-value g c =
    let is = class_count-is g.B.Geometry.shape g.B.Geometry.POINTS c.self.inside.count (omega (arith, g.met.B.Geometry.few)) g.met.B.Geometry.point_count g.met.B.Geometry.has_symmetries
    (classes_in c.self.inside.table.set_classes.items) (canonicalizing_in c.self.inside.table.set_classes.items) c.self.inside.table.representatives.items c.self.invariant in
    let len : c.len.result ≡ length c.self.inside.table.representatives.items = omega (arith, c.len.ensures) in
    len ∙ sym is ∙ ap (class_count g.B.Geometry.shape) c.self.view_is

pub returns-clause-few : goal.returns-clause-few
returns-clause-few g c =
    rw (← c.self.view_is) (omega (arith, c.len.ensures, c.self.invariant.table.few))
