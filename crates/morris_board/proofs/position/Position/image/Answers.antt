-- A symmetry takes a position to a position, and its inverse takes it back.
use Rattle.std.proofs.Common.{◌≡◌, ◌<◌, ◌≤◌, ◌∙◌, ap, ℕ, refl, arith}
use Rattle.morris_board.specs.Positions.{Sides, sides, IsPosition}
use Rattle.morris_board.specs.Boards.{Shape}
use Rattle.morris_board.specs.Symmetries.{image_of, image_sides, inverse_of, HasSymmetries}
use Rattle.morris_board.proofs.ImageLaws.{one_to_one, IsOneToOne-back, IsPosition-image, image_sides-undone}
use Rattle.morris_board.proofs.position.Position.image.Goals as goal

module _ (b : Shape) (few : b.points ≤ 24) (y : HasSymmetries b) (s : ℕ) (low : s < b.symmetries) (p : Sides) (h : IsPosition b p)
    (own other : ℕ) (own_is : own ≡ image_of (b.image s) p.own) (other_is : other ≡ image_of (b.image s) p.other) where
  image : sides own other ≡ image_sides (b.image s) p
  image = rw (own_is, other_is) refl

  lawful : IsPosition b (sides own other)
  lawful = rw (own_is, other_is) (IsPosition-image b few (b.image s) (b.image (inverse_of s)) (one_to_one b _ _ (y.symmetry s low)) p h)

  undone : image_sides (b.image (inverse_of s)) (sides own other) ≡ p
  undone =
      ap (image_sides (b.image (inverse_of s))) image
      ∙ image_sides-undone b few (b.image s) (b.image (inverse_of s)) (one_to_one b _ _ (y.symmetry s low)) p h.stones

  redone : image_sides (b.image s) (image_sides (b.image (inverse_of s)) p) ≡ p
  redone = image_sides-undone b few (b.image (inverse_of s)) (b.image s) (IsOneToOne-back b.points _ _ (one_to_one b _ _ (y.symmetry s low))) p h.stones

pub invariant_of-result : goal.invariant_of-result
invariant_of-result g c =
    let few : g.B.Geometry.shape.points ≤ 24 = omega (arith, g.met.B.Geometry.few, g.met.B.Geometry.point_count) in
    let low : c.args.symmetry < g.B.Geometry.shape.symmetries = omega (arith, c.requires, g.met.B.Geometry.symmetry_count) in
    lawful g.B.Geometry.shape few g.met.B.Geometry.has_symmetries c.args.symmetry low _ c.self.invariant c.image_of.result c.image_of-2.result
    c.image_of.ensures c.image_of-2.ensures

pub returns-clause-lawful : goal.returns-clause-lawful
returns-clause-lawful g c =
    let few : g.B.Geometry.shape.points ≤ 24 = omega (arith, g.met.B.Geometry.few, g.met.B.Geometry.point_count) in
    let low : c.args.symmetry < g.B.Geometry.shape.symmetries = omega (arith, c.requires, g.met.B.Geometry.symmetry_count) in
    lawful g.B.Geometry.shape few g.met.B.Geometry.has_symmetries c.args.symmetry low _ c.self.invariant c.image_of.result c.image_of-2.result
    c.image_of.ensures c.image_of-2.ensures

pub returns-clause-undone : goal.returns-clause-undone
returns-clause-undone g c =
    let few : g.B.Geometry.shape.points ≤ 24 = omega (arith, g.met.B.Geometry.few, g.met.B.Geometry.point_count) in
    let low : c.args.symmetry < g.B.Geometry.shape.symmetries = omega (arith, c.requires, g.met.B.Geometry.symmetry_count) in
    undone g.B.Geometry.shape few g.met.B.Geometry.has_symmetries c.args.symmetry low _ c.self.invariant c.image_of.result c.image_of-2.result
    c.image_of.ensures c.image_of-2.ensures
    ∙ c.self.view_is

pub returns-clause-redone : goal.returns-clause-redone
returns-clause-redone g c =
    let few : g.B.Geometry.shape.points ≤ 24 = omega (arith, g.met.B.Geometry.few, g.met.B.Geometry.point_count) in
    let low : c.args.symmetry < g.B.Geometry.shape.symmetries = omega (arith, c.requires, g.met.B.Geometry.symmetry_count) in
    rw (← c.self.view_is) (redone g.B.Geometry.shape few g.met.B.Geometry.has_symmetries c.args.symmetry low _ c.self.invariant c.image_of.result c.image_of-2.result
    c.image_of.ensures c.image_of-2.ensures)
