use Rattle.std.proofs.Common.{◌≡◌, ◌≢◌, ◌<◌, ◌≤◌, ◌+◌, ◌∙◌, [], ◌∷◌, List, length, sym, ap, arith, Some}
use Rattle.std.specs.Iterator.{MakesProgress, item_count}
use Rattle.morris_board.specs.Sets.{count_of}
use Rattle.morris_board.specs.Positions.{Sides}
use Rattle.morris_board.specs.Symmetries.{image_sides}
use Rattle.morris_index.specs.Classes.{symmetry_of}
use Rattle.morris_index.specs.Orbits.{preimage, orbit_from}
use Rattle.morris_index.proofs.FallLaws.{falls-yes, falls-no, falls-end, image_count}
use Rattle.morris_index.proofs.orbits.FallsOnIterator.next.Goals as goal

progress : (s t : List Sides) (x : Sides) → s ≡ x ∷ t → MakesProgress (λ _. Unit {0}) (item_count (λ list. list)) s (Some x) t
progress s t x e = record {
  on = λ h. (tt, h, omega (arith, ap length e));
  keeps = tt;
  rests = λ h. tt;
}

pub class_of-requires-clause-count : goal.class_of-requires-clause-count
class_of-requires-clause-count g c =
    let low : c.loop-self.self-inside.symmetry < g.B.Geometry.shape.symmetries = omega (arith, c.loop-self-test.true, c.SYMMETRIES.ensures, g.met.B.Geometry.symmetry_count) in
    ap count_of c.own.ensures.points
    ∙ image_count g.B.Geometry.shape (omega (arith, g.met.B.Geometry.few, g.met.B.Geometry.point_count)) g.met.B.Geometry.has_symmetries c.image-position.result c.loop-self.self-inside.position _
    c.image-position.ensures.lawful c.image-position.ensures.undone
    (omega (arith, low, c.inverse-back.ensures, g.met.B.Geometry.has_symmetries.inverse_within c.loop-self.self-inside.symmetry low))
    ∙ sym c.loop-self.invariant.counted

pub returns-then-class_of-symmetry-clause-steps : goal.returns-then-class_of-symmetry-clause-steps
returns-then-class_of-symmetry-clause-steps g c =
    let low : c.loop-self.self-inside.symmetry < g.B.Geometry.shape.symmetries = omega (arith, c.loop-self-test.true, c.SYMMETRIES.ensures, g.met.B.Geometry.symmetry_count) in
    let taken : c.image-position.result ≡ preimage g.B.Geometry.shape c.loop-self.self-inside.position c.loop-self.self-inside.symmetry =
    c.image-position.ensures.image ∙ ap (λ t. image_sides (g.B.Geometry.shape.image t) c.loop-self.self-inside.position) c.inverse-back.ensures in
    let set_classes : symmetry_of g.B.Geometry.shape (preimage g.B.Geometry.shape c.loop-self.self-inside.position c.loop-self.self-inside.symmetry).own ≡ c.loop-self.self-inside.symmetry =
    ap (λ (s : Sides). symmetry_of g.B.Geometry.shape s.own) (sym taken) ∙ ap (symmetry_of g.B.Geometry.shape) (sym c.own.ensures.points) ∙ sym c.class_of.ensures.symmetry ∙ c.if-class_of-symmetry.true in
    sym c.loop-self.invariant.same
    ∙ falls-yes g.B.Geometry.shape c.loop-self.self-inside.position c.loop-self.self-inside.symmetry low set_classes
    ∙ ap (λ x. x ∷ orbit_from g.B.Geometry.shape c.loop-self.self-inside.position (c.loop-self.self-inside.symmetry + 1)) (sym taken)

pub returns-then-class_of-symmetry-clause-goes : goal.returns-then-class_of-symmetry-clause-goes
returns-then-class_of-symmetry-clause-goes g c = progress _ _ _ (returns-then-class_of-symmetry-clause-steps g c)

pub loop-self-preserved : goal.loop-self-preserved
loop-self-preserved g c =
    let low : c.loop-self.self-inside.symmetry < g.B.Geometry.shape.symmetries = omega (arith, c.loop-self-test.true, c.SYMMETRIES.ensures, g.met.B.Geometry.symmetry_count) in
    let taken : c.image-position.result ≡ preimage g.B.Geometry.shape c.loop-self.self-inside.position c.loop-self.self-inside.symmetry =
    c.image-position.ensures.image ∙ ap (λ t. image_sides (g.B.Geometry.shape.image t) c.loop-self.self-inside.position) c.inverse-back.ensures in
    let set_classes : symmetry_of g.B.Geometry.shape (preimage g.B.Geometry.shape c.loop-self.self-inside.position c.loop-self.self-inside.symmetry).own ≢ c.loop-self.self-inside.symmetry =
    λ e. c.if-class_of-symmetry.false (c.class_of.ensures.symmetry ∙ ap (symmetry_of g.B.Geometry.shape) c.own.ensures.points ∙ ap (λ (s : Sides). symmetry_of g.B.Geometry.shape s.own) taken ∙ e) in
    record {
      same = sym (falls-no g.B.Geometry.shape c.loop-self.self-inside.position c.loop-self.self-inside.symmetry low set_classes) ∙ c.loop-self.invariant.same;
      counted = c.loop-self.invariant.counted;
    }

pub returns-clause-steps : goal.returns-clause-steps
returns-clause-steps g c =
    let past : g.B.Geometry.shape.symmetries ≤ c.loop-self.self-inside.symmetry = omega (arith, c.loop-self-test.false, c.SYMMETRIES.ensures, g.met.B.Geometry.symmetry_count) in
    let none : orbit_from g.B.Geometry.shape c.loop-self.self-inside.position c.loop-self.self-inside.symmetry ≡ [] =
    falls-end g.B.Geometry.shape c.loop-self.self-inside.position c.loop-self.self-inside.symmetry past in
    (sym c.loop-self.invariant.same ∙ none, none)
