-- A set with no lesser image is its own canonical form; one with a lesser image isn't.
use Rattle.std.proofs.Common.{◌≡◌, ◌<◌, ◌≤◌, ◌^◌, ℕ, sym, ap, subst, ◌∙◌, inl, inr, arith}
use Rattle.std.proofs.lemmas.Bool.{cases_eq}
use Rattle.morris_board.specs.Symmetries.{image_of}
use Rattle.morris_index.specs.Classes.{representative_of, symmetry_of}
use Rattle.morris_index.proofs.ClassLaws.{image_none, own_symmetry, symmetry_first, test_count, test_from, test_other}
use Rattle.morris_index.proofs.class_sizes.is_representative.Goals as goal

pub loop-symmetry-init : goal.loop-symmetry-init
loop-symmetry-init g c = λ t low.
    let board = g.B.Geometry.shape in
    let few : board.points ≤ 24 = omega (arith, g.met.B.Geometry.few, g.met.B.Geometry.point_count) in
    let small : c.args.set < 2 ^ board.points = subst (λ n. c.args.set < 2 ^ n) (sym g.met.B.Geometry.point_count) c.requires in
    let first : 0 ≡ t = omega arith in
    subst (λ s. c.args.set ≤ image_of (board.image s) c.args.set) first
    (omega (arith, image_none board few g.met.B.Geometry.has_symmetries c.args.set small))

pub loop-symmetry-preserved : goal.loop-symmetry-preserved
loop-symmetry-preserved g c = λ t low. elim (cases_eq t c.loop-symmetry.symmetry) [
  | inl e ↦
      subst (λ s. c.args.set ≤ image_of (g.B.Geometry.shape.image s) c.args.set) (sym e)
      (omega (arith, c.if-mask.false, c.mask.ensures, c.mask-in-loop-symmetry.ensures, c.image_of.ensures))
  | inr d ↦ c.loop-symmetry.invariant t (omega arith)
]

pub returns-then-count : goal.returns-then-count
returns-then-count g c = sym (test_count g.B.Geometry.shape c.args.count c.args.set (λ e. c.if-count.true (c.count.ensures.value ∙ e)))

pub returns-then-mask : goal.returns-then-mask
unfolding representative_of
returns-then-mask g c =
    let board = g.B.Geometry.shape in
    let low : c.loop-symmetry.symmetry < board.symmetries = omega (arith, c.loop-symmetry-test.true, g.met.B.Geometry.symmetry_count, c.SYMMETRIES-symmetry-end.ensures) in
    let least = (symmetry_first board c.args.set g.met.B.Geometry.has_symmetries.some).least c.loop-symmetry.symmetry low in
    sym (test_other board c.args.count c.args.set (λ own. absurd (omega (arith, own, least, c.if-mask.true, c.mask.ensures, c.mask-in-loop-symmetry.ensures, c.image_of.ensures))))

pub returns : goal.returns
unfolding representative_of
returns g c =
    let board = g.B.Geometry.shape in
    let few : board.points ≤ 24 = omega (arith, g.met.B.Geometry.few, g.met.B.Geometry.point_count) in
    let small : c.args.set < 2 ^ board.points = subst (λ n. c.args.set < 2 ^ n) (sym g.met.B.Geometry.point_count) c.requires in
    let y = g.met.B.Geometry.has_symmetries in
    let end : c.loop-symmetry.symmetry ≡ board.symmetries =
    omega (arith, y.some, g.met.B.Geometry.symmetry_count, c.SYMMETRIES-symmetry-end.ensures, c.loop-symmetry-test.false, c.loop-symmetry.auto.symmetry-end) in
    let above : (s : ℕ) → s < board.symmetries → c.args.set ≤ image_of (board.image s) c.args.set =
    λ s low. c.loop-symmetry.invariant s (omega (arith, end)) in
    let none : symmetry_of board c.args.set ≡ 0 = own_symmetry board few y c.args.set small above in
    let own : representative_of board c.args.set ≡ c.args.set =
    ap (λ s. image_of (board.image s) c.args.set) none ∙ image_none board few y c.args.set small in
    sym (test_from board c.args.count c.args.set own (sym c.count.ensures.value ∙ c.if-count.false))
