use Rattle.std.proofs.Common.{◌≡◌, ℕ, ◌+◌, ◌<◌, ◌≤◌, ◌^◌, List, length, get_or, sym, ◌∙◌, subst, arith}
use Rattle.morris_board.specs.Boards.{Shape}
use Rattle.morris_board.specs.Symmetries.{HasSymmetries}
use Rattle.morris_lookup.specs.Representatives.{representatives_of}
use Rattle.morris_lookup.proofs.ListLaws.{representatives-few}
use Rattle.morris_lookup.proofs.StretchLaws.{few_masks}
use Rattle.morris_lookup.proofs.LeadLaws.{AreSetsCanonical, IsListed, listed_at, sets_none, sets_more, sets_all}
use Rattle.morris_lookup.proofs.class_words.write_class_words.Given.{Over}
use Rattle.morris_lookup.proofs.class_words.write_class_words.Goals as goal

few : (g : Over) → g.B.Geometry.shape.points ≤ 24
few g = omega (arith, g.met.B.Geometry.few, g.met.B.Geometry.point_count)

-- the representative that stands in the words
module _ (board : Shape) (few : board.points ≤ 24) (y : HasSymmetries board) (count list classes start class r : ℕ) (words old : List ℕ)
    (before : list + classes ≤ start) (size : classes ≡ length (representatives_of board count))
    (listed : (i : ℕ) → i < classes → get_or old (list + i) 0 ≡ get_or (representatives_of board count) i 0)
    (here : AreSetsCanonical board count start class words old) (low : class < classes) (is : r ≡ get_or words (list + class) 0) where
  stands : IsListed board few y count class r
  stands =
      let at : r ≡ get_or (representatives_of board count) class 0 = is ∙ here.before (list + class) (omega (arith, before, low)) ∙ listed class low in
      subst (IsListed board few y count class) (sym at) (listed_at board few y count class (omega (arith, low, size)))

  small_class : class < 2 ^ 24
  small_class = omega (arith, low, size, representatives-few board count, few_masks board.points few)

pub overflow_cast-class : goal.overflow_cast-class
overflow_cast-class g c =
    omega (
      arith,
      small_class g.B.Geometry.shape (few g) g.met.B.Geometry.has_symmetries c.args.count c.args.list c.args.classes c.args.start c.loop-class.class _ c.loop-class.words c.args.words.now
          c.requires.before c.requires.classes c.requires.listed c.loop-class.invariant c.loop-class-test.true c.from_mask-representative.ensures,
    )

pub write_images-requires-clause-class : goal.write_images-requires-clause-class
write_images-requires-clause-class g c = omega (
  arith,
  overflow_cast-class g c,
  small_class g.B.Geometry.shape (few g) g.met.B.Geometry.has_symmetries c.args.count c.args.list c.args.classes c.args.start c.loop-class.class _ c.loop-class.words c.args.words.now
      c.requires.before c.requires.classes c.requires.listed c.loop-class.invariant c.loop-class-test.true c.from_mask-representative.ensures,
)

pub write_images-requires-clause-within : goal.write_images-requires-clause-within
write_images-requires-clause-within g c =
    subst (λ n. c.from_mask-representative.result < 2 ^ n) g.met.B.Geometry.point_count
    (stands g.B.Geometry.shape (few g) g.met.B.Geometry.has_symmetries c.args.count c.args.list c.args.classes c.args.start c.loop-class.class _ c.loop-class.words c.args.words.now
    c.requires.before c.requires.classes c.requires.listed c.loop-class.invariant c.loop-class-test.true c.from_mask-representative.ensures).within

pub write_images-requires-clause-counted : goal.write_images-requires-clause-counted
write_images-requires-clause-counted g c =
    (stands g.B.Geometry.shape (few g) g.met.B.Geometry.has_symmetries c.args.count c.args.list c.args.classes c.args.start c.loop-class.class _ c.loop-class.words c.args.words.now
    c.requires.before c.requires.classes c.requires.listed c.loop-class.invariant c.loop-class-test.true c.from_mask-representative.ensures).counted

pub write_images-requires-clause-least : goal.write_images-requires-clause-least
write_images-requires-clause-least g c =
    (stands g.B.Geometry.shape (few g) g.met.B.Geometry.has_symmetries c.args.count c.args.list c.args.classes c.args.start c.loop-class.class _ c.loop-class.words c.args.words.now
    c.requires.before c.requires.classes c.requires.listed c.loop-class.invariant c.loop-class-test.true c.from_mask-representative.ensures).own

pub loop-class-init : goal.loop-class-init
loop-class-init g c = sets_none g.B.Geometry.shape c.args.count c.args.start c.args.words.now

pub loop-class-preserved : goal.loop-class-preserved
loop-class-preserved g c =
    let there = stands g.B.Geometry.shape (few g) g.met.B.Geometry.has_symmetries c.args.count c.args.list c.args.classes c.args.start c.loop-class.class _ c.loop-class.words c.args.words.now
    c.requires.before c.requires.classes c.requires.listed c.loop-class.invariant c.loop-class-test.true c.from_mask-representative.ensures in
    sets_more g.B.Geometry.shape (few g) g.met.B.Geometry.has_symmetries c.args.count c.args.start c.loop-class.class c.from_mask-representative.result c.loop-class.words c.write_images.new.words c.args.words.now
    there c.loop-class.invariant c.write_images.ensures.canonical_form c.write_images.ensures.others c.write_images.ensures.before

pub returns-clause-canonical_form : goal.returns-clause-canonical_form
returns-clause-canonical_form g c =
    let end : c.loop-class.class ≡ length (representatives_of g.B.Geometry.shape c.args.count) =
    omega (arith, c.loop-class-test.false, c.loop-class.auto.class-end, c.requires.classes) in
    sets_all g.B.Geometry.shape (few g) g.met.B.Geometry.has_symmetries c.args.count c.args.start c.loop-class.words c.args.words.now
    (subst (λ k. AreSetsCanonical g.B.Geometry.shape c.args.count c.args.start k c.loop-class.words c.args.words.now) end c.loop-class.invariant)
