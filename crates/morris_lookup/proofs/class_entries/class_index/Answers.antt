use Rattle.std.proofs.Common.{◌≡◌, ◌≢◌, ◌+◌, ◌∙◌, sym, ap, ap₂, subst, arith}
use Rattle.morris_board.specs.Sets.{count_of}
use Rattle.morris_index.specs.ClassPairs.{class_half_size}
use Rattle.morris_index.proofs.ClassPairLaws.{index-first, index-second}
use Rattle.morris_lookup.specs.Prepared.{AreClassWords}
use Rattle.morris_lookup.specs.Representatives.{representatives_of}
use Rattle.morris_lookup.proofs.EntryLaws.{own_is_lesser}
use Rattle.morris_lookup.proofs.class_entries.class_index.Goals as goal

pub returns-then-count-most-clause-value : goal.returns-then-count-most-clause-value
returns-then-count-most-clause-value g c = λ greater lesser greater_class_words lesser_class_words.
    let first : count_of c.args.position.now.own ≡ c.args.pair.greater =
    sym (ap count_of c.own.ensures.points) ∙ sym c.count.ensures.value ∙ c.if-count-most.true ∙ c.greater-most.ensures.value in
    c.class_half_index.ensures.value (greater ∙ ap (representatives_of g.B.Geometry.shape) (sym first))
    (subst (λ k. AreClassWords g.B.Geometry.shape k c.args.greater_class_words.now) (sym first) greater_class_words)
    ∙ sym (index-first g.B.Geometry.shape g.B.Geometry.POINTS (omega (arith, g.met.B.Geometry.few)) g.met.B.Geometry.point_count g.met.B.Geometry.has_symmetries c.args.pair c.args.position.now first)

pub returns-else-count-most-clause-value : goal.returns-else-count-most-clause-value
returns-else-count-most-clause-value g c = λ greater lesser greater_class_words lesser_class_words.
    let other : count_of c.args.position.now.own ≢ c.args.pair.greater =
    λ e. c.if-count-most.false (c.count.ensures.value ∙ ap count_of c.own.ensures.points ∙ e ∙ sym c.greater-most.ensures.value) in
    let own : count_of c.args.position.now.own ≡ c.args.pair.lesser = own_is_lesser c.args.pair c.args.position.now c.requires.of other in
    ap₂ (λ a b. a + b)
    (c.class_half_size.ensures.value (greater ∙ ap (representatives_of g.B.Geometry.shape) (sym c.greater-most.ensures.value))
    ∙ ap₂ (class_half_size g.B.Geometry.shape g.B.Geometry.POINTS) c.greater-most.ensures.value c.lesser.ensures.value)
    (c.class_half_index-else-count-most.ensures.value (lesser ∙ ap (representatives_of g.B.Geometry.shape) (sym own))
    (subst (λ k. AreClassWords g.B.Geometry.shape k c.args.lesser_class_words.now) (sym own) lesser_class_words))
    ∙ sym (index-second g.B.Geometry.shape g.B.Geometry.POINTS (omega (arith, g.met.B.Geometry.few)) g.met.B.Geometry.point_count g.met.B.Geometry.has_symmetries c.args.pair c.args.position.now other)
