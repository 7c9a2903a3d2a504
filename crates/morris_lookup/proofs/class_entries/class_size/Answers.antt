use Rattle.std.proofs.Common.{◌≡◌, ◌≢◌, sym, ap, ◌∙◌, ap₂, ◌+◌, arith}
use Rattle.morris_index.specs.ClassPairs.{class_half_size}
use Rattle.morris_index.proofs.ClassPairLaws.{size-one, size-two}
use Rattle.morris_lookup.specs.Representatives.{representatives_of}
use Rattle.morris_lookup.proofs.class_entries.class_size.Goals as goal

pub returns-then-most-least-clause-value : goal.returns-then-most-least-clause-value
returns-then-most-least-clause-value g c = λ greater lesser.
    let same : c.args.pair.greater ≡ c.args.pair.lesser = sym c.greater-most.ensures.value ∙ c.if-most-least.true ∙ c.lesser-least.ensures.value in
    c.class_half_size-first.ensures.value (greater ∙ ap (representatives_of g.B.Geometry.shape) (sym c.greater-most.ensures.value))
    ∙ ap₂ (class_half_size g.B.Geometry.shape g.B.Geometry.POINTS) c.greater-most.ensures.value c.lesser-least.ensures.value
    ∙ sym (size-one g.B.Geometry.shape g.B.Geometry.POINTS (omega (arith, g.met.B.Geometry.few)) g.met.B.Geometry.point_count g.met.B.Geometry.has_symmetries c.args.pair same)

pub returns-else-most-least-clause-value : goal.returns-else-most-least-clause-value
returns-else-most-least-clause-value g c = λ greater lesser.
    let differ : c.args.pair.greater ≢ c.args.pair.lesser = λ e. c.if-most-least.false (c.greater-most.ensures.value ∙ e ∙ sym c.lesser-least.ensures.value) in
    ap₂ (λ a b. a + b)
    (c.class_half_size-first.ensures.value (greater ∙ ap (representatives_of g.B.Geometry.shape) (sym c.greater-most.ensures.value))
    ∙ ap₂ (class_half_size g.B.Geometry.shape g.B.Geometry.POINTS) c.greater-most.ensures.value c.lesser-least.ensures.value)
    (c.class_half_size.ensures.value (lesser ∙ ap (representatives_of g.B.Geometry.shape) (sym c.lesser-least.ensures.value))
    ∙ ap₂ (class_half_size g.B.Geometry.shape g.B.Geometry.POINTS) c.lesser-least.ensures.value c.greater-most.ensures.value)
    ∙ sym (size-two g.B.Geometry.shape g.B.Geometry.POINTS (omega (arith, g.met.B.Geometry.few)) g.met.B.Geometry.point_count g.met.B.Geometry.has_symmetries c.args.pair differ)
