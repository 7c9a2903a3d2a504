use Rattle.std.proofs.Common.{ap, sym, ◌∙◌}
use Rattle.morris_board.specs.Positions.{Sides}
use Rattle.morris_board.specs.Sets.{count_of}
use Rattle.morris_board.specs.Symmetries.{image_of}
use Rattle.morris_index.specs.Classes.{representative_of, symmetry_of}
use Rattle.morris_index.proofs.successor_entries.SuccessorEntries.of.Goals as goal

pub invariant_of-result : goal.invariant_of-result
unfolding representative_of
invariant_of-result g c = (
  record {
    counts = c.requires;
    lawful = c.own.ensures.lawful;
    pair = c.pair.ensures.lawful;
    leads = c.start_of-start.ensures.symmetry ∙ ap (symmetry_of g.B.Geometry.shape) c.other.ensures.points;
    canonical_form = c.image-canonical_form.ensures.image;
    start = rw (← c.own.ensures.points, ← c.other.ensures.points, ← c.count-count.ensures.value) c.start_of-start.ensures.start;
    few = c.start_of-start.ensures.few;
  },
  c.count-count.ensures.value ∙ ap count_of c.own.ensures.points,
  c.start_of-start.ensures.representative
      ∙ ap (λ x. image_of (g.B.Geometry.shape.image (symmetry_of g.B.Geometry.shape x)) x) c.other.ensures.points
      ∙ ap (λ t. image_of (g.B.Geometry.shape.image t) c.args.position.now.other) (sym (c.start_of-start.ensures.symmetry ∙ ap (symmetry_of g.B.Geometry.shape) c.other.ensures.points))
      ∙ sym (ap (λ (s : Sides). s.other) c.image-canonical_form.ensures.image),
)
