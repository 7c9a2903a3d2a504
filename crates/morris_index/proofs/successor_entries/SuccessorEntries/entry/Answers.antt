-- The images of the stones that have moved are ranked outside the representative.
use Rattle.std.proofs.Common.{◌≡◌, ◌||◌, not, true, sym, ap, ap₂, ◌∙◌, arith}
use Rattle.morris_board.specs.Sets.{has, with_point, without_point}
use Rattle.morris_board.specs.Symmetries.{image_of}
use Rattle.morris_index.specs.Moves.{InPair, in_pair, move_sides}
use Rattle.morris_index.proofs.ClassMoveLaws.{IsCanonicalMove, canonicalizing_within, canonical_move}
use Rattle.morris_index.proofs.successor_entries.SuccessorEntries.entry.Given as given
use Rattle.morris_index.proofs.successor_entries.SuccessorEntries.entry.Goals as goal
use Rattle.morris_index.proofs.successor_entries.SuccessorEntries.entry.Goals.{After-self, After-without}

move : (g : given.Over) (c : After-self g)
    → IsCanonicalMove g.B.Geometry.shape g.B.Geometry.POINTS (in_pair c.self.inside.pair.now c.self.inside.position) c.self.inside.symmetry c.self.inside.canonical_form c.self.inside.start c.args.from c.args.to
move g c =
    let here : has c.self.inside.position.own c.args.from ≡ true = ap (λ (q : InPair). has q.position.own c.args.from) c.self.view_is ∙ c.requires.start in
    let vacant : not (has c.self.inside.position.own c.args.to || has c.self.inside.position.other c.args.to) ≡ true =
    ap (λ (q : InPair). not (has q.position.own c.args.to || has q.position.other c.args.to)) c.self.view_is ∙ c.requires.vacant in
    canonical_move g.B.Geometry.shape g.B.Geometry.POINTS g.met.B.Geometry.few g.met.B.Geometry.point_count g.met.B.Geometry.has_symmetries (in_pair c.self.inside.pair.now c.self.inside.position) c.self.inside.symmetry c.self.inside.canonical_form c.self.inside.start c.self.invariant.0 c.args.from c.args.to c.requires.end here vacant

-- the stones that are ranked are the images of those that have moved
moved : (g : given.Over) (c : After-without g) → IsCanonicalMove g.B.Geometry.shape g.B.Geometry.POINTS (in_pair c.self.inside.pair.now c.self.inside.position) c.self.inside.symmetry c.self.inside.canonical_form c.self.inside.start c.args.from c.args.to
    → with_point c.without.result c.image-canonical_to.result ≡ image_of (g.B.Geometry.shape.image c.self.inside.symmetry) (move_sides c.self.inside.position c.args.from c.args.to).other
moved g c is = ap₂ with_point (c.without.ensures ∙ ap₂ without_point c.own.ensures.points c.image-canonical_from.ensures) c.image-canonical_to.ensures ∙ sym is.moved

pub image-canonical_from-requires : goal.image-canonical_from-requires
image-canonical_from-requires g c = record {
  symmetry = omega (arith, canonicalizing_within g.B.Geometry.shape g.B.Geometry.POINTS g.met.B.Geometry.few g.met.B.Geometry.point_count g.met.B.Geometry.has_symmetries (in_pair c.self.inside.pair.now c.self.inside.position) c.self.inside.symmetry c.self.inside.canonical_form c.self.inside.start c.self.invariant.0, g.met.B.Geometry.symmetry_count);
  point = (move g (goal.at.image-canonical_from-requires g c).After-self).from_in;
}

pub image-canonical_to-requires-clause-symmetry : goal.image-canonical_to-requires-clause-symmetry
image-canonical_to-requires-clause-symmetry g c =
    omega (arith, canonicalizing_within g.B.Geometry.shape g.B.Geometry.POINTS g.met.B.Geometry.few g.met.B.Geometry.point_count g.met.B.Geometry.has_symmetries (in_pair c.self.inside.pair.now c.self.inside.position) c.self.inside.symmetry c.self.inside.canonical_form c.self.inside.start c.self.invariant.0, g.met.B.Geometry.symmetry_count)

pub without-requires : goal.without-requires
without-requires g c = omega (arith, c.image-canonical_from.ensures, (move g (goal.at.without-requires g c).After-self).image_from, g.met.B.Geometry.few)

pub with-moved-requires : goal.with-moved-requires
with-moved-requires g c = omega (arith, c.image-canonical_to.ensures, (move g (goal.at.with-moved-requires g c).After-self).image_to, g.met.B.Geometry.few)

pub entry_outside-requires : goal.entry_outside-requires
entry_outside-requires g c =
    let is = move g (goal.at.entry_outside-requires g c).After-self in
    let at : c.with-moved.result ≡ image_of (g.B.Geometry.shape.image c.self.inside.symmetry) (move_sides c.self.inside.position c.args.from c.args.to).other =
    c.with-moved.ensures ∙ moved g (goal.at.entry_outside-requires g c).After-without is in
    record {
      start = c.self.invariant.0.few;
      board = rw at is.unmoved.within;
      counted = rw at (c.self.invariant.1 ∙ sym is.counted);
      few = rw at is.unmoved.most;
      apart = rw (at, c.self.invariant.2 ∙ is.other) is.unmoved.apart;
    }

pub returns : goal.returns
returns g c =
    let is = move g (goal.at.returns g c).After-self in
    let at : c.with-moved.result ≡ image_of (g.B.Geometry.shape.image c.self.inside.symmetry) (move_sides c.self.inside.position c.args.from c.args.to).other =
    c.with-moved.ensures ∙ moved g (goal.at.returns g c).After-without is in
    rw (← c.self.view_is, c.entry_outside.ensures, at, c.self.invariant.2 ∙ is.other) (record { value = is.entry })
