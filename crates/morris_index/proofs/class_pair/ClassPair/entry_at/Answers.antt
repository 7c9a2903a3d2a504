-- The images of the opponent's stones are ranked outside the representative.
use Rattle.std.proofs.Common.{arith}
use Rattle.morris_board.specs.Positions.{sides}
use Rattle.morris_index.proofs.CarriedLaws.{IsCarried}
use Rattle.morris_index.proofs.StandingLaws.{canonicalizing_within, canonical_there, entry-is, entry_below}
use Rattle.morris_index.proofs.class_pair.ClassPair.entry_at.Given as given
use Rattle.morris_index.proofs.class_pair.ClassPair.entry_at.Goals as goal
use Rattle.morris_index.proofs.class_pair.ClassPair.entry_at.Goals.{Start}

canonical_form : (g : given.Over) (c : Start g) → IsCarried g.B.Geometry.shape g.B.Geometry.POINTS (sides c.args.standing.now.own c.args.other) c.args.standing.now.symmetry
canonical_form g c = canonical_there g.B.Geometry.shape g.B.Geometry.POINTS g.met.B.Geometry.few g.met.B.Geometry.point_count g.met.B.Geometry.has_symmetries c.args.self.now c.args.standing.now c.args.other c.requires.stands c.requires.lawful

pub canonical_image-image-requires-clause-symmetry : goal.canonical_image-image-requires-clause-symmetry
canonical_image-image-requires-clause-symmetry g c =
    omega (arith, canonicalizing_within g.B.Geometry.shape g.B.Geometry.POINTS g.met.B.Geometry.few g.met.B.Geometry.point_count g.met.B.Geometry.has_symmetries c.args.self.now c.args.standing.now c.args.other c.requires.stands c.requires.lawful, g.met.B.Geometry.symmetry_count)

pub entry_outside-requires-clause-board : goal.entry_outside-requires-clause-board
entry_outside-requires-clause-board g c = rw c.canonical_image-image.ensures (canonical_form g (goal.at.entry_outside-requires-clause-board g c).Start).within

pub entry_outside-requires-clause-few : goal.entry_outside-requires-clause-few
entry_outside-requires-clause-few g c = rw c.canonical_image-image.ensures (canonical_form g (goal.at.entry_outside-requires-clause-few g c).Start).most

pub entry_outside-requires-clause-apart : goal.entry_outside-requires-clause-apart
entry_outside-requires-clause-apart g c = rw (c.canonical_image-image.ensures, c.requires.stands.place) (canonical_form g (goal.at.entry_outside-requires-clause-apart g c).Start).apart

pub returns-clause-value : goal.returns-clause-value
returns-clause-value g c =
    rw (c.entry_outside.ensures, c.canonical_image-image.ensures, c.requires.stands.place) (entry-is g.B.Geometry.shape g.B.Geometry.POINTS g.met.B.Geometry.few g.met.B.Geometry.point_count g.met.B.Geometry.has_symmetries c.args.self.now c.args.standing.now c.args.other c.requires.stands c.requires.lawful)

pub returns-clause-below : goal.returns-clause-below
returns-clause-below g c =
    rw (c.entry_outside.ensures, c.canonical_image-image.ensures, c.requires.stands.place) (entry_below g.B.Geometry.shape g.B.Geometry.POINTS g.met.B.Geometry.few g.met.B.Geometry.point_count g.met.B.Geometry.has_symmetries c.args.self.now c.args.standing.now c.args.other c.requires.stands c.requires.lawful)
