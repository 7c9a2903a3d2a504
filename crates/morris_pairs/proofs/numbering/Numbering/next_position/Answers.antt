use Rattle.std.proofs.Common.{◌≡◌, sym, ap, ◌∙◌}
use Rattle.std.proofs.lemmas.Bool.{eq-eqb, eqb-true}
use Rattle.morris_board.specs.Positions.{Sides}
use Rattle.morris_index.specs.Classes.{representative_of}
use Rattle.morris_index.specs.ClassPairs.{canonical_form}
use Rattle.morris_index.proofs.ClassPairLaws.{canonical_own}
use Rattle.morris_pairs.proofs.numbering.Numbering.next_position.Goals as goal

pub next_position-requires-in-Classes-clause-own : goal.next_position-requires-in-Classes-clause-own
next_position-requires-in-Classes-clause-own g c = eqb-true _ _ (rw c.in-Classes.is at c.requires.own)

-- the position of an entry is its own canonical form, so its own set is in canonical form
pub returns-in-Classes-clause-own : goal.returns-in-Classes-clause-own
returns-in-Classes-clause-own g c =
    let board = g.B.Geometry.shape in
    let p : Sides = c.next_position-in-Classes.result in
    let itself : p ≡ canonical_form board p = c.next_position-in-Classes.ensures.canonical_form p c.next_position-in-Classes.ensures.lawful c.next_position-in-Classes.ensures.counts c.next_position-in-Classes.ensures.index in
    rw c.in-Classes.is
    (eq-eqb (representative_of board p.own) p.own
    (sym (ap (λ (s : Sides). s.own) itself
    ∙ canonical_own board g.B.Geometry.POINTS g.met.B.Geometry.few g.met.B.Geometry.point_count g.met.B.Geometry.has_symmetries p c.next_position-in-Classes.ensures.lawful)))
