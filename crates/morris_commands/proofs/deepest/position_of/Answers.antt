use Rattle.std.proofs.Common.{◌≡◌, true, sym, ap, subst, ◌∙◌}
use Rattle.std.proofs.lemmas.Bool.{eq-eqb}
use Rattle.morris_board.specs.Positions.{Sides}
use Rattle.morris_index.specs.Classes.{representative_of}
use Rattle.morris_index.specs.ClassPairs.{canonical_form}
use Rattle.morris_index.proofs.ClassPairLaws.{canonical_own}
use Rattle.morris_pairs.specs.declared.layout.Layout.TheVariants.{Classes}
use Rattle.morris_pairs.specs.Entries.{has_own_entry}
use Rattle.morris_commands.proofs.deepest.position_of.Goals as goal

-- the position of an entry is its own canonical form, so its own set is a representative
pub returns-in_ok-entries-in-Classes-clause-own : goal.returns-in_ok-entries-in-Classes-clause-own
returns-in_ok-entries-in-Classes-clause-own g c =
    let board = g.B.Geometry.shape in
    let p : Sides = c.position-in-Classes.result in
    let e = c.position-in-Classes.ensures in
    let itself : p ≡ canonical_form board p = e.canonical_form p e.lawful e.counts e.index in
    let least : representative_of board p.own ≡ p.own =
    sym (ap (λ (s : Sides). s.own) itself
    ∙ canonical_own board g.B.Geometry.POINTS g.met.B.Geometry.few g.met.B.Geometry.point_count g.met.B.Geometry.has_symmetries p e.lawful) in
    let layout : c.args.table.now.layout ≡ Classes = sym c.layout.ensures ∙ c.in-Classes.is in
    subst (λ l. has_own_entry board l p ≡ true) (sym layout) (eq-eqb (representative_of board p.own) p.own least)
