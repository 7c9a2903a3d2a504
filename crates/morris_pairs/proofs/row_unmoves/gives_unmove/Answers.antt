use Rattle.std.proofs.Common.{◌≡◌, ◌&&◌, Bool, eqb, sym, ap, ◌∙◌, arith}
use Rattle.morris_board.specs.Boards.{Shape}
use Rattle.morris_board.specs.Symmetries.{image_of, inverse_of}
use Rattle.morris_index.specs.Classes.{is_canonicalizing, symmetry_of}
use Rattle.morris_pairs.proofs.RowStepLaws.{leads_to_least}
use Rattle.morris_pairs.proofs.row_unmoves.gives_unmove.Goals as goal

pub returns-then-eq : goal.returns-then-eq
returns-then-eq g c =
    let b : Shape = g.B.Geometry.shape in
    let rest : Bool = eqb (symmetry_of b (image_of (b.image c.args.symmetry) c.args.stones)) (inverse_of c.args.symmetry) in
    let leads : c.eq.result ≡ is_canonicalizing b c.args.mover c.args.symmetry =
    c.eq.ensures
    ∙ leads_to_least b g.B.Geometry.POINTS g.met.B.Geometry.few g.met.B.Geometry.point_count g.met.B.Geometry.has_symmetries c.args.mover c.args.symmetry
    c.image_of.result c.args.least c.requires.mover (omega (arith, c.requires.symmetry, g.met.B.Geometry.symmetry_count)) c.image_of.ensures c.requires.least in
    c.is_in_transversal.ensures ∙ ap (λ t. t && rest) (sym c.if-eq.true ∙ leads)

pub returns-else-eq : goal.returns-else-eq
returns-else-eq g c =
    let b : Shape = g.B.Geometry.shape in
    let rest : Bool = eqb (symmetry_of b (image_of (b.image c.args.symmetry) c.args.stones)) (inverse_of c.args.symmetry) in
    let leads : c.eq.result ≡ is_canonicalizing b c.args.mover c.args.symmetry =
    c.eq.ensures
    ∙ leads_to_least b g.B.Geometry.POINTS g.met.B.Geometry.few g.met.B.Geometry.point_count g.met.B.Geometry.has_symmetries c.args.mover c.args.symmetry
    c.image_of.result c.args.least c.requires.mover (omega (arith, c.requires.symmetry, g.met.B.Geometry.symmetry_count)) c.image_of.ensures c.requires.least in
    c.if-eq.false ∙ ap (λ t. t && rest) (sym c.if-eq.false ∙ leads)
