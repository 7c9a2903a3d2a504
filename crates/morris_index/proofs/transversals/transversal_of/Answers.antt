-- A set that is its own representative is found at its class.
use Rattle.std.proofs.Common.{◌≡◌, ◌∙◌, sym, ap, subst, get_or, arith}
use Rattle.std.proofs.lemmas.Bool.{eqb-true}
use Rattle.morris_index.specs.Classes.{representative_of, class_of}
use Rattle.morris_index.specs.Unmoves.{IsTransversal}
use Rattle.morris_index.proofs.transversals.transversal_of.Goals as goal

pub bounds-table-class : goal.bounds-table-class
bounds-table-class g c = omega (arith, c.canonicalize-class.ensures.below, c.requires.table.len)

pub returns-then-eq : goal.returns-then-eq
returns-then-eq g c =
    let own : representative_of g.B.Geometry.shape c.args.own ≡ c.args.own =
    sym c.canonicalize-class.ensures.representative ∙ sym c.representative.view_is ∙ eqb-true _ _ (sym c.eq.ensures ∙ c.if-eq.true) in
    let at : get_or c.args.table.now (class_of g.B.Geometry.shape c.args.own) c.index-table-class.result ≡ c.index-table-class.result =
    ap (λ k. get_or c.args.table.now k c.index-table-class.result) (sym c.canonicalize-class.ensures.class) ∙ sym c.index-table-class.is in
    subst (IsTransversal g.B.Geometry.shape c.args.own) at
    (c.requires.table.each c.args.own c.requires.within c.requires.count own (omega (arith, c.canonicalize-class.ensures.below, c.canonicalize-class.ensures.class)) c.index-table-class.result)
