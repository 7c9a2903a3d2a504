use Rattle.std.proofs.Common.{sym, subst}
use Rattle.std.proofs.lemmas.List.Elements.{All-push}
use Rattle.std.specs.List.{All}
use Rattle.morris_pairs.specs.SetMoves.{IsSetTabled}
use Rattle.morris_pairs.proofs.set_moves.SetTable.push.Goals as goal

pub returns : goal.returns
returns g c =
    subst (All (IsSetTabled g.B.Geometry.shape g.B.Geometry.POINTS)) (sym c.in_ok-push.ensures.items)
    (All-push (IsSetTabled g.B.Geometry.shape g.B.Geometry.POINTS) c.fill_place.new.self.sets.items c.of.result
    (subst (λ sets. All (IsSetTabled g.B.Geometry.shape g.B.Geometry.POINTS) sets.items) (sym c.fill_place.ensures) c.requires.tabled) c.of.ensures.tabled)
