use Rattle.std.proofs.Common.{◌≡◌, ◌∙◌, sym, ap, ap₂, subst}
use Rattle.morris_board.specs.Positions.{sides, IsPosition}
use Rattle.morris_index.specs.ClassPairs.{class_index_of}
use Rattle.morris_index.proofs.class_pair.ClassPair.index.Goals as goal

pub entry_at-requires-clause-lawful : goal.entry_at-requires-clause-lawful
entry_at-requires-clause-lawful g c =
    let same : c.args.position.now ≡ sides c.standing-standing.result.own c.other-other.result =
    sym (ap₂ sides (c.standing-standing.ensures.own ∙ c.own-own.ensures.points) c.other-other.ensures.points) in
    subst (IsPosition g.B.Geometry.shape) same c.own-own.ensures.lawful

pub returns-clause-value : goal.returns-clause-value
returns-clause-value g c =
    c.entry_at.ensures.value
    ∙ ap (class_index_of g.B.Geometry.shape g.B.Geometry.POINTS c.args.self.now) (ap₂ sides (c.standing-standing.ensures.own ∙ c.own-own.ensures.points) c.other-other.ensures.points)
