use Rattle.morris_pairs.proofs.ShelfLaws.{has_place-pair}
use Rattle.morris_lookup.proofs.FileSetLaws.{put-this, put-other, put-lawful}
use Rattle.morris_lookup.proofs.tables.Tables.put.Goals as goal

pub invariant_of-self : goal.invariant_of-self
invariant_of-self g c =
    rw (c.place_of.ensures.place, c.pair-pair.ensures.value)
    (put-lawful _ c.args.file c.self.invariant.places (has_place-pair _ _ c.pair-pair.ensures.lawful.lawful) g.B.Geometry.shape c.self.invariant c.pair-pair.ensures.lawful)

pub returns-clause-this : goal.returns-clause-this
returns-clause-this g c =
    rw (c.place_of.ensures.place, c.pair-pair.ensures.value)
    (put-this _ c.args.file c.self.invariant.places (has_place-pair _ _ c.pair-pair.ensures.lawful.lawful))

pub returns-clause-others : goal.returns-clause-others
returns-clause-others g c =
    rw (c.place_of.ensures.place, c.pair-pair.ensures.value, ← c.self.view_is)
    (put-other _ c.args.file c.self.invariant.places (has_place-pair _ _ c.pair-pair.ensures.lawful.lawful))
