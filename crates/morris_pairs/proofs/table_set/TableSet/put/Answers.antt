use Rattle.morris_pairs.proofs.ShelfLaws.{has_place-pair, put-this, put-other}
use Rattle.morris_pairs.proofs.TableSetLaws.{put-tables}
use Rattle.morris_pairs.proofs.table_set.TableSet.put.Goals as goal

pub invariant_of-self : goal.invariant_of-self
invariant_of-self g c =
    rw (c.place_of.ensures.place, c.pair-pair.ensures.value)
    (put-tables _ c.args.table (has_place-pair _ _ c.pair-pair.ensures.lawful.lawful) g.B.Geometry.shape c.self.invariant c.pair-pair.ensures.lawful)

pub returns-clause-this : goal.returns-clause-this
returns-clause-this g c =
    rw (c.place_of.ensures.place, c.pair-pair.ensures.value)
    (put-this _ c.args.table c.self.invariant.places (has_place-pair _ _ c.pair-pair.ensures.lawful.lawful))

pub returns-clause-others : goal.returns-clause-others
returns-clause-others g c =
    rw (c.place_of.ensures.place, c.pair-pair.ensures.value, ← c.self.view_is)
    (put-other _ c.args.table c.self.invariant.places (has_place-pair _ _ c.pair-pair.ensures.lawful.lawful))

pub returns-clause-lawful : goal.returns-clause-lawful
returns-clause-lawful g c = invariant_of-self g c
