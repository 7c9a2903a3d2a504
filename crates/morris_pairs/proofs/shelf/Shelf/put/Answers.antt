use Rattle.morris_pairs.proofs.ShelfLaws.{put-lawful}
use Rattle.morris_pairs.proofs.shelf.Shelf.put.Goals as goal

pub invariant_of-self : goal.invariant_of-self
invariant_of-self g c =
    put-lawful g.B.Geometry.shape c.self.inside.tables c.put.new.self c.args.table c.self.invariant c.put.ensures.lawful
    (rw (← c.pair.ensures.value) c.in_default.ensures) c.put.ensures.this c.put.ensures.others
