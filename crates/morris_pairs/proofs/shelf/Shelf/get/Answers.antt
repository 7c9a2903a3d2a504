use Rattle.morris_pairs.specs.Shelves.{HasAllBelow, IsShelf}
use Rattle.morris_pairs.proofs.ShelfLaws.{where_there}
use Rattle.morris_pairs.proofs.shelf.Shelf.get.Goals as goal

pub returns-clause-below : goal.returns-clause-below
returns-clause-below g c =
    let lawful : IsShelf g.B.Geometry.shape c.args.self.now = rw (← c.self.view_is) c.self.invariant in
    where_there (HasAllBelow c.args.self.now c.args.pair) c.get.result _ (rw (← c.self.view_is) c.get.ensures.value) (lawful.closed c.args.pair)
