use Rattle.morris_pairs.proofs.ShelfLaws.{empty-closed}
use Rattle.morris_pairs.proofs.shelf.Shelf.new.Goals as goal

pub invariant_of-result : goal.invariant_of-result
invariant_of-result g c = empty-closed _ _ c.in_ok-tables.ensures.lawful c.in_ok-tables.ensures.none
