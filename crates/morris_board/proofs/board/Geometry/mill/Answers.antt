use Rattle.morris_board.proofs.board.Geometry.mill.Goals as goal

pub bounds-tables-number : goal.bounds-tables-number
bounds-tables-number g c = rw (c.tables.ensures.mills, g.met.Self.Geometry.mill_count) c.requires

pub returns : goal.returns
returns g c = rw (c.from_mask.ensures, c.tables.ensures.mills)
