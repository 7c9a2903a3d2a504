use Rattle.morris_board.proofs.ImageTables.{row-grid}
use Rattle.morris_board.proofs.grid.GridGeometry.image.Goals as goal

pub returns : goal.returns
returns c = (row-grid c.args.symmetry c.requires.symmetry).at c.args.point c.requires.point
