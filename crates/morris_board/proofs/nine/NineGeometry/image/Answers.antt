use Rattle.morris_board.proofs.ImageTables.{row-nine}
use Rattle.morris_board.proofs.nine.NineGeometry.image.Goals as goal

pub returns : goal.returns
returns c = (row-nine c.args.symmetry c.requires.symmetry).at c.args.point c.requires.point
