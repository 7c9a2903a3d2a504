use Rattle.morris_board.proofs.Tables.{neighbours-grid, mills-grid, mills_through-grid}
use Rattle.morris_board.proofs.grid.GridGeometry.tables.Goals as goal

pub returns-clause-neighbours : goal.returns-clause-neighbours
returns-clause-neighbours c = neighbours-grid

pub returns-clause-mills : goal.returns-clause-mills
returns-clause-mills c = mills-grid

pub returns-clause-mills_through : goal.returns-clause-mills_through
returns-clause-mills_through c = mills_through-grid
