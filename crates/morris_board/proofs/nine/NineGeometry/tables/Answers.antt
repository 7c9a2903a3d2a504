use Rattle.morris_board.proofs.Tables.{neighbours-nine, mills-nine, mills_through-nine}
use Rattle.morris_board.proofs.nine.NineGeometry.tables.Goals as goal

pub returns-clause-neighbours : goal.returns-clause-neighbours
returns-clause-neighbours c = neighbours-nine

pub returns-clause-mills : goal.returns-clause-mills
returns-clause-mills c = mills-nine

pub returns-clause-mills_through : goal.returns-clause-mills_through
returns-clause-mills_through c = mills_through-nine
