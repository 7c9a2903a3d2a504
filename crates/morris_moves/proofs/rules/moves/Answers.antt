use Rattle.morris_moves.proofs.OrderLaws.{moves_in_order}
use Rattle.morris_moves.proofs.rules.moves.Goals as goal

pub returns-clause-ascending : goal.returns-clause-ascending
returns-clause-ascending g c = rw c.new.ensures.listed (moves_in_order g.B.Geometry.shape c.args.position.now)
