use Rattle.std.proofs.Common.{arith}
use Rattle.morris_board.proofs.board.Geometry.inverse.Goals as goal

pub inverse_of-requires : goal.inverse_of-requires
inverse_of-requires g c = omega (arith, c.requires, g.met.Self.Geometry.few_symmetries)
