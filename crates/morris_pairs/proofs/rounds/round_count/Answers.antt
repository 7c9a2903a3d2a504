use Rattle.std.proofs.Common.{ap, ◌∙◌, arith}
use Rattle.std.specs.Int.{div_ceil}
use Rattle.morris_pairs.proofs.rounds.round_count.Goals as goal

pub div_ceil-requires : goal.div_ceil-requires
div_ceil-requires g c = omega arith

pub returns-clause-count : goal.returns-clause-count
returns-clause-count g c = c.div_ceil.ensures ∙ ap (λ n. div_ceil n 4194304) c.len.ensures.size

pub returns-clause-points : goal.returns-clause-points
returns-clause-points g c = g.met.B.Geometry.point_count

pub returns-clause-few : goal.returns-clause-few
returns-clause-few g c = omega (arith, g.met.B.Geometry.few, g.met.B.Geometry.point_count)

pub returns-clause-symmetries : goal.returns-clause-symmetries
returns-clause-symmetries g c = g.met.B.Geometry.has_symmetries
