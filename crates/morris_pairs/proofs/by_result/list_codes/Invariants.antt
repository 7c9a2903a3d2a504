use Rattle.std.proofs.Common.{◌≡◌, map, take}
use Rattle.morris_pairs.specs.OpponentGroups.{code_stated}
use Rattle.morris_pairs.proofs.by_result.list_codes.Given as goal

abbrev pub invariant-loop-member : goal.invariant-loop-member
invariant-loop-member g l = l.out.items ≡ map (code_stated g.B.Geometry.shape l.raw) (take l.member-index l.group)
