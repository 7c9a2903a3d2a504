-- So far the chunk begins with the first `i` of the codes.
use Rattle.std.proofs.Common.{◌≡◌, ◌*◌, take, drop}
use Rattle.morris_pairs.specs.TableFiles.{code_bytes}
use Rattle.morris_pairs.proofs.writing.copy_codes.Given as goal

abbrev pub invariant-loop-i : goal.invariant-loop-i
invariant-loop-i g l = take (2 * l.i) l.chunk ≡ code_bytes (take l.i (drop l.first l.table.codes))
