-- So far the lines that were gone through have been retained, or weren't to be.
use Rattle.std.proofs.Common.{◌≡◌}
use Rattle.std.specs.List.{flat_map}
use Rattle.morris_index.specs.Pairs.{counts}
use Rattle.morris_files.specs.Digests.{retained_line}
use Rattle.morris_files.proofs.old_checksums.retain_lines.Given as goal

abbrev pub invariant-loop-line : goal.invariant-loop-line
invariant-loop-line l = l.retained.items ≡ flat_map (λ line. retained_line l.board (counts l.replaced.0 l.replaced.1) line.now) l.yielded
