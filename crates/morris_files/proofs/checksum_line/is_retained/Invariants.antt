-- The line isn't that of a file that stays, of any pair before.
use Rattle.std.proofs.Common.{◌≡◌, false, take}
use Rattle.std.specs.List.{list_any}
use Rattle.morris_index.specs.Pairs.{all_pairs, counts}
use Rattle.morris_files.specs.Digests.{is_retained_of}
use Rattle.morris_files.proofs.checksum_line.is_retained.Given as goal

abbrev pub invariant-loop-place : goal.invariant-loop-place
invariant-loop-place l = list_any (is_retained_of l.board (counts l.replaced.0 l.replaced.1) l.line) (take l.place all_pairs) ≡ false
