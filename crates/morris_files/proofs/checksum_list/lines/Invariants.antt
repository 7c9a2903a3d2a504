-- So far the text has the lines of the first files.
use Rattle.std.proofs.Common.{◌≡◌, take}
use Rattle.std.specs.Prelude.{string_bytes}
use Rattle.morris_files.specs.Digests.{digest_lines}
use Rattle.morris_files.proofs.checksum_list.lines.Given as goal

abbrev pub invariant-loop-file : goal.invariant-loop-file
invariant-loop-file g l = string_bytes l.text ≡ digest_lines l.board (λ w. w.pair) (λ w. w.digest) (take l.file-index l.written)
