use Rattle.std.proofs.Common.{◌≡◌, drop}
use Rattle.morris_program_tests.specs.Held.{file_named}
use Rattle.morris_program_tests.proofs.held.bytes_named.Given as goal

-- none of the files so far has the name
abbrev pub invariant-loop-known : goal.invariant-loop-known
invariant-loop-known l = file_named l.files l.name ≡ file_named (drop l.known-index l.files) l.name
