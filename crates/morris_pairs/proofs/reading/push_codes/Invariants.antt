-- So far the codes in the first bytes were added, two bytes each.
use Rattle.std.proofs.Common.{◌≡◌, ℕ, ◌≤◌, ◌+◌, ◌*◌, ◌++◌, take, vec_len}
use Rattle.std.specs.Prelude.{slice_index, vec_capacity}
use Rattle.morris_pairs.specs.TableFiles.{code_bytes}
use Rattle.morris_pairs.proofs.reading.push_codes.Given as goal

abbrev pub invariant-loop-i : goal.invariant-loop-i
invariant-loop-i l = record {
  added : code_bytes l.codes.items ≡ code_bytes l.fn.codes.items ++ take (2 * l.i) l.bytes;
  small : ((i : ℕ) → slice_index l.fn.codes.items i ≤ 65535) → (i : ℕ) → slice_index l.codes.items i ≤ 65535;
  len : vec_len l.codes ≡ vec_len l.fn.codes + l.i;
  capacity : vec_capacity l.codes ≡ vec_capacity l.fn.codes;
}
