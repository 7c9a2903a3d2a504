-- The codes so far are those in the bytes that were read, which the hasher was fed.
use Rattle.std.proofs.Common.{◌≡◌, ℕ, ◌-◌, ◌≤◌, ◌++◌, List, vec_len}
use Rattle.std.specs.Prelude.{slice_index, vec_capacity}
use Rattle.std.specs.Io.KnownBytes.{Consumes}
use Rattle.sha2.specs.Hashers.{Holds256}
use Rattle.morris_pairs.specs.TableFiles.{code_bytes}
use Rattle.morris_pairs.proofs.reading.read_codes.Given as goal

abbrev pub invariant-loop-buffer : goal.invariant-loop-buffer
invariant-loop-buffer g l = record {
  within : vec_len l.codes ≤ l.count;
  room : l.count ≤ vec_capacity l.codes;
  cache : vec_capacity l.codes ≡ vec_capacity l.initial.codes;
  small : (i : ℕ) → slice_index l.codes.items i ≤ 65535;
  consumed : Consumes (g.S.Source.remaining l.fn.source) (g.S.Source.remaining l.source) (code_bytes l.codes.items);
  hashed : (before : List ℕ) → Holds256 l.fn.hasher before → Holds256 l.hasher (before ++ code_bytes l.codes.items);
  uncounted : g.S.Source.failures l.source ≡ g.S.Source.failures l.fn.source;
}

abbrev pub decreases-loop-buffer : goal.decreases-loop-buffer
decreases-loop-buffer g l = l.count - vec_len l.codes
