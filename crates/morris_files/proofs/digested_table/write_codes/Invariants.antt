-- So far the first codes went out, and the hasher was fed the same bytes.
use Rattle.std.proofs.Common.{◌-◌, ◌≡◌, ℕ, ◌≤◌, ◌++◌, List, take}
use Rattle.std.specs.Io.KnownBytes.{Appends}
use Rattle.sha2.specs.Hashers.{Holds256}
use Rattle.morris_pairs.specs.TableFiles.{code_bytes}
use Rattle.morris_files.proofs.digested_table.write_codes.Given as goal

abbrev pub invariant-loop-first : goal.invariant-loop-first
invariant-loop-first g l = record {
  within : l.first ≤ l.count;
  sent : Appends (g.S.Sink.contents l.fn.sink) (g.S.Sink.contents l.sink) (code_bytes (take l.first l.table.codes));
  uncounted : g.S.Sink.failures l.sink ≡ g.S.Sink.failures l.fn.sink;
  hashed : (before : List ℕ) → Holds256 l.fn.hasher before → Holds256 l.hasher (before ++ code_bytes (take l.first l.table.codes));
  watched : g.W.Watch.becomes l.fn.watch l.watch;
}

abbrev pub decreases-loop-first : goal.decreases-loop-first
decreases-loop-first g l = l.count - l.first
