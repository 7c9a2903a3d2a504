-- So far the first codes went out, and the hasher was fed the same bytes.
use Rattle.std.proofs.Common.{◌-◌, ◌≡◌, ℕ, ◌≤◌, ◌++◌, List, take}
use Rattle.sha2.specs.Hashers.{Holds256}
use Rattle.morris_board.specs.Streams.{AllSent}
use Rattle.morris_pairs.specs.TableFiles.{code_bytes}
use Rattle.morris_pairs.proofs.writing.put_codes.Given as goal

abbrev pub invariant-loop-first : goal.invariant-loop-first
invariant-loop-first g l = record {
  within : l.first ≤ l.count;
  sent : AllSent (g.S.Sink.contents l.fn.sink) (g.S.Sink.contents l.sink) l.fn.sent l.sent (code_bytes (take l.first l.table.codes));
  uncounted : g.S.Sink.failures l.sink ≡ g.S.Sink.failures l.fn.sink;
  hashed : (before : List ℕ) → Holds256 l.fn.hasher before → Holds256 l.hasher (before ++ code_bytes (take l.first l.table.codes));
}

abbrev pub decreases-loop-first : goal.decreases-loop-first
decreases-loop-first g l = l.count - l.first
