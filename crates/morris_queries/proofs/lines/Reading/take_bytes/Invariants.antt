use Rattle.std.proofs.Common.{◌≡◌, ◌++◌, ℕ, List, Option, take}
use Rattle.morris_files.specs.Files.{Files}
use Rattle.morris_queries.specs.Readings.{Stands, StaysOf}
use Rattle.morris_queries.proofs.lines.Reading.take_bytes.Given as goal

-- the bytes so far were taken in
abbrev pub invariant-loop-byte : goal.invariant-loop-byte
invariant-loop-byte g l = record {
  stays : StaysOf g.B.Geometry.shape g.L.Library.files l.initial.self l.self;
  unfailed : g.O.Sink.failures l.self.output.now ≡ g.O.Sink.failures l.initial.self.output.now;
  read : (name : List ℕ) (known : Option Files) (start : Option (List ℕ)) (read : List ℕ)
      → Stands g.B.Geometry.shape g.L.Library.files g.O.Sink.contents name known start read l.initial.self
      → Stands g.B.Geometry.shape g.L.Library.files g.O.Sink.contents name known start (read ++ take l.byte-index l.bytes) l.self;
}
