use Rattle.std.proofs.Common.{◌≡◌, ◌≤◌, [], ℕ, List, Option, length}
use Rattle.std.specs.Io.KnownBytes.{Consumes}
use Rattle.morris_files.specs.Files.{Files}
use Rattle.morris_queries.specs.Readings.{Stands, StaysOf}
use Rattle.morris_queries.proofs.lines.Reading.read_all.Given as goal

-- the answers to all lines that end in what was read went out, and each read gave a byte or more
abbrev pub invariant-loop : goal.invariant-loop
invariant-loop g l = record {
  stays : StaysOf g.B.Geometry.shape g.L.Library.files l.initial.self l.self;
  unread : g.I.Source.failures l.input ≡ g.I.Source.failures l.initial.input;
  unfailed : g.O.Sink.failures l.self.output.now ≡ g.O.Sink.failures l.initial.self.output.now;
  read : (name : List ℕ) (known : Option Files) (start : Option (List ℕ)) → Stands g.B.Geometry.shape g.L.Library.files g.O.Sink.contents name known start [] l.initial.self
      → (read : List ℕ) × Consumes (g.I.Source.remaining l.initial.input) (g.I.Source.remaining l.input) read
      × Stands g.B.Geometry.shape g.L.Library.files g.O.Sink.contents name known start read l.self × (l.counter ≤ length read);
}
