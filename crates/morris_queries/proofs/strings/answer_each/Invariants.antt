use Rattle.std.proofs.Common.{◌≡◌, ℕ, List, [], Option, map, take}
use Rattle.morris_files.specs.Files.{Files}
use Rattle.morris_queries.specs.Answers.{AreOut}
use Rattle.morris_queries.specs.Folders.{IsOf, Stays}
use Rattle.morris_queries.proofs.strings.answer_each.Given as goal

-- the answers to the strings so far went out, and were counted
abbrev pub invariant-loop-text : goal.invariant-loop-text
invariant-loop-text g l = record {
  stays : Stays g.B.Geometry.shape g.L.Library.files l.initial.folder l.folder;
  unfailed : g.O.Sink.failures l.output ≡ g.O.Sink.failures l.initial.output;
  out : (name : List ℕ) (known : Option Files) (start : Option (List ℕ)) → IsOf g.B.Geometry.shape g.L.Library.files name known l.initial.folder
      → AreOut g.B.Geometry.shape name known l.show [] start (g.O.Sink.contents l.initial.output) l.fn.begun
      → AreOut g.B.Geometry.shape name known l.show (take l.text-index (map (λ text. text.now) l.strings)) start (g.O.Sink.contents l.output) l.tally;
}
