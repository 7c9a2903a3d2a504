-- What comes of the bytes of an input, as they are taken in.
use Rattle.std.specs.Prelude.{◌≡◌, ℕ, List, ◌++◌, Option, Result, Ok, Err}
use Rattle.morris_board.specs.Boards.{Shape}
use Rattle.morris_files.specs.Files.{Files}
use Rattle.morris_jobs.specs.declared.fault.Fault.{Fault}
use Rattle.morris_queries.specs.declared.lines.Reading.{Reading}
use Rattle.morris_queries.specs.Folders.{IsOf, Stays}
use Rattle.morris_queries.specs.InputLines.{strings_ended}
use Rattle.morris_queries.specs.LineAnswers.{IsReadTo, StopsIn}

module _ {B L O F : Type 0} (board : Shape) (files_of : L → Option Files) where
  -- the answers come from the same folder, go to the same output, and show the same
  pub record StaysOf (old new : Reading B L O F) : Type 0 where
    pub folder : Stays board files_of old.folder new.folder
    pub output : new.output.ghost_name ≡ old.output.ghost_name
    pub show : new.show ≡ old.show

  module _ (contents : O → Option (List ℕ)) where
    -- these bytes were read since the output had what it had at the start, and the answers come
    -- from the folder of these files
    pub record Stands (name : List ℕ) (known : Option Files) (start : Option (List ℕ)) (read : List ℕ) (r : Reading B L O F) : Type 0 where
      pub of : IsOf board files_of name known r.folder
      pub to : IsReadTo board name known r.show read start (contents r.output.now) r.line.items r.tally

    -- These bytes are taken in: they were read too; or a write failed, of the answers to the lines
    -- that end in what was read by then.
    abbrev pub Takes : Reading B L O F → Reading B L O F → List ℕ → Result (Unit {0}) Fault → Type 0
    Takes old new bytes (Ok done) = (name : List ℕ) (known : Option Files) (start : Option (List ℕ)) (read : List ℕ)
        → Stands name known start read old → Stands name known start (read ++ bytes) new
    Takes old new bytes (Err refusal) = (name : List ℕ) (known : Option Files) (start : Option (List ℕ)) (read : List ℕ)
        → Stands name known start read old → StopsIn board name known old.show (strings_ended (read ++ bytes)) start (contents new.output.now) refusal
