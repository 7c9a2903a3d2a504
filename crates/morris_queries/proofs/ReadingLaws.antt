-- What stays of a reading while bytes are taken in, and what it comes to.
use Rattle.std.proofs.Common.{◌≡◌, ℕ, List, Option, Err, refl, ◌∙◌}
use Rattle.morris_board.specs.Boards.{Shape}
use Rattle.morris_files.specs.Files.{Files}
use Rattle.morris_jobs.specs.declared.fault.Fault.{Fault}
use Rattle.morris_jobs.specs.declared.fault.Fault.TheVariants as fault
use Rattle.morris_queries.specs.declared.lines.Reading.{Reading}
use Rattle.morris_queries.specs.declared.show.Show.{Show}
use Rattle.morris_queries.specs.LineAnswers.{CountsReads, StopsIn}
use Rattle.morris_queries.specs.Readings.{StaysOf}
use Rattle.morris_queries.proofs.FolderLaws.{stays_here, stays_on}

module _ {B L O F : Type 0} {board : Shape} {files_of : L → Option Files} where
  pub reading_here : {r : Reading B L O F} → StaysOf board files_of r r
  reading_here = record { folder = stays_here; output = refl; show = refl }

  pub reading_on : {a b c : Reading B L O F} → StaysOf board files_of a b → StaysOf board files_of b c → StaysOf board files_of a c
  reading_on first next = record { folder = stays_on first.folder next.folder; output = next.output ∙ first.output; show = next.show ∙ first.show }

-- a write that stops it is no read
pub stopped_reads : (board : Shape) (name : List ℕ) (known : Option Files) (show : Show) (strings : List (List ℕ)) (start out before after : Option (List ℕ))
    (refusal : Fault) → StopsIn board name known show strings start out refusal → (failed now : ℕ) → now ≡ failed
    → CountsReads {T = ℕ} before after failed now (Err refusal)
stopped_reads board name known show strings start out before after (fault.Write sent) stops failed now same = same
stopped_reads board name known show strings start out before after _ stops failed now same = absurd stops

pub ruleset reading_laws = (reading_here, reading_on)
