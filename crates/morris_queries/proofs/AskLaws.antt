-- Why the file of a pair isn't opened.
use Rattle.std.proofs.Common.{◌≡◌, ℕ, List, Option, None, Some, false, Result, Err, inl, inr, refl}
use Rattle.std.proofs.KnownBytes.{Keeps-refl}
use Rattle.morris_board.specs.Boards.{Shape}
use Rattle.morris_files.specs.Files.{Files}
use Rattle.morris_index.specs.Pairs.{Counts}
use Rattle.morris_jobs.specs.declared.fault.Fault.{Fault}
use Rattle.morris_jobs.specs.declared.fault.Fault.TheVariants as fault
use Rattle.morris_jobs.specs.Faults.{is_write}
use Rattle.morris_lookup.specs.Opening.{OpenFile}
use Rattle.morris_queries.specs.Asked.{AnswersFile, AnswersFrom}
use Rattle.morris_queries.specs.declared.file_questions.Question.{Question}
use Rattle.morris_queries.specs.declared.file_questions.Question.TheVariants.{Counts as Counting, Positions}
use Rattle.morris_queries.specs.declared.library.Unfound.{Unfound}
use Rattle.morris_queries.specs.declared.library.Unfound.TheVariants as unfound
use Rattle.morris_queries.specs.Libraries.{find_fault}
use Rattle.morris_queries.specs.Reports.{Agrees, table_in}

-- that it is refused by the file, or memory was refused
pub file_refused : {T : Type 0} (board : Shape) (name : List ℕ) (known : Option Files) (pair : Counts) (question : Question) (output : Option (List ℕ))
    (r : Result T Fault) (refused : Fault) → r ≡ Err refused
    → ((files : Files) → known ≡ Some files → Agrees (Err refused) (table_in board name files pair)) → AnswersFrom board name known pair question output output r
file_refused board name None pair question output r refused is why =
    inr (inr (inl (refused, is, (λ files same. let bad : None ≡ Some files = same in cc), Keeps-refl output)))
file_refused board name (Some files) pair question output r refused is why =
    elim (why files refl) [
      | inl found ↦ inr (inr (inl (refused, is, (λ other same. let here : files ≡ other = cc in rw (← here) found), Keeps-refl output)))
      | inr e ↦ let memory : refused ≡ fault.Memory = cc in inr (inl (rw memory at is, Keeps-refl output))
    ]

-- memory was refused before anything was printed
pub memory_answer : {T : Type 0} (board : Shape) (file : OpenFile) (question : Question) (output : Option (List ℕ)) (r : Result T Fault) → r ≡ Err fault.Memory
    → AnswersFile board file question output output r
memory_answer board file (Counting csv) output r is = inl (is, Keeps-refl output)
memory_answer board file (Positions search) output r is = inl (is, Keeps-refl output)

-- that the place of the files isn't found isn't the fault of a write
pub unfound_unwritten : (refused : Unfound) → is_write (find_fault refused) ≡ false
unfound_unwritten unfound.Memory = refl
unfound_unwritten unfound.Folder = refl
