-- Where the files of tables are found by their names.
use Rattle.std.specs.Prelude.{◌≡◌, ℕ, List, ⊤, Option, Some, None, Result, Ok, MatchResult}
use Rattle.morris_files.specs.Files.{Files}
use Rattle.morris_jobs.specs.declared.fault.Fault.{Fault}
use Rattle.morris_jobs.specs.declared.fault.Fault.TheVariants as fault
use Rattle.morris_queries.specs.declared.library.Unfound.{Unfound}
use Rattle.morris_queries.specs.declared.library.Unfound.TheVariants as unfound

-- what looking for the place of the files answers: where the files are known, that it is there
abbrev pub Finds : {E : Type 0} → Option Files → Result (Unit {0}) E → Type 0
Finds None answer = ⊤
Finds (Some files) answer = answer ≡ Ok tt

-- the fault that is answered where it isn't found
abbrev pub find_fault : Unfound → Fault
find_fault unfound.Memory = fault.Memory
find_fault unfound.Folder = fault.NoFolder

-- what is found under a name: the bytes that stand there, and nothing where there are none
abbrev pub IsFound : {F : Type 0} → (F → Option (List ℕ)) → Option (List ℕ) → Option F → Type 0
IsFound contents stored None = stored ≡ None
IsFound contents stored (Some file) = (bytes : List ℕ) × (stored ≡ Some bytes) × (contents file ≡ Some bytes)

-- what opening the file of a name answers: where the files are known, what is found there, and
-- never that it failed
abbrev pub Opens : {F E : Type 0} → (F → Option (List ℕ)) → Option Files → List ℕ → Result (Option F) E → Type 0
Opens contents None name answer = ⊤
Opens contents (Some files) name answer = MatchResult answer (IsFound contents (files name)) (λ _. ⊥)
