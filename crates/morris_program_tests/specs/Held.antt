-- Files in memory that are found by their names.
use Rattle.std.specs.Prelude.{ℕ, List, [], ◌∷◌, Some, None, bytes_eq, if◌then◌else◌}
use Rattle.std.specs.Borrow.{Bor}
use Rattle.morris_files.specs.Files.{Files}

-- the bytes of the first of the files that has this name
abbrev pub file_named : List (Bor (List ℕ) × Bor (List ℕ)) → Files
file_named [] name = None
file_named (file ∷ files) name = if bytes_eq file.0.now name then Some file.1.now else file_named files name
