-- The files of tables that are being written.
use Rattle.std.specs.Prelude.{◌≡◌, List, ℕ, string_bytes}
use Rattle.morris_files.specs.Whole.{part_of}
use Rattle.morris_files.specs.declared.table_file.TablePart.{TablePart}

-- the file has this name, and its part the name of a part of it
abbrev pub HasNames : {W : Type 0} → TablePart W → List ℕ → Type 0
HasNames begun name = (string_bytes begun.name ≡ name) × (string_bytes begun.part.name ≡ part_of name)

-- the part is that of the file, whatever its name is
abbrev pub IsPaired : {W : Type 0} → TablePart W → Type 0
IsPaired begun = string_bytes begun.part.name ≡ part_of (string_bytes begun.name)
