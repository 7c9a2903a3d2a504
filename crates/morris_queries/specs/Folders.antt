-- The files of a folder, of which those that were needed are open.
use Rattle.std.specs.Prelude.{◌≡◌, ℕ, List, Option, Some}
use Rattle.std.specs.Borrow.{GName}
use Rattle.morris_board.specs.Boards.{Shape}
use Rattle.morris_files.specs.Files.{Files}
use Rattle.morris_queries.specs.declared.values.Folder.{Folder}
use Rattle.morris_queries.specs.Reports.{AreOf}

module _ {B L F : Type 0} where
  -- the library that the files are found in
  abbrev pub library_of : Folder B L F → L
  library_of folder = folder.library.now

  -- by what name the proofs know the borrow of the library
  abbrev pub lent_of : Folder B L F → GName
  lent_of folder = folder.library.ghost_name

  module _ (board : Shape) (files_of : L → Option Files) where
    -- the folder of these files, where they are known, by their names on the board of this name:
    -- each that is open is the one that it has for its pair
    pub record IsOf (name : List ℕ) (known : Option Files) (folder : Folder B L F) : Type 0 where
      pub named : folder.board.now ≡ name
      pub found : files_of (library_of folder) ≡ known
      pub opened : AreOf board name known folder.tables.now

    -- the same folder, of which more files may be open
    pub record Stays (old new : Folder B L F) : Type 0 where
      pub same : lent_of new ≡ lent_of old
      pub unchanged : files_of (library_of new) ≡ files_of (library_of old)
      pub still : (name : List ℕ) (known : Option Files) → IsOf name known old → IsOf name known new

    -- what holds of a folder whose files are known, by the name of the board and by the files
    abbrev pub HoldsFor : Folder B L F → (List ℕ → Files → Type 0) → Type 0
    HoldsFor folder holds = (name : List ℕ) (files : Files) → IsOf name (Some files) folder → holds name files
