-- What stays of a folder while its files are opened.
use Rattle.std.proofs.Common.{◌≡◌, ◌≢◌, ℕ, List, Option, Some, Ok, refl, sym, ap, subst, ◌∙◌}
use Rattle.morris_board.specs.Boards.{Shape}
use Rattle.morris_files.specs.Files.{Files}
use Rattle.morris_index.specs.Pairs.{Counts}
use Rattle.morris_lookup.specs.FileSets.{file_for}
use Rattle.morris_lookup.specs.Opening.{OpenFile}
use Rattle.morris_queries.specs.declared.values.Folder.{Folder}
use Rattle.morris_queries.specs.Folders.{IsOf, Stays, lent_of, library_of}
use Rattle.morris_queries.specs.Reports.{AreOf, table_in}
use Rattle.morris_queries.proofs.OpenLaws.{of_more}

module _ {B L F : Type 0} {board : Shape} {files_of : L → Option Files} where
  pub known_as : {name : List ℕ} {known : Option Files} {files : Files} {folder : Folder B L F} → known ≡ Some files → IsOf board files_of name known folder
      → IsOf board files_of name (Some files) folder
  known_as {name = name} {folder = folder} is of = subst (λ k. IsOf board files_of name k folder) is of

  pub stays_here : {folder : Folder B L F} → Stays board files_of folder folder
  stays_here = record { same = refl; unchanged = refl; still = λ name known of. of }

  pub stays_on : {a b c : Folder B L F} → Stays board files_of a b → Stays board files_of b c → Stays board files_of a c
  stays_on first next = record {
    same = next.same ∙ first.same;
    unchanged = next.unchanged ∙ first.unchanged;
    still = λ name known of. next.still name known (first.still name known of);
  }

module _ {B L F : Type 0} (board : Shape) (files_of : L → Option Files) where
  -- a file was looked for
  pub stays_asked : (old new : Folder B L F) → lent_of new ≡ lent_of old → new.board.now ≡ old.board.now → new.tables.now ≡ old.tables.now
      → files_of (library_of new) ≡ files_of (library_of old) → Stays board files_of old new
  stays_asked old new same name tables unchanged = record {
    same = same;
    unchanged = unchanged;
    still = λ n known of. record { named = name ∙ of.named; found = unchanged ∙ of.found; opened = subst (λ ts. AreOf board n known ts) (sym tables) of.opened };
  }

  -- a file more is open
  pub stays_with : (old mid new : Folder B L F) (file : OpenFile) → Stays board files_of old mid → lent_of new ≡ lent_of mid → new.board.now ≡ mid.board.now
      → library_of new ≡ library_of mid
      → ((name : List ℕ) (files : Files) → IsOf board files_of name (Some files) old → table_in board name files file.pair ≡ Ok file)
      → file_for new.tables.now file.pair ≡ Some file → ((c : Counts) → c ≢ file.pair → file_for new.tables.now c ≡ file_for mid.tables.now c)
      → Stays board files_of old new
  stays_with old mid new file first same name library this here others = record {
    same = same ∙ first.same;
    unchanged = ap files_of library ∙ first.unchanged;
    still = λ n known of.
        let m = first.still n known of in
        record {
          named = name ∙ m.named;
          found = ap files_of library ∙ m.found;
          opened =
              of_more board n known mid.tables.now new.tables.now file m.opened
              (λ files is. this n files (known_as is of)) here others;
        };
  }

pub ruleset stays_laws = (stays_here, stays_on)
