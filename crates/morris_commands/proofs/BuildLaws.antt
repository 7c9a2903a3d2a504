-- The files that are written of the tables on a shelf.
use Rattle.std.proofs.Common.{◌≡◌, ℕ, Bool, true, false, List, [], ◌∷◌, ◌++◌, Option, Some, None, is_some, Ok, Err, take, ◌-◌, refl, sym, ap, ap₂, subst, ◌∙◌, inl, inr, arith, append_assoc, append-nil}
use Rattle.std.specs.List.{flat_map}
use Rattle.std.proofs.lemmas.Grind.{flat_map-append}
use Rattle.std.proofs.lemmas.List.Elements.{All-cons, All-nil}
use Rattle.std.specs.Io.KnownBytes.{Appends}
use Rattle.morris_board.specs.Boards.{Shape}
use Rattle.morris_board.specs.Streams.{PartSent}
use Rattle.morris_index.specs.Pairs.{Counts, below_of}
use Rattle.morris_pairs.specs.declared.layout.Layout.{Layout}
use Rattle.morris_pairs.specs.Shelves.{Stored}
use Rattle.morris_pairs.specs.TableFiles.{file_of}
use Rattle.morris_pairs.specs.Tables.{IsTable, Table}
use Rattle.morris_moves.proofs.ListLaws.{Contains-cons_cases, Contains-head, Contains-tail}
use Rattle.morris_jobs.specs.declared.fault.Fault.TheVariants as fault
use Rattle.morris_commands.specs.Build.{AnswersFiles, AreTablesOf, HasExact, HasTables, file_on, pairs_written}
use Rattle.morris_jobs.specs.Building.{HasExactAt}

module _ (f : Counts → List ℕ) where
  -- the files of all pairs are those of the pairs so far, of this one, and of the others
  pub files_split : (seen rest all : List Counts) (c : Counts) → seen ++ (c ∷ rest) ≡ all → flat_map f all ≡ flat_map f seen ++ f c ++ flat_map f rest
  files_split seen rest all c e = rw (← e, flat_map-append f seen (c ∷ rest)) (sym (append_assoc (flat_map f seen) (f c) (flat_map f rest)))

  -- the files of the pairs so far, and of this one
  pub one_file_more : (seen : List Counts) (c : Counts) → flat_map f seen ++ f c ≡ flat_map f (seen ++ c ∷ [])
  one_file_more seen c = ap (λ files. flat_map f seen ++ files) (sym (append-nil (f c))) ∙ sym (flat_map-append f seen (c ∷ []))

-- the tables of some pairs on a shelf, and that the files on it are theirs
pub record TablesOn (board : Shape) (l : Layout) (shelf : Stored) (pairs : List Counts) : Type 0 where
  pub tables : List Table
  pub are : AreTablesOf board l pairs tables
  pub files : flat_map (file_on board shelf) pairs ≡ flat_map (file_of board) tables

module _ (board : Shape) (l : Layout) (shelf : Stored) where
  pub tables_on : (pairs : List Counts) → HasExact board l shelf pairs → TablesOn board l shelf pairs
  tables_on [] there = record { tables = []; are = record { of_pairs = refl; of_layout = All-nil (λ (t : Table). t.layout ≡ l); exact = All-nil (IsTable board) }; files = refl }
  tables_on (c ∷ pairs) there =
      let rest = tables_on pairs (λ d m. there d (Contains-tail c pairs d m)) in
      let here = there c (Contains-head c pairs) in
      let file : file_on board shelf c ≡ file_of board here.0 =
      ap (λ (o : Option Table). elim o [ None ↦ [] | Some t ↦ file_of board t ]) here.1 in
      record {
        tables = here.0 ∷ rest.tables;
        are = record {
          of_pairs = ap₂ (λ d ds. d ∷ ds) here.2 rest.are.of_pairs;
          of_layout = All-cons (λ (t : Table). t.layout ≡ l) here.0 rest.tables here.3 rest.are.of_layout;
          exact = All-cons (IsTable board) here.0 rest.tables here.4 rest.are.exact;
        };
        files = ap₂ (λ a b. a ++ b) file rest.files;
      }

-- where there is an exact table of each pair, there is a table of each
pub has_tables : (board : Shape) (l : Layout) (shelf : Stored) (pairs : List Counts) → HasExact board l shelf pairs → HasTables shelf pairs
has_tables board l shelf pairs there = λ c m. let here = there c m in ap is_some here.1

-- the tables whose files are written: all, or the last
pub written_exact : (board : Shape) (l : Layout) (table_set : Stored) (pair : Counts) (all : Bool) → (all ≡ true → HasExact board l table_set (below_of pair))
    → HasExactAt board l table_set pair → HasExact board l table_set (pairs_written all pair)
written_exact board l table_set pair true every last = every refl
written_exact board l table_set pair false every last = λ d m. elim (Contains-cons_cases pair [] d m) [
  | inl here ↦ subst (HasExactAt board l table_set) here last
  | inr none ↦ absurd (omega (arith, none.1))
]

-- what went out of the files of some pairs on a shelf is what was answered of them
module _ (board : Shape) (l : Layout) (shelf : Stored) (pairs : List Counts) (there : HasExact board l shelf pairs) (old new : Option (List ℕ)) where
  pub files_out : Appends old new (flat_map (file_on board shelf) pairs) → AnswersFiles {T = Unit {0}} board l pairs old new (Ok (record {}))
  files_out out =
      let on = tables_on board l shelf pairs there in
      (on.tables, on.are, subst (Appends old new) on.files out)

  pub files_part : (sent : ℕ) → PartSent old new 0 sent (flat_map (file_on board shelf) pairs)
      → AnswersFiles {T = Unit {0}} board l pairs old new (Err (fault.Write sent))
  files_part sent part =
      let on = tables_on board l shelf pairs there in
      let all : sent - 0 ≡ sent = omega arith in
      let out : PartSent old new 0 sent (flat_map (file_of board) on.tables) = subst (PartSent old new 0 sent) on.files part in
      (on.tables, on.are, (omega (arith, out.short), subst (λ n. Appends old new (take n (flat_map (file_of board) on.tables))) all out.appended))
