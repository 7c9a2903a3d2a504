-- What `build` writes.
use Rattle.std.specs.Prelude.{◌≡◌, ◌≢◌, ◌⊎◌, ⊤, ℕ, ◌<◌, Bool, true, List, [], ◌∷◌, map, Option, Some, None, is_some, Result, Err, if◌then◌else◌}
use Rattle.std.specs.List.{All, Contains, flat_map}
use Rattle.std.specs.Io.KnownBytes.{Keeps}
use Rattle.morris_board.specs.Boards.{Shape}
use Rattle.morris_index.specs.Pairs.{Counts, below_of}
use Rattle.morris_pairs.specs.declared.layout.Layout.{Layout}
use Rattle.morris_pairs.specs.Known.{IsBeyondCodes}
use Rattle.morris_pairs.specs.Shelves.{Stored, table_on}
use Rattle.morris_pairs.specs.TableFiles.{file_of}
use Rattle.morris_pairs.specs.Tables.{IsTable, Table}
use Rattle.morris_jobs.specs.declared.fault.Fault.{Fault}
use Rattle.morris_jobs.specs.declared.fault.Fault.TheVariants as fault
use Rattle.morris_jobs.specs.Faults.{Prints}
use Rattle.morris_jobs.specs.Answering.{OnBoard, OnBuildArgs}
use Rattle.morris_jobs.specs.Building.{HasExactAt, layout_for}

-- ---- the files

-- the pairs whose files are written: all those below a pair, in order, its own among them, or its
-- own alone
abbrev pub pairs_written : Bool → Counts → List Counts
pairs_written all pair = if all then below_of pair else pair ∷ []

-- one table in a layout for each of these pairs, in their order, in which each code is the game's
-- value and exact depth
pub record AreTablesOf (board : Shape) (l : Layout) (pairs : List Counts) (tables : List Table) : Type 0 where
  pub of_pairs : map (λ t. t.pair) tables ≡ pairs
  pub of_layout : All (λ (t : Table). t.layout ≡ l) tables
  pub exact : All (IsTable board) tables

-- the files of such tables were written, one after the other and nothing else
abbrev pub AnswersFiles : {T : Type 0} → Shape → Layout → List Counts → Option (List ℕ) → Option (List ℕ) → Result T Fault → Type 0
AnswersFiles board l pairs old new result =
    (tables : List Table) × AreTablesOf board l pairs tables × Prints old new (flat_map (file_of board) tables) result

-- the file of the table that a shelf has of a pair
abbrev pub file_on : Shape → Stored → Counts → List ℕ
file_on board shelf c = elim (table_on shelf c) [ None ↦ [] | Some t ↦ file_of board t ]

-- the shelf has the tables of these pairs
abbrev pub HasTables : Stored → List Counts → Type 0
HasTables shelf pairs = (c : Counts) → Contains pairs c → is_some (table_on shelf c) ≡ true

-- it has such a table of each of these pairs
abbrev pub HasExact : Shape → Layout → Stored → List Counts → Type 0
HasExact board l shelf pairs = (c : Counts) → Contains pairs c → HasExactAt board l shelf c

-- it has such a table of each of them but one
abbrev pub HasExactBut : Shape → Layout → Stored → Counts → List Counts → Type 0
HasExactBut board l shelf but pairs = (c : Counts) → Contains pairs c → c ≢ but → HasExactAt board l shelf c

-- ---- the refusals

-- codes don't suffice for the depths of the pair, or for those of one below it, on which it rests
abbrev pub HasTooDeep : Shape → Counts → Type 0
HasTooDeep board pair = (below : Counts) × Contains (below_of pair) below × IsBeyondCodes board below

-- the same of one below it alone, the pair itself left out
abbrev pub RestsOnTooDeep : Shape → Counts → Type 0
RestsOnTooDeep board pair = (below : Counts) × Contains (below_of pair) below × (below ≢ pair) × IsBeyondCodes board below

-- another pair is below this one, so that its table is built first
abbrev pub RestsOnAnother : Counts → Type 0
RestsOnAnother pair = (below : Counts) × Contains (below_of pair) below × (below ≢ pair)

-- Why the pairs below a pair but itself aren't built, by so many blocks, or by none where they are
-- swept: want of memory; a block of this number was left incomplete in one of them; or codes don't
-- suffice for the depths of one.
abbrev pub IsUnbuiltBefore : Shape → Counts → ℕ → Fault → Type 0
IsUnbuiltBefore board pair blocks fault.Memory = ⊤
IsUnbuiltBefore board pair blocks (fault.Missing number) = RestsOnAnother pair × (number < blocks)
IsUnbuiltBefore board pair blocks fault.TooDeep = RestsOnTooDeep board pair
IsUnbuiltBefore board pair blocks _ = ⊥

-- why a pair isn't built after those below it
abbrev pub IsUnbuiltFor : Shape → Counts → ℕ → Fault → Type 0
IsUnbuiltFor board pair blocks fault.Memory = ⊤
IsUnbuiltFor board pair blocks (fault.Missing number) = number < blocks
IsUnbuiltFor board pair blocks fault.TooDeep = HasTooDeep board pair
IsUnbuiltFor board pair blocks _ = ⊥

-- ---- the answer

-- What `build` answers of a pair in a layout: one of these refusals, with nothing written;
-- otherwise codes suffice for all depths, and the files are written, or the first bytes of them up
-- to the write that failed.
abbrev pub AnswersBuilt : {T : Type 0} → Shape → Layout → Counts → ℕ → Bool → Option (List ℕ) → Option (List ℕ) → Result T Fault → Type 0
AnswersBuilt board l pair blocks all old new result =
    ((refused : Fault) × (result ≡ Err refused) × IsUnbuiltFor board pair blocks refused × Keeps old new)
    ⊎ (¬ HasTooDeep board pair × AnswersFiles board l (pairs_written all pair) old new result)

-- what it answers on a board, of the pair that a text names, with so many workers and blocks
abbrev pub AnswersBuildOn : {T : Type 0} → Shape → Layout → List ℕ → ℕ → ℕ → Bool → Option (List ℕ) → Option (List ℕ) → Result T Fault → Type 0
AnswersBuildOn board l text workers blocks all old new result =
    OnBuildArgs board text workers blocks result (Keeps old new) (λ pair. AnswersBuilt board l pair blocks all old new result)

-- what it answers on the board of a name, with tables in the layout that is asked for
abbrev pub AnswersBuild : {T : Type 0} → Option Shape → List ℕ → ℕ → ℕ → Bool → Bool → Option (List ℕ) → Option (List ℕ) → Result T Fault → Type 0
AnswersBuild named text workers blocks all classes old new result =
    OnBoard named result (Keeps old new) (λ board. AnswersBuildOn board (layout_for classes) text workers blocks all old new result)
