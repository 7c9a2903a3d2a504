-- What is opened for a pair, and what open files say, where the files of the folder are known.
use Rattle.std.proofs.Common.{◌≡◌, ◌≢◌, ℕ, Bool, true, false, eqb, List, [], Option, Some, None, is_some, Result, Ok, Err, refl, sym, ap, ap₂, subst, ◌∙◌, inl, inr}
use Rattle.std.specs.Prelude.{IfErr, option_map, unwrap_or, if◌then◌else◌}
use Rattle.std.specs.Option.{option_and_then}
use Rattle.std.proofs.lemmas.Bool.{eq-eqb, eqb-true, and_from, and_parts, cases_Bool}
use Rattle.morris_board.specs.Boards.{Shape}
use Rattle.morris_board.specs.Positions.{Sides}
use Rattle.morris_index.specs.Pairs.{Counts, counts, pair_of}
use Rattle.morris_pairs.specs.declared.layout.Layout.{Layout}
use Rattle.morris_pairs.specs.declared.file_faults.ReadFault.{ReadFault}
use Rattle.morris_pairs.specs.declared.value.Value.{Value}
use Rattle.morris_pairs.specs.declared.value.Value.TheVariants.{Lost}
use Rattle.morris_pairs.specs.Codes.{value_in}
use Rattle.morris_lookup.specs.FileSets.{Files as OpenFiles, file_for, said_of, said_at, said_by, missing_file}
use Rattle.morris_lookup.specs.Lookups.{code_for}
use Rattle.morris_lookup.specs.Opening.{OpenFile, open_file, check_file}
use Rattle.morris_files.specs.Files.{Files}
use Rattle.morris_files.specs.Names.{name_of}
use Rattle.morris_jobs.specs.declared.fault.Fault.{Fault}
use Rattle.morris_jobs.specs.Faults.{needs_fault}
use Rattle.morris_queries.specs.Libraries.{IsFound, Opens}
use Rattle.morris_queries.specs.Reports.{Agrees, AreOf, then_step, same_counts, check_pair, open_as, table_in, stated_in, value_at, reported_value}
use Rattle.morris_queries.proofs.TellingLaws.{refusal_followed}

-- ---- pairs

counts_alike : (c d : Counts) → c ≡ d → same_counts c d ≡ true
counts_alike c d e =
    and_from (eqb c.greater d.greater) (eqb c.lesser d.lesser) (eq-eqb c.greater d.greater (ap (λ (x : Counts). x.greater) e)) (eq-eqb c.lesser d.lesser (ap (λ (x : Counts). x.lesser) e))

-- ---- what was found

module _ (board : Shape) (c : Counts) where
  pub framed_found : (layout : Layout) (pair : Counts) (bytes : List ℕ) → pair ≡ c → check_file board bytes ≡ Ok (layout, pair)
      → open_as board c (Some bytes) ≡ Ok (open_file layout pair (Some bytes) (Some bytes))
  framed_found layout pair bytes is framed =
      rw (framed, counts_alike pair c is) (ap (λ p. Ok (open_file layout p (Some bytes) (Some bytes))) (sym is))

-- what a library that is known found
pub found_known : {F : Type 0} (E : Type 0) (contents : F → Option (List ℕ)) (known : Option Files) (files : Files) (name : List ℕ) (found : Option F)
    → known ≡ Some files → Opens {E = E} contents known name (Ok found) → IsFound contents (files name) found
found_known E contents None files name found e h = cc
found_known E contents (Some all) files name found e h = let same : all ≡ files = cc in subst (λ (f : Files). IsFound contents (f name) found) same h

-- what was opened under the name of a pair
pub opened_named : (board : Shape) (name : List ℕ) (files : Files) (c : Counts) (path : List ℕ) (answer : Result OpenFile Fault) → path ≡ name_of name c
    → Agrees answer (open_as board c (files path)) → Agrees answer (table_in board name files c)
unfolding table_in
opened_named board name files c path answer is h = subst (λ p. Agrees answer (open_as board c (files p))) is h

-- ---- open files

module _ (board : Shape) (name : List ℕ) where
  -- one file more
  pub of_more : (known : Option Files) (old new : OpenFiles) (file : OpenFile) → AreOf board name known old
      → ((files : Files) → known ≡ Some files → table_in board name files file.pair ≡ Ok file) → file_for new file.pair ≡ Some file
      → ((c : Counts) → c ≢ file.pair → file_for new c ≡ file_for old c) → AreOf board name known new
  of_more known old new file are this here others files there c found e = elim (cases_Bool (same_counts c file.pair)) [
    | inl alike ↦
        let parts = and_parts (eqb c.greater file.pair.greater) (eqb c.lesser file.pair.lesser) alike in
        let pair : c ≡ file.pair = ap₂ counts (eqb-true c.greater file.pair.greater parts.0) (eqb-true c.lesser file.pair.lesser parts.1) in
        let both : Some file ≡ Some found = sym here ∙ ap (file_for new) (sym pair) ∙ e in
        let one : file ≡ found = cc in
        ap (table_in board name files) pair ∙ this files there ∙ ap (λ f. Ok f) one
    | inr apart ↦
        let ne : c ≢ file.pair = λ pair. differ (same_counts c file.pair) (counts_alike c file.pair pair) apart in
        are files there c found (sym (others c ne) ∙ e)
  ]
    where
      differ : (b : Bool) → b ≡ true → b ≡ false → ⊥
      differ b one other = cc

  -- ---- the value of a position

  bytes_there : (c : Counts) (stored : Option (List ℕ)) (file : OpenFile) → open_as board c stored ≡ Ok file → (bytes : List ℕ) × (file.bytes ≡ Some bytes)
  bytes_there c None file e = cc
  bytes_there c (Some bytes) file e = framed_there (check_file board bytes) e
    where
      made_there : (b : Bool) (kind : Layout × Counts) → (if b then Ok (open_file kind.0 c (Some bytes) (Some bytes)) else Err (needs_fault c)) ≡ Ok file → (bs : List ℕ) × (file.bytes ≡ Some bs)
      made_there true kind e = let same : open_file kind.0 c (Some bytes) (Some bytes) ≡ file = cc in (bytes, ap (λ (f : OpenFile). f.bytes) (sym same))
      made_there false kind e = cc

      framed_there : (framed : Result (Layout × Counts) ReadFault) → check_pair c bytes framed ≡ Ok file → (bs : List ℕ) × (file.bytes ≡ Some bs)
      framed_there (Ok kind) e = made_there (same_counts kind.1 c) kind e
      framed_there (Err refusal) e = cc

  pub table_bytes : (files : Files) (c : Counts) (file : OpenFile) → table_in board name files c ≡ Ok file → (bytes : List ℕ) × (file.bytes ≡ Some bytes)
  unfolding table_in
  table_bytes files c file e = bytes_there c (files (name_of name c)) file e

  -- what the open files say of a position, where that of its pair is open, is what the folder says
  pub said_reported : (files : Files) (opened : OpenFiles) (s : Sides) → ((c : Counts) (file : OpenFile) → file_for opened c ≡ Some file → table_in board name files c ≡ Ok file)
      → missing_file opened s ≡ None → (value : Value) × (said_of board opened s ≡ Some value) × (reported_value board name files s ≡ Ok value)
  unfolding reported_value
  said_reported files opened s are none = at_pair (pair_of s) none
    where
      with_bytes : (c : Counts) (file : OpenFile) (o : Option (List ℕ)) (bytes : List ℕ) → file.bytes ≡ o → o ≡ Some bytes → table_in board name files c ≡ Ok file
          → (value : Value) × (option_map (λ b. value_in (code_for board file b s)) o ≡ Some value) × (value_at board name files s (Some c) ≡ Ok value)
      with_bytes c file None bytes is e found = cc
      with_bytes c file (Some b) bytes is e found = (
        value_in (code_for board file b s),
        refl,
        ap (λ r. then_step r (λ f. Ok (stated_in board s f))) found ∙ ap (λ o. Ok (value_in (code_for board file (unwrap_or o []) s))) is,
      )

      with_file : (c : Counts) (o : Option OpenFile) → file_for opened c ≡ o → (if is_some o then None else Some c) ≡ None
          → (value : Value) × (option_and_then (said_by board s) o ≡ Some value) × (value_at board name files s (Some c) ≡ Ok value)
      with_file c None is e = cc
      with_file c (Some file) is e =
          let found : table_in board name files c ≡ Ok file = are c file is in
          let bytes = table_bytes files c file found in
          with_bytes c file file.bytes bytes.0 refl bytes.1 found

      at_pair : (o : Option Counts) → option_and_then (λ c. if is_some (file_for opened c) then None else Some c) o ≡ None → (value : Value) × (said_at board opened s o ≡ Some value) × (value_at board name files s o ≡ Ok value)
      at_pair None e = (Lost 0, refl, refl)
      at_pair (Some c) e = with_file c (file_for opened c) refl e

  -- the value that the open files say is the one that the folder says
  pub reported_ok : (F : Type 0) (files : Files) (opened : OpenFiles) (s : Sides) (value : Value)
      → ((c : Counts) (file : OpenFile) → file_for opened c ≡ Some file → table_in board name files c ≡ Ok file) → missing_file opened s ≡ None
      → ((v : Value) → said_of board opened s ≡ Some v → ◌≡◌ {A = Result Value F} (Ok value) (Ok v)) → reported_value board name files s ≡ Ok value
  reported_ok F files opened s value are none said =
      let reported = said_reported files opened s are none in
      let both : ◌≡◌ {A = Result Value F} (Ok value) (Ok reported.0) = said reported.0 reported.1 in
      let same : reported.0 ≡ value = cc in
      reported.2 ∙ ap (λ v. Ok v) same

  -- and reading them doesn't fail
  pub never_refused : {X : Type 0} (F : Type 0) (files : Files) (opened : OpenFiles) (s : Sides) (fault : F)
      → ((c : Counts) (file : OpenFile) → file_for opened c ≡ Some file → table_in board name files c ≡ Ok file) → missing_file opened s ≡ None
      → ((v : Value) → said_of board opened s ≡ Some v → ◌≡◌ {A = Result Value F} (Err fault) (Ok v)) → X
  never_refused F files opened s fault are none said =
      let reported = said_reported files opened s are none in
      let no : ◌≡◌ {A = Result Value F} (Err fault) (Ok reported.0) = said reported.0 reported.1 in
      cc

  -- why there is no value where the file of the pair is refused
  pub value_refused : {T : Type 0} (files : Files) (s : Sides) (c : Counts) → pair_of s ≡ Some c → (answer : Result T Fault)
      → IfErr answer (λ refused. Agrees (Err refused) (table_in board name files c)) → IfErr answer (λ refused. Agrees (Err refused) (reported_value board name files s))
  unfolding reported_value
  value_refused files s c of (Ok done) h = tt
  value_refused files s c of (Err refused) h =
      subst (λ o. Agrees (Err refused) (value_at board name files s o)) (sym of) (refusal_followed refused (table_in board name files c) (λ file. Ok (stated_in board s file)) h)
