-- A folder that is filled pair by pair.
use Rattle.std.proofs.Common.{◌≡◌, ℕ, ◌+◌, ◌≤◌, List, [], ◌∷◌, ◌++◌, Option, Some, None, Result, Ok, Err, refl, sym, ap, subst, ◌∙◌, inl, inr}
use Rattle.std.specs.Prelude.{IfErr, IfSome, MatchResult, OnOk, option_to_list}
use Rattle.std.specs.List.{flat_map}
use Rattle.std.specs.Io.KnownBytes.{Keeps}
use Rattle.std.proofs.KnownBytes.{Keeps-refl}
use Rattle.morris_board.specs.Boards.{Shape}
use Rattle.morris_board.specs.Streams.{AllSent}
use Rattle.morris_index.specs.Pairs.{Counts, below_of}
use Rattle.morris_pairs.specs.declared.layout.Layout.{Layout}
use Rattle.morris_pairs.specs.Known.{IsBeyondCodes}
use Rattle.morris_pairs.specs.Shelves.{Stored, table_on}
use Rattle.morris_pairs.specs.Tables.{Table}
use Rattle.morris_files.specs.Files.{Files}
use Rattle.morris_files.specs.Files as folder
use Rattle.std.proofs.lemmas.Grind.{flat_map-append}
use Rattle.std.proofs.lemmas.List.{append-nil}
use Rattle.std.proofs.Math.Path.{ap₂}
use Rattle.morris_files.specs.Digests.{digest_line, digest_lines}
use Rattle.morris_files.specs.declared.table_file.Written.{Written}
use Rattle.morris_jobs.specs.declared.fault.Fault.{Fault}
use Rattle.morris_jobs.specs.Faults.{PrintsLine}
use Rattle.morris_jobs.specs.Building.{ArePruned, IsUnbuiltAt, stones}
use Rattle.morris_folder_commands.specs.Filling.{GoesOn, IsFilledBut, IsOf, IsThere, StoresTable, LeadsTo, Rest, PrintsFile, rest_of}
use Rattle.morris_folder_commands.specs.Into.{Ends, Fills, FillsFolder, IsBuilt, Place, StaysPut, digest_of, filed_line, filed_text}

-- nothing is changed where nothing was done
pub files_kept : (files : Option Files) → folder.AreUnchanged files files
files_kept None = tt
files_kept (Some files) = λ name. refl

pub stays : (here : Place) → StaysPut here here
stays here = record { files = files_kept here.files; out = Keeps-refl here.out }

-- the line is that of the table's file
pub line_is : {B : Type 0} (board : Shape) (t : Table) (w : Written B) → IsOf board t w
    → filed_text w.pair w.entries w.bytes w.digest ≡ filed_line board t
line_is board t w is = rw (is.pair, is.entries, is.bytes, is.digest) refl

-- the lines of the digests of files
abbrev pub lines_of : {B : Type 0} → List ℕ → List (Written B) → List ℕ
lines_of {B = B} name ws = digest_lines name (λ (w : Written B). w.pair) (λ (w : Written B). w.digest) ws

-- one line more
one_more : {B : Type 0} (name : List ℕ) (ws : List (Written B)) (w : Written B)
    → lines_of name (ws ++ w ∷ []) ≡ lines_of name ws ++ digest_line name w.pair w.digest
one_more {B = B} name ws w =
    let f : Written B → List ℕ = λ x. digest_line name x.pair x.digest in
    flat_map-append f ws (w ∷ []) ∙ ap (λ lines. flat_map f ws ++ lines) (append-nil (f w))

-- the end, by the same files
pub ends_with : {B : Type 0} (name unchanged : List ℕ) (us ws : List (Written B)) (before after : Place) (result : Result (Unit {0}) Fault) → us ≡ ws
    → Ends name (unchanged ++ lines_of name us) before after result → Ends name (unchanged ++ lines_of name ws) before after result
ends_with name unchanged us ws before after result same ends = subst (λ files. Ends name (unchanged ++ lines_of name files) before after result) same ends

module _ (board : Shape) (l : Layout) (name : List ℕ) (blocks : ℕ) where
  -- nothing is done
  pub goes_nowhere : (from to : Rest) → to ≡ from → LeadsTo board l name blocks from to
  goes_nowhere from to same = λ unchanged after result fills.
      subst (λ (r : Rest). Fills board l name blocks unchanged r.pairs r.sent r.digests r.here after result) same fills

  -- what is done after something else
  pub goes_further : {T : Type 0} (from mid to : Rest) (result : Result T Fault) → LeadsTo board l name blocks from mid
      → GoesOn board l name blocks mid to result → GoesOn board l name blocks from to result
  goes_further from mid to (Ok done) before then = λ unchanged after result fills. before unchanged after result (then unchanged after result fills)
  goes_further from mid to (Err refused) before then = λ unchanged. before unchanged to.here (Err refused) (then unchanged)

  -- a pair that isn't built
  pub unbuilt : (T : Type 0) (from : Rest) (c : Counts) (pairs : List Counts) (refused : Fault) → from.pairs ≡ c ∷ pairs
      → IsUnbuiltAt board c blocks refused → GoesOn {T = T} board l name blocks from from (Err refused)
  unfolding Fills
  unbuilt T from c pairs refused is why = λ unchanged.
      subst (λ (ps : List Counts). Fills board l name blocks unchanged ps from.sent from.digests from.here from.here (Err refused)) (sym is)
      (inl (refused, refl, why, stays from.here))

  -- a table whose file is written and its line printed, or not
  module _ {B : Type 0} (waiting : Option Counts) (old new : List (Written B)) (c : Counts) (pairs : List Counts) (t : Table) (sent now : ℕ) (here next : Place)
      (waits : waiting ≡ Some c) (built : IsBuilt board l c t) (within : ¬ IsBeyondCodes board c) where
    abbrev first : Rest
    first = rest_of name old sent waiting pairs here

    abbrev last : Rest
    last = rest_of name new now None pairs next

    back : (unchanged : List ℕ) (after : Place) (result : Result (Unit {0}) Fault)
        → Fills board l name blocks unchanged (c ∷ pairs) sent (lines_of name old) here after result
        → Fills board l name blocks unchanged first.pairs first.sent first.digests here after result
    back unchanged after result fills =
        subst (λ (o : Option Counts). Fills board l name blocks unchanged (option_to_list o ++ pairs) sent (lines_of name old) here after result) (sym waits) fills

    pub tells_on : (file : Result (Written B) Fault) (result : Result (Unit {0}) Fault) → StoresTable board name t here.files next.files file
        → PrintsFile file old new sent now here.out next.out result → GoesOn board l name blocks first last result
    unfolding Fills
    tells_on (Err refused) result keeps reported =
        let silent = subst (λ (out : Option (List ℕ)). Keeps here.out out) (sym reported.1) (Keeps-refl here.out) in
        subst (GoesOn board l name blocks first last) (sym reported.0)
        (λ unchanged. back unchanged next (Err refused) (inr (t, built, within, (next, Err refused, inl (refused, refl, keeps, silent), (refl, refl)))))
    tells_on (Ok w) (Ok done) keeps reported = λ unchanged after result fills.
        let is = keeps.1 in
        let lines : lines_of name new ≡ lines_of name old ++ digest_of board name t =
        ap (lines_of name) reported.1 ∙ one_more name old w ∙ ap₂ (λ p d. lines_of name old ++ digest_line name p d) is.pair is.digest in
        let rest = subst (λ (d : List ℕ). Fills board l name blocks unchanged pairs now d next after result) lines fills in
        let printed = subst (AllSent here.out next.out sent now) (line_is board t w is) reported.0 in
        back unchanged after result (inr (t, built, within, (next, Ok now, inr (keeps.0, printed), rest)))
    tells_on (Ok w) (Err refused) keeps reported = λ unchanged.
        let printed = subst (λ (text : List ℕ). PrintsLine text sent here.out next.out (Err refused)) (line_is board t w keeps.1) reported in
        back unchanged next (Err refused) (inr (t, built, within, (next, Err refused, inr (keeps.0, printed), (refl, refl))))

  -- no file waits, and a table is built or not
  pub built_alone : {T B : Type 0} (waiting left : Option Counts) (written : List (Written B)) (sent : ℕ) (c : Counts) (pairs : List Counts) (here : Place)
      (result : Result T Fault) → waiting ≡ None → left ≡ None → IfErr result (IsUnbuiltAt board c blocks)
      → GoesOn board l name blocks (rest_of name written sent waiting (c ∷ pairs) here) (rest_of name written sent left (c ∷ pairs) here) result
  built_alone waiting left written sent c pairs here (Ok done) none gone why =
      goes_nowhere (rest_of name written sent waiting (c ∷ pairs) here) (rest_of name written sent left (c ∷ pairs) here)
      (ap (λ (o : Option Counts). rest_of name written sent o (c ∷ pairs) here) (gone ∙ sym none))
  built_alone {T = T} waiting left written sent c pairs here (Err refused) none gone why =
      unbuilt T (rest_of name written sent waiting (c ∷ pairs) here) c pairs refused (ap (λ (o : Option Counts). option_to_list o ++ c ∷ pairs) none) why

  -- the file that waits, of a table that is there
  pub filed_once : {B : Type 0} (tables : Stored) (waiting left : Option Counts) (old new : List (Written B)) (c : Counts) (pairs : List Counts) (t : Table)
      (sent now : ℕ) (here next : Place) (file : Result (Written B) Fault) (result : Result (Unit {0}) Fault)
      → IfSome waiting (IsThere board l tables) → waiting ≡ Some c → table_on tables c ≡ Some t → left ≡ None
      → StoresTable board name t here.files next.files file → PrintsFile file old new sent now here.out next.out result
      → GoesOn board l name blocks (rest_of name old sent waiting pairs here) (rest_of name new now left pairs next) result
  filed_once tables waiting left old new c pairs t sent now here next file result there waits has none keeps reported =
      let at = subst (λ (o : Option Counts). IfSome o (IsThere board l tables)) waits there in
      let it = at.0.1 in
      let same : at.0.0 ≡ t = cc in
      let built : IsBuilt board l c t = subst (IsBuilt board l c) same (record { of_pair = at.0.2; of_layout = at.0.3; exact = at.0.4 }) in
      subst (λ (o : Option Counts). GoesOn board l name blocks (rest_of name old sent waiting pairs here) (rest_of name new now o pairs next) result) (sym none)
      (tells_on waiting old new c pairs t sent now here next waits built at.1 file result keeps reported)

  -- all pairs, with no file
  pub begins : {B : Type 0} (written : List (Written B)) (sent : ℕ) (waiting : Option Counts) (pairs all : List Counts) (here : Place)
      → written ≡ [] → sent ≡ 0 → waiting ≡ None → pairs ≡ all
      → LeadsTo board l name blocks (record { pairs = all; sent = 0; digests = []; here = here }) (rest_of name written sent waiting pairs here)
  begins written sent waiting pairs all here is_empty is_nought none same =
      goes_nowhere (record { pairs = all; sent = 0; digests = []; here = here }) (rest_of name written sent waiting pairs here)
      (rw (is_empty, is_nought, none, same) refl)

  -- where the pairs that are left are known by another list
  pub goes_from : {T B : Type 0} (start : Rest) (written : List (Written B)) (sent : ℕ) (waiting : Option Counts) (pairs more : List Counts) (here : Place)
      (to : Rest) (result : Result T Fault) → pairs ≡ more → LeadsTo board l name blocks start (rest_of name written sent waiting pairs here)
      → GoesOn board l name blocks (rest_of name written sent waiting more here) to result → GoesOn board l name blocks start to result
  goes_from start written sent waiting pairs more here to result same leads goes =
      goes_further start (rest_of name written sent waiting more here) to result
      (subst (λ (ps : List Counts). LeadsTo board l name blocks start (rest_of name written sent waiting ps here)) same leads) goes

  -- the pair whose table was built waits
  pub waits : {B : Type 0} (start : Rest) (old new : List (Written B)) (sent now : ℕ) (waiting left : Option Counts) (all : List Counts) (c : Counts)
      (pairs : List Counts) (before here : Place) → all ≡ c ∷ pairs → left ≡ None
      → LeadsTo board l name blocks start (rest_of name old sent waiting all before)
      → LeadsTo board l name blocks (rest_of name old sent waiting (c ∷ pairs) before) (rest_of name new now left (c ∷ pairs) here)
      → LeadsTo board l name blocks start (rest_of name new now (Some c) pairs here)
  waits start old new sent now waiting left all c pairs before here same none leads goes = λ unchanged after result fills.
      subst (λ (ps : List Counts). LeadsTo board l name blocks start (rest_of name old sent waiting ps before)) same leads unchanged after result
      (goes unchanged after result
      (subst (λ (o : Option Counts). Fills board l name blocks unchanged (option_to_list o ++ c ∷ pairs) now (lines_of name new) here after result) (sym none) fills))

  -- no pair is left
  pub comes_to : {B : Type 0} (pair : Counts) (start next : Place) (written : List (Written B)) (sent : ℕ) (waiting : Option Counts) (result : Result (Unit {0}) Fault)
      → OnOk result (waiting ≡ None)
      → GoesOn board l name blocks (record { pairs = below_of pair; sent = 0; digests = []; here = start }) (rest_of name written sent waiting [] next) result
      → (unchanged : List ℕ) → MatchResult result (λ _. IsFilledBut board l name pair blocks unchanged start next (lines_of name written))
      (λ refused. FillsFolder board l name pair blocks unchanged start next (Err refused))
  unfolding Fills
  comes_to pair start next written sent waiting (Ok done) none goes unchanged = λ after result ends.
      inr (goes unchanged after result
      (subst (λ (o : Option Counts). Fills board l name blocks unchanged (option_to_list o ++ []) sent (lines_of name written) next after result) (sym none) ends))
  comes_to pair start next written sent waiting (Err refused) none goes unchanged = inr (goes unchanged)

-- the table that waits is still there once those of fewer stones are dropped
pub spares_waiting : (board : Shape) (l : Layout) (old new : Stored) (c : Counts) (waiting : Option Counts)
    → IfSome waiting (λ last. stones c ≤ stones last + 1) → ArePruned old new c → IfSome waiting (IsThere board l old) → IfSome waiting (IsThere board l new)
spares_waiting board l old new c None near goes there = tt
spares_waiting board l old new c (Some last) near goes there =
    let at = there.0 in
    ((at.0, goes last near ∙ at.1, at.2, at.3, at.4), there.1)
