-- The pairs of a board one after the other, and the files of a folder that are verified so.
use Rattle.std.proofs.Common.{◌≡◌, ℕ, zero, suc, ◌+◌, ◌<◌, ◌≤◌, Bool, true, false, ◌&&◌, leb, List, [], ◌∷◌, length, drop, get_or, refl, sym, ◌∙◌, ap, subst, inl, inr, arith, Option, Some, None, Result, Ok, Err, IfSome, MatchResult}
use Rattle.std.specs.List.{filter, list_all, slice_get}
use Rattle.std.proofs.lemmas.Bool.{and_parts, cases_Bool, both_ways}
use Rattle.std.proofs.lemmas.List.{drop_more}
use Rattle.std.proofs.lemmas.List.Folds.{list_all_at}
use Rattle.std.proofs.lemmas.Option.{slice_get_within, get_or_from_slice_get}
use Rattle.std.proofs.KnownBytes.{Keeps-refl}
use Rattle.morris_board.specs.Boards.{Shape}
use Rattle.morris_board.specs.Positions.{is_between}
use Rattle.morris_index.specs.declared.faults.PairFault.{PairFault}
use Rattle.morris_index.specs.declared.faults.PairFault.TheVariants as pairs
use Rattle.morris_index.specs.Pairs.{Counts, all_pairs, make_pair}
use Rattle.morris_pairs.specs.Shelves.{Stored}
use Rattle.morris_pairs.specs.Tables.{Table}
use Rattle.morris_pairs.specs.declared.file_faults.ReadFault.TheVariants as read
use Rattle.morris_files.specs.Files.{Files, HasFailed, HasNone, IsReaderOf}
use Rattle.morris_files.specs.Files as folder
use Rattle.morris_files.specs.Stored.{AnswersStored, HasFile, failures_opening}
use Rattle.morris_files.specs.Names.{name_of}
use Rattle.morris_files.specs.declared.stored.StoredFault.{StoredFault}
use Rattle.morris_files.specs.declared.stored.StoredFault.TheVariants as stored
use Rattle.morris_jobs.specs.declared.fault.Fault.{Fault}
use Rattle.morris_jobs.specs.Building.{RetainsNear}
use Rattle.morris_folder_commands.specs.From.{TakesIn, Verifies, end_of, fits, pairs_of}
use Rattle.morris_folder_commands.specs.FromSteps.{AnswersFile, IsAhead, IsReadAhead, place_is}

-- ---- all pairs

pub length-all_pairs : length all_pairs ≡ 28
unfolding all_pairs
length-all_pairs = refl

abbrev is_lawful : Counts → Bool
is_lawful d = is_between 3 d.greater 9 && is_between 3 d.lesser 9 && leb d.lesser d.greater

all_lawful : list_all is_lawful all_pairs ≡ true
unfolding all_pairs
all_lawful = refl

module _ (place : ℕ) (d : Counts) (is : slice_get all_pairs place ≡ Some d) where
  within : place < length all_pairs
  within = slice_get_within all_pairs place d is

  here : get_or all_pairs place d ≡ d
  here = get_or_from_slice_get all_pairs place d d is

  lawful : is_lawful d ≡ true
  lawful =
      ap is_lawful (sym here) ∙ elim (cases_Bool (is_lawful (get_or all_pairs place d))) [
        | inl h ↦ h
        | inr h ↦ absurd (both_ways (list_all is_lawful all_pairs) (list_all_at is_lawful all_pairs place d within h) all_lawful)
      ]

  rest : (board : Shape) → filter (fits board) (drop place all_pairs) ≡ filter (fits board) (d ∷ drop (place + 1) all_pairs)
  rest board = ap (filter (fits board)) (drop_more all_pairs place d within ∙ ap (λ x. x ∷ drop (place + 1) all_pairs) here)

  pub next_fits : (board : Shape) → fits board d ≡ true
      → filter (fits board) (drop place all_pairs) ≡ d ∷ filter (fits board) (drop (place + 1) all_pairs)
  next_fits board h = rest board ∙ rw h refl

  pub next_crowded : (board : Shape) → fits board d ≡ false
      → filter (fits board) (drop place all_pairs) ≡ filter (fits board) (drop (place + 1) all_pairs)
  next_crowded board h = rest board ∙ rw h refl

  -- what the code makes of the two numbers
  pub made : (board : Shape) (n : ℕ) → board.points ≡ n → (fits board d ≡ true → make_pair n d.greater d.lesser ≡ Ok d) × (fits board d ≡ false → make_pair n d.greater d.lesser ≡ Err pairs.Crowded)
  made board n points =
      let parts = and_parts (is_between 3 d.greater 9 && is_between 3 d.lesser 9) (leb d.lesser d.greater) lawful in
      let numbers = parts.0 in
      let build_args = parts.1 in
      (λ h. rw (← points, numbers, h, build_args) refl, λ h. rw (← points, numbers, h) refl)

pub made_place : (board : Shape) (n place : ℕ) (d : Counts) (r : Result Counts PairFault) → board.points ≡ n → slice_get all_pairs place ≡ Some d
    → r ≡ make_pair n d.greater d.lesser → MatchResult r (λ c. place_is board place (Some c)) (λ _. place_is board place None)
made_place board n place d r points is e =
    let P : Result Counts PairFault → Type 0 = λ x. MatchResult x (λ c. place_is board place (Some c)) (λ _. place_is board place None) in
    elim (cases_Bool (fits board d)) [
      | inl h ↦ subst P (sym (e ∙ (made place d is board n points).0 h)) (is, h)
      | inr h ↦ subst P (sym (e ∙ (made place d is board n points).1 h)) (d, is, h)
    ]

pub none_left : (board : Shape) (place : ℕ) → 28 ≤ place → filter (fits board) (drop place all_pairs) ≡ []
none_left board place h = ap (filter (fits board)) (past all_pairs place (omega (arith, length-all_pairs)))
  where
    past : (cs : List Counts) (n : ℕ) → length cs ≤ n → drop n cs ≡ []
    past [] zero h = refl
    past [] (suc n) h = refl
    past (c ∷ cs) zero h = absurd (omega arith)
    past (c ∷ cs) (suc n) h = past cs n (omega arith)

-- ---- files that stay unchanged

-- what is known of a file of a folder is so of it before calls that change no file
pub file_before : (old new : Option Files) (name : List ℕ) (are : List ℕ → Type 0) → folder.AreUnchanged old new → HasFile new name are → HasFile old name are
file_before None new name are unchanged has = tt
file_before (Some old) None name are unchanged has = absurd unchanged
file_before (Some old) (Some new) name are unchanged has = (has.0, sym (unchanged name) ∙ has.1, has.2)

none_before : (old new : Option Files) (name : List ℕ) → folder.AreUnchanged old new → HasNone new name → HasNone old name
none_before None new name unchanged none = tt
none_before (Some old) None name unchanged none = absurd unchanged
none_before (Some old) (Some new) name unchanged none = sym (unchanged name) ∙ none

pub answer_before : (board : Shape) (old new : Option Files) (name : List ℕ) (c : Counts) (answer : Result (Option Table) StoredFault)
    → folder.AreUnchanged old new → AnswersStored board new name c answer → AnswersStored board old name c answer
answer_before board old new name c (Ok None) unchanged said = none_before old new name unchanged said
answer_before board old new name c (Ok (Some t)) unchanged said = (said.0, file_before old new name _ unchanged said.1)
answer_before board old new name c (Err stored.Memory) unchanged said = tt
answer_before board old new name c (Err stored.Unopened) unchanged said = tt
answer_before board old new name c (Err (stored.Refused refused)) unchanged said = file_before old new name _ unchanged said
answer_before board old new name c (Err stored.OtherPair) unchanged said = (said.0, said.1, file_before old new name _ unchanged said.2)

pub reader_before : (old new : Option Files) (name : List ℕ) (remaining : Option (List ℕ)) → folder.AreUnchanged old new → IsReaderOf new name remaining
    → IsReaderOf old name remaining
reader_before None new name remaining unchanged is = tt
reader_before (Some old) None name remaining unchanged is = absurd unchanged
reader_before (Some old) (Some new) name remaining unchanged is = (is.0, sym (unchanged name) ∙ is.1, is.2)

pub kept_as_is : (files : Option Files) → folder.AreUnchanged files files
kept_as_is None = tt
kept_as_is (Some files) = λ name. refl

pub kept_on : (a b c : Option Files) → folder.AreUnchanged a b → folder.AreUnchanged b c → folder.AreUnchanged a c
kept_on None b c p q = tt
kept_on (Some a) None c p q = absurd p
kept_on (Some a) (Some b) None p q = absurd q
kept_on (Some a) (Some b) (Some c) p q = λ name. q name ∙ p name

-- ---- what was read ahead

pub some_on : {A : Type 0} (o : Option A) (P Q : A → Type 0) → ((x : A) → P x → Q x) → IfSome o P → IfSome o Q
some_on None P Q on p = tt
some_on (Some x) P Q on p = on x p

module _ {R : Type 0} (reading : R → ℕ) (board : Shape) (files : Option Files) (name : List ℕ) (place : ℕ) where
  -- the pair of a place is one alone
  same_pair : (c d : Counts) → place_is board place (Some c) → place_is board place (Some d) → d ≡ c
  same_pair c d is other =
      let both : Some d ≡ Some c = sym other.0 ∙ is.0 in
      cc

  pub ahead_opened : (answer : Option (Result (Option Table) StoredFault)) → IsAhead reading board files name place answer
      → IfSome answer (λ a. failures_opening a ≡ 0)
  ahead_opened None ahead = tt
  ahead_opened (Some a) ahead = ahead.2.1

  pub ahead_unread : (answer : Option (Result (Option Table) StoredFault)) → IsAhead reading board files name place answer
      → IfSome answer (λ a. a ≡ Err (stored.Refused read.Read) → HasFailed reading)
  ahead_unread None ahead = tt
  ahead_unread (Some a) ahead = ahead.2.2

  pub ahead_answer : (c : Counts) → place_is board place (Some c) → (answer : Option (Result (Option Table) StoredFault))
      → IsAhead reading board files name place answer → IfSome answer (AnswersStored board files (name_of name c) c)
  ahead_answer c is None ahead = tt
  ahead_answer c is (Some a) ahead = subst (λ d. AnswersStored board files (name_of name d) d a) (same_pair c ahead.0 is ahead.1) ahead.2.0

  -- nothing is known of a place without a pair of the board
  pub ahead_passes : place_is board place None → (answer : Option (Result (Option Table) StoredFault)) → IsAhead reading board files name place answer
      → IsAhead reading board files name (place + 1) answer
  ahead_passes none None ahead = tt
  ahead_passes none (Some a) ahead =
      let both : Some none.0 ≡ Some ahead.0 = sym none.1 ∙ ahead.1.0 in
      let same : none.0 ≡ ahead.0 = cc in
      let bad : false ≡ true = sym none.2 ∙ ap (fits board) same ∙ ahead.1.1 in
      cc

  -- what was read is known, or nothing is
  pub ahead_read : (c : Counts) → place_is board place (Some c) → (known : Option (Result (Option Table) StoredFault)) (answer : Result (Option Table) StoredFault)
      → IfSome known (λ k. k ≡ answer) → IsReadAhead reading board files (name_of name c) c answer → IsAhead reading board files name place known
  ahead_read c is None answer same said = tt
  ahead_read c is (Some k) answer same said = (c, is, subst (IsReadAhead reading board files (name_of name c) c) (sym same) said)

  pub none_ahead : (known : Option (Result (Option Table) StoredFault)) → known ≡ None → IsAhead reading board files name place known
  none_ahead known none = subst (IsAhead reading board files name place) (sym none) tt

  pub ahead_before : (later : Option Files) → folder.AreUnchanged files later → (answer : Option (Result (Option Table) StoredFault))
      → IsAhead reading board later name place answer → IsAhead reading board files name place answer
  ahead_before later unchanged None ahead = tt
  ahead_before later unchanged (Some a) ahead =
      (ahead.0, ahead.1, (answer_before board files later (name_of name ahead.0) ahead.0 a unchanged ahead.2.0, ahead.2.1, ahead.2.2))

-- ---- the pairs one after the other

module _ (board : Shape) (files : Option Files) (name : List ℕ) (start : Option (List ℕ)) (empty : Stored) where
  -- Some pairs are done: where the others lead, all lead.
  abbrev pub Leads : List Counts → Stored → Bool → ℕ → Option (List ℕ) → Type 0
  Leads pairs tables found sent here =
      (after : Option (List ℕ)) (result : Result (Unit {0}) Fault) → Verifies board files name pairs tables found sent here after result
      → Verifies board files name (pairs_of board) empty false 0 start after result

  -- no pair is left
  pub at_end : (place : ℕ) (tables : Stored) (found : Bool) (sent : ℕ) (here : Option (List ℕ)) (result : Result (Unit {0}) Fault) → 28 ≤ place
      → Leads (filter (fits board) (drop place all_pairs)) tables found sent here → result ≡ end_of found
      → Verifies board files name (pairs_of board) empty false 0 start here result
  unfolding Verifies
  at_end place tables found sent here result past leads end =
      let last : Leads [] tables found sent here = subst (λ ps. Leads ps tables found sent here) (none_left board place past) leads in
      last here result (end, Keeps-refl here)

  -- a pair that the board has no points for, and one that it has
  pub skip_pair : (place : ℕ) (tables : Stored) (found : Bool) (sent : ℕ) (here : Option (List ℕ)) → place_is board place None
      → Leads (filter (fits board) (drop place all_pairs)) tables found sent here → Leads (filter (fits board) (drop (place + 1) all_pairs)) tables found sent here
  skip_pair place tables found sent here is leads =
      subst (λ ps. Leads ps tables found sent here) (next_crowded place is.0 is.1 board is.2) leads

  pub take_pair : (place : ℕ) (c : Counts) (tables : Stored) (found : Bool) (sent : ℕ) (here : Option (List ℕ)) → place_is board place (Some c)
      → Leads (filter (fits board) (drop place all_pairs)) tables found sent here
      → Leads (c ∷ filter (fits board) (drop (place + 1) all_pairs)) tables found sent here
  take_pair place c tables found sent here is leads =
      subst (λ ps. Leads ps tables found sent here) (next_fits place c is.0 board is.1) leads

  module _ (pairs : List Counts) (c : Counts) (tables : Stored) (found : Bool) (sent : ℕ) (here : Option (List ℕ))
      (leads : Leads (c ∷ pairs) tables found sent here) (near : Stored) (goes : RetainsNear tables near c) where
    -- a file that can't be read
    pub failed_file : (f : Fault) → AnswersFile board files (name_of name c) c (Err f)
        → Verifies board files name (pairs_of board) empty false 0 start here (Err f)
    unfolding Verifies
    failed_file f said = leads here (Err f) (near, goes, (Err said.0, said.2, (ap Err said.1, Keeps-refl here)))

    -- no file
    pub missing_file : AnswersFile board files (name_of name c) c (Ok None) → Leads pairs near found sent here
    unfolding Verifies
    missing_file said = λ after result follows. leads after result (near, goes, (Ok None, said, follows))

    module _ (t : Table) (answer : AnswersFile board files (name_of name c) c (Ok (Some t))) (joined : Stored) (after : Option (List ℕ)) where
      -- a table that isn't taken in, or whose line isn't printed
      pub taken_wrong : (f : Fault) → TakesIn board near joined t sent here after (Err f)
          → Verifies board files name (pairs_of board) empty false 0 start after (Err f)
      unfolding Verifies
      taken_wrong f takes =
          leads after (Err f) (near, goes, (Ok (Some t), answer, (joined, after, Err f, takes, (refl, Keeps-refl after))))

      -- one that is
      pub taken_on : (n : ℕ) → TakesIn board near joined t sent here after (Ok n) → Leads pairs joined true n after
      unfolding Verifies
      taken_on n takes = λ last result follows.
          leads last result (near, goes, (Ok (Some t), answer, (joined, after, Ok n, takes, follows)))
