-- The cause of a refusal is that of the step that failed.
use Rattle.std.proofs.Common.{◌≡◌, ◌≢◌, ◌⊎◌, ℕ, ◌+◌, ◌<◌, ◌≤◌, Bool, true, false, List, [], length, drop, get_or, codes, Option, Some, None, Result, Ok, Err, refl, sym, ap, subst, ◌∙◌, inl, inr, arith, length-append}
use Rattle.std.specs.Prelude.{unwrap_or}
use Rattle.std.specs.Option.{option_map}
use Rattle.std.proofs.lemmas.List.{drop_at}
use Rattle.morris_board.specs.Boards.{Shape}
use Rattle.morris_index.specs.Pairs.{Counts}
use Rattle.morris_workers.specs.declared.fault.SolveFault.{SolveFault}
use Rattle.morris_pairs.specs.Shelves.{Stored}
use Rattle.morris_pairs.specs.Tables.{Table}
use Rattle.morris_pairs.specs.declared.file_faults.ReadFault.{ReadFault}
use Rattle.morris_pairs.specs.declared.file_faults.ReadFault.TheVariants as read
use Rattle.morris_files.specs.Files.{Files, HasFailed}
use Rattle.morris_files.specs.Lists.{IsUnlisted}
use Rattle.morris_files.specs.Names.{digests_name_of}
use Rattle.morris_files.specs.declared.stored.StoredFault.{StoredFault}
use Rattle.morris_files.specs.declared.stored.StoredFault.TheVariants as stored
use Rattle.morris_files.specs.declared.old_checksums.ListFault.{ListFault}
use Rattle.morris_files.specs.declared.old_checksums.ListFault.TheVariants as list
use Rattle.morris_jobs.specs.declared.fault.Fault.{Fault}
use Rattle.morris_jobs.specs.declared.fault.Fault.TheVariants as fault
use Rattle.morris_jobs.specs.declared.flaw.Flaw.TheVariants as flaw
use Rattle.morris_jobs.specs.Faults.{PrintsLine, in_file, read_fault, solve_fault}
use Rattle.morris_jobs.specs.Inputs.{IsUnfit}
use Rattle.morris_jobs.specs.Building.{IsUnbuiltAt}
use Rattle.morris_jobs.proofs.OrderLaws.{of_unfit, of_unread}
use Rattle.morris_jobs.specs.PairText.{read_pair_of}
use Rattle.morris_files.specs.Whole.{failures_in}
use Rattle.morris_files.specs.declared.whole.NotWhole.{NotWhole}
use Rattle.morris_files.specs.declared.whole.Step.{Step}
use Rattle.morris_files.specs.declared.whole.Step.TheVariants as step
use Rattle.morris_files.proofs.WholeLaws.{whole_failed}
use Rattle.morris_folder_commands.specs.Causes.{HasCause, IsCaused, MayBeLong}
use Rattle.morris_folder_commands.specs.Entering.{list_fault}
use Rattle.morris_folder_commands.specs.Into.{step_fault}
use Rattle.morris_folder_commands.specs.Entering.{IsEntered, lock_name}
use Rattle.morris_folder_commands.specs.From.{TakesIn, end_of, stored_fault}

-- ---- the list of digests

-- the lock has another name than the list of digests
names_apart : (name : List ℕ) → digests_name_of name ≢ lock_name
names_apart name e =
    let five : length name ≡ 5 = omega (arith, ap length e, length-append name (codes ".sha256")) in
    let ends : codes ".sha256" ≡ drop 5 (codes ".morris.lock") = sym (drop_at name (codes ".sha256") 5 five) ∙ ap (drop 5) e in
    let first : 46 ≡ 105 = ap (λ bytes. get_or bytes 0 0) ends in
    omega (arith, first)

-- so it is as long as it was before the folder was locked
pub long_before : (name : List ℕ) (old new : Option Files) → IsEntered old new → MayBeLong name new → MayBeLong name old
long_before name None new entered long = tt
long_before name (Some old) None entered long = absurd entered
long_before name (Some old) (Some new) entered long =
    let same : new (digests_name_of name) ≡ old (digests_name_of name) = entered (digests_name_of name) (names_apart name) in
    subst (λ (o : Option (List ℕ)). 65536 < length (unwrap_or o [])) same long

-- nobody has a lock that is known to be free
pub nobody : (taken : Option Bool) → Some false ≢ Some false → taken ≢ Some false
nobody taken h = absurd (h refl)

module _ {R W : Type 0} (reading : R → ℕ) (writing : W → ℕ) where
  -- ---- from a step on

  -- before the step no call of the folder had failed
  pub caused_on : (taken theirs : Option Bool) (long more : Type 0) (old mid new : ℕ) → mid ≡ old → (taken ≢ Some false → theirs ≢ Some false) → (long → more)
      → (f : Fault) → IsCaused reading writing taken long mid new f → IsCaused reading writing theirs more old new f
  caused_on taken theirs long more old mid new same others on fault.Folder h = h ∙ ap (λ n. n + 1) same
  caused_on taken theirs long more old mid new same others on fault.NoFolder h = h ∙ ap (λ n. n + 1) same
  caused_on taken theirs long more old mid new same others on fault.Unlocked h = h ∙ ap (λ n. n + 1) same
  caused_on taken theirs long more old mid new same others on fault.Busy h = others h
  caused_on taken theirs long more old mid new same others on (fault.Unopened greater lesser) h = subst (λ n. n < new) same h
  caused_on taken theirs long more old mid new same others on (fault.Unwritten greater lesser) h = subst (λ n. (n < new) ⊎ HasFailed writing) same h
  caused_on taken theirs long more old mid new same others on fault.Digests h = elim h [
    | inl low ↦ inl (subst (λ n. n < new) same low)
    | inr rest ↦ inr (elim rest [
      | inl failed ↦ inl failed
      | inr last ↦ inr (elim last [ inl failed ↦ inl failed | inr is ↦ inr (on is) ])
    ])
  ]
  caused_on taken theirs long more old mid new same others on (fault.InFile greater lesser flaw.Read) h = h
  caused_on taken theirs long more old mid new same others on _ h = tt

  pub cause_on : {T : Type 0} (taken theirs : Option Bool) (long more : Type 0) (old mid new : ℕ) → mid ≡ old → (taken ≢ Some false → theirs ≢ Some false)
      → (long → more) → (result : Result T Fault) → HasCause reading writing taken long mid new result → HasCause reading writing theirs more old new result
  cause_on taken theirs long more old mid new same others on (Ok done) h = h ∙ same
  cause_on taken theirs long more old mid new same others on (Err f) h = caused_on taken theirs long more old mid new same others on f h

  module _ (taken : Option Bool) (long : Type 0) (old new : ℕ) where
    abbrev Caused : Fault → Type 0
    Caused f = IsCaused reading writing taken long old new f

    -- ---- refusals that have nothing to do with the folder

    pub unbuilt_caused : (board : Shape) (c : Counts) (blocks : ℕ) (f : Fault) → IsUnbuiltAt board c blocks f → Caused f
    unbuilt_caused board c blocks fault.Memory h = tt
    unbuilt_caused board c blocks (fault.Missing number) h = tt
    unbuilt_caused board c blocks fault.TooDeep h = tt
    unbuilt_caused board c blocks _ h = absurd h

    pub line_caused : (text : List ℕ) (sent : ℕ) (before after : Option (List ℕ)) (f : Fault) → PrintsLine text sent before after (Err f) → Caused f
    line_caused text sent before after (fault.Write now) h = tt
    line_caused text sent before after _ h = absurd h

    unfit_caused : (board : Shape) (tables : Stored) (t : Table) (f : Fault) → IsUnfit board tables t f → Caused (in_file t.pair f)
    unfit_caused board tables t (fault.Needs greater lesser) h = tt
    unfit_caused board tables t (fault.Differs index) h = tt
    unfit_caused board tables t _ h = absurd h

    -- the end, where no call failed
    pub end_caused : (found : Bool) → new ≡ old → HasCause reading writing taken long old new (end_of found)
    end_caused true none = none
    end_caused false none = tt

    -- a table that isn't taken in
    pub taken_caused : (board : Shape) (tables joined : Stored) (t : Table) (sent : ℕ) (before after : Option (List ℕ)) (f : Fault)
        → TakesIn board tables joined t sent before after (Err f) → Caused f
    taken_caused board tables joined t sent before after f takes = elim takes [
      | inl why ↦
          let e = why.1 in
          let same : why.0 ≡ f = cc in
          subst Caused (sym why.2.2 ∙ same) (unfit_caused board tables t why.2.0 why.2.1)
      | inr both ↦ line_caused _ sent before after f both.1
    ]

    -- a text that names no pair, and numbers of workers and blocks that aren't in range
    pub text_caused : (n : ℕ) (text : List ℕ) (f : Fault) → Err f ≡ read_pair_of n text → Caused f
    text_caused = of_unread Caused tt tt tt

    pub parallelism_caused : (wrong : Option SolveFault) (f : Fault) → option_map solve_fault wrong ≡ Some f → Caused f
    parallelism_caused = of_unfit Caused tt tt tt (λ number. tt) tt

    -- ---- a file of the folder

    -- one that is refused as the file of a table
    pub refused_caused : (c : Counts) (refused : ReadFault) → (refused ≡ read.Read → HasFailed reading) → Caused (in_file c (read_fault refused))
    refused_caused c read.Read why = why refl
    refused_caused c _ why = tt

    -- one that can't be read, after calls of which some may have failed
    kept_caused : (mid : ℕ) → old ≤ mid → (c : Counts) (refused : StoredFault) → IsCaused reading writing taken long mid new (stored_fault c refused)
        → Caused (stored_fault c refused)
    kept_caused mid up c stored.Memory h = tt
    kept_caused mid up c stored.Unopened h =
        let more : mid < new = h in
        let low : old < new = omega (arith, up, more) in
        low
    kept_caused mid up c (stored.Refused read.Read) h = h
    kept_caused mid up c (stored.Refused _) h = tt
    kept_caused mid up c stored.OtherPair h = tt

    pub file_caused : (mid : ℕ) → old ≤ mid → (c : Counts) (refused : StoredFault) (f : Fault) → f ≡ stored_fault c refused
        → IsCaused reading writing taken long mid new f → Caused f
    file_caused mid up c refused f is h = subst Caused (sym is) (kept_caused mid up c refused (subst (IsCaused reading writing taken long mid new) is h))

    -- ---- a file that isn't written

    -- a call of the folder failed, or one of a writer, where memory wasn't wanting
    step_caused : (reported : Fault) → ((old < new) ⊎ HasFailed writing → Caused reported) → (f : NotWhole) → new ≡ old + failures_in f
        → (f.step ≡ step.Write → HasFailed writing) → Caused (step_fault reported f.step)
    step_caused reported is_reported f counted unwritten = by_step f.step refl
      where
        why : (s : Step) → f.step ≡ s → (s ≡ step.Memory → ⊥) → Caused reported
        why s is other = is_reported (whole_failed writing old new f (λ e. other (sym is ∙ e)) counted unwritten)

        by_step : (s : Step) → f.step ≡ s → Caused (step_fault reported s)
        by_step step.Memory is = tt
        by_step s is = why s is (λ e. cc)

    pub digests_caused : (f : NotWhole) → new ≡ old + failures_in f → (f.step ≡ step.Write → HasFailed writing) → Caused (step_fault fault.Digests f.step)
    digests_caused = step_caused fault.Digests (λ why. elim why [ inl low ↦ inl low | inr failed ↦ inr (inr (inl failed)) ])

    pub unwritten_caused : (c : Counts) (f : NotWhole) → new ≡ old + failures_in f → (f.step ≡ step.Write → HasFailed writing)
        → Caused (step_fault (fault.Unwritten c.greater c.lesser) f.step)
    unwritten_caused c = step_caused (fault.Unwritten c.greater c.lesser) (λ why. why)

  -- one that can't be read
  pub unlisted_caused : (taken : Option Bool) (old new : ℕ) (name : List ℕ) (files : Option Files) (refused : ListFault)
      → IsUnlisted name files refused → (refused ≡ list.Unopened → old < new) → (refused ≡ list.Unread → HasFailed reading)
      → IsCaused reading writing taken (MayBeLong name files) old new (list_fault refused)
  unlisted_caused taken old new name files list.Memory why unopened unread = tt
  unlisted_caused taken old new name files list.Unopened why unopened unread = inl (unopened refl)
  unlisted_caused taken old new name files list.Unread why unopened unread = inr (inl (unread refl))
  unlisted_caused taken old new name files list.Long why unopened unread = inr (inr (inr (is_long files why)))
    where
      is_long : (files : Option Files) → IsUnlisted name files list.Long → MayBeLong name files
      is_long None why = tt
      is_long (Some files) why = why
