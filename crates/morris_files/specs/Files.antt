-- Files of a folder, and what the calls on it do to them.
use Rattle.std.specs.Prelude.{◌≡◌, ◌≢◌, ℕ, ◌<◌, Bool, true, false, not, ◌||◌, List, [], ⊤, Option, Some, None, Result, Ok, Err, ◌⊎◌, MatchOption, MatchResult}

-- the bytes of the file of each name, and none where there is no file of that name
abbrev pub Files : Type 0
Files = List ℕ → Option (List ℕ)

-- what a call did to the files, where these are known
abbrev pub Goes : Option Files → Option Files → (Files → Files → Type 0) → Type 0
Goes None new did = ⊤
Goes (Some old) None did = ⊥
Goes (Some old) (Some new) did = did old new

-- each file stands as it was
abbrev pub AreSame : Files → Files → Type 0
AreSame old new = (name : List ℕ) → new name ≡ old name

-- each file but the one of this name stands as it was
abbrev pub AreSameBut : List ℕ → Files → Files → Type 0
AreSameBut name old new = (other : List ℕ) → other ≢ name → new other ≡ old other

-- each file but those of these two names stands as it was
abbrev pub AreSameButTwo : List ℕ → List ℕ → Files → Files → Type 0
AreSameButTwo one two old new = (other : List ℕ) → other ≢ one → other ≢ two → new other ≡ old other

-- nothing changed
abbrev pub AreUnchanged : Option Files → Option Files → Type 0
AreUnchanged old new = Goes old new AreSame

-- What stands under the name when the call ends is open, and each other file is as it was.
abbrev pub IsUnsynced : Option Files → Option Files → List ℕ → Type 0
IsUnsynced old new name = Goes old new (AreSameBut name)

-- what an opened reader gives first: the bytes of the file, which is there
abbrev pub IsReaderOf : Option Files → List ℕ → Option (List ℕ) → Type 0
IsReaderOf None name remaining = ⊤
IsReaderOf (Some files) name remaining = (bytes : List ℕ) × (files name ≡ Some bytes) × (remaining ≡ Some bytes)

-- there is no file of this name
abbrev pub HasNone : Option Files → List ℕ → Type 0
HasNone None name = ⊤
HasNone (Some files) name = files name ≡ None

-- what `open` answers
abbrev pub IsOpened : {R E : Type 0} → (R → Option (List ℕ)) → (R → ℕ) → Option Files → List ℕ → Result (Option R) E → Type 0
IsOpened remaining failures files name r = MatchResult r
    (λ answer. MatchOption answer (HasNone files name) (λ reader. IsReaderOf files name (remaining reader) × (failures reader ≡ 0)))
    (λ _. ⊤)

-- what `create` answers: a writer of no bytes, of which no call has failed, where there was no file
-- of this name
abbrev pub IsCreated : {W E : Type 0} → (W → Option (List ℕ)) → (W → ℕ) → Option Files → Option Files → List ℕ → Result W E → Type 0
IsCreated contents failures old new name r = MatchResult r
    (λ writer. Goes old new (λ before after. (before name ≡ None) × AreSameBut name before after × (contents writer ≡ Some [])) × (failures writer ≡ 0))
    (λ _. AreUnchanged old new)

-- There is a reader, or a writer, of which a call has failed. A folder makes each with none that
-- has, so whoever knows a folder by its contract alone has such a one only once a call of it
-- failed.
abbrev pub HasFailed : {S : Type 0} → (S → ℕ) → Type 0
HasFailed {S = S} failures = (stream : S) × (0 < failures stream)

-- the file of this name has these bytes, where they are known, and each other file is as it was
abbrev pub BecomesFile : Option Files → Option Files → List ℕ → Option (List ℕ) → Type 0
BecomesFile old new name contents = Goes old new (λ before after. AreSameBut name before after × ((bytes : List ℕ) → contents ≡ Some bytes → after name ≡ Some bytes))

-- what stood under one name stands under the other, and nothing under the first
pub record AreRenamed (from to : List ℕ) (old new : Files) : Type 0 where
  pub given : new to ≡ old from
  pub gone : from ≢ to → new from ≡ None
  pub others : AreSameButTwo from to old new

-- what stands under the second name is what stood there, or what stood under the first
pub record AreUnrenamed (from to : List ℕ) (old new : Files) : Type 0 where
  pub either : (new to ≡ old to) ⊎ (new to ≡ old from)
  pub others : AreSameButTwo from to old new

abbrev pub IsRenamed : Option Files → Option Files → List ℕ → List ℕ → Type 0
IsRenamed old new from to = Goes old new (AreRenamed from to)

abbrev pub IsUnrenamed : Option Files → Option Files → List ℕ → List ℕ → Type 0
IsUnrenamed old new from to = Goes old new (AreUnrenamed from to)

-- nothing stands under the name, and each other file is as it was
abbrev pub IsRemoved : Option Files → Option Files → List ℕ → Type 0
IsRemoved old new name = Goes old new (λ before after. AreSameBut name before after × (after name ≡ None))

-- what stands under the name is what stood there, or nothing
pub record AreUnremoved (name : List ℕ) (old new : Files) : Type 0 where
  pub either : (new name ≡ old name) ⊎ (new name ≡ None)
  pub others : AreSameBut name old new

abbrev pub IsUnremoved : Option Files → Option Files → List ℕ → Type 0
IsUnremoved old new name = Goes old new (AreUnremoved name)

-- whether the lock is held once `lock` answered this: it is at `Ok(true)`, and otherwise as before
abbrev pub IsLocked : {E : Type 0} → Bool → Bool → Result Bool E → Type 0
IsLocked old new (Ok true) = new ≡ true
IsLocked old new (Ok false) = new ≡ old
IsLocked old new (Err e) = new ≡ old

-- What `lock` answers where it is known whether another has the lock: it is had where it was held
-- before, or where no other has it.
abbrev pub FitsTaken : {E : Type 0} → Option Bool → Bool → Result Bool E → Type 0
FitsTaken None held r = ⊤
FitsTaken (Some taken) held r = MatchResult r (λ answer. answer ≡ (held || not taken)) (λ _. ⊤)
