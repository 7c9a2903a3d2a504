-- Files that are written whole or not at all.
use Rattle.std.specs.Prelude.{◌≡◌, ℕ, ◌+◌, List, [], ◌++◌, ⊤, Bool, true, false, Option, Some, None, ◌⊎◌, Result, MatchResult, codes, if◌then◌else◌}
use Rattle.morris_files.specs.declared.whole.Step.{Step}
use Rattle.morris_files.specs.declared.whole.Step.TheVariants.{Memory, Create, Write, Sync, Rename, Settle}
use Rattle.morris_files.specs.declared.whole.NotWhole.{NotWhole}
use Rattle.morris_files.specs.Files.{Files, Goes, AreSame, AreSameBut, AreSameButTwo, IsUnremoved}

-- the name under which a file is written before it has its own
abbrev pub part_of : List ℕ → List ℕ
part_of name = name ++ codes ".part"

-- The file of this name has these bytes, there is no part of it, and each other file is as it was.
pub record AreWhole (name bytes : List ℕ) (old new : Files) : Type 0 where
  pub whole : new name ≡ Some bytes
  pub no_part : new (part_of name) ≡ None
  pub others : AreSameButTwo name (part_of name) old new

-- whether a refusal at this step may have left a part of the file that has to be removed
abbrev pub may_leave : Step → Bool
may_leave Memory = false
may_leave Create = false
may_leave Write = true
may_leave Sync = true
may_leave Rename = true
may_leave Settle = false

-- The file of this name is as it was, or whole where its part was to be renamed and may have been,
-- and whole where the part was renamed.
abbrev pub IsAsItWas : Step → List ℕ → List ℕ → Files → Files → Type 0
IsAsItWas Rename name bytes old new = (new name ≡ old name) ⊎ (new name ≡ Some bytes)
IsAsItWas Settle name bytes old new = new name ≡ Some bytes
IsAsItWas _ name bytes old new = new name ≡ old name

-- What stands under the name of a part that can't be made: what stood there before, or nothing.
abbrev pub MayBeGone : List ℕ → Files → Files → Type 0
MayBeGone part old new = (new part ≡ old part) ⊎ (new part ≡ None)

-- What a refusal leaves: the file as it was, each other file as it was, and no part, unless the
-- fault says that it was left. Nothing at all is changed before the part was to be made; where it
-- can't be made, what stood under its name may be gone, and nothing else is changed; and where only
-- the names may not last, all is as it is once the file was written.
pub record AreNotWhole (name bytes : List ℕ) (fault : NotWhole) (old new : Files) : Type 0 where
  pub as_it_was : IsAsItWas fault.step name bytes old new
  pub no_part : may_leave fault.step ≡ true → fault.left ≡ false → new (part_of name) ≡ None
  pub unchanged : fault.step ≡ Memory → AreSame old new
  pub unmade : fault.step ≡ Create → MayBeGone (part_of name) old new
  pub settled : fault.step ≡ Settle → AreWhole name bytes old new
  pub others : AreSameButTwo name (part_of name) old new

-- how many calls of the folder failed by a refusal: one at each step that is a call of it, and one
-- where a part was left
abbrev pub failures_at : Step → ℕ
failures_at Memory = 0
failures_at Create = 1
failures_at Write = 0
failures_at Sync = 1
failures_at Rename = 1
failures_at Settle = 1

abbrev pub failures_in : NotWhole → ℕ
failures_in fault = failures_at fault.step + (if fault.left then 1 else 0)

-- what the writing of a whole file answers
abbrev pub AnswersWhole : {T : Type 0} → List ℕ → List ℕ → Option Files → Option Files → Result T NotWhole → Type 0
AnswersWhole name bytes old new r = MatchResult r (λ _. Goes old new (AreWhole name bytes)) (λ fault. Goes old new (AreNotWhole name bytes fault))

-- The file of this name has these bytes, and each other file is as it was.
pub record ArePart (part bytes : List ℕ) (old new : Files) : Type 0 where
  pub whole : new part ≡ Some bytes
  pub others : AreSameBut part old new

-- What the making of a part answers: a writer of no bytes, of which no call has failed, and where
-- it fails what stood under the name may be gone. Each other file is as it was.
abbrev pub IsMade : {W E : Type 0} → (W → Option (List ℕ)) → (W → ℕ) → Option Files → Option Files → List ℕ → Result W E → Type 0
IsMade contents failures old new part r = MatchResult r
    (λ writer. Goes old new (λ before after. AreSameBut part before after × (contents writer ≡ Some [])) × (failures writer ≡ 0))
    (λ _. IsUnremoved old new part)

-- A part of this name was begun: its writer has written nothing, and each other file is as it was.
abbrev pub IsBegunPart : {W : Type 0} → (W → Option (List ℕ)) → Option Files → Option Files → List ℕ → W → Type 0
IsBegunPart contents old new part writer = Goes old new (λ before after. AreSameBut part before after × (contents writer ≡ Some []))

-- the part of the file of this name was
abbrev pub IsBegun : {W : Type 0} → (W → Option (List ℕ)) → Option Files → Option Files → List ℕ → W → Type 0
IsBegun contents old new name writer = IsBegunPart contents old new (part_of name) writer

-- What a refusal at a step of the writing of a part leaves: where the part can't be made, what
-- stood under its name or nothing, and each other file as it was.
pub record AreNotPart (part : List ℕ) (step : Step) (old new : Files) : Type 0 where
  pub unmade : step ≡ Create → MayBeGone part old new
  pub others : AreSameBut part old new

-- the steps of the writing of a part
abbrev pub IsOfPart : Step → Type 0
IsOfPart Memory = ⊥
IsOfPart Create = ⊤
IsOfPart Write = ⊤
IsOfPart Sync = ⊤
IsOfPart Rename = ⊥
IsOfPart Settle = ⊥

-- what the writing of a part answers
abbrev pub AnswersPart : {T : Type 0} → List ℕ → List ℕ → Option Files → Option Files → Result T Step → Type 0
AnswersPart part bytes old new r = MatchResult r (λ _. Goes old new (ArePart part bytes)) (λ step. Goes old new (AreNotPart part step) × IsOfPart step)

-- What is done after a refusal: nothing where no part was made; else each other file is as it was,
-- and the part is gone unless the fault says that it was left.
pub record AreGivenUp (part : List ℕ) (fault : NotWhole) (old new : Files) : Type 0 where
  pub unchanged : may_leave fault.step ≡ false → AreSame old new
  pub gone : may_leave fault.step ≡ true → fault.left ≡ false → new part ≡ None
  pub others : AreSameBut part old new
