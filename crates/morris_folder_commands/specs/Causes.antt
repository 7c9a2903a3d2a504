-- Why a command refuses for its folder: what then failed.
use Rattle.std.specs.Prelude.{◌≡◌, ◌≢◌, ◌⊎◌, ⊤, ℕ, ◌+◌, ◌<◌, Bool, false, List, length, Option, Some, None, Result, Ok, Err}
use Rattle.morris_files.specs.Files.{Files, HasFailed}
use Rattle.morris_files.specs.Lists.{list_in}
use Rattle.morris_jobs.specs.declared.fault.Fault.{Fault}
use Rattle.morris_jobs.specs.declared.fault.Fault.TheVariants as fault
use Rattle.morris_jobs.specs.declared.flaw.Flaw.TheVariants as flaw

-- the list of digests that a folder has may be longer than is read, where its files are known
abbrev pub MayBeLong : List ℕ → Option Files → Type 0
MayBeLong name None = ⊤
MayBeLong name (Some files) = 65536 < length (list_in files name)

-- The cause of a refusal. So many calls of the folder have failed before the command and after it:
-- one more where the folder can't be made, found or locked; more where a file can't be opened. A
-- file isn't written for a call of the folder that failed, or one of a writer; nor is the list of
-- digests left, or it isn't read for a call of a reader that failed, or since it is too long. A
-- file of which a read failed has a reader of which one did. Where another is at work, it isn't
-- known that no other has the lock. `reading` and `writing` count what failed of a reader and of a
-- writer.
abbrev pub IsCaused : {R W : Type 0} → (R → ℕ) → (W → ℕ) → Option Bool → Type 0 → ℕ → ℕ → Fault → Type 0
IsCaused reading writing taken long old new fault.Folder = new ≡ old + 1
IsCaused reading writing taken long old new fault.NoFolder = new ≡ old + 1
IsCaused reading writing taken long old new fault.Unlocked = new ≡ old + 1
IsCaused reading writing taken long old new fault.Busy = taken ≢ Some false
IsCaused reading writing taken long old new (fault.Unopened greater lesser) = old < new
IsCaused reading writing taken long old new (fault.Unwritten greater lesser) = (old < new) ⊎ HasFailed writing
IsCaused reading writing taken long old new fault.Digests = (old < new) ⊎ (HasFailed reading ⊎ (HasFailed writing ⊎ long))
IsCaused reading writing taken long old new (fault.InFile greater lesser flaw.Read) = HasFailed reading
IsCaused reading writing taken long old new _ = ⊤

-- no call of the folder failed where the command is done, and a refusal has its cause
abbrev pub HasCause : {R W T : Type 0} → (R → ℕ) → (W → ℕ) → Option Bool → Type 0 → ℕ → ℕ → Result T Fault → Type 0
HasCause reading writing taken long old new (Ok done) = new ≡ old
HasCause reading writing taken long old new (Err refused) = IsCaused reading writing taken long old new refused
