-- What `build --into` does to a folder before its first pair: it locks the folder, and leaves in
-- the list of digests the lines of those files alone that it doesn't replace.
use Rattle.std.specs.Prelude.{◌≡◌, ℕ, List, [], ◌∷◌, codes, Option, Result, Ok, Err, None}
use Rattle.morris_index.specs.Pairs.{Counts}
use Rattle.morris_files.specs.Files.{AreSameBut, AreSameButTwo, Files, Goes}
use Rattle.morris_files.specs.Files as folder
use Rattle.morris_files.specs.Whole.{AreWhole, part_of}
use Rattle.morris_files.specs.Lists.{AreRetainedLines}
use Rattle.morris_files.specs.declared.old_checksums.ListFault.{ListFault}
use Rattle.morris_files.specs.declared.old_checksums.ListFault.TheVariants as list
use Rattle.morris_files.specs.Names.{digests_name_of}
use Rattle.morris_jobs.specs.declared.fault.Fault.{Fault}
use Rattle.morris_jobs.specs.declared.fault.Fault.TheVariants as fault

-- ---- the lock

-- the name of the file by which a folder is locked
abbrev pub lock_name : List ℕ
lock_name = codes ".morris.lock"

-- the folder is locked: what stands under the name of the lock is open, and each file is as it was
abbrev pub IsEntered : Option Files → Option Files → Type 0
IsEntered old new = Goes old new (AreSameBut lock_name)

-- Why a folder isn't entered, and what that leaves: it can't be made, or isn't there, with nothing
-- changed; it can't be locked, or another has the lock, with what stands under its name open.
abbrev pub IsShut : Option Files → Option Files → Fault → Type 0
IsShut old new fault.Folder = folder.AreUnchanged old new
IsShut old new fault.NoFolder = folder.AreUnchanged old new
IsShut old new fault.Unlocked = IsEntered old new
IsShut old new fault.Busy = IsEntered old new
IsShut old new _ = ⊥

-- ---- the list of digests

-- The list has these lines and is whole, or isn't there where it would have none: `sha256sum` takes
-- no empty list. Each other file is as it was.
abbrev pub IsLeft : List ℕ → List ℕ → Files → Files → Type 0
IsLeft name [] old new = (new (digests_name_of name) ≡ None) × AreSameBut (digests_name_of name) old new
IsLeft name (byte ∷ bytes) old new = AreWhole (digests_name_of name) (byte ∷ bytes) old new

-- the lines of files that aren't replaced were read, and the list has these alone
pub record IsBegun (name : List ℕ) (replaced : Counts) (unchanged : List ℕ) (old new : Option Files) : Type 0 where
  pub lines : AreRetainedLines name replaced old unchanged
  pub left : Goes old new (IsLeft name unchanged)

-- the fault of lines that weren't read
abbrev pub list_fault : ListFault → Fault
list_fault list.Memory = fault.Memory
list_fault list.Unopened = fault.Digests
list_fault list.Unread = fault.Digests
list_fault list.Long = fault.Digests

-- they weren't, or the list isn't written: each file but the list and its part is as it was
abbrev pub IsUnbegun : List ℕ → Option Files → Option Files → Fault → Type 0
IsUnbegun name old new fault.Memory = Goes old new (AreSameButTwo (digests_name_of name) (part_of (digests_name_of name)))
IsUnbegun name old new fault.Digests = Goes old new (AreSameButTwo (digests_name_of name) (part_of (digests_name_of name)))
IsUnbegun name old new _ = ⊥

-- what the beginning of the list answers
abbrev pub BeginsList : List ℕ → Counts → Option Files → Option Files → Result (List ℕ) Fault → Type 0
BeginsList name replaced old new (Ok unchanged) = IsBegun name replaced unchanged old new
BeginsList name replaced old new (Err refused) = IsUnbegun name old new refused
