-- The statuses that calls answer: 0 where a call did what was asked, and a number of its own for
-- each fault.
use Rattle.std.specs.Prelude.{ℕ}
use Rattle.morris_pairs.specs.declared.file_faults.ReadFault.{ReadFault}
use Rattle.morris_pairs.specs.declared.file_faults.ReadFault.TheVariants as read
use Rattle.morris_lookup.specs.declared.fault.ViewFault.{ViewFault}
use Rattle.morris_lookup.specs.declared.fault.ViewFault.TheVariants as view
use Rattle.morris_lookup.specs.declared.fault.MaskFault.{MaskFault}
use Rattle.morris_lookup.specs.declared.fault.MaskFault.TheVariants as mask

-- 1 is the status of a number that no board has

-- masks that aren't a position
abbrev pub mask_status : MaskFault → ℕ
mask_status mask.OffBoard = 2
mask_status mask.Overlap = 3
mask_status mask.Stones = 4

-- a file that isn't one; no call of this library answers the last two
abbrev pub read_status : ReadFault → ℕ
read_status read.Short = 8
read_status read.Magic = 9
read_status read.Version = 10
read_status read.BoardId = 11
read_status read.Counts = 12
read_status read.Crowded = 13
read_status read.Count = 14
read_status read.Trailing = 15
read_status read.Digest = 16
read_status read.Read = 17
read_status read.Memory = 18

-- no value
abbrev pub view_status : ViewFault → ℕ
view_status view.NoFile = 5
view_status view.Words = 6
view_status view.Room = 7
view_status (view.File refusal) = read_status refusal
