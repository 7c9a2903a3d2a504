-- Why a call on a folder failed, in words.
use Rattle.std.specs.Prelude.{ℕ, List, Option, Some, None, codes}
use Rattle.std.specs.declared.io.ErrorKind.{ErrorKind}
use Rattle.std.specs.declared.io.ErrorKind.TheVariants as kind
use Rattle.morris_files.specs.declared.reason.Reason.{Reason}
use Rattle.morris_files.specs.declared.reason.Reason.TheVariants as reason

-- the reason of a fault of the system of this kind
abbrev pub reason_of : ErrorKind → Reason
reason_of kind.NotFound = reason.NotFound
reason_of kind.PermissionDenied = reason.NotPermitted
reason_of kind.AlreadyExists = reason.Exists
reason_of kind.NotADirectory = reason.NotAFolder
reason_of kind.IsADirectory = reason.IsAFolder
reason_of kind.DirectoryNotEmpty = reason.NotEmpty
reason_of kind.ReadOnlyFilesystem = reason.ReadOnly
reason_of kind.FilesystemLoop = reason.Loop
reason_of kind.StorageFull = reason.Full
reason_of kind.QuotaExceeded = reason.Quota
reason_of kind.FileTooLarge = reason.TooLarge
reason_of kind.InvalidFilename = reason.BadName
reason_of kind.ResourceBusy = reason.Busy
reason_of kind.ExecutableFileBusy = reason.Busy
reason_of kind.Unsupported = reason.Unsupported
reason_of kind.OutOfMemory = reason.Memory
reason_of _ = reason.Other

-- the words, which are the system's own where it has some
abbrev pub reason_text : Reason → List ℕ
reason_text reason.NotFound = codes "No such file or directory"
reason_text reason.NotPermitted = codes "Permission denied"
reason_text reason.Exists = codes "File exists"
reason_text reason.NotAFolder = codes "Not a directory"
reason_text reason.IsAFolder = codes "Is a directory"
reason_text reason.NotEmpty = codes "Directory not empty"
reason_text reason.ReadOnly = codes "Read-only file system"
reason_text reason.Loop = codes "Too many levels of symbolic links"
reason_text reason.Full = codes "No space left on device"
reason_text reason.Quota = codes "Disk quota exceeded"
reason_text reason.TooLarge = codes "File too large"
reason_text reason.BadName = codes "File name too long"
reason_text reason.Busy = codes "Device or resource busy"
reason_text reason.Device = codes "Input/output error"
reason_text reason.Unsupported = codes "Operation not supported"
reason_text reason.Irregular = codes "not a regular file"
reason_text reason.Nameless = codes "its name is empty"
reason_text reason.Memory = codes "Cannot allocate memory"
reason_text reason.Other = codes "Unknown error"

-- the first of two reasons, where there was one before
abbrev pub first_of_reasons : Option Reason → Reason → Option Reason
first_of_reasons None now = Some now
first_of_reasons (Some before) now = Some before
