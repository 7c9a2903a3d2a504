-- What a folder in memory has.
use Rattle.std.specs.Prelude.{ℕ, Bool}
use Rattle.std.specs.Option.{option_map}
use Rattle.std.specs.BTreeMap.{btree_map_len, get_by_text}
use Rattle.morris_game_tests.specs.declared.memory.MemoryFolder.{MemoryFolder}
use Rattle.morris_game_tests.specs.declared.memory.Lock.{Lock}
use Rattle.morris_files.specs.Files.{Files}

-- its files
abbrev pub files_of : MemoryFolder → Files
files_of folder name = option_map (λ bytes. bytes.items) (get_by_text folder.files name)

-- how many there are
abbrev pub count_of : MemoryFolder → ℕ
count_of folder = btree_map_len folder.files

-- how many of its calls have failed
abbrev pub failures_of : MemoryFolder → ℕ
failures_of folder = folder.failed

-- who holds its lock
abbrev pub lock_of : MemoryFolder → Lock
lock_of folder = folder.lock

-- whether it holds the lock itself
abbrev pub locked_of : MemoryFolder → Bool
locked_of folder = folder.lock.held

-- whether another holds it
abbrev pub taken_of : MemoryFolder → Bool
taken_of folder = folder.lock.taken
