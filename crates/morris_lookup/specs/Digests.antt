-- The digest of a table file.
use Rattle.std.specs.Prelude.{ℕ, ◌-◌, Bool, ◌&&◌, nat_le, List, length, take, drop}
use Rattle.std.specs.Str.{bytes_eq}
use Rattle.sha2.specs.Sha256.{sha256}

-- whether the last 32 bytes are the SHA-256 of all bytes before them
unfoldable pub has_digest : List ℕ → Bool
has_digest bytes = nat_le 32 (length bytes) && bytes_eq (drop (length bytes - 32) bytes) (sha256 (take (length bytes - 32) bytes))
