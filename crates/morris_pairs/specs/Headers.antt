-- A header with its fields by name.
use Rattle.std.specs.Prelude.{ℕ, List, ◌∷◌, ◌++◌}
use Rattle.std.specs.Int.{w64, to_be_bytes}
use Rattle.morris_pairs.specs.declared.header.Header.{Header}

-- the 16 bytes of a header
unfoldable pub header_bytes : Header → List ℕ
header_bytes h = h.magic ++ h.version ∷ h.board ∷ h.greater ∷ h.lesser ∷ to_be_bytes w64 h.entries
