-- The codes of an open file, in the order of the entries.
use Rattle.std.specs.Prelude.{◌≡◌, ℕ, ◌-◌, ◌*◌, ◌<◌, ◌≤◌, List, map, Option, option_map}
use Rattle.std.specs.Int.{w16, from_be_bytes}
use Rattle.std.specs.List.{range_with_len}
use Rattle.morris_board.specs.Boards.{Shape}
use Rattle.morris_pairs.specs.Entries.{entry_count}
use Rattle.morris_lookup.specs.Lookups.{code_at}
use Rattle.morris_lookup.specs.Opening.{OpenFile}
use Rattle.morris_lookup.specs.Storage.{bytes_at}

-- the codes that bytes state at the first n entries
unfoldable pub stated_codes : ℕ → List ℕ → List ℕ
stated_codes n bytes = map (code_at bytes) (range_with_len 0 n)

-- those that an open file states, where its bytes are known
abbrev pub codes_in_file : Shape → OpenFile → Option (List ℕ)
codes_in_file board file = option_map (stated_codes (entry_count board board.points file.layout file.pair)) file.held

-- a chunk begins with the codes that bytes state from one entry on and below another
abbrev pub IsChunk : List ℕ → ℕ → ℕ → List ℕ → Type 0
IsChunk bytes first end chunk =
    (entry : ℕ) → first ≤ entry → entry < end → from_be_bytes w16 (bytes_at chunk (2 * (entry - first)) 2) ≡ code_at bytes entry
