-- What a block shows whenever its lock is free.
use Rattle.std.specs.Prelude.{◌≡◌, ◌↔◌, ℕ, ◌+◌, ◌<◌, false, ◌==◌}
use Rattle.std.specs.List.{count_by}
use Rattle.morris_wave.specs.Nets.{Net}
use Rattle.morris_wave.specs.Exits.{is_odd, is_won_code}
use Rattle.morris_wave.specs.Values.{HasCode}
use Rattle.morris_wave.specs.Waves.{entry_at, is_decided_at}
use Rattle.morris_wave.specs.Blocks.{BlockState, IsIn, in_applied, entries_of, count_of}

-- the entry that a block has for node i, whatever its wave and its applied sources
abbrev pub entry_of : Net → BlockState → ℕ → ℕ
entry_of g s i = entry_at g s.wave (in_applied s) i

-- A block is right at its wave, with the sources that are applied. That is a law of what entries
-- are, and so of every state; that a block answers just these entries is its own contract.
pub record IsExact (g : Net) (s : BlockState) : Type 0 where
  -- an entry that is there is the node's code: who wins, and in how many plies exactly
  pub code : (i : ℕ) → IsIn s.cut s.number i → 0 < entry_of g s i → HasCode g i (entry_of g s i)
  -- an entry is 0 exactly while the node is open
  pub undecided : (i : ℕ) → IsIn s.cut s.number i → (entry_of g s i ≡ 0) ↔ (is_decided_at g s.wave (in_applied s) i ≡ false)
  -- the entries that are won, lost and open are as many as the block has nodes
  pub counted : count_by is_won_code (entries_of g s) + count_by is_odd (entries_of g s) + count_by (λ c. c == 0) (entries_of g s) ≡ count_of s
