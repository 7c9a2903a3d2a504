-- What is known of a graph at a wave, of which a part has been done.
use Rattle.std.specs.Prelude.{ℕ, zero, suc, Bool, false, not, ◌&&◌, ◌||◌, ◌==◌, if◌then◌else◌}
use Rattle.std.specs.List.{count_by}
use Rattle.morris_wave.specs.Nets.{Net}
use Rattle.morris_wave.specs.declared.graph.Exits.{Exits}
use Rattle.morris_wave.specs.Exits.{exits_lost, exits_won}
use Rattle.morris_wave.specs.Values.{is_lost_before, is_won_before, is_decided, some_lost, all_won, code_within}

-- A node is known at wave n when its depth is at most n - 2, or is n - 1 and the test holds of it:
-- its block is applied, or the piece of it that the node is in. At wave 0 nothing is known.
unfoldable pub known_lost : Net → ℕ → (ℕ → Bool) → ℕ → Bool
known_lost g zero applied j = false
known_lost g (suc n) applied j = is_lost_before g n j || (applied j && is_lost_before g (suc n) j)

unfoldable pub known_won : Net → ℕ → (ℕ → Bool) → ℕ → Bool
known_won g zero applied j = false
known_won g (suc n) applied j = is_won_before g n j || (applied j && is_won_before g (suc n) j)

-- some exit is lost within n - 1, or some quiet result is known and lost
abbrev pub is_won_at : Net → ℕ → (ℕ → Bool) → ℕ → Bool
is_won_at g n applied i = some_lost g (known_lost g n applied) n i

-- every exit is won within n - 1 and every quiet result is known and won
abbrev pub is_lost_at : Net → ℕ → (ℕ → Bool) → ℕ → Bool
is_lost_at g n applied i = all_won g (known_won g n applied) n i

abbrev pub is_decided_at : Net → ℕ → (ℕ → Bool) → ℕ → Bool
is_decided_at g n applied i = is_lost_at g n applied i || is_won_at g n applied i

-- the entry of a node: its code if it is decided, 0 while it is open
abbrev pub entry_at : Net → ℕ → (ℕ → Bool) → ℕ → ℕ
entry_at g n applied i = if is_decided_at g n applied i then code_within g (suc n) i else 0

-- how many places among the quiet results have a node that isn't both known and won
abbrev pub open_at : Net → ℕ → (ℕ → Bool) → ℕ → ℕ
open_at g n applied i = count_by (λ j. not (known_won g n applied j)) (g.quiet i)

-- the nodes of depth n - 1, that is of code n; none at wave 0
unfoldable pub is_fresh : Net → ℕ → ℕ → Bool
is_fresh g zero j = false
is_fresh g (suc n) j = not (is_decided g n j) && is_decided g (suc n) j

-- With this counter of quiet results that aren't known and won, the exits that are due by now
-- decide a node: one of them is lost, or all of them are won and no other result is left.
abbrev pub settles : ℕ → ℕ → Exits → Bool
settles n counter e = exits_lost n e || ((counter == 0) && exits_won n e)

-- an entry that is still open and passes the test gets the code; a code that is there stays
abbrev pub mark_code : ℕ → Bool → ℕ → ℕ
mark_code old test code = if (old == 0) && test then code else old
