-- Won, lost and drawn over a graph with exits, looking forward only.
use Rattle.std.specs.Prelude.{◌≡◌, ℕ, zero, suc, ◌+◌, ◌-◌, ◌<◌, ◌≤◌, ◌%◌, Bool, true, false, ◌&&◌, ◌||◌, ◌⊎◌, ◌↔◌, [], Some, nat_le, if◌then◌else◌, IsTrue}
use Rattle.std.specs.List.{All, Any, list_all, list_any}
use Rattle.morris_wave.specs.Nets.{Net}
use Rattle.morris_wave.specs.Exits.{is_odd, is_won_code, exits_of}

-- An exit of an odd code c is lost in c - 1 plies, one of an even code above 0 is won in c - 1
-- plies. Here: in fewer than n plies.
abbrev pub is_lost_exit : ℕ → ℕ → Bool
is_lost_exit n c = is_odd c && nat_le c n

abbrev pub is_won_exit : ℕ → ℕ → Bool
is_won_exit n c = is_won_code c && nat_le c n

-- some result is lost: a quiet one by the test, an exit in fewer than n plies
abbrev pub some_lost : Net → (ℕ → Bool) → ℕ → ℕ → Bool
some_lost g lost n i = list_any lost (g.quiet i) || list_any (is_lost_exit n) (g.exits i)

-- every result is won: the quiet ones by the test, the exits in fewer than n plies
abbrev pub all_won : Net → (ℕ → Bool) → ℕ → ℕ → Bool
all_won g won n i = list_all won (g.quiet i) && list_all (is_won_exit n) (g.exits i)

-- A node is lost, or won, in fewer than n plies; so within n - 1 plies, and for n = 0 never. A
-- player whose every result is won for the opponent has lost, also where there is no result at all.
-- A player with a result that is lost for the opponent has won.
unfoldable mutual
  pub is_lost_before : Net → ℕ → ℕ → Bool
  is_lost_before g zero i = false
  is_lost_before g (suc n) i = all_won g (is_won_before g n) n i

  pub is_won_before : Net → ℕ → ℕ → Bool
  is_won_before g zero i = false
  is_won_before g (suc n) i = some_lost g (is_lost_before g n) n i

-- a win or a loss in fewer than n plies
abbrev pub is_decided : Net → ℕ → ℕ → Bool
is_decided g n i = is_lost_before g n i || is_won_before g n i

-- the depth is the least number of plies within which the node is won or lost
pub record HasDepth (g : Net) (i depth : ℕ) : Type 0 where
  pub reached : is_decided g (suc depth) i ≡ true
  pub not_before : is_decided g depth i ≡ false

-- The code is 0 for a draw: neither side can force a win in any number of plies. Otherwise it is
-- one more than the depth.
abbrev pub HasCode : Net → ℕ → ℕ → Type 0
HasCode g i zero = (n : ℕ) → is_decided g n i ≡ false
HasCode g i (suc depth) = HasDepth g i depth

-- the code where it is at most n, otherwise 0
unfoldable pub code_within : Net → ℕ → ℕ → ℕ
code_within g zero i = 0
code_within g (suc n) i = if is_decided g n i then code_within g n i else (if is_decided g (suc n) i then suc n else 0)

-- A graph is too deep where codes of 16 bits can't state its values: a node's own depth is 65,534
-- or more, or 65,534 is its least depth of a lost exit or its greatest depth of a won exit.
abbrev pub IsTooDeep : Net → Type 0
IsTooDeep g = (i : ℕ) × (i < g.size) × (((depth : ℕ) × (65534 ≤ depth) × HasDepth g i depth)
    ⊎ (((exits_of (g.exits i)).least_lost ≡ Some 65534) ⊎ ((exits_of (g.exits i)).greatest_won ≡ Some 65534)))

-- The same counted in plies, as the rules of the game do.
-- Within n plies is in fewer than n + 1.
abbrev pub LostWithin : Net → ℕ → ℕ → Type 0
LostWithin g n i = IsTrue (is_lost_before g (n + 1) i)

abbrev pub WonWithin : Net → ℕ → ℕ → Type 0
WonWithin g n i = IsTrue (is_won_before g (n + 1) i)

-- an exit of an odd code c is lost within n where c - 1 is at most n
abbrev pub IsExitLost : ℕ → ℕ → Type 0
IsExitLost n c = (c % 2 ≡ 1) × (c - 1 ≤ n)

-- an exit of an even code c above 0 is won within n where c - 1 is at most n
abbrev pub IsExitWon : ℕ → ℕ → Type 0
IsExitWon n c = (c % 2 ≡ 0) × (0 < c) × (c - 1 ≤ n)

-- neither a quiet result nor an exit
abbrev pub HasNoResult : Net → ℕ → Type 0
HasNoResult g i = (g.quiet i ≡ []) × (g.exits i ≡ [])

-- every result is won within n plies, the exits included
abbrev pub EveryResultWon : Net → ℕ → ℕ → Type 0
EveryResultWon g n i = All (WonWithin g n) (g.quiet i) × All (IsExitWon n) (g.exits i)

-- some result is lost within n plies, be it an exit
abbrev pub SomeResultLost : Net → ℕ → ℕ → Type 0
SomeResultLost g n i = Any (LostWithin g n) (g.quiet i) ⊎ Any (IsExitLost n) (g.exits i)

-- A node is lost within n plies exactly where it has no result, or n is above 0 and every result is
-- won within n - 1. It is won within n exactly where n is above 0 and some result is lost within n
-- - 1.
pub record PlyRules (g : Net) : Type 0 where
  pub lost : (n i : ℕ) → LostWithin g n i ↔ (HasNoResult g i ⊎ ((0 < n) × EveryResultWon g (n - 1) i))
  pub won : (n i : ℕ) → WonWithin g n i ↔ ((0 < n) × SomeResultLost g (n - 1) i)

-- What a depth says of the outcome: a node of even depth is lost within it and one of odd depth
-- won, and it is neither within fewer plies. A node of code 0 is neither within any number of
-- plies, and none is both.
pub record CodeRules (g : Net) : Type 0 where
  pub lost : (i depth : ℕ) → HasDepth g i depth → is_odd depth ≡ false → LostWithin g depth i
  pub won : (i depth : ℕ) → HasDepth g i depth → is_odd depth ≡ true → WonWithin g depth i
  pub least : (i depth n : ℕ) → HasDepth g i depth → n < depth → (LostWithin g n i ⊎ WonWithin g n i) → ⊥
  pub draw : (i n : ℕ) → HasCode g i 0 → (LostWithin g n i ⊎ WonWithin g n i) → ⊥
  pub apart : (i n : ℕ) → LostWithin g n i → WonWithin g n i → ⊥
