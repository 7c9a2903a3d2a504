-- The first half of the headline: whenever a block's lock is free, each decided entry is the game's
-- value and exact depth at its position and the tallies count the entries.
--
-- A lock holds its block in the state that the block's wave and its applied sources say. Here
-- stands what such a state says of the game, at any wave and whatever is applied.
use Rattle.std.specs.Prelude.{◌≡◌, ℕ, ◌+◌, ◌<◌, Bool, true, ◌==◌, List, length, map}
use Rattle.std.specs.List.{count_by, flat_map, range_with_len}
use Rattle.morris_board.specs.Boards.{Shape}
use Rattle.morris_board.specs.Positions.{Sides, IsPosition}
use Rattle.morris_index.specs.Pairs.{Counts, is_of}
use Rattle.morris_wave.specs.Blocks.{BlockState, IsBlock, IsIn, in_applied, first_node, count_of, entries_of}
use Rattle.morris_wave.specs.Exits.{is_odd, is_won_code}
use Rattle.morris_wave.specs.Waves.{entry_at}
use Rattle.morris_pairs.specs.declared.layout.Layout.{Layout}
use Rattle.morris_pairs.specs.Orders.{Order, order_of, index_in}
use Rattle.morris_pairs.specs.Codes.{IsCodeOf}
use Rattle.morris_pairs.specs.PairNets.{at_index, level_in, net_at}

-- A block of the graph of a pair: the block says itself that its level is that of the graph, and
-- what holds of every block holds of it. The second is what a lock says of the block that it
-- guards.
pub record IsBlockIn (board : Shape) (o : Order) (c : Counts) (s : BlockState) : Type 0 where
  pub level : s.level ≡ level_in o c
  pub block : IsBlock (net_at board s.level) s

-- the same of the graph whose nodes are the entries of a table
abbrev pub IsBlockOf : Shape → Layout → Counts → BlockState → Type 0
IsBlockOf board l c s = IsBlockIn board (order_of l) c s

-- the positions whose own entries are those of the block, in the order of these
abbrev pub positions_in : Shape → Order → Counts → BlockState → List Sides
positions_in board o c s = flat_map (at_index board o c) (range_with_len (first_node s) (count_of s))

-- the entry at a position: 0 while it is open
abbrev pub entry_of : Shape → Order → Counts → BlockState → Sides → ℕ
entry_of board o c s p = entry_at (net_at board s.level) s.wave (in_applied s) (index_in board board.points o c p)

-- how many of the block's entries pass a test: the tallies count those of wins, those of losses and
-- the open ones
abbrev pub tally_of : Shape → BlockState → (ℕ → Bool) → ℕ
tally_of board s p = count_by p (entries_of (net_at board s.level) s)

-- Each decided entry, which isn't 0, is the game's value and exact depth at its position. The
-- entries are those of the block's positions, one of each, and the three tallies together count
-- each of them once.
pub record StatesIn (board : Shape) (o : Order) (c : Counts) (s : BlockState) : Type 0 where
  pub exact : (p : Sides) → IsPosition board p → is_of c p ≡ true → IsIn s.cut s.number (index_in board board.points o c p)
      → 0 < entry_of board o c s p → IsCodeOf board p (entry_of board o c s p)
  pub listed : entries_of (net_at board s.level) s ≡ map (entry_of board o c s) (positions_in board o c s)
  pub tallied : tally_of board s is_won_code + tally_of board s is_odd + tally_of board s (λ entry. entry == 0) ≡ length (positions_in board o c s)

abbrev pub StatesTheGame : Shape → Layout → Counts → BlockState → Type 0
StatesTheGame board l c s = StatesIn board (order_of l) c s
