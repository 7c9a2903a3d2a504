-- When a stated code agrees with the codes of what the position leads to.
use Rattle.std.specs.Prelude.{◌≡◌, ℕ, ◌+◌, ◌<◌, ◌≤◌, List, [], ◌∷◌, map, filter, Some, None, slice_index, if◌then◌else◌, true}
use Rattle.morris_board.specs.Boards.{Shape}
use Rattle.morris_board.specs.Positions.{Sides, IsPosition}
use Rattle.morris_moves.specs.declared.game_move.Move.{Move}
use Rattle.morris_moves.specs.Rules.{moves_of, result_of}
use Rattle.morris_index.specs.Pairs.{is_of}
use Rattle.morris_wave.specs.declared.graph.Exits.{Exits}
use Rattle.morris_wave.specs.Exits.{exits_of}
use Rattle.morris_pairs.specs.Codes.{code_to}
use Rattle.morris_pairs.specs.Entries.{entry_count, entry_index, has_own_entry}
use Rattle.morris_pairs.specs.PairNets.{is_quiet}
use Rattle.morris_pairs.specs.Tables.{Table}
use Rattle.morris_wave.specs.Summaries.{add_code}

-- The code of a position by what its results come to. Where a result is lost for the opponent, the
-- player to move wins, one ply after the one that is lost soonest. Else, where every result is won
-- for the opponent, the player to move has lost, one ply after the one that is won latest, and at
-- once where there is no result. Else it is a draw. A code is one more than the depth.
abbrev pub code_above : Exits → ℕ
code_above e = elim e.least_lost [
  | Some depth ↦ depth + 2
  | None ↦ if e.drawn then 0 else elim e.greatest_won [ Some depth ↦ depth + 2 | None ↦ 1 ]
]

-- the code of a position by the codes of its results
abbrev pub code_from : List ℕ → ℕ
code_from codes = code_above (exits_of codes)

-- The code of what a move leads to. A quiet move stays in the pair, and its code is the one that
-- the table states. That of a capture is the game's, searched up to a depth of 65,534.
unfoldable pub stated_code : Shape → Table → Sides → Move → ℕ
stated_code board t s m = if is_quiet m then slice_index t.codes (entry_index board board.points t.layout t.pair (result_of s m)) else code_to 65534 board (result_of s m)

unfoldable pub result_codes : Shape → Table → Sides → List ℕ
result_codes board t s = map (stated_code board t s) (moves_of board s)

-- the codes that the table states for what the quiet moves among some moves lead to
unfoldable pub quiet_codes : Shape → Table → Sides → List Move → List ℕ
quiet_codes board t s moves = map (λ m. slice_index t.codes (entry_index board board.points t.layout t.pair (result_of s m))) (filter is_quiet moves)

-- a summary with more results, of these codes
unfoldable pub add_all : Exits → List ℕ → Exits
add_all exits [] = exits
add_all exits (code ∷ codes) = add_all (add_code exits code) codes

-- entry i is the code that the rules give the position that has it for its own, from the codes of
-- its results
abbrev pub Agrees : Shape → Table → ℕ → Type 0
Agrees board t i =
    (s : Sides) → IsPosition board s → is_of t.pair s ≡ true → has_own_entry board t.layout s ≡ true
    → entry_index board board.points t.layout t.pair s ≡ i → slice_index t.codes i ≡ code_from (result_codes board t s)

-- an entry that doesn't agree, after entries that all agree
pub record IsFirstToDiffer (board : Shape) (t : Table) (i : ℕ) : Type 0 where
  pub inside : i < entry_count board board.points t.layout t.pair
  pub differs : Agrees board t i → ⊥
  pub before : (k : ℕ) → k < i → Agrees board t k

-- an entry of those from the first up to, not including, the end that doesn't agree, after entries
-- of these that all agree
pub record IsFirstIn (board : Shape) (t : Table) (first end i : ℕ) : Type 0 where
  pub inside : i < end
  pub from : first ≤ i
  pub differs : Agrees board t i → ⊥
  pub before : (k : ℕ) → first ≤ k → k < i → Agrees board t k
