-- The graph of a pair in an order: its nodes are the positions of the pair whose number is their
-- own, by these numbers.
use Rattle.std.specs.Prelude.{ℕ, ◌+◌, ◌-◌, ◌*◌, ◌/◌, ◌%◌, ◌^◌, Bool, not, ◌&&◌, nat_eq, nat_lt, nat_le, List, [], length, map, filter, is_none, if◌then◌else◌}
use Rattle.std.specs.List.{range_with_len, list_all, flat_map}
use Rattle.morris_board.specs.Sets.{has, members}
use Rattle.morris_board.specs.Boards.{Shape}
use Rattle.morris_board.specs.Positions.{Sides, sides}
use Rattle.morris_moves.specs.declared.game_move.Move.{Move}
use Rattle.morris_moves.specs.Rules.{moves_of, result_of}
use Rattle.morris_index.specs.Pairs.{Counts, counts, is_pair, is_of}
use Rattle.morris_wave.specs.Nets.{Net}
use Rattle.morris_pairs.specs.Codes.{code_to}
use Rattle.morris_pairs.specs.declared.layout.Layout.{Layout}
use Rattle.morris_pairs.specs.Orders.{Order, Full, Classes, Rows, order_of, count_in, index_in, own_in}

-- all ways to name a set of stones for each player, on n points
unfoldable pub all_sides : ℕ → List Sides
all_sides n = flat_map (λ own. map (sides own) (range_with_len 0 (2 ^ n))) (range_with_len 0 (2 ^ n))

-- whether no point has a stone of both players
abbrev pub are_apart : Sides → Bool
are_apart s = list_all (λ p. not (has s.other p)) (members s.own)

-- whether these are the stones of the position that has the number i for its own
abbrev pub is_at : Shape → Order → Counts → ℕ → Sides → Bool
is_at board o c i s = are_apart s && (is_of c s && (own_in board o s && nat_eq (index_in board board.points o c s) i))

-- the pair's position that has the number i for its own, in a list of one; none where i is past the
-- last
unfoldable pub at_index : Shape → Order → Counts → ℕ → List Sides
at_index board o c i = filter (is_at board o c i) (all_sides board.points)

-- a move that takes no stone is quiet; the others are captures
abbrev pub is_quiet : Move → Bool
is_quiet m = is_none m.taken

abbrev pub is_capture : Move → Bool
is_capture m = not (is_quiet m)

-- what the quiet moves of a position lead to, by their numbers: a quiet move stays in the pair
unfoldable pub quiet_results : Shape → Order → Counts → Sides → List ℕ
quiet_results board o c s = map (λ m. index_in board board.points o c (result_of s m)) (filter is_quiet (moves_of board s))

-- the codes of what the captures of a position lead to, searched up to a depth of 65,534
unfoldable pub capture_codes : Shape → Sides → List ℕ
capture_codes board s = map (λ m. code_to 65534 board (result_of s m)) (filter is_capture (moves_of board s))

-- the graph of a pair: quiet moves lead to nodes, and captures out of the graph
unfoldable pub net_in : Shape → Order → Counts → Net
net_in board o c = record {
  size = count_in board board.points o c;
  quiet = λ i. flat_map (quiet_results board o c) (at_index board o c i);
  exits = λ i. flat_map (capture_codes board) (at_index board o c i);
}

-- the one whose nodes are the entries of a table in a layout
abbrev pub pair_net : Shape → Layout → Counts → Net
pair_net board l c = net_in board (order_of l) c

-- The number of a pair's graph among those of its board: its two numbers as digits, and before them
-- a 1 where the nodes are those of classes, and a 2 where they are those of rows.
abbrev pub level_in : Order → Counts → ℕ
level_in Full c = c.greater * 10 + c.lesser
level_in Classes c = 100 + (c.greater * 10 + c.lesser)
level_in Rows c = 200 + (c.greater * 10 + c.lesser)

abbrev pub level_of : Layout → Counts → ℕ
level_of l c = level_in (order_of l) c

abbrev pub order_at : ℕ → Order
order_at level = if nat_lt level 100 then Full else (if nat_lt level 200 then Classes else Rows)

abbrev pub counts_at : ℕ → Counts
counts_at level =
    if nat_lt level 100 then counts (level / 10) (level % 10)
    else (if nat_lt level 200 then counts ((level - 100) / 10) ((level - 100) % 10) else counts ((level - 200) / 10) ((level - 200) % 10))

-- whether a node's quiet results are nodes, and its lists within the limits of a graph
unfoldable pub preserves_limits : Net → ℕ → Bool
preserves_limits g i =
    list_all (λ j. nat_lt j g.size) (g.quiet i) && (nat_le (length (g.quiet i)) 65535 && list_all (λ code. nat_le code 65535) (g.exits i))

-- whether nodes and lists are a graph
unfoldable pub is_net : Net → Bool
is_net g = nat_le g.size (2 ^ 40) && list_all (preserves_limits g) (range_with_len 0 g.size)

abbrev empty_net : Net
empty_net = record { size = 0; quiet = λ i. []; exits = λ i. [] }

-- The graph of a level of a board, which is that of the pair and the order with this number.
-- Numbers of no pair stand for a graph without nodes, and so would what isn't a graph, which no
-- pair of a board is.
unfoldable pub net_at : Shape → ℕ → Net
net_at board level =
    let g = net_in board (order_at level) (counts_at level) in
    if is_pair board.points (counts_at level) && is_net g then g else empty_net
