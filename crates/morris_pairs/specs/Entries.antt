-- Which entries a table of a pair has, by its layout, and which position each of them is of.
use Rattle.std.specs.Prelude.{ℕ, Bool}
use Rattle.morris_board.specs.Boards.{Shape}
use Rattle.morris_board.specs.Positions.{Sides}
use Rattle.morris_index.specs.Pairs.{Counts}
use Rattle.morris_pairs.specs.declared.layout.Layout.{Layout}
use Rattle.morris_pairs.specs.Orders.{order_of, count_in, index_in, own_in}

-- How many entries there are, on n points. Full: one for each position of the pair. Classes: for
-- each class of sets of the player to move, one for each set of the opponent beside its
-- representative.
abbrev pub entry_count : Shape → ℕ → Layout → Counts → ℕ
entry_count board n l c = count_in board n (order_of l) c

-- The index of the entry that states a position's value. Full: the position's own. Classes: that of
-- the position's canonical form, the image under the canonicalizing symmetry of the set of the
-- player to move.
abbrev pub entry_index : Shape → ℕ → Layout → Counts → Sides → ℕ
entry_index board n l c s = index_in board n (order_of l) c s

-- Whether a position has an entry of its own. Full: each has. Classes: those in which the set of
-- the player to move is in canonical form.
abbrev pub has_own_entry : Shape → Layout → Sides → Bool
has_own_entry board l s = own_in board (order_of l) s
