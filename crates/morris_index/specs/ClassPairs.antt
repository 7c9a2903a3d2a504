-- The numbering of the positions of a pair by classes. In the canonical form of a position the set
-- of the player to move is the representative of its class.
use Rattle.std.specs.Prelude.{ℕ, ◌+◌, ◌-◌, ◌*◌, nat_eq, map, if◌then◌else◌}
use Rattle.morris_board.specs.Boards.{Shape}
use Rattle.morris_board.specs.Sets.{members, count_of}
use Rattle.morris_board.specs.Positions.{Sides}
use Rattle.morris_board.specs.Symmetries.{image_sides}
use Rattle.morris_index.specs.Binomials.{choose}
use Rattle.morris_index.specs.Numbering.{rank_of, number_outside}
use Rattle.morris_index.specs.Pairs.{Counts}
use Rattle.morris_index.specs.Classes.{symmetry_of, class_of, class_count}

-- the canonical form of a position: its image under the canonicalizing symmetry of the set of the
-- player to move
unfoldable pub canonical_form : Shape → Sides → Sides
canonical_form board s = image_sides (board.image (symmetry_of board s.own)) s

-- How many entries there are for own stones of the player to move and other ones of the opponent,
-- on n points: for each class, the sets of other points outside its representative.
unfoldable pub class_half_size : Shape → ℕ → ℕ → ℕ → ℕ
class_half_size board n own other = class_count board own * choose (n - own) other

-- the number of a position's entry among those with the same numbers of stones
unfoldable pub class_half_index : Shape → ℕ → Sides → ℕ
class_half_index board n s =
    class_of board s.own * choose (n - count_of s.own) (count_of s.other) + rank_of (map (number_outside (canonical_form board s).own) (members (canonical_form board s).other))

-- how many entries the pair has: with a = b one half, else the half (a, b) and then the half (b, a)
unfoldable pub class_size_of : Shape → ℕ → Counts → ℕ
class_size_of board n c =
    if nat_eq c.greater c.lesser then class_half_size board n c.greater c.lesser
    else class_half_size board n c.greater c.lesser + class_half_size board n c.lesser c.greater

-- the number of a position's entry: those with a own stones stand first, those with b follow
unfoldable pub class_index_of : Shape → ℕ → Counts → Sides → ℕ
class_index_of board n c s =
    if nat_eq (count_of s.own) c.greater then class_half_index board n s else class_half_size board n c.greater c.lesser + class_half_index board n s
