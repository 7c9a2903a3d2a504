-- The order in which moves are listed.
use Rattle.std.specs.Prelude.{◌≡◌, ℕ, Bool, true, false, ◌&&◌, ◌||◌, nat_eq, nat_lt, Option, Some, None}
use Rattle.morris_moves.specs.declared.game_move.Move.{Move}

-- a move that takes nothing comes before one that takes a stone, and those are in order of the
-- point of that stone
abbrev pub takes_before : Option ℕ → Option ℕ → Bool
takes_before None None = false
takes_before None (Some t) = true
takes_before (Some t) None = false
takes_before (Some t) (Some r) = nat_lt t r

-- whether a move comes before another: by the point it leaves, then by the one it goes to, then by
-- what it takes
abbrev pub precedes : Move → Move → Bool
precedes m n = nat_lt m.from n.from
    || (nat_eq m.from n.from && (nat_lt m.to n.to || (nat_eq m.to n.to && takes_before m.taken n.taken)))

abbrev pub Precedes : Move → Move → Type 0
Precedes m n = precedes m n ≡ true
