-- What a search has to know of the exits of a node.
use Rattle.std.specs.Prelude.{ℕ, ◌+◌, ◌-◌, ◌%◌, min, max, Bool, true, false, not, ◌&&◌, List, [], ◌∷◌, Option, Some, None, is_none, map, ◌==◌, nat_lt}
use Rattle.std.specs.List.{filter, list_any}
use Rattle.morris_wave.specs.declared.graph.Exits.{Exits}

-- a code of an odd number is lost
abbrev pub is_odd : ℕ → Bool
is_odd c = (c % 2) == 1

-- a code of an even number above 0 is won
abbrev pub is_won_code : ℕ → Bool
is_won_code c = not (is_odd c) && nat_lt 0 c

-- the least number of a list, if there is one
abbrev pub minimum : List ℕ → Option ℕ
minimum [] = None
minimum (x ∷ xs) = Some (elim (minimum xs) [ None ↦ x | Some y ↦ min x y ])

-- the greatest number of a list, if there is one
abbrev pub maximum : List ℕ → Option ℕ
maximum [] = None
maximum (x ∷ xs) = Some (elim (maximum xs) [ None ↦ x | Some y ↦ max x y ])

-- the depths of the codes that pass: a depth is one less than its code
abbrev pub depths : (ℕ → Bool) → List ℕ → List ℕ
depths p codes = map (λ c. c - 1) (filter p codes)

-- the least depth of a lost exit, the greatest depth of a won exit, and whether some exit is a draw
abbrev pub exits_of : List ℕ → Exits
exits_of codes = record {
  least_lost = minimum (depths is_odd codes);
  greatest_won = maximum (depths is_won_code codes);
  drawn = list_any (λ c. c == 0) codes;
}

-- there is a depth, and it is below n
abbrev pub some_below : ℕ → Option ℕ → Bool
some_below n None = false
some_below n (Some depth) = nat_lt depth n

-- there is no depth of n or more
abbrev pub none_from : ℕ → Option ℕ → Bool
none_from n None = true
none_from n (Some depth) = nat_lt depth n

-- some exit is lost in fewer than n plies
abbrev pub exits_lost : ℕ → Exits → Bool
exits_lost n e = some_below n e.least_lost

-- every exit is won in fewer than n plies
abbrev pub exits_won : ℕ → Exits → Bool
exits_won n e = is_none e.least_lost && (not e.drawn && none_from n e.greatest_won)

-- one more than a depth, 0 where there is none
abbrev pub due_of : Option ℕ → ℕ
due_of None = 0
due_of (Some depth) = depth + 1

-- the last wave at which an exit of the node comes due, 0 if none does
abbrev pub last_due_of : Exits → ℕ
last_due_of e = max (due_of e.least_lost) (due_of e.greatest_won)

-- the exits of a node without any
abbrev pub no_exits : Exits
no_exits = record { least_lost = None; greatest_won = None; drawn = false }
