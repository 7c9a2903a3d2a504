use Rattle.std.proofs.Common.{◌≡◌, ◌+◌, ◌&&◌, true, None, nat_lt, if◌then◌else◌}
use Rattle.morris_index.specs.Pairs.{Counts}
use Rattle.morris_pairs.specs.Shelves.{has_place, place_of, table_on}
use Rattle.morris_pairs.proofs.table_set.TableSet.let_go.Given as goal

-- of the places that were passed, those of pairs with fewer stones have nothing any more
abbrev pub invariant-loop-place : goal.invariant-loop-place
invariant-loop-place g l = (c : Counts) → has_place c ≡ true
    → table_on l.self c ≡ (if nat_lt (place_of c) l.place && nat_lt (c.greater + c.lesser) l.stones then None else table_on l.initial.self c)
