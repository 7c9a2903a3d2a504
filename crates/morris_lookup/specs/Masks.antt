-- Why two masks aren't a position.
use Rattle.std.specs.Prelude.{◌≡◌, ℕ, ◌^◌, ◌<◌, true, false}
use Rattle.morris_board.specs.Boards.{Shape}
use Rattle.morris_board.specs.Sets.{has}
use Rattle.morris_board.specs.Positions.{Sides, IsApart, is_sized}
use Rattle.morris_lookup.specs.declared.fault.MaskFault.{MaskFault}
use Rattle.morris_lookup.specs.declared.fault.MaskFault.TheVariants.{OffBoard, Overlap, Stones}

-- one of them isn't a set of points of the board; or both have some point; or a player has a number
-- of stones that no position has
abbrev pub IsMaskRefusal : Shape → Sides → MaskFault → Type 0
IsMaskRefusal board s OffBoard = s.own < 2 ^ board.points → s.other < 2 ^ board.points → ⊥
IsMaskRefusal board s Overlap =
    (s.own < 2 ^ board.points) × (s.other < 2 ^ board.points) × ((p : ℕ) × (has s.own p ≡ true) × (has s.other p ≡ true))
IsMaskRefusal board s Stones = IsApart board s × (is_sized s ≡ false)
