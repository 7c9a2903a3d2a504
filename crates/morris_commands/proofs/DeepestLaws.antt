-- The lines of what was found show a deepest win and a deepest loss.
use Rattle.std.proofs.Common.{List, Option, Some, None, ℕ, codes, refl, inl, inr}
use Rattle.morris_board.specs.Boards.{Shape}
use Rattle.morris_index.specs.Pairs.{Counts}
use Rattle.morris_commands.specs.declared.deepest.Deep.{Deep}
use Rattle.morris_commands.specs.declared.deepest.Deepest.{Deepest}
use Rattle.morris_commands.specs.declared.deepest.Outcome.{Outcome}
use Rattle.morris_commands.specs.declared.deepest.Outcome.TheVariants.{Won, Lost}
use Rattle.morris_commands.specs.Deepest.{HasDeepest, IsDeepest, Shows, ShowsDeepest, deepest_lines, found_line}

shows : {B : Type 0} (board : Shape) (c : Counts) (outcome : Outcome) (head label : List ℕ) (found : Option (Deep B)) → IsDeepest board c outcome found
    → Shows board c outcome head label (found_line board head label found)
shows board c outcome head label None none = inr (none, refl)
shows board c outcome head label (Some deep) h = inl (deep.position, deep.depth, h, refl)

pub shown : {B : Type 0} (board : Shape) (c : Counts) (found : Deepest B) → HasDeepest board c found → ShowsDeepest board c (deepest_lines board found)
shown board c deepest h =
    (_, _, shows board c Won (codes "deepest win: ") (codes " won in ") deepest.win h.0, shows board c Lost (codes "deepest loss: ") (codes " lost in ") deepest.loss h.1, refl)
