-- Laws of exact tables.
use Rattle.std.proofs.Common.{◌≡◌, ℕ, true, get_or, sym, subst}
use Rattle.morris_board.specs.Boards.{Shape}
use Rattle.morris_board.specs.Positions.{Sides, IsPosition}
use Rattle.morris_index.specs.Pairs.{is_of}
use Rattle.morris_pairs.specs.Entries.{entry_index}
use Rattle.morris_pairs.specs.Codes.{IsCodeOf}
use Rattle.morris_pairs.specs.Tables.{Table, IsTable}

-- the code at a position's entry says its value, on a board of n points
pub code_at : (board : Shape) (n : ℕ) (t : Table) → board.points ≡ n → IsTable board t → (s : Sides) → IsPosition board s → is_of t.pair s ≡ true
    → (code : ℕ) → code ≡ get_or t.codes (entry_index board n t.layout t.pair s) 0 → IsCodeOf board s code
code_at board n t points h s position of code is =
    subst (IsCodeOf board s) (sym is)
    (subst (λ m. IsCodeOf board s (get_or t.codes (entry_index board m t.layout t.pair s) 0)) points (h.exact s position of))
