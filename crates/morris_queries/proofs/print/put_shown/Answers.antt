use Rattle.std.proofs.Common.{◌≡◌, ◌<◌, ℕ, List, ◌++◌, codes, length, take, refl, inl, inr, arith}
use Rattle.std.specs.Prelude.{nat_le}
use Rattle.std.specs.List.{flat_map}
use Rattle.std.proofs.lemmas.Bool.{cases_Bool, leb-true}
use Rattle.morris_board.proofs.PrinterLaws.{and_then}
use Rattle.morris_queries.specs.Printing.{shown_byte, shown_text}
use Rattle.morris_queries.proofs.print.put_shown.Goals as goal

too_long : (points : ℕ) (text : List ℕ) → points < length text → shown_text points text ≡ flat_map shown_byte (take points text) ++ codes " (too long)"
too_long points text long = elim (cases_Bool (nat_le (length text) points)) [
  | inl short ↦ absurd (omega (arith, leb-true (length text) points short, long))
  | inr is ↦ rw is refl
]

-- the first bytes, and that there are more
pub returns : goal.returns
returns g c =
    let long : c.args.points < length c.args.text.now = omega (arith, c.from-points.ensures, c.if-text-points.false) in
    rw (too_long c.args.points c.args.text.now long)
    (and_then (rw c.from-points.ensures at c.put_list-2.ensures) c.put.ensures)
