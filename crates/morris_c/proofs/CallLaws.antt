-- Laws of what calls answer: a fault of two masks is the only one, and a position has none.
use Rattle.std.proofs.Common.{◌≡◌, ℕ, ◌<◌, refl, sym, ap, ◌∙◌, arith}
use Rattle.std.proofs.lemmas.Bool.{both_ways}
use Rattle.std.specs.Prelude.{ℤ, pos, negsuc}
use Rattle.morris_board.specs.Boards.{Shape}
use Rattle.morris_board.specs.Positions.{Sides, IsPosition}
use Rattle.morris_lookup.specs.declared.fault.MaskFault.{MaskFault}
use Rattle.morris_lookup.specs.declared.fault.MaskFault.TheVariants.{OffBoard, Overlap, Stones}
use Rattle.morris_pairs.specs.declared.file_faults.ReadFault.{ReadFault}
use Rattle.morris_pairs.specs.declared.file_faults.ReadFault.TheVariants as read
use Rattle.morris_lookup.specs.declared.fault.ViewFault.{ViewFault}
use Rattle.morris_lookup.specs.declared.fault.ViewFault.TheVariants as view
use Rattle.morris_c.specs.Statuses.{mask_status, read_status, view_status}
use Rattle.morris_lookup.specs.Masks.{IsMaskRefusal}

module _ (board : Shape) (s : Sides) where
  pub one_fault : (f g : MaskFault) → IsMaskRefusal board s f → IsMaskRefusal board s g → f ≡ g
  one_fault OffBoard OffBoard a b = refl
  one_fault OffBoard Overlap a b = absurd (a b.0 b.1)
  one_fault OffBoard Stones a b = absurd (a b.0.own_within b.0.other_within)
  one_fault Overlap OffBoard a b = absurd (b a.0 a.1)
  one_fault Overlap Overlap a b = refl
  one_fault Overlap Stones a b = absurd (both_ways _ (b.0.apart a.2.0 a.2.1) a.2.2)
  one_fault Stones OffBoard a b = absurd (b a.0.own_within a.0.other_within)
  one_fault Stones Overlap a b = absurd (both_ways _ (a.0.apart b.2.0 b.2.1) b.2.2)
  one_fault Stones Stones a b = refl

  pub no_fault : (f : MaskFault) → IsPosition board s → IsMaskRefusal board s f → ⊥
  no_fault OffBoard h a = a h.stones.own_within h.stones.other_within
  no_fault Overlap h a = both_ways _ (h.stones.apart a.2.0 a.2.1) a.2.2
  no_fault Stones h a = both_ways _ a.1 h.sized

-- ---- statuses of faults aren't 0

pub read_some : (f : ReadFault) → 0 < read_status f
read_some read.Short = omega arith
read_some _ = omega arith

pub view_some : (f : ViewFault) → 0 < view_status f
view_some (view.File refusal) = read_some refusal
view_some _ = omega arith

pub mask_some : (f : MaskFault) → 0 < mask_status f
mask_some OffBoard = omega arith
mask_some Overlap = omega arith
mask_some Stones = omega arith

unfoldable mag_of : ℤ → ℕ
mag_of (pos n) = n
mag_of (negsuc n) = 0

pub not_done : (n : ℕ) → 0 < n → (status : ℤ) → status ≡ pos n → status ≡ pos 0 → ⊥
unfolding mag_of
not_done n some status e done = let none : n ≡ 0 = ap mag_of (sym e ∙ done) in absurd (omega (arith, none, some))
