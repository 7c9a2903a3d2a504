-- Two quiet moves that lead to one position, from one position, are the same.
use Rattle.std.proofs.Common.{◌≡◌, ℕ, true, false, not, ◌&&◌, eqb, refl, sym, ap, ap₂, ◌∙◌, inl, inr, None}
use Rattle.std.proofs.lemmas.Bool.{cases_eq, ne_eqb, both_ways, or_parts}
use Rattle.morris_board.specs.Sets.{has}
use Rattle.morris_board.specs.Positions.{Sides}
use Rattle.morris_moves.specs.declared.game_move.Move.{Move}
use Rattle.morris_moves.specs.Rules.{move_stone, move}
use Rattle.morris_moves.specs.Backward.{unmove}
use Rattle.morris_moves.proofs.ResultLaws.{has-move_stone, moved_cases}
use Rattle.morris_moves.proofs.BackLaws.{moved_here, moved_gone}

-- the points that a stone left and went to are known from what it led to
pub moved_same : (own u v : ℕ) → has own u ≡ true → has own v ≡ false → (x y : ℕ) → has own x ≡ true → has own y ≡ false
    → move_stone own u v ≡ move_stone own x y → (u ≡ x) × (v ≡ y)
moved_same own u v start end x y left came e = (
  same_start (or_parts _ _ (sym (has-move_stone own x y u) ∙ (ap (λ s. has s u) (sym e) ∙ moved_gone own u v start end))).0,
  elim (moved_cases own x y v (ap (λ s. has s v) (sym e) ∙ moved_here own u v start end)) [
    | inl here ↦ absurd (both_ways (has own v) end here)
    | inr same ↦ same
  ],
)
  where
    same_start : (not (eqb u x) && has own u) ≡ false → u ≡ x
    same_start h = elim (cases_eq u x) [
      | inl same ↦ same
      | inr d ↦ absurd (both_ways _ h (rw (ne_eqb u x d, start) refl))
    ]

pub before_mover : (q : Sides) (m k : Move) → unmove q m ≡ unmove q k → move_stone q.other m.to m.from ≡ move_stone q.other k.to k.from
unfolding unmove
before_mover q m k e = ap (λ (x : Sides). x.own) e

-- two quiet moves between the same points
pub alike : (m k : Move) → m.from ≡ k.from → m.to ≡ k.to → m.taken ≡ None → k.taken ≡ None → m ≡ k
alike m k from to quiet also =
    ap (λ t. move m.from m.to t) quiet ∙ (ap₂ (λ u v. move u v None) from to ∙ ap (λ t. move k.from k.to t) (sym also))
