-- The moves of a position, from those of the set of its own stones in a table.
use Rattle.std.proofs.Common.{◌≡◌, ℕ, ◌+◌, ◌^◌, ◌<◌, ◌≤◌, cond, eqb, List, [], ◌∷◌, length, filter, refl, sym, ap, ap₂, subst, ◌∙◌, inl, inr, arith}
use Rattle.std.proofs.lemmas.Bool.{cases_eq, eq-eqb, ne_eqb}
use Rattle.std.proofs.lemmas.List.Sums.{sum_by-cons}
use Rattle.std.specs.List.{Contains, sum_by}
use Rattle.morris_board.specs.Boards.{Shape}
use Rattle.morris_board.specs.Sets.{members}
use Rattle.morris_board.specs.Positions.{Sides, IsPosition}
use Rattle.morris_board.proofs.PositionLaws.{own_count}
use Rattle.morris_moves.specs.Rules.{moves_of}
use Rattle.morris_moves.proofs.ListLaws.{Contains-head, Contains-tail}
use Rattle.morris_moves.proofs.SetLaws.{point_lt, has-member}
use Rattle.morris_index.specs.Sums.{total}
use Rattle.morris_pairs.specs.declared.set_moves.SetMoves.{SetMoves}
use Rattle.morris_pairs.specs.NumberedRows.{count_at}
use Rattle.morris_pairs.specs.PairNets.{is_quiet}
use Rattle.morris_pairs.specs.Rows.{arrivals}
use Rattle.morris_pairs.specs.SetMoves.{IsSetTabled}
use Rattle.morris_pairs.proofs.RowLaws.{arrivals-most, quiet_by_row}

-- counts of the points below k, one point more
module _ (f tabled next : ℕ → ℕ) (k x : ℕ) (each : (v : ℕ) → next v ≡ tabled v + cond (eqb v k) x 0) (none : (v : ℕ) → k ≤ v → tabled v ≡ 0) where
  pub counted_more : x ≡ f k → ((v : ℕ) → v < k → tabled v ≡ f v) → (v : ℕ) → v < k + 1 → next v ≡ f v
  counted_more is before v low = elim (cases_eq v k) [
    | inl e ↦ omega (arith, each v, ap (λ t. cond t x 0) (eq-eqb v k e), none v (omega (arith, e)), is, ap f e)
    | inr d ↦ omega (arith, each v, ap (λ t. cond t x 0) (ne_eqb v k d), before v (omega (arith, low, d)))
  ]

  pub none_more : (v : ℕ) → k + 1 ≤ v → next v ≡ 0
  none_more v high = omega (arith, each v, ap (λ t. cond t x 0) (ne_eqb v k (λ e. omega (arith, e, high))), none v (omega (arith, high)))

sum_alike : (f g : ℕ → ℕ) (xs : List ℕ) → ((x : ℕ) → Contains xs x → f x ≡ g x) → sum_by f xs ≡ sum_by g xs
sum_alike f g [] same = refl
sum_alike f g (x ∷ xs) same =
    sum_by-cons f x xs
    ∙ (ap₂ (λ a b. a + b) (same x (Contains-head x xs)) (sum_alike f g xs (λ y c. same y (Contains-tail x xs y c)))
    ∙ sym (sum_by-cons g x xs))

module _ (b : Shape) (n : ℕ) (points : b.points ≡ n) (low : n ≤ 24) (tabled : SetMoves) (is : IsSetTabled b n tabled) (s : Sides) (lawful : IsPosition b s)
    (own : tabled.own ≡ s.own) where
  by_points : sum_by (count_at tabled.arrivals) (members s.other) ≡ sum_by (arrivals b s.own) (members s.other)
  by_points = sum_alike (count_at tabled.arrivals) (arrivals b s.own) (members s.other) (λ v c.
      let inside : v < n = point_lt s.other n v (subst (λ k. s.other < 2 ^ k) points lawful.stones.other_within) (has-member s.other v c) in
      omega (arith, is.each v inside, ap (λ o. arrivals b o v) own, arrivals-most b s.own v, (own_count s lawful.sized).1))

  pub quiet_by_set : length (filter is_quiet (moves_of b s)) + sum_by (count_at tabled.arrivals) (members s.other) ≡ tabled.all
  quiet_by_set =
      omega (
        arith,
        by_points,
        quiet_by_row b s n points (omega arith) lawful,
        is.all,
        ap (λ o. total (arrivals b o) n) own,
      )
