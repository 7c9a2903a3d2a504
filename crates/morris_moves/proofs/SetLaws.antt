-- Laws of the sets of points that the rules of a move need.
use Rattle.std.proofs.Common.{◌≡◌, ℕ, zero, suc, ◌+◌, ◌<◌, ◌≤◌, Bool, true, subst, inl, inr, arith}
use Rattle.std.proofs.lemmas.Bool.{cases_Bool, cases_eq}
use Rattle.std.proofs.lemmas.List.Elements.{All-contains, filter_passes}
use Rattle.std.specs.List.{Contains, filter, range_with_len}
use Rattle.morris_board.specs.Sets.{has, members}
use Rattle.morris_moves.proofs.ListLaws.{Contains-head, Contains-tail, Contains-cons_cases, Ascends}
pub use Rattle.morris_board.proofs.SetLaws.{point_lt, lt_from_points, without_point-lt, count_of-first, count_of-below, count_of-part}

-- ---- the members of a set, as elements of a list

in_range : (f : ℕ → Bool) (a n p : ℕ) → Contains (filter f (range_with_len a n)) p → (a ≤ p) × (p < a + n)
in_range f a zero p c = absurd (omega arith)
in_range f a (suc n) p c = elim (cases_Bool (f a)) [
  | inl holds ↦ elim (Contains-cons_cases a (filter f (range_with_len (a + 1) n)) p (rw holds at c)) [
    | inl e ↦ (omega arith, omega arith)
    | inr later ↦ let r = in_range f (a + 1) n p later in (omega arith, omega arith)
  ]
  | inr fails ↦ let r = in_range f (a + 1) n p (rw fails at c) in (omega arith, omega arith)
]

from_range : (f : ℕ → Bool) (a n p : ℕ) → a ≤ p → p < a + n → f p ≡ true → Contains (filter f (range_with_len a n)) p
from_range f a zero p low high h = absurd (omega arith)
from_range f a (suc n) p low high h = elim (cases_eq a p) [
  | inl e ↦
      let here : f a ≡ true = rw e h in
      subst (λ q. Contains (filter f (range_with_len a (suc n))) q) e (rw here (Contains-head a (filter f (range_with_len (a + 1) n))))
  | inr differ ↦
      let rest : Contains (filter f (range_with_len (a + 1) n)) p = from_range f (a + 1) n p (omega arith) (omega arith) h in
      elim (cases_Bool (f a)) [
        | inl holds ↦ rw holds (Contains-tail a (filter f (range_with_len (a + 1) n)) p rest)
        | inr fails ↦ rw fails rest
      ]
]

pub has-member : (s p : ℕ) → Contains (members s) p → has s p ≡ true
unfolding members
has-member s p c = All-contains (λ q. has s q ≡ true) (filter (has s) (range_with_len 0 32)) p (filter_passes (has s) (range_with_len 0 32)) c

pub member-has : (s p : ℕ) → p < 32 → has s p ≡ true → Contains (members s) p
unfolding members
member-has s p low h = from_range (has s) 0 32 p (omega arith) (omega arith) h

ascending_range : (f : ℕ → Bool) (a n : ℕ) → Ascends (λ p q. p < q) (filter f (range_with_len a n))
ascending_range f a zero = tt
ascending_range f a (suc n) = elim (cases_Bool (f a)) [
  | inl holds ↦ rw holds (
    (λ q c. let r = in_range f (a + 1) n q c in omega arith),
    ascending_range f (a + 1) n,
  )
  | inr fails ↦ rw fails (ascending_range f (a + 1) n)
]

pub Ascends-members : (s : ℕ) → Ascends (λ p q. p < q) (members s)
unfolding members
Ascends-members s = ascending_range (has s) 0 32
