-- Laws of sets of points: the bound of a set, how many points it has, and the points adjacent to a
-- point.
use Rattle.std.proofs.Common.{◌≡◌, ℕ, zero, suc, ◌+◌, ◌-◌, ◌^◌, ◌<◌, ◌≤◌, Bool, true, false, ◌&&◌, ◌||◌, eqb, List, [], ◌∷◌, length, filter, refl, sym, ap, subst, ◌∙◌, inl, inr, arith}
use Rattle.std.proofs.lemmas.Bool.{cases_Bool, cases_lt, lt-ltb, and_parts, and_from, and_right, both_ways}
use Rattle.std.specs.List.{range_with_len, list_any}
use Rattle.std.proofs.Math.Pow.{pow-lt}
use lib.Bits.{or_lt}
use Rattle.morris_board.specs.Sets.{has, members, count_of, with_point, without_point, set_where}
use Rattle.morris_board.specs.Boards.{Shape, is_adjacent, adjacent}
use Rattle.morris_board.proofs.PointsLaws.{has-without, has-above, has-set_where, set_where-lt, same_points}

-- ---- sets of points below a number

-- a point of a set of points below n is below n
pub point_lt : (s n p : ℕ) → s < 2 ^ n → has s p ≡ true → p < n
point_lt s n p small h = elim (cases_lt p n) [
  | inl low ↦ low
  | inr high ↦ absurd (both_ways (has s p) (has-above s n p small high) h)
]

-- a set whose points are all below n is a set of points below n
pub lt_from_points : (s n : ℕ) → ((p : ℕ) → has s p ≡ true → p < n) → s < 2 ^ n
lt_from_points s n each =
    let same : s ≡ set_where n (has s) = same_points s (set_where n (has s)) (λ p. elim (cases_Bool (has s p)) [
      | inl here ↦ here ∙ sym (has-set_where n (has s) p ∙ and_from _ _ (lt-ltb p n (each p here)) here)
      | inr none ↦ none ∙ sym (has-set_where n (has s) p ∙ and_right _ _ none)
    ]) in
    subst (λ t. t < 2 ^ n) (sym same) (set_where-lt n (has s))

pub without_point-lt : (s n p : ℕ) → s < 2 ^ n → without_point s p < 2 ^ n
without_point-lt s n p small = lt_from_points (without_point s p) n (λ q h. point_lt s n q small (and_parts _ _ (sym (has-without s p q) ∙ h)).1)

pub with_point-lt : (s n p : ℕ) → s < 2 ^ n → p < n → with_point s p < 2 ^ n
unfolding with_point
with_point-lt s n p within low = or_lt n s (2 ^ p) within (pow-lt low)

-- ---- how many points a set has

few_below : (f : ℕ → Bool) (n a k : ℕ) → ((p : ℕ) → n ≤ p → f p ≡ false) → length (filter f (range_with_len a k)) ≤ n - a
few_below f n a zero none = omega arith
few_below f n a (suc k) none =
    let rest : length (filter f (range_with_len (a + 1) k)) ≤ n - (a + 1) = few_below f n (a + 1) k none in
    elim (cases_Bool (f a)) [
      | inl holds ↦ elim (cases_lt a n) [
        | inl low ↦ rw holds (omega arith)
        | inr high ↦ absurd (both_ways (f a) (none a high) holds)
      ]
      | inr fails ↦ rw fails (omega arith)
    ]

-- one more than without its first
pub count_of-first : (s t p : ℕ) → members s ≡ p ∷ members t → count_of s ≡ suc (count_of t)
unfolding count_of
count_of-first s t p e = ap length e

-- a set of points below n has at most n
pub count_of-below : (s n : ℕ) → s < 2 ^ n → count_of s ≤ n
unfolding count_of members
count_of-below s n small = let r : length (filter (has s) (range_with_len 0 32)) ≤ n - 0 = few_below (has s) n 0 32 (λ p high. has-above s n p small high) in omega arith

fewer : (f g : ℕ → Bool) (xs : List ℕ) → ((p : ℕ) → f p ≡ true → g p ≡ true) → length (filter f xs) ≤ length (filter g xs)
fewer f g [] each = omega arith
fewer f g (x ∷ xs) each =
    let rest : length (filter f xs) ≤ length (filter g xs) = fewer f g xs each in
    elim (cases_Bool (f x)) [
      | inl holds ↦ rw (holds, each x holds) (omega arith)
      | inr fails ↦ elim (cases_Bool (g x)) [ inl y ↦ rw (fails, y) (omega arith) | inr n ↦ rw (fails, n) (omega arith) ]
    ]

-- a part of a set has at most as many points
pub count_of-part : (s t : ℕ) → ((p : ℕ) → has s p ≡ true → has t p ≡ true) → count_of s ≤ count_of t
unfolding count_of members
count_of-part s t each = fewer (has s) (has t) (range_with_len 0 32) each

-- ---- adjacency

pub has_adjacent : (b : Shape) (p q : ℕ) → q < b.points → has (adjacent b p) q ≡ is_adjacent b p q
unfolding adjacent
has_adjacent b p q low = has-set_where b.points (is_adjacent b p) q ∙ ap (λ x. x && is_adjacent b p q) (lt-ltb q b.points low)

-- it goes both ways
pub is_adjacent-back : (b : Shape) (u v : ℕ) → is_adjacent b u v ≡ is_adjacent b v u
unfolding is_adjacent
is_adjacent-back b u v = each b.edges
  where
    swap : (x y : Bool) → (x || y) ≡ (y || x)
    swap true true = refl
    swap true false = refl
    swap false true = refl
    swap false false = refl

    each : (es : List (ℕ × ℕ)) → list_any (λ e. (eqb e.0 u && eqb e.1 v) || (eqb e.0 v && eqb e.1 u)) es
        ≡ list_any (λ e. (eqb e.0 v && eqb e.1 u) || (eqb e.0 u && eqb e.1 v)) es
    each [] = refl
    each (e ∷ es) = rw (swap (eqb e.0 u && eqb e.1 v) (eqb e.0 v && eqb e.1 u), each es) refl
