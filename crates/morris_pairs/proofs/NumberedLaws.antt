-- The moves of a position, from the row of its own stones by the numbers of the points that they
-- leave free.
use Rattle.std.proofs.Common.{◌≡◌, ℕ, zero, suc, ◌+◌, ◌*◌, ◌/◌, ◌%◌, ◌<◌, ◌≤◌, ◌^◌, Bool, true, false, not, ◌&&◌, ◌||◌, cond, eqb, ltb, List, [], ◌∷◌, map, length, filter, refl, sym, ap, ap₂, subst, ◌∙◌, inl, inr, arith}
use Rattle.std.proofs.lemmas.Bool.{cases_Bool, cases_eq, both_ways, eq-eqb, ne_eqb, and_parts, and_from, not-true, false_from_ne_true, ltb-true}
use Rattle.std.proofs.lemmas.List.Sums.{sum_by-cons}
use Rattle.std.specs.List.{Contains, sum_by, list_any, range_with_len}
use Rattle.morris_board.specs.Sets.{has, members, count_of}
use Rattle.morris_board.specs.Boards.{Shape}
use Rattle.morris_board.specs.Positions.{Sides}
use Rattle.morris_board.proofs.PointsLaws.{has-none}
use Rattle.morris_board.proofs.PositionLaws.{own_count}
use Rattle.morris_moves.specs.Rules.{moves_of}
use Rattle.morris_moves.proofs.ListLaws.{Contains-head, Contains-tail}
use Rattle.morris_moves.proofs.SetLaws.{point_lt, has-member}
use Rattle.morris_index.specs.EntryRows.{InRow, IsInRow}
use Rattle.morris_index.specs.Numbering.{number_outside}
use Rattle.morris_index.specs.Parts.{squeeze_below}
use Rattle.morris_index.specs.Sums.{total}
use Rattle.morris_index.proofs.RankLaws.{number-outside, number-inside, number-count}
use Rattle.morris_index.proofs.NumberLaws.{number_has, numbers_members}
use Rattle.morris_pairs.specs.PairNets.{is_quiet, is_capture}
use Rattle.morris_pairs.specs.Rows.{arrivals, may_close}
use Rattle.morris_pairs.specs.NumberedRows.{digit, count_at, IsNumbered, AreNumbers}
use Rattle.morris_pairs.specs.declared.numbered_row.NumberedRow.{NumberedRow}
use Rattle.morris_pairs.specs.declared.numbered_row.SmallCounts.{SmallCounts}
use Rattle.morris_pairs.proofs.RowLaws.{arrivals-most, quiet_by_row}
use Rattle.morris_pairs.proofs.CaptureLaws.{some_closing}

-- ---- the row, one point more

module _ (own : ℕ) where
  abbrev number : ℕ → ℕ
  number v = number_outside own v

  pub number_low : (v : ℕ) → number v ≤ v
  number_low v = omega (arith, number-count own v)

  number_lt : (v n : ℕ) → v < n → has own v ≡ false → number v < number n
  number_lt v zero low free = absurd (omega arith)
  number_lt v (suc n) low free = elim (cases_eq v n) [
    | inl e ↦ rw e (omega (arith, number-outside own n (rw (← e) free)))
    | inr d ↦ elim (cases_Bool (has own n)) [
      | inl y ↦ omega (arith, number-inside own n y, number_lt v n (omega arith) free)
      | inr z ↦ omega (arith, number-outside own n z, number_lt v n (omega arith) free)
    ]
  ]

  module _ (f cache : ℕ → ℕ) (n : ℕ) (before : (v : ℕ) → v < n → has own v ≡ false → cache (number v) ≡ f v) where
    pub each-free : (m x : ℕ) (next : ℕ → ℕ) → m ≡ number n → cache m ≡ 0 → ((k : ℕ) → next k ≡ cache k + cond (eqb k m) x 0) → x ≡ f n
        → (v : ℕ) → v < n + 1 → has own v ≡ false → next (number v) ≡ f v
    each-free m x next at none each is v h free = elim (cases_eq v n) [
      | inl e ↦
          let here : number v ≡ m = ap number e ∙ sym at in
          let more : cond (eqb (number v) m) x 0 ≡ x = ap (λ t. cond t x 0) (eq-eqb (number v) m here) in
          omega (arith, each (number v), more, ap cache here, none, is, ap f e)
      | inr d ↦
          let same : cond (eqb (number v) m) x 0 ≡ 0 =
          ap (λ t. cond t x 0) (ne_eqb (number v) m (λ e. omega (arith, e, at, number_lt v n (omega arith) free))) in
          omega (arith, each (number v), same, before v (omega arith) free)
    ]

    pub each-own : has own n ≡ true → (v : ℕ) → v < n + 1 → has own v ≡ false → cache (number v) ≡ f v
    each-own y v h free = elim (cases_eq v n) [
      | inl e ↦ absurd (both_ways (has own v) free (ap (has own) e ∙ y))
      | inr d ↦ before v (omega arith) free
    ]

  module _ (t : ℕ → Bool) (set n : ℕ) (before : (v : ℕ) → v < n → has own v ≡ false → has set (number v) ≡ t v)
      (above : (k : ℕ) → number n ≤ k → has set k ≡ false) where
    pub marked-free : (m next : ℕ) (x : Bool) → m ≡ number n → ((k : ℕ) → has next k ≡ (has set k || (eqb k m && x))) → x ≡ t n
        → (v : ℕ) → v < n + 1 → has own v ≡ false → has next (number v) ≡ t v
    marked-free m next x at each is v h free = each (number v) ∙ elim (cases_eq v n) [
      | inl e ↦ rw (e, eq-eqb (number n) m (sym at), above (number n) (omega arith)) is
      | inr d ↦
          let apart : eqb (number v) m ≡ false = ne_eqb (number v) m (λ e. omega (arith, e, at, number_lt v n (omega arith) free)) in
          rw apart (or_false (has set (number v)) ∙ before v (omega arith) free)
    ]
      where
        or_false : (x : Bool) → (x || false) ≡ x
        or_false true = refl
        or_false false = refl

    pub marked-own : has own n ≡ true → (v : ℕ) → v < n + 1 → has own v ≡ false → has set (number v) ≡ t v
    marked-own y v h free = elim (cases_eq v n) [
      | inl e ↦ absurd (both_ways (has own v) free (ap (has own) e ∙ y))
      | inr d ↦ before v (omega arith) free
    ]

    pub above-free : (m next : ℕ) (x : Bool) → m ≡ number n → ((k : ℕ) → has next k ≡ (has set k || (eqb k m && x)))
        → (k : ℕ) → m + 1 ≤ k → has next k ≡ false
    above-free m next x at each k h = each k ∙ rw (above k (omega arith), ne_eqb k m (λ e. omega arith)) refl

pub none-above : (cache next : ℕ → ℕ) (m x : ℕ) → ((k : ℕ) → m ≤ k → cache k ≡ 0) → ((k : ℕ) → next k ≡ cache k + cond (eqb k m) x 0)
    → (k : ℕ) → m + 1 ≤ k → next k ≡ 0
none-above cache next m x none each k h =
    let same : cond (eqb k m) x 0 ≡ 0 = ap (λ t. cond t x 0) (ne_eqb k m (λ e. omega arith)) in
    omega (arith, each k, same, none k (omega arith))

-- ---- counts in binary

digit_here : (old new : Bool) (y : ℕ) → new ≡ (old || (true && eqb y 1)) → digit old ≡ 0 → y < 2 → digit new ≡ y
digit_here true new y is none low = absurd (omega arith)
digit_here false new y is none low = elim (cases_eq y 1) [
  | inl e ↦ rw (is, eq-eqb y 1 e) (sym e)
  | inr d ↦ rw (is, ne_eqb y 1 d) (omega arith)
]

digit_there : (old new y : Bool) → new ≡ (old || (false && y)) → digit new ≡ digit old
digit_there true new y is = rw is refl
digit_there false new y is = rw is refl

-- the last four digits of a number are those of the sets that have it
pub counts_more : (cache next : SmallCounts) (m x : ℕ) → count_at cache m ≡ 0
    → ((v : ℕ) → has next.ones v ≡ (has cache.ones v || (eqb v m && eqb (x % 2) 1)))
    → ((v : ℕ) → has next.twos v ≡ (has cache.twos v || (eqb v m && eqb (x / 2 % 2) 1)))
    → ((v : ℕ) → has next.fours v ≡ (has cache.fours v || (eqb v m && eqb (x / 4 % 2) 1)))
    → ((v : ℕ) → has next.eights v ≡ (has cache.eights v || (eqb v m && eqb (x / 8 % 2) 1)))
    → (v : ℕ) → count_at next v ≡ count_at cache v + cond (eqb v m) (x % 16) 0
unfolding count_at
counts_more cache next m x none one two four eight v = elim (cases_eq v m) [
  | inl e ↦
      let same : eqb v m ≡ true = eq-eqb v m e in
      let first : digit (has cache.ones v) ≡ 0 = rw e (omega arith) in
      let second : digit (has cache.twos v) ≡ 0 = rw e (omega arith) in
      let third : digit (has cache.fours v) ≡ 0 = rw e (omega arith) in
      let fourth : digit (has cache.eights v) ≡ 0 = rw e (omega arith) in
      omega (
        arith,
        first,
        second,
        third,
        fourth,
        digit_here (has cache.ones v) (has next.ones v) (x % 2) (one v ∙ rw same refl) first (omega arith),
        digit_here (has cache.twos v) (has next.twos v) (x / 2 % 2) (two v ∙ rw same refl) second (omega arith),
        digit_here (has cache.fours v) (has next.fours v) (x / 4 % 2) (four v ∙ rw same refl) third (omega arith),
        digit_here (has cache.eights v) (has next.eights v) (x / 8 % 2) (eight v ∙ rw same refl) fourth (omega arith),
        ap (λ t. cond t (x % 16) 0) same,
      )
  | inr d ↦
      let other : eqb v m ≡ false = ne_eqb v m d in
      omega (
        arith,
        digit_there (has cache.ones v) (has next.ones v) (eqb (x % 2) 1) (one v ∙ rw other refl),
        digit_there (has cache.twos v) (has next.twos v) (eqb (x / 2 % 2) 1) (two v ∙ rw other refl),
        digit_there (has cache.fours v) (has next.fours v) (eqb (x / 4 % 2) 1) (four v ∙ rw other refl),
        digit_there (has cache.eights v) (has next.eights v) (eqb (x / 8 % 2) 1) (eight v ∙ rw other refl),
        ap (λ t. cond t (x % 16) 0) other,
      )
]

pub counts_none : (counts : SmallCounts) → counts.ones ≡ 0 → counts.twos ≡ 0 → counts.fours ≡ 0 → counts.eights ≡ 0 → (v : ℕ) → count_at counts v ≡ 0
unfolding count_at
counts_none counts one two four eight v = rw (one, two, four, eight, has-none v) refl

sum_digit : (f t h : ℕ → Bool) (xs : List ℕ) → ((k : ℕ) → h k ≡ (f k && t k)) → length (filter h xs) ≡ sum_by (λ k. digit (t k)) (filter f xs)
sum_digit f t h [] each = refl
sum_digit f t h (x ∷ xs) each =
    let rest : length (filter h xs) ≡ sum_by (λ k. digit (t k)) (filter f xs) = sum_digit f t h xs each in
    elim (cases_Bool (f x)) [
      | inl y ↦
          let more : sum_by (λ k. digit (t k)) (x ∷ filter f xs) ≡ digit (t x) + sum_by (λ k. digit (t k)) (filter f xs) =
          sum_by-cons (λ k. digit (t k)) x (filter f xs) in
          elim (cases_Bool (t x)) [
            | inl z ↦ rw (each x, y, z) (omega (arith, more, rest, ap (λ b. digit b) z))
            | inr z ↦ rw (each x, y, z) (omega (arith, more, rest, ap (λ b. digit b) z))
          ]
      | inr y ↦ rw (each x, y) rest
    ]

-- how many of some numbers a set has
pub count_common : (numbers set both : ℕ) → ((p : ℕ) → has both p ≡ (has numbers p && has set p))
    → count_of both ≡ sum_by (λ k. digit (has set k)) (members numbers)
unfolding count_of members
count_common numbers set both each = sum_digit (has numbers) (has set) (has both) (range_with_len 0 32) each

pub sum_digits : (counts : SmallCounts) (ks : List ℕ)
    → sum_by (λ k. digit (has counts.ones k)) ks + 2 * sum_by (λ k. digit (has counts.twos k)) ks + 4 * sum_by (λ k. digit (has counts.fours k)) ks
    + 8 * sum_by (λ k. digit (has counts.eights k)) ks
    ≡ sum_by (count_at counts) ks
unfolding count_at
sum_digits counts [] = refl
sum_digits counts (k ∷ ks) =
    omega (
      arith,
      sum_digits counts ks,
      sum_by-cons (λ k. digit (has counts.ones k)) k ks,
      sum_by-cons (λ k. digit (has counts.twos k)) k ks,
      sum_by-cons (λ k. digit (has counts.fours k)) k ks,
      sum_by-cons (λ k. digit (has counts.eights k)) k ks,
      sum_by-cons (count_at counts) k ks,
    )

-- ---- what it says of a position

-- the numbers of a place in a row of entries are those of its position
pub are_numbers : (b : Shape) (n : ℕ) (row : InRow) (place own list : ℕ) (s : Sides) → own ≡ row.own → IsInRow b n row place s
    → list ≡ squeeze_below row.own s.other n → AreNumbers b n own list s
are_numbers b n row place own list s e at is = record {
  lawful = at.lawful;
  own = at.own ∙ sym e;
  numbers = subst (λ o. list ≡ squeeze_below o s.other n) (sym e) is;
}

sum_same : (f g h : ℕ → ℕ) (xs : List ℕ) → ((x : ℕ) → Contains xs x → f (g x) ≡ h x) → sum_by f (map g xs) ≡ sum_by h xs
sum_same f g h [] same = refl
sum_same f g h (x ∷ xs) same =
    sum_by-cons f (g x) (map g xs)
    ∙ (ap₂ (λ a b. a + b) (same x (Contains-head x xs)) (sum_same f g h xs (λ y c. same y (Contains-tail x xs y c)))
    ∙ sym (sum_by-cons h x xs))

module _ (b : Shape) (n : ℕ) (points : b.points ≡ n) (low : n ≤ 24) (cache : NumberedRow) (is : IsNumbered b n cache) (numbers : ℕ) (s : Sides)
    (at : AreNumbers b n cache.row.own numbers s) where
  other_within : s.other < 2 ^ n
  other_within = subst (λ k. s.other < 2 ^ k) points at.lawful.stones.other_within

  apart : (p : ℕ) → has s.other p ≡ true → has cache.row.own p ≡ false
  apart p here = false_from_ne_true (has cache.row.own p) (λ y.
      both_ways (has s.other p) (at.lawful.stones.apart p (ap (λ o. has o p) at.own ∙ y)) here)

  few_arrive : (v : ℕ) → arrivals b cache.row.own v % 16 ≡ arrivals b s.own v
  few_arrive v =
      omega (arith, arrivals-most b s.own v, (own_count s at.lawful.sized).1, ap (λ o. arrivals b o v) at.own)

  by_numbers : sum_by (count_at cache.arrivals) (members numbers) ≡ sum_by (arrivals b s.own) (members s.other)
  by_numbers =
      ap (λ x. sum_by (count_at cache.arrivals) (members x)) at.numbers
      ∙ (ap (sum_by (count_at cache.arrivals)) (numbers_members cache.row.own s.other apart n (omega arith) other_within)
      ∙ sum_same (count_at cache.arrivals) (number_outside cache.row.own) (arrivals b s.own) (members s.other) (λ v c.
      let here = has-member s.other v c in
      is.each v (point_lt s.other n v other_within here) (apart v here) ∙ few_arrive v))

  pub quiet_by_numbers : length (filter is_quiet (moves_of b s)) + sum_by (count_at cache.arrivals) (members numbers) ≡ cache.row.all
  quiet_by_numbers =
      omega (
        arith,
        by_numbers,
        quiet_by_row b s n points (omega arith) at.lawful,
        is.row.all,
        ap (λ o. total (arrivals b o) n) at.own,
      )

  pub none_open : (open_ : ℕ) → ((k : ℕ) → has open_ k ≡ (has cache.closing k && not (has numbers k))) → open_ ≡ 0
      → list_any is_capture (moves_of b s) ≡ false
  unfolding may_close
  none_open open_ each none = false_from_ne_true _ (λ h.
      let v = some_closing b n points low s at.lawful cache.row (sym at.own) is.row h in
      let parts = and_parts (ltb v.0 n) (may_close b cache.row.own v.0) (sym (is.row.closing v.0) ∙ v.1) in
      let low_ : v.0 < n = ltb-true v.0 n parts.0 in
      let free : has cache.row.own v.0 ≡ false = not-true (has cache.row.own v.0) (and_parts (not (has cache.row.own v.0)) _ parts.1).0 in
      let shut : has cache.closing (number_outside cache.row.own v.0) ≡ true = is.closing v.0 low_ free ∙ v.1 in
      let vacant : has numbers (number_outside cache.row.own v.0) ≡ false =
      ap (λ x. has x (number_outside cache.row.own v.0)) at.numbers ∙ (number_has cache.row.own s.other apart n v.0 low_ free ∙ v.2) in
      both_ways (has open_ (number_outside cache.row.own v.0)) (ap (λ t. has t (number_outside cache.row.own v.0)) none ∙ has-none _)
      (each _ ∙ and_from _ _ shut (ap not vacant)))
