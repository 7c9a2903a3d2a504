-- The sums from which the rank of a set is found where a stone has moved.
use Rattle.std.proofs.Common.{◌≡◌, ◌≢◌, ℕ, zero, suc, ◌+◌, ◌-◌, ◌*◌, ◌^◌, ◌<◌, ◌≤◌, Bool, true, false, ◌||◌, ltb, cond, List, [], ◌∷◌, ◌++◌, length, filter, map, slice_index, slice_set, refl, sym, ◌∙◌, ap, ap₂, inl, inr, ◌⊎◌, arith, zero-add, length-append, append_assoc}
use Rattle.std.proofs.lemmas.Bool.{cases_Bool, cases_eq, cases_lt, both_ways, eq-eqb, ne_eqb, or_right}
use Rattle.std.proofs.lemmas.List.{get_or-set_other, same_from_push}
use Rattle.std.proofs.lemmas.Grind.{get_or-set_at}
use Rattle.morris_board.specs.Sets.{has, members, count_of, with_point, without_point}
use Rattle.morris_board.proofs.ImageTables.{member_lt}
use Rattle.morris_board.proofs.SetLaws.{with_point-lt, without_point-lt}
use Rattle.morris_board.proofs.PointsLaws.{has-with, has-without}
use Rattle.morris_index.specs.Binomials.{choose}
use Rattle.morris_index.specs.Numbering.{rank_of, number_outside}
use Rattle.morris_index.specs.Sums.{total, term, sum_below, bias, AreKept, moved_end, renumbered_end}
use Rattle.morris_index.specs.declared.sums.KeptSums.{KeptSums}
use Rattle.std.proofs.Math.Nat.{pow-le-pow_right}
use Rattle.morris_index.proofs.ChooseLaws.{choose-le}
use Rattle.morris_index.proofs.RankLaws.{passing, passing-yes, passing-no, members-passing, count_below, count-none, count-yes, count-no, number-count, count_more}
use Rattle.morris_index.proofs.SetLaws.{or_false, count_of-below, count_below_members}
use Rattle.morris_index.proofs.Following.{rank_set}
use Rattle.morris_index.proofs.Moving.{total-zero, total-suc, alike, rank-total, moved_down, moved_up, renumbered, count_low, count_between, count_high, count_low', count_between', count_high'}

-- ---- where a point of a set stands in it

pushed : (xs : List ℕ) → (xs ≡ []) ⊎ ((front : List ℕ) × (last : ℕ) × (xs ≡ front ++ last ∷ []))
pushed [] = inl refl
pushed (x ∷ xs) = elim (pushed xs) [
  | inl e ↦ inr ([], x, ap (λ t. x ∷ t) e)
  | inr more ↦ inr (x ∷ more.0, more.1, ap (λ t. x ∷ t) (more.2))
]

passed_at : (f : ℕ → Bool) (n p : ℕ) (before after : List ℕ) → before ++ p ∷ after ≡ passing f n → (f p ≡ true) × (count_below f p ≡ length before)
unfolding count_below
passed_at f zero p before after e = absurd (omega (arith, ap length e, length-append before (p ∷ after)))
passed_at f (suc n) p before after e = elim (cases_Bool (f n)) [
  | inr fails ↦ passed_at f n p before after (e ∙ passing-no f n fails)
  | inl y ↦ elim (pushed after) [
    | inl none ↦
        let same = same_from_push before (passing f n) p n (ap (λ t. before ++ p ∷ t) (sym none) ∙ (e ∙ passing-yes f n y)) in
        (ap f (same.1) ∙ y, ap (count_below f) (same.1) ∙ ap length (sym (same.0)))
    | inr more ↦
        let same = same_from_push (before ++ p ∷ more.0) (passing f n) (more.1) n
        (append_assoc before (p ∷ more.0) (more.1 ∷ []) ∙ (ap (λ t. before ++ p ∷ t) (sym (more.2)) ∙ (e ∙ passing-yes f n y))) in
        passed_at f n p before (more.0) (same.0)
  ]
]

pub point_at : (s n p : ℕ) (before after : List ℕ) → s < 2 ^ n → n ≤ 32 → before ++ p ∷ after ≡ members s → (has s p ≡ true) × (count_below (has s) p ≡ length before)
point_at s n p before after within low e = passed_at (has s) n p before after (e ∙ members-passing s n within low)

-- ---- what stands at the points below n depends on how many stones there are

module _ (f : ℕ → Bool) (number : ℕ → ℕ) (first : ℕ) where
  total-no : (n : ℕ) → f n ≡ false → total (term f number first) (suc n) ≡ total (term f number first) n
  total-no n fails =
      let none : term f number first n ≡ 0 = rw fails refl in
      omega (arith, total-suc (term f number first) n, none)

  total-yes : (n : ℕ) → f n ≡ true → total (term f number first) (suc n) ≡ total (term f number first) n + choose (number n) (count_below f n + first)
  total-yes n y =
      let one : term f number first n ≡ choose (number n) (count_below f n + first) = rw y refl in
      omega (arith, total-suc (term f number first) n, one)

  same_from : (m k : ℕ) → count_below f (k + m) ≡ count_below f m → total (term f number first) (k + m) ≡ total (term f number first) m
  same_from m zero same = ap (total (term f number first)) (zero-add m)
  same_from m (suc k) same =
      let e : suc k + m ≡ suc (k + m) = omega arith in
      let same' : count_below f (suc (k + m)) ≡ count_below f m = ap (count_below f) (sym e) ∙ same in
      ap (total (term f number first)) e ∙ elim (cases_Bool (f (k + m))) [
        | inl y ↦ absurd (omega (arith, same', count_more f m k, count-yes f (k + m) y))
        | inr y ↦ total-no (k + m) y ∙ same_from m k (sym (count-no f (k + m) y) ∙ same')
      ]

  ordered : (m n : ℕ) → m ≤ n → count_below f n ≡ count_below f m → total (term f number first) n ≡ total (term f number first) m
  ordered m n low same =
      let e : n ≡ (n - m) + m = omega arith in
      ap (total (term f number first)) e ∙ same_from m (n - m) (ap (count_below f) (sym e) ∙ same)

  pub total-same : (m n : ℕ) → count_below f m ≡ count_below f n → total (term f number first) m ≡ total (term f number first) n
  total-same m n same = elim (cases_lt m n) [
    | inl l ↦ sym (ordered m n (omega arith) (sym same))
    | inr g ↦ ordered n m g same
  ]

-- ---- the sums of the first `place` stones

-- the sum of what stands at the points below each n that has so many stones below it
pub record IsSummed (set : ℕ) (number : ℕ → ℕ) (first place sum : ℕ) : Type 0 where
  pub each : (n : ℕ) → count_below (has set) n ≡ place → sum ≡ sum_below set number first n
  pub small : sum ≤ place * 2097152

pub summed-start : (set : ℕ) (number : ℕ → ℕ) (first : ℕ) → IsSummed set number first 0 0
summed-start set number first = record {
  each = λ n e. sym (total-same (has set) number first n 0 (e ∙ sym (count-none (has set))) ∙ total-zero _);
  small = omega arith;
}

-- the next stone, whose number is m and whose place is k
pub summed-next : (set : ℕ) (number : ℕ → ℕ) (first place sum p m k added : ℕ) → IsSummed set number first place sum → has set p ≡ true → count_below (has set) p ≡ place
    → m ≡ number p → k ≡ place + first → added ≡ choose m k → added < 2097152 → IsSummed set number first (place + 1) (sum + added)
summed-next set number first place sum p m k added s here at numbered placed is few = record {
  each = λ n e.
      let after : count_below (has set) (suc p) ≡ count_below (has set) n = omega (arith, count-yes (has set) p here) in
      let place_is : k ≡ count_below (has set) p + first = omega arith in
      let here_is : added ≡ choose (number p) (count_below (has set) p + first) = is ∙ ap₂ choose numbered place_is in
      omega (arith, total-same (has set) number first (suc p) n after, total-yes (has set) number first p here, here_is, s.each p at);
  small = omega (arith, s.small);
}

-- what is kept for each number of stones up to `place`
unfoldable pub IsKept : ℕ → (ℕ → ℕ) → (ℕ → ℕ) → ℕ → List ℕ → Type 0
IsKept set plus minus place kept = (n : ℕ) → count_below (has set) n ≤ place → slice_index kept (count_below (has set) n) + minus n ≡ bias + plus n

pub kept-next : (set : ℕ) (plus minus : ℕ → ℕ) (place : ℕ) (kept : List ℕ) (x added taken : ℕ) → IsKept set plus minus place kept → place + 1 < length kept
    → ((n : ℕ) → count_below (has set) n ≡ place + 1 → added ≡ plus n) → ((n : ℕ) → count_below (has set) n ≡ place + 1 → taken ≡ minus n)
    → x + taken ≡ bias + added → IsKept set plus minus (place + 1) (slice_set kept (place + 1) x)
unfolding IsKept
kept-next set plus minus place kept x added taken before inside plus_is minus_is e n low = elim (cases_eq (count_below (has set) n) (place + 1)) [
  | inl top ↦
      let at : slice_index (slice_set kept (place + 1) x) (count_below (has set) n) ≡ x = get_or-set_at kept (place + 1) (count_below (has set) n) x 0 top inside in
      omega (arith, at, e, plus_is n top, minus_is n top)
  | inr d ↦
      let at : slice_index (slice_set kept (place + 1) x) (count_below (has set) n) ≡ slice_index kept (count_below (has set) n) =
      get_or-set_other kept (place + 1) (count_below (has set) n) x 0 d in
      omega (arith, at, before n (omega arith))
]

pub kept-start : (set : ℕ) (plus minus : ℕ → ℕ) (kept : List ℕ) → slice_index kept 0 ≡ bias → ((n : ℕ) → count_below (has set) n ≡ 0 → 0 ≡ plus n)
    → ((n : ℕ) → count_below (has set) n ≡ 0 → 0 ≡ minus n) → IsKept set plus minus 0 kept
unfolding IsKept
kept-start set plus minus kept first plus_is minus_is n low =
    let none : count_below (has set) n ≡ 0 = omega arith in
    let at : slice_index kept (count_below (has set) n) ≡ slice_index kept 0 = ap (slice_index kept) none in
    omega (arith, at, first, plus_is n none, minus_is n none)

-- ---- what is kept, by way

-- the same sum, where the numbers are told in other words
same_sum : (set : ℕ) (f g : ℕ → ℕ) (first n : ℕ) → ((p : ℕ) → f p ≡ g p) → sum_below set f first n ≡ sum_below set g first n
same_sum set f g first n same =
    omega (
      arith,
      alike (term (has set) f first) (term (has set) g first) 0 n (omega arith)
          (λ p from to. ap (λ m. cond (has set p) (choose m (count_below (has set) p + first)) 0) (same p)),
      total-zero (term (has set) f first),
      total-zero (term (has set) g first),
    )

-- a point of the set moves: the numbers stay, and the places change
module _ (outside s : ℕ) (sums : KeptSums) (is : AreKept 1 outside s sums) where
  moved_lower : (n : ℕ) → n ≤ 24
      → slice_index sums.lower (count_below (has s) n) + sum_below s (number_outside outside) 2 n ≡ bias + sum_below s (number_outside outside) 1 n
  moved_lower n low = omega (arith, is.lower n low, same_sum s (λ p. number_outside outside p - (1 - 1)) (number_outside outside) (1 + 1) n (λ p. omega arith))

  moved_higher : (n : ℕ) → n ≤ 24
      → slice_index sums.higher (count_below (has s) n) + sum_below s (number_outside outside) 1 n ≡ bias + sum_below s (number_outside outside) 0 n
  moved_higher n low = omega (arith, is.higher n low, same_sum s (λ p. number_outside outside p + (1 - 1)) (number_outside outside) (1 - 1) n (λ p. omega arith))

  pub lower_is : (n : ℕ) → n ≤ 24 → slice_index sums.lower (count_below (has s) n) + choose (number_outside outside n) (count_below (has s) n + 1) ≡ moved_end true outside s n
  lower_is n low = omega (arith, moved_lower n low)

  pub higher_is : (n : ℕ) → n ≤ 24 → slice_index sums.higher (count_below (has s) n) + choose (number_outside outside n) (count_below (has s) n) ≡ moved_end false outside s n
  higher_is n low = omega (arith, moved_higher n low)

-- a point moves outside which the set is numbered: the places stay
module _ (outside s : ℕ) (sums : KeptSums) (is : AreKept 0 outside s sums) where
  renumbered_lower : (n : ℕ) → n ≤ 24
      → slice_index sums.lower (count_below (has s) n) + sum_below s (λ p. number_outside outside p - 1) 1 n ≡ bias + sum_below s (number_outside outside) 1 n
  renumbered_lower n low = is.lower n low

  renumbered_higher : (n : ℕ) → n ≤ 24
      → slice_index sums.higher (count_below (has s) n) + sum_below s (number_outside outside) 1 n ≡ bias + sum_below s (λ p. number_outside outside p + 1) 1 n
  renumbered_higher n low = is.higher n low

  pub before_is : (n : ℕ) → n ≤ 24 → slice_index sums.lower (count_below (has s) n) ≡ renumbered_end true outside s n
  before_is n low = omega (arith, renumbered_lower n low)

  pub after_is : (n : ℕ) → n ≤ 24 → slice_index sums.higher (count_below (has s) n) ≡ renumbered_end false outside s n
  after_is n low = omega (arith, renumbered_higher n low)

-- ---- a set of which a stone has gone from v to u

module _ (s u v : ℕ) (free : has s u ≡ false) (here : has s v ≡ true) where
  abbrev after : ℕ
  after = with_point (without_point s v) u

  pub apart : v ≢ u
  apart = λ e. both_ways (has s u) free (ap (has s) (sym e) ∙ here)

  pub there : has after u ≡ true
  there = has-with (without_point s v) u u ∙ (ap (λ b. has (without_point s v) u || b) (eq-eqb u u refl) ∙ or_right (has (without_point s v) u) true refl)

  pub gone : has after v ≡ false
  gone = has-with (without_point s v) u v ∙ rw (has-without s v v, eq-eqb v v refl, ne_eqb v u apart) refl

  pub rest : (p : ℕ) → p ≢ u → p ≢ v → has after p ≡ has s p
  rest p d e = has-with (without_point s v) u p ∙ rw (has-without s v p, ne_eqb p u d, ne_eqb p v e) (or_false (has s p))

-- the rank of the set after it
module _ (outside s u v : ℕ) (within : s < 2 ^ 24) (free : has s u ≡ false) (here : has s v ≡ true) (u_in : u < 24) (v_in : v < 24) where
  abbrev number : ℕ → ℕ
  number = number_outside outside

  after_rank : rank_of (map number (members (after s u v free here))) ≡ total (term (has (after s u v free here)) number 1) 24
  after_rank = rank_set 24 outside (omega arith) (after s u v free here) (with_point-lt (without_point s v) 24 u (without_point-lt s 24 v within) u_in)
      ∙ rank-total outside (has (after s u v free here)) 24

  module _ (sums : KeptSums) (is : AreKept 1 outside s sums) where
    pub rank_down : u < v
        → rank_of (map number (members (after s u v free here))) + moved_end true outside s v ≡ sums.rank + moved_end true outside s u
    rank_down down = omega (
      arith,
      after_rank,
      is.rank,
      moved_lower outside s sums is u (omega arith),
      moved_lower outside s sums is v (omega arith),
      total-yes (has s) number 1 v here,
      moved_down (has s) (has (after s u v free here)) u v free here (there s u v free here) (gone s u v free here) (rest s u v free here) down number 24 v_in,
    )

    pub rank_up : v < u
        → rank_of (map number (members (after s u v free here))) + moved_end false outside s v ≡ sums.rank + moved_end false outside s u
    rank_up up =
        let e : count_below (has s) v + 0 ≡ count_below (has s) v = omega arith in
        omega (
          arith,
          after_rank,
          is.rank,
          moved_higher outside s sums is u (omega arith),
          moved_higher outside s sums is v (omega arith),
          total-yes (has s) number 0 v here,
          ap (choose (number v)) e,
          moved_up (has s) (has (after s u v free here)) u v free here (there s u v free here) (gone s u v free here) (rest s u v free here) up number 24 u_in,
        )

-- the rank of a set that is numbered outside it
module _ (outside s u v : ℕ) (within : s < 2 ^ 24) (apart : (p : ℕ) → has s p ≡ true → has outside p ≡ false) (free : has outside u ≡ false) (here : has outside v ≡ true)
    (vacant : has s u ≡ false) (u_in : u < 24) (v_in : v < 24) where
  abbrev new : ℕ
  new = after outside u v free here

  new_rank : rank_of (map (number_outside new) (members s)) ≡ total (term (has s) (number_outside new) 1) 24
  new_rank = rank_set 24 new (omega arith) s within ∙ rank-total new (has s) 24

  not_u : (p : ℕ) → has s p ≡ true → p ≢ u
  not_u p y = λ e. both_ways (has s u) vacant (ap (has s) (sym e) ∙ y)

  not_v : (p : ℕ) → has s p ≡ true → p ≢ v
  not_v p y = λ e. both_ways (has outside v) (ap (has outside) (sym e) ∙ apart p y) here

  module _ (sums : KeptSums) (is : AreKept 0 outside s sums) where
    pub renumbered_down : u < v
        → rank_of (map (number_outside new) (members s)) + renumbered_end true outside s v ≡ sums.rank + renumbered_end true outside s u
    renumbered_down down = omega (
      arith,
      new_rank,
      is.rank,
      renumbered_lower outside s sums is u (omega arith),
      renumbered_lower outside s sums is v (omega arith),
      renumbered (has s) (number_outside outside) (λ p. number_outside outside p - 1) (number_outside new) u v 24 (omega arith) (omega arith)
          (λ p y h. omega (
            arith,
            number-count outside p,
            number-count new p,
            count_low (has outside) (has new) u v free here (there outside u v free here) (gone outside u v free here) (rest outside u v free here) down p (omega arith),
          ))
          (λ p y h k. omega (
            arith,
            not_u p y,
            number-count outside p,
            number-count new p,
            count_between (has outside) (has new) u v free here (there outside u v free here) (gone outside u v free here) (rest outside u v free here) down p (omega (arith, not_u p y)) (omega arith),
          ))
          (λ p y h. omega (
            arith,
            number-count outside p,
            number-count new p,
            count_high (has outside) (has new) u v free here (there outside u v free here) (gone outside u v free here) (rest outside u v free here) down p (omega (arith, not_v p y)),
          )),
    )

    pub renumbered_up : v < u
        → rank_of (map (number_outside new) (members s)) + renumbered_end false outside s v ≡ sums.rank + renumbered_end false outside s u
    renumbered_up up = omega (
      arith,
      new_rank,
      is.rank,
      renumbered_higher outside s sums is u (omega arith),
      renumbered_higher outside s sums is v (omega arith),
      renumbered (has s) (number_outside outside) (λ p. number_outside outside p + 1) (number_outside new) v u 24 (omega arith) (omega arith)
          (λ p y h. omega (
            arith,
            number-count outside p,
            number-count new p,
            count_low' (has outside) (has new) u v free here (there outside u v free here) (gone outside u v free here) (rest outside u v free here) up p (omega arith),
          ))
          (λ p y h k. omega (
            arith,
            number-count outside p,
            number-count new p,
            count_between' (has outside) (has new) u v free here (there outside u v free here) (gone outside u v free here) (rest outside u v free here) up p (omega (arith, not_v p y)) (omega arith),
          ))
          (λ p y h. omega (
            arith,
            number-count outside p,
            number-count new p,
            count_high' (has outside) (has new) u v free here (there outside u v free here) (gone outside u v free here) (rest outside u v free here) up p (omega (arith, not_u p y)),
          )),
    )

-- ---- the loops over the stones

-- a stone p of s, where `before` are the stones before it
pub record IsNext (s n p : ℕ) (before : List ℕ) : Type 0 where
  pub low : p < n
  pub few : length before + 1 ≤ count_of s
  pub here : has s p ≡ true
  pub at : count_below (has s) p ≡ length before

pub next_point : (s n p : ℕ) (before after left : List ℕ) → s < 2 ^ n → n ≤ 32 → before ++ left ≡ members s → left ≡ p ∷ after → IsNext s n p before
unfolding count_of
next_point s n p before after left within fits split unmove =
    let cut : before ++ p ∷ after ≡ members s = ap (λ t. before ++ t) (sym unmove) ∙ split in
    let stands = point_at s n p before after within fits cut in
    record {
      low = member_lt s n p before after within cut;
      few = omega (arith, ap length cut, length-append before (p ∷ after));
      here = stands.0;
      at = stands.1;
    }

-- where no stone is left, the stones before are all
pub counted_all : (s : ℕ) (before left : List ℕ) → before ++ left ≡ members s → left ≡ [] → count_of s ≡ length before
unfolding count_of
counted_all s before left split none = omega (arith, ap length split, length-append before left, ap length none)

-- and the sum over them is that over all points
pub summed-all : (s n : ℕ) (number : ℕ → ℕ) (first sum : ℕ) (before left : List ℕ) → s < 2 ^ n → n ≤ 32 → before ++ left ≡ members s → left ≡ []
    → IsSummed s number first (length before) sum → sum ≡ sum_below s number first n
summed-all s n number first sum before left within fits split none summed =
    summed.each n (sym (count_of-below s n within fits) ∙ counted_all s before left split none)

pub all_passed : (s : ℕ) (before left : List ℕ) → s < 2 ^ 24 → before ++ left ≡ members s → left ≡ [] → (n : ℕ) → n ≤ 24
    → (count_below (has s) n ≤ length before) × (count_below (has s) 24 ≡ length before)
unfolding count_of
all_passed s before left within split none n low =
    let all : count_below (has s) 24 ≡ length before =
    omega (arith, count_of-below s 24 within (omega arith), ap length split, length-append before left, ap length none) in
    let e : (24 - n) + n ≡ 24 = omega arith in
    (omega (arith, count_more (has s) n (24 - n), ap (count_below (has s)) e, all), all)

-- ---- how large the sums are

few_below : (t : ℕ → ℕ) (most n : ℕ) → ((p : ℕ) → p < n → t p ≤ most) → total t n ≤ n * most
few_below t most zero each = omega (arith, total-zero t)
few_below t most (suc n) each = omega (arith, total-suc t n, each n (omega arith), few_below t most n (λ p h. each p (omega arith)))

sum-few : (set : ℕ) (number : ℕ → ℕ) (first n : ℕ) → n ≤ 24 → ((p : ℕ) → number p ≤ p + 1) → sum_below set number first n ≤ 1000000000
sum-few set number first n low near =
    omega (arith, few_below (term (has set) number first) 33554432 n (λ p h. small p (omega arith)))
  where
    small : (p : ℕ) → p < 24 → term (has set) number first p ≤ 33554432
    small p h = elim (cases_Bool (has set p)) [
      | inl y ↦ rw y (omega (arith, choose-le (number p) (count_below (has set) p + first), near p, pow-le-pow_right {n = 2} (omega arith) {i = number p} {j = 25} (omega (arith, near p))))
      | inr y ↦ rw y (omega arith)
    ]

number-near : (outside p : ℕ) → number_outside outside p ≤ p + 1
number-near outside p = omega (arith, number-count outside p)

pub rank-small : (outside s : ℕ) → s < 2 ^ 24 → rank_of (map (number_outside outside) (members s)) ≤ 1000000000
rank-small outside s within =
    omega (arith, rank_set 24 outside (omega arith) s within ∙ rank-total outside (has s) 24, sum-few s (number_outside outside) 1 24 (omega arith) (number-near outside))

module _ (moved outside s : ℕ) (sums : KeptSums) (is : AreKept moved outside s sums) where
  pub lower-few : (n : ℕ) → n ≤ 24 → slice_index sums.lower (count_below (has s) n) ≤ 1100000000
  lower-few n low = omega (arith, is.lower n low, sum-few s (number_outside outside) 1 n low (number-near outside))

  pub higher-few : (n : ℕ) → n ≤ 24 → slice_index sums.higher (count_below (has s) n) ≤ 1100000000
  higher-few n low =
      omega (arith, is.higher n low, sum-few s (λ p. number_outside outside p + (1 - moved)) (1 - moved) n low (λ p. omega (arith, number-count outside p)))

  pub rank-few : sums.rank ≤ 1000000000
  rank-few = omega (arith, is.rank, sum-few s (number_outside outside) 1 24 (omega arith) (number-near outside))

  pub rank_is : s < 2 ^ 24 → sums.rank ≡ rank_of (map (number_outside outside) (members s))
  rank_is within = is.rank ∙ sym (rank_set 24 outside (omega arith) s within ∙ rank-total outside (has s) 24)

-- no more stones stand below a point than there are
few_passed : (s p : ℕ) → s < 2 ^ 24 → count_of s ≤ 9 → p ≤ 24 → count_below (has s) p ≤ 9
few_passed s p within few low =
    let e : (24 - p) + p ≡ 24 = omega arith in
    omega (arith, few, count_of-below s 24 within (omega arith), count_more (has s) p (24 - p), ap (count_below (has s)) e)

-- how many points of a set stand below p, as the code counts them
pub standing : (s p place : ℕ) → s < 2 ^ 24 → count_of s ≤ 9 → p < 24 → place ≡ length (filter (λ k. ltb k p) (members s))
    → (place ≡ count_below (has s) p) × (place ≤ 9)
standing s p place within few low is =
    let same : place ≡ count_below (has s) p = is ∙ count_below_members s p (omega arith) in
    (same, omega (arith, same, few_passed s p within few (omega arith)))

-- a point of a set and one that isn't in it differ
pub differ : (s u v : ℕ) → has s u ≡ false → has s v ≡ true → v ≤ u → v < u
differ s u v free here low = elim (cases_eq v u) [
  | inl e ↦ absurd (both_ways (has s u) free (ap (has s) (sym e) ∙ here))
  | inr d ↦ omega arith
]
