-- The next set of as many points in the order of ranks.
use Rattle.std.proofs.Common.{◌≡◌, ℕ, zero, suc, ◌+◌, ◌-◌, ◌^◌, ◌<◌, ◌≤◌, Bool, true, false, not, ◌&&◌, ◌||◌, ltb, eqb, List, [], ◌∷◌, ◌++◌, map, length, filter, get_or, refl, sym, ◌∙◌, ap, subst, inl, inr, ◌⊎◌, arith, zero-add}
use Rattle.std.proofs.lemmas.Bool.{cases_Bool, cases_eq, cases_lt, both_ways, eq-eqb, ne_eqb, lt-ltb, le-ltb, eqb-true, ltb-true, and_parts, and_right}
use Rattle.std.specs.List.{range_with_len, list_all}
use Rattle.morris_board.specs.Sets.{has, members, count_of, with_point}
use Rattle.morris_board.proofs.SetLaws.{point_lt, lt_from_points}
use Rattle.morris_board.proofs.PointsLaws.{members_all, has-none, has-with, has-above}
use Rattle.morris_index.specs.Binomials.{choose}
use Rattle.morris_board.specs.Positions.{Sides, sides}
use Rattle.morris_index.specs.Numbering.{rank_of, number_outside, half_index, IsRanked}
use Rattle.morris_index.specs.Pairs.{Counts, is_of, index_of}
use Rattle.morris_index.proofs.IndexLaws.{index-first, index-second}
use Rattle.morris_index.proofs.ChooseLaws.{choose-none, choose-zero, choose-suc}
use Rattle.morris_index.proofs.RankLaws.{passing, passing-yes, passing-no, passing-above, members-passing, count_below, count-none, count-yes, count-no, number-zero, number-outside, number-inside, rank_below, rank-yes, rank-no}
use Rattle.morris_index.proofs.Moving.{rank-zero}
use Rattle.morris_index.proofs.SetLaws.{or_false, count_of-below}

-- no set has more points than there are
pub choose-over : (n k : ℕ) → n < k → choose n k ≡ 0
choose-over n zero h = absurd (omega arith)
choose-over zero (suc k) h = choose-zero k
choose-over (suc n) (suc k) h = omega (arith, choose-suc n k, choose-over n (suc k) (omega arith), choose-over n k (omega arith))

-- ---- tests that agree below n, or from n on

pub passing-same : (f g : ℕ → Bool) (n : ℕ) → ((p : ℕ) → p < n → f p ≡ g p) → passing f n ≡ passing g n
passing-same f g zero same = refl
passing-same f g (suc n) same =
    let here : f n ≡ g n = same n (omega arith) in
    let rest : passing f n ≡ passing g n = passing-same f g n (λ p h. same p (omega arith)) in
    elim (cases_Bool (f n)) [
      | inl y ↦ passing-yes f n y ∙ (ap (λ (t : List ℕ). t ++ n ∷ []) rest ∙ sym (passing-yes g n (sym here ∙ y)))
      | inr y ↦ passing-no f n y ∙ (rest ∙ sym (passing-no g n (sym here ∙ y)))
    ]

pub count-same : (f g : ℕ → Bool) (n : ℕ) → ((p : ℕ) → p < n → f p ≡ g p) → count_below f n ≡ count_below g n
unfolding count_below
count-same f g n same = ap length (passing-same f g n same)

pub rank-same_below : (outside : ℕ) (f g : ℕ → Bool) (n : ℕ) → ((p : ℕ) → p < n → f p ≡ g p) → rank_below outside f n ≡ rank_below outside g n
unfolding rank_below
rank-same_below outside f g n same = ap (λ ps. rank_of (map (number_outside outside) ps)) (passing-same f g n same)

-- a difference of one stays where the tests agree from then on
module _ (outside : ℕ) (f g : ℕ → Bool) (a : ℕ) (same : (p : ℕ) → a ≤ p → g p ≡ f p)
    (counts : count_below g a ≡ count_below f a) (ranks : rank_below outside g a ≡ suc (rank_below outside f a)) where
  abbrev Lifted : ℕ → Type 0
  Lifted n = (count_below g n ≡ count_below f n) × (rank_below outside g n ≡ suc (rank_below outside f n))

  lifted_from : (k : ℕ) → Lifted (k + a)
  lifted_from zero = let e : 0 + a ≡ a = zero-add a in subst (λ n. Lifted n) (sym e) (counts, ranks)
  lifted_from (suc k) =
      let e : suc k + a ≡ suc (k + a) = omega arith in
      let before : Lifted (k + a) = lifted_from k in
      subst (λ n. Lifted n) (sym e) (elim (cases_Bool (f (k + a))) [
        | inl y ↦
            let y' : g (k + a) ≡ true = same (k + a) (omega arith) ∙ y in (
              omega (arith, count-yes f (k + a) y, count-yes g (k + a) y', before.0),
              omega (arith, rank-yes outside f (k + a) y, rank-yes outside g (k + a) y', before.1, ap (λ c. choose (number_outside outside (k + a)) (suc c)) (before.0)),
            )
        | inr y ↦
            let y' : g (k + a) ≡ false = same (k + a) (omega arith) ∙ y in (
              omega (arith, count-no f (k + a) y, count-no g (k + a) y', before.0),
              omega (arith, rank-no outside f (k + a) y, rank-no outside g (k + a) y', before.1),
            )
      ])

  pub lifted : (n : ℕ) → a ≤ n → (count_below g n ≡ count_below f n) × (rank_below outside g n ≡ suc (rank_below outside f n))
  lifted n low = let e : (n - a) + a ≡ n = omega arith in subst (λ m. Lifted m) e (lifted_from (n - a))

-- ---- from tests to sets

module _ (n outside : ℕ) (low : n ≤ 32) where
  pub rank_set : (s : ℕ) → s < 2 ^ n → rank_of (map (number_outside outside) (members s)) ≡ rank_below outside (has s) n
  unfolding rank_below
  rank_set s within = ap (λ ps. rank_of (map (number_outside outside) ps)) (members-passing s n within low)

  pub ranked_from : (count rank s : ℕ) → ((p : ℕ) → has s p ≡ true → p < n) → ((p : ℕ) → has s p ≡ true → has outside p ≡ false)
      → count_below (has s) n ≡ count → rank_below outside (has s) n ≡ rank → IsRanked n outside count rank s
  ranked_from count rank s below apart counted ranked =
      let within : s < 2 ^ n = lt_from_points s n below in
      record {
        within = within;
        apart = apart;
        counted = count_of-below s n within low ∙ counted;
        ranked = rank_set s within ∙ ranked;
      }

-- ---- the set of the least points

-- all points below k outside, and no other
pub record IsFull (outside k set : ℕ) : Type 0 where
  pub below : (p : ℕ) → has set p ≡ true → p < k
  pub apart : (p : ℕ) → has set p ≡ true → has outside p ≡ false
  pub counted : count_below (has set) k ≡ number_outside outside k
  pub ranked : rank_below outside (has set) k ≡ 0

module _ (outside : ℕ) where
  pub full-start : IsFull outside 0 0
  full-start = record {
    below = λ p h. absurd (both_ways (has 0 p) (has-none p) h);
    apart = λ p h. absurd (both_ways (has 0 p) (has-none p) h);
    counted = count-none (has 0) ∙ sym (number-zero outside);
    ranked = rank-zero outside (has 0);
  }

  module _ (k set : ℕ) (s : IsFull outside k set) where
    not_yet : (p : ℕ) → k ≤ p → has set p ≡ false
    not_yet p h = elim (cases_Bool (has set p)) [
      | inl y ↦ absurd (omega (arith, s.below p y))
      | inr y ↦ y
    ]

    pub full-inside : has outside k ≡ true → IsFull outside (suc k) set
    full-inside h = record {
      below = λ p y. omega (arith, s.below p y);
      apart = s.apart;
      counted = omega (arith, count-no (has set) k (not_yet k (omega arith)), number-inside outside k h, s.counted);
      ranked = rank-no outside (has set) k (not_yet k (omega arith)) ∙ s.ranked;
    }

    new : (q : ℕ) → has (with_point set k) q ≡ true → (has set q ≡ true) ⊎ (q ≡ k)
    new q h = elim (cases_Bool (has set q)) [
      | inl y ↦ inl y
      | inr y ↦ inr (eqb-true q k (sym (has-with set k q ∙ ap (λ b. b || eqb q k) y) ∙ h))
    ]

    old : (p : ℕ) → p < k → has (with_point set k) p ≡ has set p
    old p h = has-with set k p ∙ (ap (λ b. has set p || b) (ne_eqb p k (omega arith)) ∙ or_false (has set p))

    here : has (with_point set k) k ≡ true
    here = has-with set k k ∙ rw (not_yet k (omega arith), eq-eqb k k refl) refl

    pub full-more : has outside k ≡ false → IsFull outside (suc k) (with_point set k)
    full-more free = record {
      below = λ q h. elim (new q h) [ inl y ↦ omega (arith, s.below q y) | inr e ↦ omega (arith, e) ];
      apart = λ q h. elim (new q h) [ inl y ↦ s.apart q y | inr e ↦ rw e free ];
      counted =
          omega (arith, count-yes (has (with_point set k)) k here, count-same (has (with_point set k)) (has set) k old, number-outside outside k free, s.counted);
      ranked =
          let c : count_below (has (with_point set k)) k ≡ number_outside outside k = count-same (has (with_point set k)) (has set) k old ∙ s.counted in
          omega (
            arith,
            rank-yes outside (has (with_point set k)) k here,
            rank-same_below outside (has (with_point set k)) (has set) k old,
            s.ranked,
            ap (λ m. choose (number_outside outside k) (suc m)) c,
            choose-over (number_outside outside k) (suc (number_outside outside k)) (omega arith),
          );
    }

    passing-end : (n : ℕ) → k ≤ n → passing (has set) n ≡ passing (has set) k
    passing-end n h =
        let e : n ≡ (n - k) + k = omega arith in
        ap (passing (has set)) e ∙ passing-above (has set) k (n - k) not_yet

    pub full-end : (n : ℕ) → k ≤ n → n ≤ 32 → IsRanked n outside (number_outside outside k) 0 set
    unfolding count_below rank_below
    full-end n h low =
        ranked_from n outside low (number_outside outside k) 0 set (λ p y. omega (arith, s.below p y)) s.apart
        (ap length (passing-end n h) ∙ s.counted)
        (ap (λ ps. rank_of (map (number_outside outside) ps)) (passing-end n h) ∙ s.ranked)

-- ---- the next set

-- below k, the set is the last one of as many points
pub record IsLast (outside set k : ℕ) : Type 0 where
  pub ranked : suc (rank_below outside (has set) k) ≡ choose (number_outside outside k) (count_below (has set) k)
  pub fits : count_below (has set) k ≤ number_outside outside k

module _ (outside set : ℕ) where
  pub last-start : IsLast outside set 0
  last-start = record {
    ranked = omega (arith, rank-zero outside (has set), choose-none (number_outside outside 0), ap (choose (number_outside outside 0)) (count-none (has set)));
    fits = omega (arith, count-none (has set), number-zero outside);
  }

  module _ (k : ℕ) (s : IsLast outside set k) where
    pub last-has : has set k ≡ true → has outside k ≡ false → IsLast outside set (suc k)
    last-has y free = record {
      ranked =
          rw (number-outside outside k free, count-yes (has set) k y)
          (omega (arith, rank-yes outside (has set) k y, choose-suc (number_outside outside k) (count_below (has set) k), s.ranked));
      fits = omega (arith, count-yes (has set) k y, number-outside outside k free, s.fits);
    }

    pub last-inside : has set k ≡ false → has outside k ≡ true → IsLast outside set (suc k)
    last-inside no_ h = record {
      ranked = rw (number-inside outside k h, count-no (has set) k no_, rank-no outside (has set) k no_) s.ranked;
      fits = omega (arith, count-no (has set) k no_, number-inside outside k h, s.fits);
    }

    pub last-free : has set k ≡ false → has outside k ≡ false → count_below (has set) k ≡ 0 → IsLast outside set (suc k)
    last-free no_ free e = record {
      ranked =
          rw (number-outside outside k free, count-no (has set) k no_, rank-no outside (has set) k no_, e, choose-none)
          (omega (arith, s.ranked, ap (choose (number_outside outside k)) e, choose-none (number_outside outside k)));
      fits = omega (arith, count-no (has set) k no_, number-outside outside k free, s.fits);
    }

    -- the first point that isn't in the set after some that are: it comes in, those below it become
    -- the least ones, one fewer
    pub next_is : (n least new : ℕ) → n ≤ 32 → k < n → set < 2 ^ n → ((p : ℕ) → has set p ≡ true → has outside p ≡ false)
        → has set k ≡ false → has outside k ≡ false → 0 < count_below (has set) k
        → IsRanked k outside (count_below (has set) k - 1) 0 least
        → ((p : ℕ) → has new p ≡ ((has set p && not (ltb p k)) || eqb p k || has least p))
        → IsRanked n outside (count_of set) (suc (rank_of (map (number_outside outside) (members set)))) new
    next_is n least new low inside within apart no_ free some l is =
        ranked_from n outside low (count_of set) (suc (rank_of (map (number_outside outside) (members set)))) new new_below new_apart
        ((lifted outside (has set) (has new) (suc k) above counts ranks n (omega arith)).0 ∙ sym (count_of-below set n within low))
        ((lifted outside (has set) (has new) (suc k) above counts ranks n (omega arith)).1 ∙ ap suc (sym (rank_set n outside low set within)))
      where
        split : (a b c : Bool) → (a || b || c) ≡ true → (a ≡ true) ⊎ ((b ≡ true) ⊎ (c ≡ true))
        split true b c h = inl refl
        split false true c h = inr (inl refl)
        split false false c h = inr (inr h)

        new_parts : (p : ℕ) → has new p ≡ true → (has set p ≡ true) ⊎ ((p ≡ k) ⊎ (has least p ≡ true))
        new_parts p h = elim (split (has set p && not (ltb p k)) (eqb p k) (has least p) (sym (is p) ∙ h)) [
          | inl y ↦ inl (and_parts (has set p) (not (ltb p k)) y).0
          | inr (inl y) ↦ inr (inl (eqb-true p k y))
          | inr (inr y) ↦ inr (inr y)
        ]

        set_below : (p : ℕ) → has set p ≡ true → p < n
        set_below p y = point_lt set n p within y

        least_below : (p : ℕ) → has least p ≡ true → p < k
        least_below p y = point_lt least k p l.within y

        new_below : (p : ℕ) → has new p ≡ true → p < n
        new_below p h = elim (new_parts p h) [
          | inl y ↦ set_below p y
          | inr (inl e) ↦ omega (arith, e)
          | inr (inr y) ↦ omega (arith, least_below p y)
        ]

        new_apart : (p : ℕ) → has new p ≡ true → has outside p ≡ false
        new_apart p h = elim (new_parts p h) [
          | inl y ↦ apart p y
          | inr (inl e) ↦ rw e free
          | inr (inr y) ↦ l.apart p y
        ]

        and_true : (b : Bool) → (b && true) ≡ b
        and_true true = refl
        and_true false = refl

        or_true : (a : Bool) (c : Bool) → (a || true || c) ≡ true
        or_true true c = refl
        or_true false c = refl

        or_none : (a : Bool) → (a || false || false) ≡ a
        or_none true = refl
        or_none false = refl

        under : (p : ℕ) → p < k → has new p ≡ has least p
        under p h = is p ∙ rw (lt-ltb p k h, ne_eqb p k (omega arith), and_right (has set p) false refl) refl

        here : has new k ≡ true
        here = is k ∙ rw (eq-eqb k k refl) (or_true (has set k && not (ltb k k)) (has least k))

        above : (p : ℕ) → suc k ≤ p → has new p ≡ has set p
        above p h =
            is p ∙ rw (le-ltb p k (omega arith), ne_eqb p k (omega arith), has-above least k p l.within (omega arith), and_true (has set p)) (or_none (has set p))

        least_count : count_below (has least) k ≡ count_below (has set) k - 1
        least_count = sym (count_of-below least k l.within (omega arith)) ∙ l.counted

        least_rank : rank_below outside (has least) k ≡ 0
        least_rank = sym (rank_set k outside (omega arith) least l.within) ∙ l.ranked

        counts : count_below (has new) (suc k) ≡ count_below (has set) (suc k)
        counts = omega (arith, count-yes (has new) k here, count-same (has new) (has least) k under, least_count, count-no (has set) k no_)

        new_count : suc (count_below (has new) k) ≡ count_below (has set) k
        new_count = omega (arith, count-same (has new) (has least) k under, least_count)

        ranks : rank_below outside (has new) (suc k) ≡ suc (rank_below outside (has set) (suc k))
        ranks =
            omega (
              arith,
              rank-yes outside (has new) k here,
              rank-same_below outside (has new) (has least) k under,
              least_rank,
              ap (choose (number_outside outside k)) new_count,
              s.ranked,
              rank-no outside (has set) k no_,
            )

  pub last-end : (n : ℕ) → n ≤ 32 → set < 2 ^ n → IsLast outside set n
      → suc (rank_of (map (number_outside outside) (members set))) ≡ choose (number_outside outside n) (count_of set)
  last-end n low within s =
      ap suc (rank_set n outside low set within) ∙ (s.ranked ∙ ap (choose (number_outside outside n)) (sym (count_of-below set n within low)))

-- ---- the first point past the run that begins with the set's first

filter_first : (f : ℕ → Bool) (a n p : ℕ) (rest : List ℕ) → filter f (range_with_len a n) ≡ p ∷ rest → (k : ℕ) → a ≤ k → k < p → f k ≡ false
filter_first f a zero p rest e k low high = let long = ap length e in absurd (omega (arith, long))
filter_first f a (suc n) p rest e k low high = elim (cases_Bool (f a)) [
  | inl y ↦ let head : a ≡ p = ap (λ (xs : List ℕ). get_or xs 0 0) (rw y at e) in absurd (omega (arith, head))
  | inr y ↦ elim (cases_eq k a) [
    | inl same ↦ rw same y
    | inr d ↦ filter_first f (a + 1) n p rest (rw y at e) k (omega arith) high
  ]
]

-- no point of a set is below its first, and one without members has no point
pub none_before : (s p : ℕ) (rest : List ℕ) → members s ≡ p ∷ rest → (k : ℕ) → k < p → has s k ≡ false
unfolding members
none_before s p rest e k h = filter_first (has s) 0 32 p rest e k (omega arith) h

pub none_at_all : (s : ℕ) → members s ≡ [] → (k : ℕ) → k < 32 → has s k ≡ false
none_at_all s e k h = elim (cases_Bool (has s k)) [
  | inl y ↦ absurd (both_ways false refl (members_all s (λ (_ : ℕ). false) (ap (list_all (λ (_ : ℕ). false)) e) k h y))
  | inr y ↦ y
]

count-zero : (f : ℕ → Bool) (n : ℕ) → ((k : ℕ) → k < n → f k ≡ false) → count_below f n ≡ 0
count-zero f zero none = count-none f
count-zero f (suc n) none = count-no f n (none n (omega arith)) ∙ count-zero f n (λ k h. none k (omega arith))

count-some : (f : ℕ → Bool) (p : ℕ) → f p ≡ true → (n : ℕ) → p < n → 0 < count_below f n
count-some f p y zero h = absurd (omega arith)
count-some f p y (suc n) h = elim (cases_Bool (f n)) [
  | inl z ↦ omega (arith, count-yes f n z)
  | inr z ↦ elim (cases_eq p n) [
    | inl e ↦ absurd (both_ways (f n) z (rw e at y))
    | inr d ↦ omega (arith, count-no f n z, count-some f p y n (omega arith))
  ]
]

module _ (outside set : ℕ) (apart : (p : ℕ) → has set p ≡ true → has outside p ≡ false) where
  -- below a point under which each free point lies below the whole set
  all_last : (k : ℕ) → ((p : ℕ) → p < k → has set p ≡ false → has outside p ≡ false → count_below (has set) p ≡ 0) → IsLast outside set k
  all_last zero none = last-start outside set
  all_last (suc k) none =
      let s : IsLast outside set k = all_last k (λ p h. none p (omega arith)) in
      elim (cases_Bool (has set k)) [
        | inl y ↦ last-has outside set k s y (apart k y)
        | inr y ↦ elim (cases_Bool (has outside k)) [
          | inl z ↦ last-inside outside set k s y z
          | inr z ↦ last-free outside set k s y z (none k (omega arith) y z)
        ]
      ]

  module _ (points first open_ : ℕ) (here : has set first ≡ true) (before : (k : ℕ) → k < first → has set k ≡ false)
      (is : (p : ℕ) → has open_ p ≡ (((ltb p points && not (ltb p first)) && not (has set p)) && not (has outside p))) where
    open_at : (p : ℕ) → p < points → first ≤ p → has set p ≡ false → has outside p ≡ false → has open_ p ≡ true
    open_at p low high no_ free = is p ∙ rw (lt-ltb p points low, le-ltb p first high, no_, free) refl

    pub last_below : (k : ℕ) → k ≤ points → ((p : ℕ) → p < k → has open_ p ≡ false) → IsLast outside set k
    last_below k within none = all_last k (λ p h no_ free. elim (cases_lt p first) [
      | inl l ↦ count-zero (has set) p (λ q low. before q (omega arith))
      | inr g ↦ absurd (both_ways (has open_ p) (none p h) (open_at p (omega arith) g no_ free))
    ])

    -- a point of them
    pub record IsOpen (k : ℕ) : Type 0 where
      pub inside : k < points
      pub no_ : has set k ≡ false
      pub free : has outside k ≡ false
      pub some : 0 < count_below (has set) k

    pub open_is : (k : ℕ) → has open_ k ≡ true → IsOpen k
    open_is k h =
        let a = and_parts _ _ (sym (is k) ∙ h) in
        let b = and_parts _ _ a.0 in
        let d = and_parts _ _ b.0 in
        let no_ : has set k ≡ false = not_true (has set k) b.1 in
        record {
          inside = ltb-true k points d.0;
          no_ = no_;
          free = not_true (has outside k) a.1;
          some = count-some (has set) first here k (elim (cases_lt first k) [
            | inl l ↦ l
            | inr g ↦ elim (cases_eq first k) [
              | inl e ↦ absurd (both_ways (has set k) no_ (rw e at here))
              | inr n ↦ absurd (both_ways (ltb k first) (not_true (ltb k first) d.1) (lt-ltb k first (omega arith)))
            ]
          ]);
        }
      where
        not_true : (b : Bool) → not b ≡ true → b ≡ false
        not_true true h = sym h
        not_true false h = refl

-- where the other's points are followed, the index grows by one
pub next_index : (n own other next : ℕ) → IsRanked n own (count_of other) (suc (rank_of (map (number_outside own) (members other)))) next
    → half_index n (sides own next) ≡ half_index n (sides own other) + 1
unfolding half_index
next_index n own other next r = rw (r.counted, r.ranked) (omega arith)

pub next_in_pair : (n : ℕ) (c : Counts) (s t : Sides) → t.own ≡ s.own → half_index n t ≡ half_index n s + 1 → index_of n c t ≡ index_of n c s + 1
next_in_pair n c s t own e = elim (cases_eq (count_of s.own) c.greater) [
  | inl y ↦ omega (arith, index-first n c s y, index-first n c t (ap count_of own ∙ y))
  | inr d ↦ omega (arith, index-second n c s d, index-second n c t (λ z. d (sym (ap count_of own) ∙ z)))
]

pub next_is_of : (c : Counts) (s t : Sides) → t.own ≡ s.own → count_of t.other ≡ count_of s.other → is_of c s ≡ true → is_of c t ≡ true
next_is_of c s t own other h = rw (own, other) h
