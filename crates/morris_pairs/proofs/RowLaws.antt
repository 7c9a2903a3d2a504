-- The quiet moves of a position, from the row of its own stones.
use Rattle.std.proofs.Common.{◌≡◌, ℕ, zero, suc, ◌+◌, ◌^◌, ◌<◌, ◌≤◌, true, false, Bool, not, ◌&&◌, ◌||◌, cond, ltb, eqb, List, [], ◌∷◌, ◌++◌, length, filter, slice_index, slice_set, refl, sym, ap, ap₂, subst, ◌∙◌, inl, inr, arith, length-append}
use Rattle.std.proofs.lemmas.Bool.{cases_Bool, cases_eq, cases_lt, both_ways, lt-ltb, le-ltb, eq-eqb, eqb-true, ne_eqb, not-true}
use Rattle.std.proofs.lemmas.Grind.{get_or-set_at}
use Rattle.std.proofs.lemmas.List.{get_or-set_other}
use Rattle.std.proofs.lemmas.List.Elements.{filter-append}
use Rattle.std.proofs.lemmas.List.Folds.{list_any-append}
use Rattle.std.specs.List.{flat_map, sum_by, list_any}
use Rattle.std.proofs.lemmas.List.Sums.{sum_by-append}
use Rattle.morris_board.specs.Sets.{has, members, count_of, with_point}
use Rattle.morris_board.specs.Boards.{Shape}
use Rattle.morris_board.specs.Positions.{Sides, IsPosition}
use Rattle.morris_board.proofs.PointsLaws.{same_test, has-set_where, has-none, has-with, count_of-le}
use Rattle.morris_board.proofs.SetLaws.{point_lt}
use Rattle.morris_moves.specs.Rules.{closes, goes, reach, is_vacant, may_go, moves_from, moves_of}
use Rattle.morris_moves.proofs.ListLaws.{any_contained, contained_any}
use Rattle.morris_moves.proofs.MaskLaws.{reach-lt}
use Rattle.morris_moves.proofs.SetLaws.{has-member, member-has}
use Rattle.morris_index.proofs.RankLaws.{passing, passing-yes, passing-no, members-passing}
use Rattle.morris_index.proofs.Moving.{total, total-zero, total-suc}
use Rattle.morris_wave.specs.declared.graph.Exits.{Exits}
use Rattle.morris_wave.specs.Exits.{no_exits}
use Rattle.morris_wave.specs.Solving.{exits_at}
use Rattle.morris_pairs.specs.PairNets.{is_quiet}
use Rattle.morris_pairs.specs.Rows.{arrivals, may_close}
use Rattle.morris_pairs.proofs.QuietLaws.{quiet_among, quiet_more, quiet_all, quiet_of, quiet_of_all}

-- ---- sums over the points below n

pub total-same : (t s : ℕ → ℕ) (n : ℕ) → ((p : ℕ) → p < n → t p ≡ s p) → total t n ≡ total s n
total-same t s zero same = total-zero t ∙ sym (total-zero s)
total-same t s (suc n) same =
    omega (arith, total-suc t n, total-suc s n, total-same t s n (λ p h. same p (omega arith)), same n (omega arith))

pub total-add : (t s : ℕ → ℕ) (n : ℕ) → total t n + total s n ≡ total (λ p. t p + s p) n
total-add t s zero = omega (arith, total-zero t, total-zero s, total-zero (λ p. t p + s p))
total-add t s (suc n) = omega (arith, total-suc t n, total-suc s n, total-suc (λ p. t p + s p) n, total-add t s n)

pub total-none : (n : ℕ) → total (λ p. 0) n ≡ 0
total-none zero = total-zero (λ p. 0)
total-none (suc n) = omega (arith, total-suc (λ p. 0) n, total-none n)

-- a sum over those that pass a test
abbrev pub where_ : (ℕ → Bool) → (ℕ → ℕ) → ℕ → ℕ
where_ f t p = cond (f p) (t p) 0

pub sum-passing : (f : ℕ → Bool) (t : ℕ → ℕ) (n : ℕ) → sum_by t (passing f n) ≡ total (where_ f t) n
sum-passing f t zero = sym (total-zero (where_ f t))
sum-passing f t (suc n) = elim (cases_Bool (f n)) [
  | inl y ↦
      omega (
        arith,
        ap (sum_by t) (passing-yes f n y),
        sum_by-append t (passing f n) (n ∷ []),
        sum-passing f t n,
        total-suc (where_ f t) n,
        ap (λ b. cond b (t n) 0) y,
      )
  | inr y ↦
      omega (arith, ap (sum_by t) (passing-no f n y), sum-passing f t n, total-suc (where_ f t) n, ap (λ b. cond b (t n) 0) y)
]

module _ (b : Shape) (s : Sides) where
  -- ---- the quiet moves of one stone

  abbrev open_ : ℕ → ℕ → ℕ
  open_ u v = cond (closes b s.own u v) 0 1

  quiet_passing : (u : ℕ) (f : ℕ → Bool) (n : ℕ) → quiet_among b s u (passing f n) ≡ total (where_ f (open_ u)) n
  quiet_passing u f zero = sym (total-zero (where_ f (open_ u)))
  quiet_passing u f (suc n) = elim (cases_Bool (f n)) [
    | inl y ↦
        omega (
          arith,
          ap (quiet_among b s u) (passing-yes f n y),
          quiet_more b s u n (passing f n),
          quiet_passing u f n,
          total-suc (where_ f (open_ u)) n,
          ap (λ c. cond c (open_ u n) 0) y,
        )
    | inr y ↦
        omega (arith, ap (quiet_among b s u) (passing-no f n y), quiet_passing u f n, total-suc (where_ f (open_ u)) n, ap (λ c. cond c (open_ u n) 0) y)
  ]

  module _ (n : ℕ) (points : b.points ≡ n) (low : n ≤ 32) where
    from_stone : (u : ℕ) → length (filter is_quiet (moves_from b s u)) ≡ total (where_ (has (reach b s u)) (open_ u)) n
    from_stone u =
        sym (quiet_all b s u)
        ∙ (ap (quiet_among b s u) (members-passing (reach b s u) n (reach-lt b n points s u (reach b s u) refl) low) ∙ quiet_passing u (has (reach b s u)) n)

    -- ---- the quiet moves of several stones, point by point

    abbrev arriving : List ℕ → ℕ → ℕ
    arriving [] v = 0
    arriving (u ∷ us) v = where_ (has (reach b s u)) (open_ u) v + arriving us v

    from_stones : (us : List ℕ) → quiet_of b s us ≡ total (arriving us) n
    from_stones [] = sym (total-none n)
    from_stones (u ∷ us) =
        ap length (filter-append is_quiet (moves_from b s u) (flat_map (moves_from b s) us))
        ∙ (length-append (filter is_quiet (moves_from b s u)) (filter is_quiet (flat_map (moves_from b s) us))
        ∙ (ap₂ (λ x y. x + y) (from_stone u) (from_stones us) ∙ total-add (where_ (has (reach b s u)) (open_ u)) (arriving us) n))

    abbrev comes : ℕ → ℕ → Bool
    comes v u = goes b (count_of s.own) u v && not (closes b s.own u v)

    pub has_reach : (u v : ℕ) → v < n → has (reach b s u) v ≡ (is_vacant s v && goes b (count_of s.own) u v)
    unfolding reach may_go
    has_reach u v h = has-set_where b.points (may_go b s u) v ∙ ap (λ x. x && may_go b s u v) (lt-ltb v b.points (omega (arith, points)))

    one_more : (c : Bool) (k : Bool) → cond (true && c) (cond k 0 1) 0 ≡ cond {A = ℕ} (c && not k) 1 0
    one_more true true = refl
    one_more true false = refl
    one_more false k = refl

    one_longer : (x : Bool) (u : ℕ) (us : List ℕ) → cond {A = ℕ} x 1 0 + length us ≡ length (cond x (u ∷ us) us)
    one_longer true u us = omega arith
    one_longer false u us = omega arith

    at_vacant : (v : ℕ) → v < n → is_vacant s v ≡ true → (us : List ℕ) → arriving us v ≡ length (filter (comes v) us)
    at_vacant v h free [] = refl
    at_vacant v h free (u ∷ us) =
        let here : where_ (has (reach b s u)) (open_ u) v ≡ cond {A = ℕ} (comes v u) 1 0 =
        ap (λ x. cond x (open_ u v) 0) (has_reach u v h ∙ ap (λ x. x && goes b (count_of s.own) u v) free) ∙ one_more (goes b (count_of s.own) u v) (closes b s.own u v) in
        ap₂ (λ x y. x + y) here (at_vacant v h free us) ∙ one_longer (comes v u) u (filter (comes v) us)

    at_taken : (v : ℕ) → v < n → is_vacant s v ≡ false → (us : List ℕ) → arriving us v ≡ 0
    at_taken v h taken [] = refl
    at_taken v h taken (u ∷ us) =
        let here : where_ (has (reach b s u)) (open_ u) v ≡ 0 =
        ap (λ x. cond x (open_ u v) 0) (has_reach u v h ∙ ap (λ x. x && goes b (count_of s.own) u v) taken) in
        omega (arith, here, at_taken v h taken us)

    -- ---- all of them, and those to where the other stands

    module _ (lawful : IsPosition b s) where
      at_point : (v : ℕ) → v < n → arriving (members s.own) v + where_ (has s.other) (arrivals b s.own) v ≡ arrivals b s.own v
      unfolding arrivals
      at_point v h = elim (cases_Bool (has s.own v)) [
        | inl y ↦
            let taken : is_vacant s v ≡ false = rw y refl in
            rw (at_taken v h taken (members s.own), lawful.stones.apart v y, y) refl
        | inr y ↦ elim (cases_Bool (has s.other v)) [
          | inl z ↦
              let taken : is_vacant s v ≡ false = rw (y, z) refl in
              rw (at_taken v h taken (members s.own), z) (omega arith)
          | inr z ↦
              let free : is_vacant s v ≡ true = rw (y, z) refl in
              rw (at_vacant v h free (members s.own), z, y) (omega arith)
        ]
      ]

      pub quiet_by_row : length (filter is_quiet (moves_of b s)) + sum_by (arrivals b s.own) (members s.other) ≡ total (arrivals b s.own) n
      quiet_by_row =
          let other : sum_by (arrivals b s.own) (members s.other) ≡ total (where_ (has s.other) (arrivals b s.own)) n =
          ap (sum_by (arrivals b s.own)) (members-passing s.other n (rw (← points) lawful.stones.other_within) low) ∙ sum-passing (has s.other) (arrivals b s.own) n in
          ap₂ (λ x y. x + y) (sym (quiet_of_all b s) ∙ from_stones (members s.own)) other
          ∙ (total-add (arriving (members s.own)) (where_ (has s.other) (arrivals b s.own)) n
          ∙ total-same (λ v. arriving (members s.own) v + where_ (has s.other) (arrivals b s.own) v) (arrivals b s.own) n at_point)

-- ---- what stays true in the loops

module _ (b : Shape) (own : ℕ) where
  pub arrivals-own : (v : ℕ) → has own v ≡ true → arrivals b own v ≡ 0
  unfolding arrivals
  arrivals-own v y = rw y refl

  abbrev pub coming : ℕ → List ℕ → ℕ
  coming v us = length (filter (λ u. goes b (count_of own) u v && not (closes b own u v)) us)

  pub arrivals-all : (v : ℕ) → has own v ≡ false → arrivals b own v ≡ coming v (members own)
  unfolding arrivals
  arrivals-all v y = rw y refl

  coming-few : (v : ℕ) (us : List ℕ) → coming v us ≤ length us
  coming-few v [] = omega arith
  coming-few v (u ∷ us) = elim (cases_Bool (goes b (count_of own) u v && not (closes b own u v))) [
    | inl y ↦ rw y (omega (arith, coming-few v us))
    | inr y ↦ rw y (omega (arith, coming-few v us))
  ]

  -- no more than there are stones
  pub arrivals-most : (v : ℕ) → arrivals b own v ≤ count_of own
  unfolding count_of
  arrivals-most v = elim (cases_Bool (has own v)) [
    | inl y ↦ omega (arith, arrivals-own v y)
    | inr y ↦ omega (arith, arrivals-all v y, coming-few v (members own))
  ]

  pub arrivals-few : (v : ℕ) → arrivals b own v ≤ 32
  arrivals-few v = omega (arith, arrivals-most v, count_of-le own)

  abbrev pub closing_among : ℕ → List ℕ → Bool
  closing_among v us = list_any (λ u. goes b (count_of own) u v && closes b own u v) us

  pub may_close-all : (v : ℕ) → has own v ≡ false → closing_among v (members own) ≡ may_close b own v
  unfolding may_close
  may_close-all v y = rw y refl

-- an array whose entries are those of a function, one more at a time
pub each_more : (f : ℕ → ℕ) (cache : List ℕ) (k x : ℕ) → k < length cache → x ≡ f k → ((v : ℕ) → v < k → slice_index cache v ≡ f v)
    → (v : ℕ) → v < k + 1 → slice_index (slice_set cache k x) v ≡ f v
each_more f cache k x inside is before v h = elim (cases_eq v k) [
  | inl e ↦ get_or-set_at cache k v x 0 e inside ∙ (is ∙ ap f (sym e))
  | inr d ↦ get_or-set_other cache k v x 0 d ∙ before v (omega arith)
]

-- a set of the points that pass a test, one more at a time
or_false : (x : Bool) → (x || false) ≡ x
or_false true = refl
or_false false = refl

or_true : (x : Bool) → (x || true) ≡ true
or_true true = refl
or_true false = refl

and_false : (x : Bool) → (x && false) ≡ false
and_false true = refl
and_false false = refl

module _ (test : ℕ → Bool) where
  abbrev pub AreBelow : ℕ → ℕ → Type 0
  AreBelow set k = (v : ℕ) → has set v ≡ (ltb v k && test v)

  pub below-start : AreBelow 0 0
  below-start v = has-none v ∙ sym (ap (λ x. x && test v) (le-ltb v 0 (omega arith)))

  same_ltb : (v k : ℕ) → (v ≡ k → ⊥) → ltb v (k + 1) ≡ ltb v k
  same_ltb v k d = elim (cases_lt v k) [
    | inl l ↦ lt-ltb v (k + 1) (omega arith) ∙ sym (lt-ltb v k l)
    | inr g ↦ le-ltb v (k + 1) (omega arith) ∙ sym (le-ltb v k g)
  ]

  pub below-yes : (set k : ℕ) → AreBelow set k → test k ≡ true → AreBelow (with_point set k) (k + 1)
  below-yes set k before y v = elim (cases_eq v k) [
    | inl e ↦
        rw e (has-with set k k ∙ (ap (λ x. has set k || x) (eq-eqb k k refl) ∙ (or_true (has set k)
        ∙ sym (ap (λ x. x && test k) (lt-ltb k (k + 1) (omega arith)) ∙ y))))
    | inr d ↦
        has-with set k v ∙ (ap (λ x. has set v || x) (ne_eqb v k d) ∙ (or_false (has set v)
        ∙ (before v ∙ ap (λ x. x && test v) (sym (same_ltb v k d)))))
  ]

  pub below-no : (set k : ℕ) → AreBelow set k → test k ≡ false → AreBelow set (k + 1)
  below-no set k before y v = elim (cases_eq v k) [
    | inl e ↦
        rw e (before k ∙ (ap (λ x. x && test k) (le-ltb k k (omega arith)) ∙ sym (ap (λ x. ltb k (k + 1) && x) y ∙ and_false (ltb k (k + 1)))))
    | inr d ↦ before v ∙ ap (λ x. x && test v) (sym (same_ltb v k d))
  ]

-- ---- the points of a list that pass a test, one after another

module _ (test : ℕ → Bool) where
  abbrev pub AreSoFar : ℕ → List ℕ → Type 0
  AreSoFar set vs = (v : ℕ) → has set v ≡ (list_any (eqb v) vs && test v)

  pub so_far-none : AreSoFar 0 []
  so_far-none v = has-none v

  any-more : (v : ℕ) (vs : List ℕ) (k : ℕ) → list_any (eqb v) (vs ++ k ∷ []) ≡ (list_any (eqb v) vs || eqb v k)
  any-more v vs k = list_any-append (eqb v) vs (k ∷ []) ∙ ap (λ b. list_any (eqb v) vs || b) (or_false (eqb v k))

  any-same : (v : ℕ) (vs : List ℕ) (k : ℕ) → (v ≡ k → ⊥) → list_any (eqb v) (vs ++ k ∷ []) ≡ list_any (eqb v) vs
  any-same v vs k d = any-more v vs k ∙ ap (λ x. list_any (eqb v) vs || x) (ne_eqb v k d) ∙ or_false (list_any (eqb v) vs)

  pub so_far-yes : (set k : ℕ) (vs : List ℕ) → AreSoFar set vs → test k ≡ true → AreSoFar (with_point set k) (vs ++ k ∷ [])
  so_far-yes set k vs before y v = elim (cases_eq v k) [
    | inl e ↦
        has-with set k v ∙ ap (λ x. has set v || x) (eq-eqb v k e) ∙ or_true (has set v)
        ∙ sym (ap₂ (λ a b. a && b) (any-more v vs k ∙ ap (λ x. list_any (eqb v) vs || x) (eq-eqb v k e) ∙ or_true (list_any (eqb v) vs)) (ap test e ∙ y))
    | inr d ↦
        has-with set k v ∙ ap (λ x. has set v || x) (ne_eqb v k d) ∙ or_false (has set v) ∙ before v
        ∙ ap (λ x. x && test v) (sym (any-same v vs k d))
  ]

  pub so_far-no : (set k : ℕ) (vs : List ℕ) → AreSoFar set vs → test k ≡ false → AreSoFar set (vs ++ k ∷ [])
  so_far-no set k vs before y v = elim (cases_eq v k) [
    | inl e ↦
        before v ∙ ap (λ x. list_any (eqb v) vs && x) (ap test e ∙ y) ∙ and_false (list_any (eqb v) vs)
        ∙ sym (ap (λ x. list_any (eqb v) (vs ++ k ∷ []) && x) (ap test e ∙ y) ∙ and_false (list_any (eqb v) (vs ++ k ∷ [])))
    | inr d ↦ before v ∙ ap (λ x. x && test v) (sym (any-same v vs k d))
  ]

-- the list of a set has its points
pub listed_has : (s v : ℕ) → s < 2 ^ 32 → list_any (eqb v) (members s) ≡ has s v
listed_has s v small = same_test (list_any (eqb v) (members s)) (has s v)
    (λ h. let one = any_contained (eqb v) (members s) h in subst (λ x. has s x ≡ true) (sym (eqb-true v one.0 one.2)) (has-member s one.0 one.1))
    (λ h. contained_any (eqb v) (members s) v (member-has s v (point_lt s 32 v small h) h) (eq-eqb v v refl))

-- the vacant points at which a mill is closed are those that are closed and not the opponent's
vacant_ends : (p q x a : Bool) → ((p && not (q || x)) && (not q && a)) ≡ ((p && (not q && a)) && not x)
vacant_ends false q x a = refl
vacant_ends true true x a = refl
vacant_ends true false true true = refl
vacant_ends true false true false = refl
vacant_ends true false false true = refl
vacant_ends true false false false = refl

pub closing_there : (b : Shape) (n : ℕ) (s : Sides) (v : ℕ)
    → ((ltb v n && is_vacant s v) && may_close b s.own v) ≡ ((ltb v n && may_close b s.own v) && not (has s.other v))
unfolding may_close
closing_there b n s v =
    vacant_ends (ltb v n) (has s.own v) (has s.other v) (list_any (λ u. goes b (count_of s.own) u v && closes b s.own u v) (members s.own))

-- ---- masks that are empty or not

pub some_mask : (s : ℕ) → not (eqb s 0) ≡ true → 0 < s
some_mask s h = elim (cases_eq s 0) [
  | inl e ↦ absurd (both_ways (eqb s 0) (not-true (eqb s 0) h) (eq-eqb s 0 e))
  | inr d ↦ omega arith
]

pub no_mask : (s : ℕ) → not (eqb s 0) ≡ false → s ≡ 0
no_mask s h = elim (cases_eq s 0) [
  | inl e ↦ e
  | inr d ↦ absurd (both_ways (not (eqb s 0)) h (ap not (ne_eqb s 0 d)))
]

pub exits_more : (f : ℕ → Exits) (cache : List Exits) (k : ℕ) (x : Exits) → k < length cache → x ≡ f k → ((v : ℕ) → v < k → exits_at cache v ≡ f v)
    → (v : ℕ) → v < k + 1 → exits_at (slice_set cache k x) v ≡ f v
exits_more f cache k x inside is before v h = elim (cases_eq v k) [
  | inl e ↦ get_or-set_at cache k v x no_exits e inside ∙ (is ∙ ap f (sym e))
  | inr d ↦ get_or-set_other cache k v x no_exits d ∙ before v (omega arith)
]
