-- The stones that may come to a point, by masks.
use Rattle.std.proofs.Common.{◌≡◌, ℕ, ◌+◌, ◌<◌, ◌^◌, take, drop, Bool, true, false, not, ◌&&◌, ◌||◌, ltb, eqb, List, [], ◌∷◌, filter, slice_index, slice_set, length, refl, sym, ap, ap₂, subst, ◌∙◌, inl, inr, arith}
use Rattle.std.proofs.Math.Bool.{or-true}
use Rattle.std.proofs.lemmas.Bool.{cases_Bool, cases_eq, both_ways, lt-ltb, eqb-true, eqb-false, eq-eqb, ne_eqb, and_parts, and_from, not-true, false_from_ne_true}
use Rattle.std.proofs.lemmas.Grind.{get_or-set_at}
use Rattle.std.proofs.lemmas.List.{get_or-set_other}
use Rattle.std.proofs.lemmas.List.Folds.{list_any_more}
use Rattle.std.specs.List.{range_with_len, list_any, list_all}
use Rattle.morris_board.specs.Sets.{has, members, count_of, with_point, without_point, is_subset}
use Rattle.morris_board.specs.Boards.{Shape, is_adjacent, adjacent, mills_of, mills_through}
use Rattle.morris_board.proofs.PointsLaws.{same_test, same_points, has-none, has-with, has-without, has-set_where, within_each, each_within, has-below, members-first, members-none, first_is}
use Rattle.morris_board.proofs.SetLaws.{point_lt, is_adjacent-back}
use Rattle.morris_moves.specs.Rules.{in_mill, move_stone, closes, goes}
use Rattle.morris_moves.proofs.MaskLaws.{in_mill-lines}
use Rattle.morris_moves.proofs.ListLaws.{any_contained, contained_any}
use Rattle.morris_moves.proofs.SetLaws.{has-member, member-has}
use Rattle.morris_pairs.specs.Rows.{arrivals, may_close, is_closing_end, is_quiet_end}

-- ---- lists

-- those of a list that pass two tests
filter_both : (f g h : ℕ → Bool) → ((v : ℕ) → h v ≡ (f v && g v)) → (xs : List ℕ) → filter h xs ≡ filter g (filter f xs)
filter_both f g h same [] = refl
filter_both f g h same (x ∷ xs) = elim (cases_Bool (f x)) [
  | inl y ↦ elim (cases_Bool (g x)) [
    | inl z ↦ let w : h x ≡ true = same x ∙ ap₂ (λ a b. a && b) y z in rw (w, y, z) (ap (λ ys. x ∷ ys) (filter_both f g h same xs))
    | inr z ↦ let w : h x ≡ false = same x ∙ ap₂ (λ a b. a && b) y z in rw (w, y, z) (filter_both f g h same xs)
  ]
  | inr y ↦ let w : h x ≡ false = same x ∙ ap (λ a. a && g x) y in rw (w, y) (filter_both f g h same xs)
]

-- the points of a set that pass a test
pub members_filter : (s r : ℕ) (g : ℕ → Bool) → ((v : ℕ) → has s v ≡ (has r v && g v)) → members s ≡ filter g (members r)
unfolding members
members_filter s r g same = filter_both (has r) g (has s) same (range_with_len 0 32)

-- an array that holds what is to hold of each entry, one more at a time
pub holds_more : (P : ℕ → ℕ → Type 0) (cache : List ℕ) (k x : ℕ) → k < length cache → P k x → ((v : ℕ) → v < k → P v (slice_index cache v))
    → (v : ℕ) → v < k + 1 → P v (slice_index (slice_set cache k x) v)
holds_more P cache k x inside is before v h = elim (cases_eq v k) [
  | inl e ↦ subst (λ y. P v y) (sym (get_or-set_at cache k v x 0 e inside)) (subst (λ w. P w x) (sym e) is)
  | inr d ↦ subst (λ y. P v y) (sym (get_or-set_other cache k v x 0 d)) (before v (omega arith))
]

-- ---- the stones that fill a mill

module _ (own v : ℕ) where
  has-moved : (u p : ℕ) → has (move_stone own u v) p ≡ ((not (eqb p u) && has own p) || eqb p v)
  unfolding move_stone
  has-moved u p = has-with (without_point own u) v p ∙ ap (λ x. x || eqb p v) (has-without own u p)

  module _ (free : has own v ≡ false) where
    not_there : (u : ℕ) → has own u ≡ true → eqb u v ≡ false
    not_there u y = false_from_ne_true (eqb u v) (λ e. both_ways (has own v) free (ap (has own) (sym (eqb-true u v e)) ∙ y))

    fill : (mill : ℕ) → mill < 2 ^ 32 → (u : ℕ) → has own u ≡ true
        → is_subset mill (move_stone own u v) ≡ (is_subset mill (with_point own v) && not (has mill u))
    fill mill small u y = same_test _ _
        (λ h. and_from _ _
        (each_within mill (with_point own v) (λ p here. has-with own v p ∙ weaker (not (eqb p u)) (has own p) (eqb p v) (sym (has-moved u p) ∙ within_each mill (move_stone own u v) small h p here)))
        (ap not (false_from_ne_true (has mill u) (λ here.
        both_ways (has (move_stone own u v) u) (has-moved u u ∙ rw (eq-same u, not_there u y) refl) (within_each mill (move_stone own u v) small h u here)))))
        (λ h. let parts = and_parts (is_subset mill (with_point own v)) (not (has mill u)) h in
        each_within mill (move_stone own u v) (λ p here.
        has-moved u p ∙ rw (other mill u p (not-true (has mill u) parts.1) here) (sym (has-with own v p) ∙ within_each mill (with_point own v) small parts.0 p here)))
      where
        weaker : (x y z : Bool) → ((x && y) || z) ≡ true → (y || z) ≡ true
        weaker true y z h = h
        weaker false true z h = refl
        weaker false false z h = h

        eq-same : (u : ℕ) → eqb u u ≡ true
        eq-same u = grind arith

        other : (mill u p : ℕ) → has mill u ≡ false → has mill p ≡ true → eqb p u ≡ false
        other mill u p none here = false_from_ne_true (eqb p u) (λ e. both_ways (has mill u) none (ap (has mill) (sym (eqb-true p u e)) ∙ here))

    pub fillers-some : (mill : ℕ) → mill < 2 ^ 32 → is_subset mill (with_point own v) ≡ true → (u : ℕ)
        → (has own u && not (has mill u)) ≡ (has own u && is_subset mill (move_stone own u v))
    fillers-some mill small full u = elim (cases_Bool (has own u)) [
      | inl y ↦ rw (y, fill mill small u y, full) refl
      | inr z ↦ rw z refl
    ]

    pub fillers-none : (mill : ℕ) → mill < 2 ^ 32 → is_subset mill (with_point own v) ≡ false → (u : ℕ)
        → has 0 u ≡ (has own u && is_subset mill (move_stone own u v))
    fillers-none mill small full u = has-none u ∙ elim (cases_Bool (has own u)) [
      | inl y ↦ rw (y, fill mill small u y, full) refl
      | inr z ↦ rw z refl
    ]

module _ (b : Shape) (own v : ℕ) where
  -- ---- where stones may come from

  module _ (n : ℕ) (points : b.points ≡ n) (within : own < 2 ^ n) where
    pub comers-slide : ltb 3 (count_of own) ≡ true → (u : ℕ) → (has own u && has (adjacent b v) u) ≡ (has own u && goes b (count_of own) u v)
    unfolding adjacent
    comers-slide many u = elim (cases_Bool (has own u)) [
      | inl y ↦
          let low : u < b.points = omega (arith, points, point_lt own n u within y) in
          rw (y, many) (has-set_where b.points (is_adjacent b v) u ∙ (ap (λ x. x && is_adjacent b v u) (lt-ltb u b.points low) ∙ is_adjacent-back b v u))
      | inr z ↦ rw z refl
    ]

  and_true : (x : Bool) → x ≡ (x && true)
  and_true true = refl
  and_true false = refl

  and_false : (x : Bool) → false ≡ (x && false)
  and_false true = refl
  and_false false = refl

  pub comers-jump : ltb 3 (count_of own) ≡ false → eqb (count_of own) 3 ≡ true → (u : ℕ) → has own u ≡ (has own u && goes b (count_of own) u v)
  comers-jump few three u = rw (few, three) (and_true (has own u))

  pub comers-none : ltb 3 (count_of own) ≡ false → eqb (count_of own) 3 ≡ false → (u : ℕ) → has 0 u ≡ (has own u && goes b (count_of own) u v)
  comers-none few two u = has-none u ∙ rw (few, two) (and_false (has own u))

  -- ---- the stones that close a mill

  pub closers-both : (first second : ℕ) → mills_through b v ≡ first ∷ second ∷ [] → (u : ℕ)
      → ((has own u && is_subset first (move_stone own u v)) || (has own u && is_subset second (move_stone own u v))) ≡ (has own u && closes b own u v)
  unfolding closes
  closers-both first second e u =
      either (has own u) (is_subset first (move_stone own u v)) (is_subset second (move_stone own u v))
      ∙ ap (λ x. has own u && x) (in_mill-lines b (move_stone own u v) v first second e)
    where
      either : (x y z : Bool) → ((x && y) || (x && z)) ≡ (x && (y || z))
      either true y z = refl
      either false y z = refl

  -- ---- those whose move is quiet, and those whose move closes a mill

  pub none_quiet : has own v ≡ true → (u : ℕ) → has 0 u ≡ (has own u && is_quiet_end b own u v)
  unfolding is_quiet_end
  none_quiet y u = has-none u ∙ rw y (and_false (has own u))

  pub none_closing : has own v ≡ true → (u : ℕ) → has 0 u ≡ (has own u && is_closing_end b own u v)
  unfolding is_closing_end
  none_closing y u = has-none u ∙ rw y (and_false (has own u))

  pub some_quiet : has own v ≡ false → (u : ℕ)
      → ((has own u && goes b (count_of own) u v) && not (has own u && closes b own u v)) ≡ (has own u && is_quiet_end b own u v)
  unfolding is_quiet_end
  some_quiet z u = rw z (apart (has own u) (goes b (count_of own) u v) (closes b own u v))
    where
      apart : (x y k : Bool) → ((x && y) && not (x && k)) ≡ (x && (y && not k))
      apart true y k = refl
      apart false y k = refl

  pub some_closing : has own v ≡ false → (u : ℕ)
      → ((has own u && goes b (count_of own) u v) && (has own u && closes b own u v)) ≡ (has own u && is_closing_end b own u v)
  unfolding is_closing_end
  some_closing z u = rw z (both (has own u) (goes b (count_of own) u v) (closes b own u v))
    where
      both : (x y k : Bool) → ((x && y) && (x && k)) ≡ (x && (y && k))
      both true y k = refl
      both false y k = refl

  -- ---- how many they are, and whether there are any

  pub count-quiet : (quiet : ℕ) → ((u : ℕ) → has quiet u ≡ (has own u && is_quiet_end b own u v)) → count_of quiet ≡ arrivals b own v
  unfolding arrivals is_quiet_end count_of
  count-quiet quiet each = elim (cases_Bool (has own v)) [
    | inl y ↦
        let none : quiet ≡ 0 = same_points quiet 0 (λ u. each u ∙ rw y (sym (and_false (has own u)) ∙ sym (has-none u))) in
        rw (y, none) (ap length members-none)
    | inr z ↦ rw z (ap length (members_filter quiet own (λ u. goes b (count_of own) u v && not (closes b own u v)) (λ u. each u ∙ rw z refl)))
  ]

  module _ (closing : ℕ) (each : (u : ℕ) → has closing u ≡ (has own u && is_closing_end b own u v)) where
    pub closing-some : 0 < closing → closing < 2 ^ 32 → may_close b own v ≡ true
    unfolding may_close is_closing_end
    closing-some some small =
        let first = first_is closing some small in
        let parts = and_parts (has own _) (not (has own v) && (goes b (count_of own) _ v && closes b own _ v)) (sym (each _) ∙ first.here) in
        let more = and_parts (not (has own v)) (goes b (count_of own) _ v && closes b own _ v) parts.1 in
        and_from _ _ more.0 (contained_any (λ u. goes b (count_of own) u v && closes b own u v) (members own) _ (member-has own _ first.low parts.0) more.1)

    pub closing-none : closing ≡ 0 → may_close b own v ≡ false
    unfolding may_close is_closing_end
    closing-none none = false_from_ne_true _ (λ h.
        let parts = and_parts (not (has own v)) (list_any (λ u. goes b (count_of own) u v && closes b own u v) (members own)) h in
        let one = any_contained (λ u. goes b (count_of own) u v && closes b own u v) (members own) parts.1 in
        both_ways (has closing one.0) (ap (λ t. has t one.0) none ∙ has-none one.0)
        (each one.0 ∙ and_from _ _ (has-member own one.0 one.1) (and_from _ _ parts.0 one.2)))

-- ---- the points at which one stone more fills a mill

-- those of these mills are among `last`
abbrev pub AreLast : List ℕ → ℕ → ℕ → Type 0
AreLast mills own last = (v : ℕ) → has own v ≡ false → list_any (λ m. has m v && is_subset m (with_point own v)) mills ≡ true → has last v ≡ true

module _ (own mill missing : ℕ) (small : mill < 2 ^ 32) (each : (p : ℕ) → has missing p ≡ (has mill p && not (has own p))) where
  -- where one stone more fills the mill, no other point of it is missing
  last_one : (rest v : ℕ) → rest < 2 ^ 32 → members rest ≡ drop 1 (members missing) → has own v ≡ false
      → (has mill v && is_subset mill (with_point own v)) ≡ true → rest ≡ 0
  last_one rest v low less free full = same_points rest 0 (λ p. false_from_ne_true (has rest p) (λ h.
      both_ways (list_any (λ k. true) (members rest)) (ap (list_any (λ k. true)) none)
      (contained_any (λ k. true) (members rest) p (member-has rest p (has-below rest p low h) h) refl)) ∙ sym (has-none p))
    where
      parts : (has mill v ≡ true) × (is_subset mill (with_point own v) ≡ true)
      parts = and_parts (has mill v) (is_subset mill (with_point own v)) full

      only : (p : ℕ) → has missing p ≡ eqb p v
      only p = same_test (has missing p) (eqb p v)
          (λ h. let both = and_parts (has mill p) (not (has own p)) (sym (each p) ∙ h) in
          sym (ap (λ x. x || eqb p v) (not-true (has own p) both.1)) ∙ sym (has-with own v p)
          ∙ within_each mill (with_point own v) small parts.1 p both.0)
          (λ e. rw (eqb-true p v e) (each v ∙ and_from _ _ parts.0 (ap not free)))

      apart : (x : Bool) → (not x && x) ≡ false
      apart true = refl
      apart false = refl

      gone : without_point missing v ≡ 0
      gone = same_points (without_point missing v) 0 (λ p.
          has-without missing v p ∙ ap (λ x. not (eqb p v) && x) (only p) ∙ apart (eqb p v) ∙ sym (has-none p))

      none : members rest ≡ []
      none = less ∙ ap (drop 1)
          (members-first missing v (has-below mill v small parts.0) (only v ∙ eq-eqb v v refl) (λ k below. only k ∙ ne_eqb k v (omega (arith, below)))
          ∙ ap (λ t. v ∷ members t) gone ∙ ap (λ ts. v ∷ ts) members-none)

  module _ (mills : List ℕ) (k : ℕ) (inside : k < length mills) (is : slice_index mills k ≡ mill) (last : ℕ) (before : AreLast (take k mills) own last) where
    -- where it isn't among the earlier ones, this mill is the one
    this_one : (v : ℕ) → list_any (λ m. has m v && is_subset m (with_point own v)) (take (k + 1) mills) ≡ true
        → list_any (λ m. has m v && is_subset m (with_point own v)) (take k mills) ≡ false → (has mill v && is_subset mill (with_point own v)) ≡ true
    this_one v any not_before =
        let f : ℕ → Bool = λ m. has m v && is_subset m (with_point own v) in
        sym (list_any_more f mills k 0 inside ∙ ap₂ (λ x y. x || y) not_before (ap f is)) ∙ any

    pub last-more : (joined : ℕ) → ((p : ℕ) → has joined p ≡ (has last p || has missing p)) → AreLast (take (k + 1) mills) own joined
    last-more joined both v free any = elim (cases_Bool (list_any (λ m. has m v && is_subset m (with_point own v)) (take k mills))) [
      | inl y ↦ both v ∙ ap (λ x. x || has missing v) (before v free y)
      | inr z ↦
          both v ∙ ap (λ x. has last v || x) (each v ∙ and_from _ _ (and_parts (has mill v) _ (this_one v any z)).0 (ap not free))
          ∙ or-true (has last v)
    ]

    pub last-same : (rest : ℕ) → rest < 2 ^ 32 → members rest ≡ drop 1 (members missing) → eqb rest 0 ≡ false → AreLast (take (k + 1) mills) own last
    last-same rest low less some v free any = elim (cases_Bool (list_any (λ m. has m v && is_subset m (with_point own v)) (take k mills))) [
      | inl y ↦ before v free y
      | inr z ↦ absurd (eqb-false rest 0 some (last_one rest v low less free (this_one v any z)))
    ]

all_more : (f g : ℕ → Bool) → ((x : ℕ) → f x ≡ true → g x ≡ true) → (xs : List ℕ) → list_all f xs ≡ true → list_all g xs ≡ true
all_more f g more [] h = refl
all_more f g more (x ∷ xs) h = let parts = and_parts (f x) (list_all f xs) h in and_from _ _ (more x parts.0) (all_more f g more xs parts.1)

pub last-all : (b : Shape) (own last : ℕ) → AreLast (mills_of b) own last → (u v : ℕ) → has own v ≡ false → closes b own u v ≡ true → has last v ≡ true
unfolding closes in_mill move_stone is_subset
last-all b own last each u v free shuts =
    let one = any_contained (λ m. has m v && is_subset m (move_stone own u v)) (mills_of b) shuts in
    let parts = and_parts (has one.0 v) (is_subset one.0 (move_stone own u v)) one.2 in
    each v free (contained_any (λ m. has m v && is_subset m (with_point own v)) (mills_of b) one.0 one.1
    (and_from _ _ parts.0 (all_more (has (move_stone own u v)) (has (with_point own v)) still (members one.0) parts.1)))
  where
    stays : (x y z : Bool) → ((not x && y) || z) ≡ true → (y || z) ≡ true
    stays true y z h = rw h (or-true y)
    stays false y z h = h

    still : (p : ℕ) → has (move_stone own u v) p ≡ true → has (with_point own v) p ≡ true
    still p h =
        has-with own v p
        ∙ stays (eqb p u) (has own p) (eqb p v)
        (sym (has-with (without_point own u) v p ∙ ap (λ x. x || eqb p v) (has-without own u p)) ∙ h)

-- and so those at which a move closes one
pub last-may : (b : Shape) (own last : ℕ) → ((u v : ℕ) → has own v ≡ false → closes b own u v ≡ true → has last v ≡ true)
    → (v : ℕ) → may_close b own v ≡ true → has last v ≡ true
unfolding may_close
last-may b own last each v may =
    let parts = and_parts (not (has own v)) (list_any (λ u. goes b (count_of own) u v && closes b own u v) (members own)) may in
    let one = any_contained (λ u. goes b (count_of own) u v && closes b own u v) (members own) parts.1 in
    each one.0 v (not-true (has own v) parts.0) (and_parts (goes b (count_of own) one.0 v) (closes b own one.0 v) one.2).1
