-- Laws of the numbering by classes: the entry of a position is below the number of entries, the
-- position of an entry has it, and positions with the same entry have the same canonical form.
use Rattle.std.proofs.Common.{◌≡◌, ℕ, ◌+◌, ◌-◌, ◌*◌, ◌/◌, ◌%◌, ◌^◌, ◌<◌, ◌≤◌, true, false, map, refl, sym, ◌∙◌, ap, inl, inr, subst, arith, ◌≢◌}
use Rattle.std.proofs.lemmas.Bool.{cases_eq, eq-eqb, ne_eqb}
use Rattle.std.proofs.Math.Nat.{mul-le-mul_left, div-lt_iff_lt-mul, mod-lt}
use Rattle.std.proofs.lemmas.Nat.{div-add-mod'}
use Rattle.morris_board.specs.Boards.{Shape}
use Rattle.morris_board.specs.Sets.{has, members, count_of}
use Rattle.morris_board.specs.Positions.{Sides, sides, IsPosition}
use Rattle.morris_board.specs.Symmetries.{image_sides, HasSymmetries}
use Rattle.morris_board.proofs.ImageLaws.{one_to_one, IsPosition-image, count_of-image}
use Rattle.morris_index.specs.Binomials.{choose}
use Rattle.morris_index.specs.Numbering.{rank_of, number_outside, half_size, half_index}
use Rattle.morris_index.specs.Classes.{symmetry_of, representative_of, is_representative, classes_below, class_of, class_count}
use Rattle.morris_index.specs.ClassPairs.{canonical_form, class_half_size, class_half_index, class_size_of, class_index_of}
use Rattle.morris_index.specs.ClassMoves.{class_half_start, class_start_of}
use Rattle.morris_index.proofs.IndexLaws.{IsPlaced, placed, other_apart, other_rank-lt, rank_outside-same, parts_lt, parts_same, number_outside-count, half_size-few, halves_of}
use Rattle.morris_index.proofs.ClassLaws.{symmetry_within, image_none, representative_within, representative_count, representative_twice, representative_symmetry, test_from, class_alone, class_lt}
use Rattle.morris_index.specs.Pairs.{IsHalf, Counts, is_of}
use Rattle.std.proofs.Math.Path.{ap₂}
use Rattle.morris_board.proofs.PositionLaws.{other_count}

module _ (board : Shape) (n : ℕ) (few : n ≤ 24) (points : board.points ≡ n) (y : HasSymmetries board) where
  low : board.points ≤ 24
  low = omega arith

  on_board : (set : ℕ) → set < 2 ^ n → set < 2 ^ board.points
  on_board set h = subst (λ k. set < 2 ^ k) (sym points) h

  module _ (s : Sides) (h : IsPosition board s) where
    own_within : s.own < 2 ^ board.points
    own_within = h.stones.own_within

    -- the canonical form is a position with as many stones, on the representative
    pub canonical_position : IsPosition board (canonical_form board s)
    unfolding canonical_form
    canonical_position = IsPosition-image board low _ _ (one_to_one board _ _ (y.symmetry (symmetry_of board s.own) (symmetry_within board low y s.own own_within))) s h

    pub canonical_own : (canonical_form board s).own ≡ representative_of board s.own
    unfolding canonical_form representative_of
    canonical_own = refl

    pub canonical_own_count : count_of (canonical_form board s).own ≡ count_of s.own
    canonical_own_count = ap count_of canonical_own ∙ representative_count board low y s.own own_within

    pub canonical_other_count : count_of (canonical_form board s).other ≡ count_of s.other
    unfolding canonical_form
    canonical_other_count =
        count_of-image board.points low _ _ (one_to_one board _ _ (y.symmetry (symmetry_of board s.own) (symmetry_within board low y s.own own_within)))
        s.other h.stones.other_within

    canonical_placed : IsPlaced n (canonical_form board s)
    canonical_placed = placed board n (canonical_form board s) points canonical_position

    abbrev canonical_rank : ℕ
    canonical_rank = rank_of (map (number_outside (canonical_form board s).own) (members (canonical_form board s).other))

    -- the stones of the opponent have a rank among the choices
    pub canonical_rank-lt : canonical_rank < choose (n - count_of s.own) (count_of s.other)
    canonical_rank-lt =
        subst (λ a. canonical_rank < choose (n - a) (count_of s.other)) canonical_own_count
        (subst (λ b. canonical_rank < choose (n - count_of (canonical_form board s).own) b) canonical_other_count (other_rank-lt n (omega arith) (canonical_form board s) canonical_placed))

    pub class_index-lt : class_of board s.own < class_count board (count_of s.own) → class_half_index board n s < class_half_size board n (count_of s.own) (count_of s.other)
    unfolding class_half_index class_half_size
    class_index-lt class = parts_lt (class_of board s.own) canonical_rank (class_count board (count_of s.own)) (choose (n - count_of s.own) (count_of s.other)) class canonical_rank-lt

  -- two positions with as many stones and the same number have the same canonical form
  module _ (s t : Sides) (h : IsPosition board s) (k : IsPosition board t) (own : count_of s.own ≡ count_of t.own) (other : count_of s.other ≡ count_of t.other)
      (same : class_half_index board n s ≡ class_half_index board n t) where
    free_same : choose (n - count_of t.own) (count_of t.other) ≡ choose (n - count_of s.own) (count_of s.other)
    free_same = rw (own, other) refl

    parts : (class_of board s.own ≡ class_of board t.own) × (canonical_rank s h ≡ canonical_rank t k)
    unfolding class_half_index
    parts =
        parts_same (class_of board s.own) (canonical_rank s h) (class_of board t.own) (canonical_rank t k) (choose (n - count_of s.own) (count_of s.other)) (canonical_rank-lt s h)
        (subst (λ c. canonical_rank t k < c) free_same (canonical_rank-lt t k))
        (same ∙ ap (λ c. class_of board t.own * c + canonical_rank t k) free_same)

    own_class : (u : Sides) (l : IsPosition board u) (count : ℕ) → count_of u.own ≡ count
        → (is_representative board count (representative_of board u.own) ≡ true) × (classes_below board count (representative_of board u.own) ≡ class_of board u.own)
    unfolding class_of
    own_class u l count e = (
      test_from board count (representative_of board u.own) (representative_twice board low y u.own l.stones.own_within)
          (representative_count board low y u.own l.stones.own_within ∙ e),
      ap (λ c. classes_below board c (representative_of board u.own)) (sym e),
    )

    same_own : (canonical_form board s).own ≡ (canonical_form board t).own
    same_own =
        let a = own_class s h (count_of s.own) refl in
        let b = own_class t k (count_of s.own) (sym own) in
        canonical_own s h
        ∙ class_alone board (count_of s.own) (representative_of board s.own) (representative_of board t.own) a.0 b.0 (a.1 ∙ parts.0 ∙ sym b.1)
        ∙ sym (canonical_own t k)

    same_other : (canonical_form board s).other ≡ (canonical_form board t).other
    same_other =
        rank_outside-same n (canonical_form board s).own (omega arith) (canonical_form board s).other (canonical_form board t).other (canonical_placed s h).other_within (canonical_placed t k).other_within
        (other_apart n (omega arith) (canonical_form board s) (canonical_placed s h))
        (λ p here. subst (λ o. has o p ≡ false) (sym same_own) (other_apart n (omega arith) (canonical_form board t) (canonical_placed t k) p here))
        (canonical_other_count s h ∙ other ∙ sym (canonical_other_count t k))
        (parts.1 ∙ ap (λ o. rank_of (map (number_outside o) (members (canonical_form board t).other))) (sym same_own))

    pub canonical_same : canonical_form board s ≡ canonical_form board t
    canonical_same = ap₂ sides same_own same_other

  -- ---- from a number to the position

  module _ (own other : ℕ) (own_in : own < 2 ^ n) (other_in : other < 2 ^ n) (own_least : representative_of board own ≡ own) where
    canonical_by_none : symmetry_of board own ≡ 0
    canonical_by_none = ap (symmetry_of board) (sym own_least) ∙ representative_symmetry board low y own (on_board own own_in)

    pub canonical_itself : canonical_form board (sides own other) ≡ sides own other
    unfolding canonical_form
    canonical_itself =
        ap (λ s. image_sides (board.image s) (sides own other)) canonical_by_none
        ∙ ap₂ sides (image_none board low y own (on_board own own_in)) (image_none board low y other (on_board other other_in))

    pub class_index-of : (a b index : ℕ) → count_of own ≡ a → count_of other ≡ b → class_of board own ≡ index / choose (n - a) b
        → rank_of (map (number_outside own) (members other)) ≡ index % choose (n - a) b → 0 < choose (n - a) b
        → class_half_index board n (sides own other) ≡ index
    unfolding class_half_index
    class_index-of a b index own_count other_count class rank some =
        let ranks : rank_of (map (number_outside (canonical_form board (sides own other)).own) (members (canonical_form board (sides own other)).other)) ≡ index % choose (n - a) b =
        ap (λ s. rank_of (map (number_outside s.own) (members s.other))) canonical_itself ∙ rank in
        rw (own_count, other_count, class, ranks) (div-add-mod' index (choose (n - a) b))

  module _ (a b index : ℕ) (small : index < class_half_size board n a b) where
    pub choices_some : 0 < choose (n - a) b
    unfolding class_half_size
    choices_some = elim (cases_eq (choose (n - a) b) 0) [
      | inl e ↦ absurd (omega (arith, rw e at small))
      | inr d ↦ omega arith
    ]

    pub class_part-lt : index / choose (n - a) b < class_count board a
    unfolding class_half_size
    class_part-lt = (div-lt_iff_lt-mul {k = choose (n - a) b} {x = index} {y = class_count board a} choices_some).1 small

    pub other_part-lt : (own : ℕ) → own < 2 ^ n → count_of own ≡ a → index % choose (n - a) b < choose (number_outside own n) b
    other_part-lt own within counted =
        let free : number_outside own n ≡ n - a = omega (arith, number_outside-count n own within (omega arith), counted) in
        rw free (mod-lt index choices_some)

  pub class_size-few : (a b : ℕ) → IsHalf n a b → class_count board a ≤ choose n a → class_half_size board n a b ≤ 549755813888
  unfolding class_half_size half_size
  class_size-few a b h le =
      let l : choose n a * choose (n - a) b ≤ 549755813888 = half_size-few n a b few h in
      omega (arith, l, mul-le-mul_left {m = class_count board a} {n = choose n a} (choose (n - a) b) le)

  -- ---- a number is below how many there are

  pub class_below : (s : Sides) → IsPosition board s → class_of board s.own < class_count board (count_of s.own)
  unfolding class_of class_count
  class_below s h =
      class_lt board (count_of s.own) (representative_of board s.own) (2 ^ board.points)
      (test_from board (count_of s.own) (representative_of board s.own) (representative_twice board low y s.own h.stones.own_within)
      (representative_count board low y s.own h.stones.own_within))
      (representative_within board low y s.own h.stones.own_within)

  half_below : (a b : ℕ) (s : Sides) → IsPosition board s → count_of s.own ≡ a → count_of s.other ≡ b → class_half_index board n s < class_half_size board n a b
  half_below a b s h own other =
      subst (λ k. class_half_index board n s < class_half_size board n k b) own
      (subst (λ k. class_half_index board n s < class_half_size board n (count_of s.own) k) other (class_index-lt s h (class_below s h)))

  -- ---- the two halves of a pair

  module _ (c : Counts) where
    abbrev first_size : ℕ
    first_size = class_half_size board n c.greater c.lesser

    pub size-one : c.greater ≡ c.lesser → class_size_of board n c ≡ first_size
    unfolding class_size_of
    size-one e = rw (eq-eqb c.greater c.lesser e) refl

    pub size-two : c.greater ≢ c.lesser → class_size_of board n c ≡ first_size + class_half_size board n c.lesser c.greater
    unfolding class_size_of
    size-two d = rw (ne_eqb c.greater c.lesser d) refl

    pub index-first : (s : Sides) → count_of s.own ≡ c.greater → class_index_of board n c s ≡ class_half_index board n s
    unfolding class_index_of
    index-first s e = rw (eq-eqb (count_of s.own) c.greater e) refl

    pub index-second : (s : Sides) → count_of s.own ≢ c.greater → class_index_of board n c s ≡ first_size + class_half_index board n s
    unfolding class_index_of
    index-second s d = rw (ne_eqb (count_of s.own) c.greater d) refl

    -- an entry by its parts: where those of its class begin, and the rank of the opponent's stones
    pub entry-parts : (s : Sides) → class_index_of board n c s
        ≡ class_start_of board n c s.own (count_of s.other) + rank_of (map (number_outside (canonical_form board s).own) (members (canonical_form board s).other))
    unfolding class_half_index
    entry-parts s =
        let half : class_half_index board n s
        ≡ class_half_start board n s.own (count_of s.other) + rank_of (map (number_outside (canonical_form board s).own) (members (canonical_form board s).other)) = refl in
        elim (cases_eq (count_of s.own) c.greater) [
          | inl e ↦ index-first s e ∙ half ∙ rw (eq-eqb (count_of s.own) c.greater e) (omega arith)
          | inr d ↦ index-second s d ∙ rw (ne_eqb (count_of s.own) c.greater d) (omega (arith, half))
        ]

    -- an index past the first half is one of the second, which there is
    pub second_half : (index : ℕ) → index < class_size_of board n c → first_size ≤ index
        → (c.greater ≢ c.lesser) × (index - first_size < class_half_size board n c.lesser c.greater)
    second_half index small past = elim (cases_eq c.greater c.lesser) [
      | inl e ↦ absurd (omega (arith, size-one e))
      | inr d ↦ (d, omega (arith, size-two d))
    ]

    pub first_fits : first_size ≤ class_size_of board n c
    first_fits = elim (cases_eq c.greater c.lesser) [
      | inl e ↦ omega (arith, size-one e)
      | inr d ↦ omega (arith, size-two d)
    ]

    pub index-lt : (s : Sides) → IsPosition board s → is_of c s ≡ true → class_index_of board n c s < class_size_of board n c
    index-lt s h of = elim (halves_of c s of) [
      | inl a ↦ omega (arith, index-first s a.0, half_below c.greater c.lesser s h a.0 a.1, first_fits)
      | inr b ↦
          let own : count_of s.own ≢ c.greater = λ e. b.0 (sym e ∙ b.1) in
          omega (arith, index-second s own, half_below c.lesser c.greater s h b.1 b.2, size-two b.0)
    ]

    -- positions with the same entry have the same canonical form
    pub canonical_alone : (s t : Sides) → IsPosition board s → IsPosition board t → is_of c s ≡ true → is_of c t ≡ true
        → class_index_of board n c s ≡ class_index_of board n c t → canonical_form board s ≡ canonical_form board t
    canonical_alone s t h k s_of t_of same = elim (halves_of c s s_of) [
      | inl a ↦ elim (halves_of c t t_of) [
        | inl b ↦ canonical_same s t h k (a.0 ∙ sym b.0) (a.1 ∙ sym b.1) (sym (index-first s a.0) ∙ same ∙ index-first t b.0)
        | inr b ↦
            let own : count_of t.own ≢ c.greater = λ e. b.0 (sym e ∙ b.1) in
            absurd (omega (arith, same, index-first s a.0, half_below c.greater c.lesser s h a.0 a.1, index-second t own))
      ]
      | inr a ↦
          let s_own : count_of s.own ≢ c.greater = λ e. a.0 (sym e ∙ a.1) in
          elim (halves_of c t t_of) [
            | inl b ↦ absurd (omega (arith, same, index-first t b.0, half_below c.greater c.lesser t k b.0 b.1, index-second s s_own))
            | inr b ↦
                let t_own : count_of t.own ≢ c.greater = λ e. b.0 (sym e ∙ b.1) in
                canonical_same s t h k (a.1 ∙ sym b.1) (a.2 ∙ sym b.2) (omega (arith, same, index-second s s_own, index-second t t_own))
          ]
    ]

  -- where the opponent's points are followed beside a representative, the entry is the next one
  module _ (s t : Sides) (h : IsPosition board s) (k : IsPosition board t) (least : representative_of board s.own ≡ s.own) (own : t.own ≡ s.own)
      (other : count_of t.other ≡ count_of s.other) (next : half_index n t ≡ half_index n s + 1) where
    within_n : (u : Sides) → IsPosition board u → (u.own < 2 ^ n) × (u.other < 2 ^ n)
    within_n u l = (subst (λ m. u.own < 2 ^ m) points l.stones.own_within, subst (λ m. u.other < 2 ^ m) points l.stones.other_within)

    pub next_canonical : canonical_form board t ≡ t
    next_canonical = canonical_itself t.own t.other (within_n t k).0 (within_n t k).1 (rw own least)

    rank_next : rank_of (map (number_outside t.own) (members t.other)) ≡ rank_of (map (number_outside s.own) (members s.other)) + 1
    unfolding half_index
    rank_next =
        let same : rank_of (members t.own) * choose (n - count_of t.own) (count_of t.other) ≡ rank_of (members s.own) * choose (n - count_of s.own) (count_of s.other) =
        rw (own, other) refl in
        omega (arith, next, same)

    next_half : class_half_index board n t ≡ class_half_index board n s + 1
    unfolding class_half_index
    next_half =
        let same : class_of board t.own * choose (n - count_of t.own) (count_of t.other) ≡ class_of board s.own * choose (n - count_of s.own) (count_of s.other) =
        rw (own, other) refl in
        let itself : canonical_form board s ≡ s = canonical_itself s.own s.other (within_n s h).0 (within_n s h).1 least in
        let before : rank_of (map (number_outside (canonical_form board s).own) (members (canonical_form board s).other)) ≡ rank_of (map (number_outside s.own) (members s.other)) =
        ap (λ u. rank_of (map (number_outside u.own) (members u.other))) itself in
        let after : rank_of (map (number_outside (canonical_form board t).own) (members (canonical_form board t).other)) ≡ rank_of (map (number_outside t.own) (members t.other)) =
        ap (λ u. rank_of (map (number_outside u.own) (members u.other))) next_canonical in
        omega (arith, same, before, after, rank_next)

    pub next_entry : (c : Counts) → class_index_of board n c t ≡ class_index_of board n c s + 1
    next_entry c = elim (cases_eq (count_of s.own) c.greater) [
      | inl y ↦ omega (arith, next_half, index-first c s y, index-first c t (ap count_of own ∙ y))
      | inr d ↦ omega (arith, next_half, index-second c s d, index-second c t (λ z. d (sym (ap count_of own) ∙ z)))
    ]
