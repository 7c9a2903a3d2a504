-- The nodes of a pair of two different numbers by rows: their positions, and which moves lead to
-- them.
use Rattle.std.proofs.Common.{◌≡◌, ◌≢◌, ℕ, zero, suc, ◌+◌, ◌^◌, ◌<◌, ◌≤◌, Bool, true, false, eqb, leb, [], ◌∷◌, map, filter, refl, sym, ap, ap₂, subst, ◌∙◌, inl, inr, arith}
use Rattle.std.specs.List.{range_with_len}
use Rattle.std.proofs.lemmas.Bool.{cases_Bool, both_ways, eq-eqb, eqb-true, ne_eqb, le-leb, lt-leb, and_parts, and_from, false_from_ne_true}
use Rattle.morris_board.specs.Boards.{Shape, is_board}
use Rattle.morris_board.specs.Sets.{count_of}
use Rattle.morris_board.specs.Positions.{Sides, sides, IsPosition}
use Rattle.morris_board.specs.Symmetries.{image_of, image_sides, inverse_of, HasSymmetries}
use Rattle.morris_board.proofs.ImageLaws.{one_to_one, count_of-image}
use Rattle.morris_index.specs.Unmoves.{gives_unmove}
use Rattle.morris_index.specs.Classes.{is_canonicalizing, symmetry_of, representative_of}
use Rattle.morris_index.specs.ClassPairs.{class_half_size, class_half_index, class_index_of}
use Rattle.morris_index.specs.ByOpponent.{swap_sides}
use Rattle.morris_index.specs.Moves.{unmove_sides}
use Rattle.morris_index.specs.Pairs.{Counts, IsPair, is_of}
use Rattle.morris_index.proofs.ClassLaws.{image_none, image_within, canonical_least, representative_symmetry, representative_twice}
use Rattle.morris_index.proofs.ClassPairLaws.{class_below, class_index-lt, index-first, index-second}
use Rattle.morris_index.proofs.FacingLaws.{turned_of}
use Rattle.morris_pairs.specs.Predecessors.{predecessors_in_rows}
use Rattle.morris_pairs.specs.EntryLaws.{laid_in, to_first_half-yes, to_first_half-no, first_half_cases, is_first_half-image, row_size-two, row_index-to_first_half, row_index-second_half}
use Rattle.morris_pairs.specs.Orders.{Rows, is_first_half, to_first_half, row_size_of, row_index_of, own_in}
use Rattle.morris_pairs.specs.PairNets.{level_in, net_at}
use Rattle.morris_pairs.proofs.ClassBackLaws.{canonicalizing_from}
use Rattle.morris_pairs.proofs.GraphLaws.{size_at}

-- ---- lists of the numbers that pass a test

none_pass : (test : ℕ → Bool) (a n : ℕ) → ((k : ℕ) → a ≤ k → k < a + n → test k ≡ false) → filter test (range_with_len a n) ≡ []
none_pass test a zero fails = refl
none_pass test a (suc n) fails =
    rw (fails a (omega arith) (omega arith)) (none_pass test (a + 1) n (λ k low high. fails k (omega arith) (omega arith)))

-- 0 is the only one that passes
only_first : (test : ℕ → Bool) (n : ℕ) → 0 < n → test 0 ≡ true → ((k : ℕ) → 0 < k → k < n → test k ≡ false) → filter test (range_with_len 0 n) ≡ 0 ∷ []
only_first test zero some first fails = absurd (omega arith)
only_first test (suc n) some first fails =
    rw first (ap (λ xs. 0 ∷ xs) (none_pass test 1 n (λ k low high. fails k (omega arith) (omega arith))))

-- ---- the two halves

module _ (board : Shape) (n : ℕ) (few : n ≤ 24) (points : board.points ≡ n) (y : HasSymmetries board) (c : Counts) (pair : IsPair n c) (two : c.lesser < c.greater) where
  abbrev half : ℕ
  half = class_half_size board n c.greater c.lesser

  differ : c.greater ≢ c.lesser
  differ = λ e. omega (arith, two, e)

  pub size-two_halves : row_size_of board n c ≡ half + half
  size-two_halves = row_size-two board n c differ

  -- a position with an entry of the first half by classes
  pub first_first_half : (s : Sides) → is_of c s ≡ true → class_index_of board n c s < half → is_first_half s ≡ true
  first_first_half s of low = elim (first_half_cases n c pair s of) [
    | inl a ↦ a.0
    | inr b ↦
        let own : count_of s.own ≢ c.greater = λ e. omega (arith, e, b.2, two) in
        absurd (omega (arith, low, index-second board n few points y c s own))
  ]

  -- one in which the player to move has the greater number
  pub greater_first_half : (s : Sides) → is_of c s ≡ true → count_of s.own ≡ c.greater → is_first_half s ≡ true
  greater_first_half s of own = elim (first_half_cases n c pair s of) [
    | inl a ↦ a.0
    | inr b ↦ absurd (omega (arith, own, b.2, two))
  ]

  module _ (s : Sides) (of : is_of c s ≡ true) (e : is_first_half s ≡ true) where
    pub own_greater : (count_of s.own ≡ c.greater) × (count_of s.other ≡ c.lesser)
    own_greater = elim (first_half_cases n c pair s of) [
      | inl a ↦ (a.1, a.2)
      | inr b ↦ absurd (both_ways (is_first_half s) b.0 e)
    ]

    pub index-to_first_half : row_index_of board n c s ≡ class_index_of board n c s
    index-to_first_half = row_index-to_first_half board n c s e ∙ sym (index-first board n few points y c s own_greater.0)

    pub swapped_second_half : is_first_half (swap_sides s) ≡ false
    swapped_second_half = lt-leb (count_of s.own) (count_of s.other) (omega (arith, own_greater.0, own_greater.1, two))

    pub index-swap_sides : row_index_of board n c (swap_sides s) ≡ half + class_index_of board n c s
    index-swap_sides =
        let at : row_index_of board n c (swap_sides s) ≡ half + class_half_index board n s = row_index-second_half board n c (swap_sides s) swapped_second_half in
        at ∙ ap (λ i. half + i) (sym (index-first board n few points y c s own_greater.0))

    pub first_index-lt : IsPosition board s → class_index_of board n c s < half
    first_index-lt h =
        let low : class_half_index board n s < class_half_size board n (count_of s.own) (count_of s.other) =
        class_index-lt board n few points y s h (class_below board n few points y s h) in
        let here : class_half_index board n s < half =
        subst (λ a. class_half_index board n s < class_half_size board n a c.lesser) own_greater.0
        (subst (λ b. class_half_index board n s < class_half_size board n (count_of s.own) b) own_greater.1 low) in
        omega (arith, here, index-first board n few points y c s own_greater.0)

    module _ (least : representative_of board s.own ≡ s.own) where
      pub own-to_first_half : own_in board Rows s ≡ true
      own-to_first_half = subst (λ (u : Sides). eqb (representative_of board u.own) u.own ≡ true) (sym (to_first_half-yes s e)) (eq-eqb (representative_of board s.own) s.own least)

      pub own-swap_sides : own_in board Rows (swap_sides s) ≡ true
      own-swap_sides =
          subst (λ (u : Sides). eqb (representative_of board u.own) u.own ≡ true) (sym (to_first_half-no (swap_sides s) swapped_second_half))
          (eq-eqb (representative_of board s.own) s.own least)

  -- a position with an entry of the second half by classes
  pub second_second_half : (s : Sides) → IsPosition board s → is_of c s ≡ true → half ≤ class_index_of board n c s → is_first_half s ≡ false
  second_second_half s h of high = elim (cases_Bool (is_first_half s)) [
    | inl e ↦ absurd (omega (arith, high, first_index-lt s of e h))
    | inr e ↦ e
  ]

  module _ (s : Sides) (of : is_of c s ≡ true) where
    pub second_half_swapped : is_first_half s ≡ false → is_first_half (swap_sides s) ≡ true
    second_half_swapped e = elim (first_half_cases n c pair s of) [
      | inl a ↦ absurd (both_ways (is_first_half s) e a.0)
      | inr b ↦ le-leb (count_of s.own) (count_of s.other) (omega (arith, b.2, b.3, two))
    ]

    pub index-second_half : is_first_half s ≡ false → row_index_of board n c s ≡ half + class_index_of board n c (swap_sides s)
    index-second_half e = index-swap_sides (swap_sides s) (turned_of c s of) (second_half_swapped e)

    pub row-below : IsPosition board s → row_index_of board n c s < row_size_of board n c
    row-below h =
        let low : board.points ≤ 24 = omega arith in
        subst (λ k. row_index_of board k c s < row_size_of board k c) points
        ((laid_in board low y Rows c (subst (λ k. IsPair k c) (sym points) pair)).below s h of)

  -- ---- the position before a quiet move, in which the other player is to move

  -- with as many stones as the position after it, its sides swapped
  pub prior_of : (p q : Sides) → is_of c p ≡ true → count_of q.own ≡ count_of p.other → count_of q.other ≡ count_of p.own → is_of c q ≡ true
  prior_of p q of own other = rw (own, other) (turned_of c p of)

  module _ (p q : Sides) (of : is_of c p ≡ true) (own : count_of q.own ≡ count_of p.other) (other : count_of q.other ≡ count_of p.own) where
    pub prior_second_half : is_first_half p ≡ true → is_first_half q ≡ false
    prior_second_half e = ap₂ (λ a b. leb a b) other own ∙ swapped_second_half p of e

    pub prior_first_half : is_first_half p ≡ false → is_first_half q ≡ true
    prior_first_half e = elim (first_half_cases n c pair q (prior_of p q of own other)) [
      | inl a ↦ a.0
      | inr b ↦ elim (first_half_cases n c pair p of) [
        | inl a ↦ absurd (both_ways (is_first_half p) e a.0)
        | inr a ↦ absurd (omega (arith, two, own, b.2, a.3))
      ]
    ]

  -- the image of a position with more stones of the player to move
  module _ (q : Sides) (h : IsPosition board q) (of : is_of c q ≡ true) (e : is_first_half q ≡ true) (s : ℕ) (s_low : s < board.symmetries) where
    image_in_pair : is_of c (image_sides (board.image s) q) ≡ true
    image_in_pair =
        let low : board.points ≤ 24 = omega arith in
        let one = one_to_one board _ _ (y.symmetry s s_low) in
        rw (count_of-image board.points low _ _ one q.own h.stones.own_within, count_of-image board.points low _ _ one q.other h.stones.other_within) of

    pub image_index : row_index_of board n c (image_sides (board.image s) q) ≡ class_index_of board n c (image_sides (board.image s) q)
    image_index =
        let low : board.points ≤ 24 = omega arith in
        index-to_first_half (image_sides (board.image s) q) image_in_pair (is_first_half-image board low y s s_low q h ∙ e)

-- ---- the symmetries that give un-moves

module _ (board : Shape) (n : ℕ) (few : n ≤ 24) (points : board.points ≡ n) (y : HasSymmetries board) where
  low : board.points ≤ 24
  low = omega arith

  -- a symmetry canonicalizes a set where it takes it to its canonical form
  pub leading_test : (set s : ℕ) → set < 2 ^ board.points → s < board.symmetries
      → eqb (image_of (board.image s) set) (image_of (board.image (symmetry_of board set)) set) ≡ is_canonicalizing board set s
  unfolding representative_of
  leading_test set s within s_low = elim (cases_Bool (is_canonicalizing board set s)) [
    | inl there ↦
        eq-eqb (image_of (board.image s) set) (image_of (board.image (symmetry_of board set)) set) (canonical_least board set s s_low there) ∙ sym there
    | inr not_so ↦
        ne_eqb (image_of (board.image s) set) (image_of (board.image (symmetry_of board set)) set) (λ e. both_ways (is_canonicalizing board set s) not_so
        (canonicalizing_from board low y s s_low set within (ap (representative_of board) e ∙ representative_twice board low y set within ∙ sym e)
        (image_within board low y set within s s_low)))
        ∙ sym not_so
  ]

  image_of_none : (s : Sides) → s.own < 2 ^ board.points → s.other < 2 ^ board.points → image_sides (board.image 0) s ≡ s
  image_of_none s own other = ap₂ sides (image_none board low y s.own own) (image_none board low y s.other other)

  inverse_none : inverse_of 0 ≡ 0
  unfolding inverse_of
  inverse_none = refl

  -- a canonical form stays where it is under just one symmetry of its transversal
  module _ (p : Sides) (within : p.own < 2 ^ board.points) (least : representative_of board p.own ≡ p.own) where
    canonical_none : symmetry_of board p.own ≡ 0
    canonical_none = ap (symmetry_of board) (sym least) ∙ representative_symmetry board low y p.own within

    none_carries : gives_unmove board p p.own 0 ≡ true
    none_carries =
        let stays : image_of (board.image 0) p.own ≡ p.own = image_none board low y p.own within in
        and_from _ _
        (canonicalizing_from board low y 0 y.some p.own within (ap (representative_of board) stays ∙ least ∙ sym stays) (image_within board low y p.own within 0 y.some))
        (eq-eqb _ _ (ap (symmetry_of board) stays ∙ canonical_none ∙ sym inverse_none))

    others_not : (s : ℕ) → 0 < s → s < board.symmetries → gives_unmove board p p.own s ≡ false
    others_not s some s_low = false_from_ne_true _ (λ carried.
        let parts = and_parts (is_canonicalizing board p.own s) _ carried in
        let stays : image_of (board.image s) p.own ≡ p.own = canonical_least board p.own s s_low parts.0 ∙ least in
        let back : 0 ≡ inverse_of s = sym canonical_none ∙ ap (symmetry_of board) (sym stays) ∙ eqb-true _ _ parts.1 in
        let none : s ≡ 0 = sym (y.inverse_twice s s_low) ∙ ap inverse_of (sym back) ∙ inverse_none in
        omega (arith, none, some))

    only_none : filter (gives_unmove board p p.own) (range_with_len 0 board.symmetries) ≡ 0 ∷ []
    only_none = only_first (gives_unmove board p p.own) board.symmetries y.some none_carries others_not

  module _ (c : Counts) (p : Sides) (u v : ℕ) where
    -- where the player to move has more stones, the symmetry alone that moves no point gives an
    -- un-move
    pub before-in_row : IsPosition board p → own_in board Rows p ≡ true → is_first_half p ≡ true
        → IsPosition board (unmove_sides p u v) → is_first_half (unmove_sides p u v) ≡ false
        → predecessors_in_rows board n c p u v ≡ row_index_of board n c (unmove_sides p u v) ∷ []
    unfolding predecessors_in_rows
    before-in_row h own e k f =
        let least : representative_of board p.own ≡ p.own =
        eqb-true _ _ (subst (λ (w : Sides). eqb (representative_of board w.own) w.own ≡ true) (to_first_half-yes p e) own) in
        let carrying : filter (gives_unmove board (to_first_half p) (to_first_half (unmove_sides p u v)).own) (range_with_len 0 board.symmetries) ≡ 0 ∷ [] =
        ap₂ (λ (a b : Sides). filter (gives_unmove board a b.own) (range_with_len 0 board.symmetries)) (to_first_half-yes p e) (to_first_half-no (unmove_sides p u v) f)
        ∙ only_none p h.stones.own_within least in
        ap (map (λ s. row_index_of board n c (image_sides (board.image s) (unmove_sides p u v)))) carrying
        ∙ ap (λ (w : Sides). row_index_of board n c w ∷ []) (image_of_none (unmove_sides p u v) k.stones.own_within k.stones.other_within)

    -- where the opponent has, those that give un-moves of the opponent's set
    pub before-carried : is_first_half p ≡ false → is_first_half (unmove_sides p u v) ≡ true
        → predecessors_in_rows board n c p u v
        ≡ map (λ s. row_index_of board n c (image_sides (board.image s) (unmove_sides p u v)))
        (filter (gives_unmove board (swap_sides p) (unmove_sides p u v).own) (range_with_len 0 board.symmetries))
    unfolding predecessors_in_rows
    before-carried e f =
        ap (map (λ s. row_index_of board n c (image_sides (board.image s) (unmove_sides p u v))))
        (ap₂ (λ (a b : Sides). filter (gives_unmove board a b.own) (range_with_len 0 board.symmetries)) (to_first_half-no p e) (to_first_half-yes (unmove_sides p u v) f))

-- ---- the position of a node, from the entry of a position by classes

module _ (board : Shape) (lawful : is_board board ≡ true) (y : HasSymmetries board) (n : ℕ) (few : n ≤ 24) (points : board.points ≡ n) (c : Counts) (pair : IsPair n c)
    (two : c.lesser < c.greater) (k : Counts) (same : k ≡ c) (split : ℕ) (is : split ≡ class_half_size board n k.greater k.lesser) where
  pair_here : IsPair board.points c
  pair_here = subst (λ m. IsPair m c) (sym points) pair

  pub split_is : split ≡ class_half_size board n c.greater c.lesser
  split_is = subst (λ d. split ≡ class_half_size board n d.greater d.lesser) same is

  pub size-split : (net_at board (level_in Rows c)).size ≡ split + split
  size-split = omega (arith, size_at board lawful y n points Rows c pair_here, size-two_halves board n few points y c pair two, split_is)

  pub node_low : (node : ℕ) → node < (net_at board (level_in Rows c)).size → node < split + split
  node_low node low = omega (arith, low, size-split)

  module _ (i : ℕ) (low : i < split) (s : Sides) (of : is_of k s ≡ true) (at : class_index_of board n k s ≡ i) where
    pub of_here : is_of c s ≡ true
    of_here = subst (λ d. is_of d s ≡ true) same of

    at_here : class_index_of board n c s ≡ i
    at_here = subst (λ d. class_index_of board n d s ≡ i) same at

    pub first_half_here : is_first_half s ≡ true
    first_half_here = first_first_half board n few points y c pair two s of_here (omega (arith, low, at_here, split_is))

    pub node_first : row_index_of board n c s ≡ i
    node_first = index-to_first_half board n few points y c pair two s of_here first_half_here ∙ at_here

    pub node_second : row_index_of board n c (swap_sides s) ≡ split + i
    node_second = omega (arith, index-swap_sides board n few points y c pair two s of_here first_half_here, at_here, split_is)
