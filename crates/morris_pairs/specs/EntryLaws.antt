-- Laws of the numbers of positions, in each order: each number is one position's own, and each
-- position has the value of the one whose number it has.
use Rattle.std.proofs.Common.{◌≡◌, ◌≢◌, ℕ, ◌+◌, ◌-◌, ◌*◌, ◌^◌, ◌<◌, ◌≤◌, true, false, eqb, leb, cond, map, refl, sym, ap, ap₂, subst, ◌∙◌, inl, inr, ◌⊎◌, arith}
use Rattle.std.proofs.lemmas.Bool.{cases_Bool, cases_eq, eqb-true, eq-eqb, ne_eqb, le-leb, lt-leb, and_from}
use Rattle.morris_board.specs.Boards.{Shape}
use Rattle.morris_board.specs.Sets.{members, count_of}
use Rattle.morris_board.specs.Positions.{Sides, sides, IsPosition, is_sized}
use Rattle.morris_board.specs.Symmetries.{image_of, image_sides, inverse_of, HasSymmetries}
use Rattle.morris_board.proofs.ImageLaws.{IsOneToOne, one_to_one, IsPosition-image, count_of-image}
use Rattle.morris_moves.specs.Images.{IsImage, HaveOneValue}
use Rattle.morris_moves.proofs.SymmetryLaws.{IsImage-value}
use Rattle.morris_index.specs.Binomials.{choose}
use Rattle.morris_index.specs.ByOpponent.{swap_sides}
use Rattle.morris_index.specs.Numbering.{rank_of, number_outside, half_size}
use Rattle.morris_index.specs.Pairs.{Counts, IsPair, IsHalf, is_of, size_of}
use Rattle.morris_index.specs.Classes.{symmetry_of, representative_of, class_of}
use Rattle.morris_index.specs.ClassPairs.{canonical_form, class_half_size, class_half_index, class_size_of, class_index_of}
use Rattle.morris_board.proofs.PositionLaws.{from_between}
use Rattle.morris_index.proofs.IndexLaws.{IsPlaced, placed, halves_of, index-same, index-lt, size-one, size-two, half_size-few}
use Rattle.morris_index.proofs.ClassLaws.{symmetry_within, image_none, representative_symmetry, representative_twice, class_of-representative}
use Rattle.morris_index.proofs.ClassPairLaws.{canonical_position, canonical_own, canonical_own_count, canonical_other_count, canonical_itself, canonical_alone, canonical_same, class_below, class_size-few}
use Rattle.morris_index.proofs.ClassPairLaws.{index-lt as class_index-lt, class_index-lt as half_index-lt, size-one as class_size-one, size-two as class_size-two}
use Rattle.morris_index.proofs.ClassCounts.{class_count-few}
use Rattle.morris_index.proofs.FacingLaws.{turned_position}
use Rattle.morris_pairs.specs.declared.layout.Layout.{Layout}
use Rattle.morris_pairs.specs.Orders.{Order, Full, Classes, Rows, order_of, is_first_half, to_first_half, row_size_of, row_index_of, count_in, index_in, own_in}

-- The position t stands for the position s: it is s or an image of it, has the number of s for its
-- own, and the value of s.
pub record StandsFor (board : Shape) (o : Order) (c : Counts) (s t : Sides) : Type 0 where
  pub position : IsPosition board t
  pub of : is_of c t ≡ true
  pub own : own_in board o t ≡ true
  pub entry : index_in board board.points o c t ≡ index_in board board.points o c s
  pub image : (s ≡ t) ⊎ IsImage board s t
  pub one_value : HaveOneValue board s t

-- The numbers of a pair: that of a position is below their count; two positions don't have one for
-- their own; and for each position there is one that stands for it.
pub record IsLaid (board : Shape) (o : Order) (c : Counts) : Type 0 where
  pub below : (s : Sides) → IsPosition board s → is_of c s ≡ true → index_in board board.points o c s < count_in board board.points o c
  pub alone : (s t : Sides) → IsPlaced board.points s → IsPlaced board.points t → is_of c s ≡ true → is_of c t ≡ true
      → own_in board o s ≡ true → own_in board o t ≡ true
      → index_in board board.points o c s ≡ index_in board board.points o c t → s ≡ t
  pub stands : (s : Sides) → IsPosition board s → is_of c s ≡ true → (t : Sides) × StandsFor board o c s t

-- ---- a number for each position

pub laid-full : (board : Shape) → board.points ≤ 24 → (c : Counts) → IsLaid board Full c
laid-full board few c = record {
  below = λ s h of. index-lt board.points c (omega arith) s (placed board board.points s refl h) of;
  alone = λ s t h k s_of t_of s_own t_own same. index-same board.points c (omega arith) s t h k s_of t_of same;
  stands = λ s h of. (s, record { position = h; of = of; own = refl; entry = refl; image = inl refl; one_value = record { lost = λ n. refl; won = λ n. refl } });
}

-- ---- canonical forms of positions

-- a position of a pair has as many stones as a position may have
pub is_sized-is_of : (n : ℕ) (c : Counts) (s : Sides) → IsPair n c → is_of c s ≡ true → is_sized s ≡ true
is_sized-is_of n c s h of = elim (halves_of c s of) [
  | inl y ↦ and_from _ _
      (from_between 2 (count_of s.own) 9 (omega (arith, y.0, h.least, h.ordered)) (omega (arith, y.0, h.most)))
      (from_between 3 (count_of s.other) 9 (omega (arith, y.1, h.least)) (omega (arith, y.1, h.most, h.ordered)))
  | inr y ↦ and_from _ _
      (from_between 2 (count_of s.own) 9 (omega (arith, y.1, h.least)) (omega (arith, y.1, h.most, h.ordered)))
      (from_between 3 (count_of s.other) 9 (omega (arith, y.2, h.least, h.ordered)) (omega (arith, y.2, h.most)))
]

-- placed stones with the numbers of a pair are a position
pub position_of : (board : Shape) (c : Counts) (s : Sides) → IsPair board.points c → IsPlaced board.points s → is_of c s ≡ true → IsPosition board s
position_of board c s pair h of = record {
  stones = record { own_within = h.own_within; other_within = h.other_within; apart = h.apart };
  sized = is_sized-is_of board.points c s pair of;
}

-- the canonical form of a position: its image under the canonicalizing symmetry of one of its sets,
-- the own one once `turn` is applied
abbrev pub canonical_by : Shape → (Sides → Sides) → Sides → Sides
canonical_by board turn s = image_sides (board.image (symmetry_of board (turn s).own)) s

-- An order by canonical forms: `turn` makes one of a position's sets the own one, and an image of
-- the position has the image of this set; the number is the own one of positions in which this set
-- is in canonical form; and just the positions that have one canonical form have one number, that
-- of this form.
pub record IsCanonicalBy (board : Shape) (o : Order) (c : Counts) (turn : Sides → Sides) : Type 0 where
  pub within : (s : Sides) → IsPosition board s → (turn s).own < 2 ^ board.points
  pub image : (k : ℕ) → k < board.symmetries → (s : Sides) → IsPosition board s
      → (turn (image_sides (board.image k) s)).own ≡ image_of (board.image k) (turn s).own
  pub own : (s : Sides) → own_in board o s ≡ eqb (representative_of board (turn s).own) (turn s).own
  pub below : (s : Sides) → IsPosition board s → is_of c s ≡ true → index_in board board.points o c s < count_in board board.points o c
  pub alone : (s t : Sides) → IsPosition board s → IsPosition board t → is_of c s ≡ true → is_of c t ≡ true
      → index_in board board.points o c s ≡ index_in board board.points o c t → canonical_by board turn s ≡ canonical_by board turn t
  pub there : (s : Sides) → IsPosition board s → is_of c s ≡ true
      → index_in board board.points o c (canonical_by board turn s) ≡ index_in board board.points o c s

module _ (board : Shape) (few : board.points ≤ 24) (y : HasSymmetries board) (o : Order) (c : Counts) (turn : Sides → Sides) (laws : IsCanonicalBy board o c turn) where
  -- a position whose number is its own is its own canonical form
  pub canonical_none : (s : Sides) → IsPosition board s → own_in board o s ≡ true → canonical_by board turn s ≡ s
  canonical_none s h own =
      let least : representative_of board (turn s).own ≡ (turn s).own = eqb-true _ _ (sym (laws.own s) ∙ own) in
      let none : symmetry_of board (turn s).own ≡ 0 =
      ap (symmetry_of board) (sym least) ∙ representative_symmetry board few y (turn s).own (laws.within s h) in
      ap (λ k. image_sides (board.image k) s) none
      ∙ ap₂ sides (image_none board few y s.own h.stones.own_within) (image_none board few y s.other h.stones.other_within)

  module _ (s : Sides) (h : IsPosition board s) where
    leads : symmetry_of board (turn s).own < board.symmetries
    leads = symmetry_within board few y (turn s).own (laws.within s h)

    one : IsOneToOne board.points (board.image (symmetry_of board (turn s).own)) (board.image (inverse_of (symmetry_of board (turn s).own)))
    one = one_to_one board _ _ (y.symmetry (symmetry_of board (turn s).own) leads)

    there : IsPosition board (canonical_by board turn s)
    there = IsPosition-image board few _ _ one s h

    set_there : (turn (canonical_by board turn s)).own ≡ representative_of board (turn s).own
    unfolding representative_of
    set_there = laws.image (symmetry_of board (turn s).own) leads s h

    own_there : own_in board o (canonical_by board turn s) ≡ true
    own_there =
        laws.own (canonical_by board turn s)
        ∙ eq-eqb _ _ (ap (representative_of board) set_there ∙ representative_twice board few y (turn s).own (laws.within s h) ∙ sym set_there)

    of_there : is_of c s ≡ true → is_of c (canonical_by board turn s) ≡ true
    of_there of = rw (
      count_of-image board.points few _ _ one s.own h.stones.own_within,
      count_of-image board.points few _ _ one s.other h.stones.other_within,
    ) of

    image_there : IsImage board s (canonical_by board turn s)
    image_there = record {
      map = board.image (symmetry_of board (turn s).own);
      back = board.image (inverse_of (symmetry_of board (turn s).own));
      symmetry = y.symmetry (symmetry_of board (turn s).own) leads;
      image = refl;
    }

  pub laid-canonical_form : IsPair board.points c → IsLaid board o c
  laid-canonical_form pair = record {
    below = laws.below;
    alone = λ s t h k s_of t_of s_own t_own same.
        let here = position_of board c s pair h s_of in
        let also = position_of board c t pair k t_of in
        sym (canonical_none s here s_own) ∙ laws.alone s t here also s_of t_of same ∙ canonical_none t also t_own;
    stands = λ s h of. (
      canonical_by board turn s,
      record {
        position = there s h;
        of = of_there s h of;
        own = own_there s h;
        entry = laws.there s h of;
        image = inr (image_there s h);
        one_value = IsImage-value board few s (canonical_by board turn s) h (image_there s h);
      },
    );
  }

-- ---- by the player to move

module _ (board : Shape) (few : board.points ≤ 24) (y : HasSymmetries board) where
  module _ (s : Sides) (h : IsPosition board s) where
    canonical_twice : canonical_form board (canonical_form board s) ≡ canonical_form board s
    canonical_twice =
        let p = canonical_position board board.points few refl y s h in
        canonical_itself board board.points few refl y (canonical_form board s).own (canonical_form board s).other p.stones.own_within p.stones.other_within
        (ap (representative_of board) (canonical_own board board.points few refl y s h)
        ∙ representative_twice board few y s.own h.stones.own_within
        ∙ sym (canonical_own board board.points few refl y s h))

    own_count : count_of (canonical_form board s).own ≡ count_of s.own
    own_count = canonical_own_count board board.points few refl y s h

    other_count : count_of (canonical_form board s).other ≡ count_of s.other
    other_count = canonical_other_count board board.points few refl y s h

    class_there : class_of board (canonical_form board s).own ≡ class_of board s.own
    class_there = ap (class_of board) (canonical_own board board.points few refl y s h) ∙ class_of-representative board few y s.own h.stones.own_within

    half_there : class_half_index board board.points (canonical_form board s) ≡ class_half_index board board.points s
    unfolding class_half_index
    half_there =
        ap₂ (λ x r. x + r)
        (ap₂ (λ x r. x * r) class_there (ap₂ (λ a b. choose (board.points - a) b) own_count other_count))
        (ap (λ (t : Sides). rank_of (map (number_outside t.own) (members t.other))) canonical_twice)

    index_there : (c : Counts) → class_index_of board board.points c (canonical_form board s) ≡ class_index_of board board.points c s
    unfolding class_index_of
    index_there c = rw (own_count, half_there) refl

    -- the number of a position among those with as many stones
    half_lt : (a b : ℕ) → count_of s.own ≡ a → count_of s.other ≡ b → class_half_index board board.points s < class_half_size board board.points a b
    half_lt a b own other =
        subst (λ k. class_half_index board board.points s < class_half_size board board.points k b) own
        (subst (λ k. class_half_index board board.points s < class_half_size board board.points (count_of s.own) k) other
        (half_index-lt board board.points few refl y s h (class_below board board.points few refl y s h)))

  pub canonical_form-classes : (c : Counts) → IsCanonicalBy board Classes c (λ s. s)
  unfolding canonical_form
  canonical_form-classes c = record {
    within = λ s h. h.stones.own_within;
    image = λ k low s h. refl;
    own = λ s. refl;
    below = class_index-lt board board.points few refl y c;
    alone = λ s t h k s_of t_of same. canonical_alone board board.points few refl y c s t h k s_of t_of same;
    there = λ s h of. index_there s h c;
  }

-- ---- by the side with more stones

pub to_first_half-yes : (s : Sides) → is_first_half s ≡ true → to_first_half s ≡ s
to_first_half-yes s e = ap (λ b. cond {A = Sides} b s (swap_sides s)) e

pub to_first_half-no : (s : Sides) → is_first_half s ≡ false → to_first_half s ≡ swap_sides s
to_first_half-no s e = ap (λ b. cond {A = Sides} b s (swap_sides s)) e

-- in which half of a pair a position is
pub first_half_cases : (n : ℕ) (c : Counts) → IsPair n c → (s : Sides) → is_of c s ≡ true
    → ((is_first_half s ≡ true) × (count_of s.own ≡ c.greater) × (count_of s.other ≡ c.lesser))
    ⊎ ((is_first_half s ≡ false) × (c.greater ≢ c.lesser) × (count_of s.own ≡ c.lesser) × (count_of s.other ≡ c.greater))
first_half_cases n c pair s of = elim (halves_of c s of) [
  | inl a ↦ inl (le-leb (count_of s.other) (count_of s.own) (omega (arith, a.0, a.1, pair.ordered)), a.0, a.1)
  | inr b ↦ inr (lt-leb (count_of s.other) (count_of s.own) (omega (arith, b.0, b.1, b.2, pair.ordered)), b.0, b.1, b.2)
]

module _ (board : Shape) (n : ℕ) (c : Counts) where
  abbrev half : ℕ
  half = class_half_size board n c.greater c.lesser

  pub row_size-one : c.greater ≡ c.lesser → row_size_of board n c ≡ half
  unfolding row_size_of
  row_size-one e = rw (eq-eqb c.greater c.lesser e) (omega arith)

  pub row_size-two : c.greater ≢ c.lesser → row_size_of board n c ≡ half + half
  unfolding row_size_of
  row_size-two d = rw (ne_eqb c.greater c.lesser d) refl

  pub row_index-to_first_half : (s : Sides) → is_first_half s ≡ true → row_index_of board n c s ≡ class_half_index board n s
  unfolding row_index_of
  row_index-to_first_half s e = rw e (omega arith)

  pub row_index-second_half : (s : Sides) → is_first_half s ≡ false → row_index_of board n c s ≡ half + class_half_index board n (swap_sides s)
  unfolding row_index_of
  row_index-second_half s e = rw e refl

module _ (board : Shape) (few : board.points ≤ 24) (y : HasSymmetries board) where
  pub first_half_within : (s : Sides) → IsPosition board s → (to_first_half s).own < 2 ^ board.points
  first_half_within s h = elim (cases_Bool (is_first_half s)) [
    | inl e ↦ subst (λ (u : Sides). u.own < 2 ^ board.points) (sym (to_first_half-yes s e)) h.stones.own_within
    | inr e ↦ subst (λ (u : Sides). u.own < 2 ^ board.points) (sym (to_first_half-no s e)) h.stones.other_within
  ]

  module _ (k : ℕ) (low : k < board.symmetries) (s : Sides) (h : IsPosition board s) where
    pub is_first_half-image : is_first_half (image_sides (board.image k) s) ≡ is_first_half s
    is_first_half-image =
        let one = one_to_one board _ _ (y.symmetry k low) in
        ap₂ (λ a b. leb a b) (count_of-image board.points few _ _ one s.other h.stones.other_within)
        (count_of-image board.points few _ _ one s.own h.stones.own_within)

    pub to_first_half-image : to_first_half (image_sides (board.image k) s) ≡ image_sides (board.image k) (to_first_half s)
    to_first_half-image = elim (cases_Bool (is_first_half s)) [
      | inl e ↦ to_first_half-yes (image_sides (board.image k) s) (is_first_half-image ∙ e) ∙ sym (ap (image_sides (board.image k)) (to_first_half-yes s e))
      | inr e ↦ to_first_half-no (image_sides (board.image k) s) (is_first_half-image ∙ e) ∙ sym (ap (image_sides (board.image k)) (to_first_half-no s e))
    ]

  module _ (c : Counts) (pair : IsPair board.points c) where
    swapped_here : (s : Sides) → IsPosition board s → is_of c s ≡ true → IsPosition board (swap_sides s)
    swapped_here = turned_position board board.points few refl y c pair

    row_index-lt : (s : Sides) → IsPosition board s → is_of c s ≡ true → row_index_of board board.points c s < row_size_of board board.points c
    row_index-lt s h of = elim (first_half_cases board.points c pair s of) [
      | inl a ↦
          let low = half_lt board few y s h c.greater c.lesser a.1 a.2 in
          elim (cases_eq c.greater c.lesser) [
            | inl e ↦ omega (arith, low, row_index-to_first_half board board.points c s a.0, row_size-one board board.points c e)
            | inr d ↦ omega (arith, low, row_index-to_first_half board board.points c s a.0, row_size-two board board.points c d)
          ]
      | inr b ↦
          omega (arith, half_lt board few y (swap_sides s) (swapped_here s h of) c.greater c.lesser b.3 b.2, row_index-second_half board board.points c s b.0, row_size-two board board.points c b.1)
    ]

    canonical_form-to_first_half : (s : Sides) → is_first_half s ≡ true → canonical_by board to_first_half s ≡ canonical_form board s
    unfolding canonical_form
    canonical_form-to_first_half s e = ap (λ (u : Sides). image_sides (board.image (symmetry_of board u.own)) s) (to_first_half-yes s e)

    canonical_form-second_half : (s : Sides) → is_first_half s ≡ false → canonical_by board to_first_half s ≡ swap_sides (canonical_form board (swap_sides s))
    unfolding canonical_form
    canonical_form-second_half s e = ap (λ (u : Sides). image_sides (board.image (symmetry_of board u.own)) s) (to_first_half-no s e)

    row_alone : (s t : Sides) → IsPosition board s → IsPosition board t → is_of c s ≡ true → is_of c t ≡ true
        → row_index_of board board.points c s ≡ row_index_of board board.points c t → canonical_by board to_first_half s ≡ canonical_by board to_first_half t
    row_alone s t h k s_of t_of same = elim (first_half_cases board.points c pair s s_of) [
      | inl a ↦ elim (first_half_cases board.points c pair t t_of) [
        | inl b ↦
            canonical_form-to_first_half s a.0
            ∙ canonical_same board board.points few refl y s t h k (a.1 ∙ sym b.1) (a.2 ∙ sym b.2) (sym (row_index-to_first_half board board.points c s a.0) ∙ same ∙ row_index-to_first_half board board.points c t b.0)
            ∙ sym (canonical_form-to_first_half t b.0)
        | inr b ↦ absurd (omega (arith, half_lt board few y s h c.greater c.lesser a.1 a.2, same, row_index-to_first_half board board.points c s a.0, row_index-second_half board board.points c t b.0))
      ]
      | inr a ↦ elim (first_half_cases board.points c pair t t_of) [
        | inl b ↦ absurd (omega (arith, half_lt board few y t k c.greater c.lesser b.1 b.2, same, row_index-to_first_half board board.points c t b.0, row_index-second_half board board.points c s a.0))
        | inr b ↦
            canonical_form-second_half s a.0
            ∙ ap swap_sides (canonical_same board board.points few refl y (swap_sides s) (swap_sides t) (swapped_here s h s_of) (swapped_here t k t_of) (a.3 ∙ sym b.3) (a.2 ∙ sym b.2)
            (omega (arith, same, row_index-second_half board board.points c s a.0, row_index-second_half board board.points c t b.0)))
            ∙ sym (canonical_form-second_half t b.0)
      ]
    ]

    first_half_here : (s : Sides) → IsPosition board s → is_of c s ≡ true → IsPosition board (to_first_half s)
    first_half_here s h of = elim (cases_Bool (is_first_half s)) [
      | inl e ↦ subst (IsPosition board) (sym (to_first_half-yes s e)) h
      | inr e ↦ subst (IsPosition board) (sym (to_first_half-no s e)) (swapped_here s h of)
    ]

    row_there : (s : Sides) → IsPosition board s → is_of c s ≡ true
        → row_index_of board board.points c (canonical_by board to_first_half s) ≡ row_index_of board board.points c s
    unfolding row_index_of canonical_form
    row_there s h of =
        let low = symmetry_within board few y (to_first_half s).own (first_half_within s h) in
        ap₂ (λ z i. z + i)
        (ap (λ b. cond {A = ℕ} b 0 (half board board.points c)) (is_first_half-image (symmetry_of board (to_first_half s).own) low s h))
        (ap (class_half_index board board.points) (to_first_half-image (symmetry_of board (to_first_half s).own) low s h) ∙ half_there board few y (to_first_half s) (first_half_here s h of))

    pub canonical_form-rows : IsCanonicalBy board Rows c to_first_half
    canonical_form-rows = record {
      within = first_half_within;
      image = λ k low s h. ap (λ (u : Sides). u.own) (to_first_half-image k low s h);
      own = λ s. refl;
      below = row_index-lt;
      alone = row_alone;
      there = row_there;
    }

-- ---- in each order

pub laid_in : (board : Shape) → board.points ≤ 24 → HasSymmetries board → (o : Order) (c : Counts) → IsPair board.points c → IsLaid board o c
laid_in board few y Full c pair = laid-full board few c
laid_in board few y Classes c pair = laid-canonical_form board few y Classes c (λ s. s) (canonical_form-classes board few y c) pair
laid_in board few y Rows c pair = laid-canonical_form board few y Rows c to_first_half (canonical_form-rows board few y c pair) pair

-- and so in either layout of a table
pub laid : (board : Shape) → board.points ≤ 24 → HasSymmetries board → (l : Layout) (c : Counts) → IsPair board.points c → IsLaid board (order_of l) c
laid board few y l c pair = laid_in board few y (order_of l) c pair

-- the numbers are few
module _ (board : Shape) (few : board.points ≤ 24) (y : HasSymmetries board) (c : Counts) (pair : IsPair board.points c) where
  greater_first : IsHalf board.points c.greater c.lesser
  greater_first = record {
    own_least = omega (arith, pair.least, pair.ordered);
    own_most = pair.most;
    other_least = pair.least;
    other_most = omega (arith, pair.most, pair.ordered);
    fits = pair.fits;
  }

  lesser_first : IsHalf board.points c.lesser c.greater
  lesser_first = record {
    own_least = pair.least;
    own_most = omega (arith, pair.most, pair.ordered);
    other_least = omega (arith, pair.least, pair.ordered);
    other_most = pair.most;
    fits = omega (arith, pair.fits);
  }

  full_few : size_of board.points c ≤ 2 ^ 40
  full_few =
      let first : half_size board.points c.greater c.lesser ≤ 549755813888 = half_size-few board.points c.greater c.lesser few greater_first in
      let second : half_size board.points c.lesser c.greater ≤ 549755813888 = half_size-few board.points c.lesser c.greater few lesser_first in
      elim (cases_eq c.greater c.lesser) [
        | inl e ↦ omega (arith, size-one board.points c e)
        | inr d ↦ omega (arith, size-two board.points c d)
      ]

  class_half_few : (a b : ℕ) → IsHalf board.points a b → class_half_size board board.points a b ≤ 549755813888
  class_half_few a b h = class_size-few board board.points few refl y a b h (class_count-few board board.points a few refl)

  classes_few : class_size_of board board.points c ≤ 2 ^ 40
  classes_few =
      let first : class_half_size board board.points c.greater c.lesser ≤ 549755813888 = class_half_few c.greater c.lesser greater_first in
      let second : class_half_size board board.points c.lesser c.greater ≤ 549755813888 = class_half_few c.lesser c.greater lesser_first in
      elim (cases_eq c.greater c.lesser) [
        | inl e ↦ omega (arith, class_size-one board board.points few refl y c e)
        | inr d ↦ omega (arith, class_size-two board board.points few refl y c d)
      ]

  rows_few : row_size_of board board.points c ≤ 2 ^ 40
  rows_few =
      let first : class_half_size board board.points c.greater c.lesser ≤ 549755813888 = class_half_few c.greater c.lesser greater_first in
      elim (cases_eq c.greater c.lesser) [
        | inl e ↦ omega (arith, row_size-one board board.points c e)
        | inr d ↦ omega (arith, row_size-two board board.points c d)
      ]

  pub entries_few : (o : Order) → count_in board board.points o c ≤ 2 ^ 40
  entries_few Full = full_few
  entries_few Classes = classes_few
  entries_few Rows = rows_few
