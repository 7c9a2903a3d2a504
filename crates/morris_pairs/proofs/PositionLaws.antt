-- Each index below the size of a pair is that of a position of the pair, and in each order each
-- number is some position's own.
use Rattle.std.proofs.Common.{◌≡◌, ◌≢◌, ℕ, zero, suc, ◌+◌, ◌-◌, ◌/◌, ◌%◌, ◌^◌, ◌<◌, ◌≤◌, true, false, eqb, [], ◌∷◌, refl, sym, ap, ap₂, subst, ◌∙◌, inl, inr, arith}
use Rattle.std.proofs.lemmas.Bool.{cases_Bool, cases_eq, cases_lt, both_ways, and_from, eq-eqb, le-leb, lt-leb, false_from_ne_true}
use Rattle.morris_board.specs.Boards.{Shape}
use Rattle.morris_board.specs.Sets.{count_of}
use Rattle.morris_board.specs.Positions.{Sides, sides, IsPosition}
use Rattle.morris_board.specs.Symmetries.{HasSymmetries}
use Rattle.morris_index.specs.Binomials.{choose}
use Rattle.morris_index.specs.Numbering.{half_size, half_index, IsRanked}
use Rattle.morris_index.specs.Pairs.{Counts, IsPair, has_counts, is_of, size_of, index_of}
use Rattle.morris_index.specs.Classes.{representative_of, is_representative, classes_below, class_of, class_count}
use Rattle.morris_index.specs.ClassPairs.{class_half_size, class_half_index, class_size_of, class_index_of}
use Rattle.morris_index.specs.ByOpponent.{swap_sides}
use Rattle.morris_index.proofs.FacingLaws.{turned_of, turned_position}
use Rattle.morris_index.proofs.IndexLaws.{IsPlaced, own_part-lt, other_part-lt, half_index-ranked, is_of-first, is_of-second, index-in_first, index-in_second, second_half}
use Rattle.morris_index.proofs.ClassLaws.{test_parts, one_more, no_more}
use Rattle.morris_index.proofs.ClassLaws.{none_below as no_classes_below}
use Rattle.morris_index.proofs.ClassPairLaws.{choices_some, class_part-lt, class_index-of, index-first, index-second}
use Rattle.morris_index.proofs.ClassPairLaws.{other_part-lt as class_other_part-lt, second_half as class_second_half}
use Rattle.morris_pairs.specs.declared.layout.Layout.{Layout}
use Rattle.morris_pairs.specs.Orders.{Order, Full, Classes, Rows, order_of, is_first_half, row_size_of, row_index_of, count_in, index_in, own_in}
use Rattle.morris_pairs.specs.EntryLaws.{position_of, laid_in, to_first_half-yes, to_first_half-no, row_size-one, row_size-two, row_index-to_first_half, row_index-second_half}
use Rattle.morris_pairs.specs.PairNets.{at_index}
use Rattle.morris_pairs.specs.NetLaws.{at_index-is}
use Rattle.morris_pairs.proofs.RankedSets.{ranked_set}

-- ---- each index is that of a position

-- placed stones with given numbers
record HasStones (n a b : ℕ) (s : Sides) : Type 0 where
  pub placed : IsPlaced n s
  pub own_count : count_of s.own ≡ a
  pub other_count : count_of s.other ≡ b

has_both : (n a b : ℕ) (s : Sides) → HasStones n a b s → has_counts a b s ≡ true
has_both n a b s h = and_from _ _ (eq-eqb (count_of s.own) a h.own_count) (eq-eqb (count_of s.other) b h.other_count)

-- ranked stones outside a set of others are placed beside these
stones_beside : (n a b own rank other : ℕ) → own < 2 ^ n → count_of own ≡ a → IsRanked n own b rank other → HasStones n a b (sides own other)
stones_beside n a b own rank other within counted ranked = record {
  placed = record {
    own_within = within;
    other_within = ranked.within;
    apart = λ p e. false_from_ne_true _ (λ also. both_ways _ (ranked.apart p also) e);
  };
  own_count = counted;
  other_count = ranked.counted;
}

indexed_at : (n a b index : ℕ) → n ≤ 24 → index < half_size n a b → (s : Sides) × HasStones n a b s × (half_index n s ≡ index)
indexed_at n a b index few small =
    let own = ranked_set n 0 a (index / choose (n - a) b) few (own_part-lt n a b index small) in
    let other = ranked_set n own.0 b (index % choose (n - a) b) few (other_part-lt n a b index small own.0 (omega arith) own.1) in (
      sides own.0 other.0,
      stones_beside n a b own.0 (index % choose (n - a) b) other.0 own.1.within own.1.counted other.1,
      half_index-ranked n a b index small own.0 (omega arith) own.1 other.0 other.1,
    )

module _ (board : Shape) (few : board.points ≤ 24) (c : Counts) (pair : IsPair board.points c) where
  -- the position of the pair with an index
  pub position_at : (i : ℕ) → i < size_of board.points c → (s : Sides) × IsPosition board s × (is_of c s ≡ true) × (index_of board.points c s ≡ i)
  position_at i low = elim (cases_lt i (half_size board.points c.greater c.lesser)) [
    | inl first ↦
        let found = indexed_at board.points c.greater c.lesser i few first in
        let both = has_both board.points c.greater c.lesser found.0 found.1 in
        let of = is_of-first c found.0 both in
        (found.0, position_of board c found.0 pair found.1.placed of, of, index-in_first board.points c found.0 i both found.2)
    | inr second ↦
        let half = second_half board.points c i low second in
        let found = indexed_at board.points c.lesser c.greater (i - half_size board.points c.greater c.lesser) few half.1 in
        let both = has_both board.points c.lesser c.greater found.0 found.1 in
        let of = is_of-second c found.0 both in
        (found.0, position_of board c found.0 pair found.1.placed of, of, index-in_second board.points c found.0 i half.0 both second found.2)
  ]

-- ---- each class has a representative

module _ (board : Shape) (count k : ℕ) where
  -- the representative with this number is below a mask
  abbrev IsFound : ℕ → Type 0
  IsFound mask = (set : ℕ) × (set < mask) × (is_representative board count set ≡ true) × (classes_below board count set ≡ k)

  found_later : (mask : ℕ) → IsFound mask → IsFound (suc mask)
  found_later mask found = (found.0, omega (arith, found.1), found.2, found.3)

  found_below : (mask : ℕ) → k < classes_below board count mask → IsFound mask
  found_below zero low = absurd (omega (arith, low, no_classes_below board count 0 (λ set less. absurd (omega arith))))
  found_below (suc mask) low = elim (cases_Bool (is_representative board count mask)) [
    | inl counts ↦ elim (cases_eq (classes_below board count mask) k) [
      | inl here ↦ (mask, omega arith, counts, here)
      | inr before ↦ found_later mask (found_below mask (omega (arith, low, one_more board count mask counts)))
    ]
    | inr other ↦ found_later mask (found_below mask (omega (arith, low, no_more board count mask other)))
  ]

  class_found : k < class_count board count
      → (set : ℕ) × (set < 2 ^ board.points) × (representative_of board set ≡ set) × (count_of set ≡ count) × (class_of board set ≡ k)
  unfolding class_count class_of
  class_found low =
      let found = found_below (2 ^ board.points) low in
      let parts = test_parts board count found.0 found.2 in
      (found.0, found.1, parts.0, parts.1, ap₂ (classes_below board) parts.1 parts.0 ∙ found.3)

-- ---- each number is a position's own

-- the position with the number i for its own
pub record IsAtNode (board : Shape) (o : Order) (c : Counts) (i : ℕ) (s : Sides) : Type 0 where
  pub position : IsPosition board s
  pub of : is_of c s ≡ true
  pub own : own_in board o s ≡ true
  pub entry : index_in board board.points o c s ≡ i

-- the position with an entry of a table for its own
abbrev pub IsAtEntry : Shape → Layout → Counts → ℕ → Sides → Type 0
IsAtEntry board l c i s = IsAtNode board (order_of l) c i s

module _ (board : Shape) (few : board.points ≤ 24) (y : HasSymmetries board) where
  -- the stones with a number among the entries of their numbers: the player to move stands on the
  -- representative of a class
  class_indexed_at : (a b index : ℕ) → index < class_half_size board board.points a b
      → (s : Sides) × HasStones board.points a b s × (representative_of board s.own ≡ s.own) × (class_half_index board board.points s ≡ index)
  class_indexed_at a b index small =
      let own = class_found board a (index / choose (board.points - a) b) (class_part-lt board board.points few refl y a b index small) in
      let other = ranked_set board.points own.0 b (index % choose (board.points - a) b) few
      (class_other_part-lt board board.points few refl y a b index small own.0 own.1 own.3) in (
        sides own.0 other.0,
        stones_beside board.points a b own.0 (index % choose (board.points - a) b) other.0 own.1 own.3 other.1,
        own.2,
        class_index-of board board.points few refl y own.0 other.0 own.1 other.1.within own.2 a b index own.3 other.1.counted own.4 other.1.ranked
            (choices_some board board.points few refl y a b index small),
      )

  module _ (c : Counts) (pair : IsPair board.points c) where
    at_class_entry : (i a b : ℕ) (s : Sides) → HasStones board.points a b s → representative_of board s.own ≡ s.own → is_of c s ≡ true
        → class_index_of board board.points c s ≡ i → IsAtNode board Classes c i s
    at_class_entry i a b s h least of entry = record {
      position = position_of board c s pair h.placed of;
      of = of;
      own = eq-eqb (representative_of board s.own) s.own least;
      entry = entry;
    }

    class_position_at : (i : ℕ) → i < class_size_of board board.points c → (s : Sides) × IsAtNode board Classes c i s
    class_position_at i low = elim (cases_lt i (class_half_size board board.points c.greater c.lesser)) [
      | inl first ↦
          let found = class_indexed_at c.greater c.lesser i first in
          let s = found.0 in
          let of = is_of-first c s (has_both board.points c.greater c.lesser s found.1) in
          (s, at_class_entry i c.greater c.lesser s found.1 found.2 of (index-first board board.points few refl y c s found.1.own_count ∙ found.3))
      | inr second ↦
          let half = class_second_half board board.points few refl y c i low second in
          let found = class_indexed_at c.lesser c.greater (i - class_half_size board board.points c.greater c.lesser) half.1 in
          let s = found.0 in
          let of = is_of-second c s (has_both board.points c.lesser c.greater s found.1) in
          let own : count_of s.own ≢ c.greater = λ e. half.0 (sym e ∙ found.1.own_count) in
          let index : class_index_of board board.points c s ≡ i = omega (arith, index-second board board.points few refl y c s own, found.3, second) in
          (s, at_class_entry i c.lesser c.greater s found.1 found.2 of index)
    ]

    -- in rows, the position of a class, or the one that has its sides swapped
    row_position_at : (i : ℕ) → i < row_size_of board board.points c → (s : Sides) × IsAtNode board Rows c i s
    row_position_at i low = elim (cases_lt i (class_half_size board board.points c.greater c.lesser)) [
      | inl first ↦
          let found = class_indexed_at c.greater c.lesser i first in
          let s : Sides = found.0 in
          let of = is_of-first c s (has_both board.points c.greater c.lesser s found.1) in
          let e : is_first_half s ≡ true = le-leb (count_of s.other) (count_of s.own) (omega (arith, found.1.own_count, found.1.other_count, pair.ordered)) in (
            s,
            record {
              position = position_of board c s pair found.1.placed of;
              of = of;
              own = subst (λ (u : Sides). eqb (representative_of board u.own) u.own ≡ true) (sym (to_first_half-yes s e))
                  (eq-eqb (representative_of board s.own) s.own found.2);
              entry = row_index-to_first_half board board.points c s e ∙ found.3;
            },
          )
      | inr second ↦ elim (cases_eq c.greater c.lesser) [
        | inl same ↦ absurd (omega (arith, low, second, row_size-one board board.points c same))
        | inr differ ↦
            let found = class_indexed_at c.greater c.lesser (i - class_half_size board board.points c.greater c.lesser)
            (omega (arith, low, second, row_size-two board board.points c differ)) in
            let u : Sides = found.0 in
            let s : Sides = swap_sides u in
            let u_of : is_of c u ≡ true = is_of-first c u (has_both board.points c.greater c.lesser u found.1) in
            let e : is_first_half s ≡ false =
            lt-leb (count_of u.own) (count_of u.other) (omega (arith, found.1.own_count, found.1.other_count, pair.ordered, differ)) in
            let at : row_index_of board board.points c s ≡ class_half_size board board.points c.greater c.lesser + class_half_index board board.points u =
            row_index-second_half board board.points c s e in (
              s,
              record {
                position = turned_position board board.points few refl y c pair u (position_of board c u pair found.1.placed u_of) u_of;
                of = turned_of c u u_of;
                own = subst (λ (v : Sides). eqb (representative_of board v.own) v.own ≡ true) (sym (to_first_half-no s e))
                    (eq-eqb (representative_of board u.own) u.own found.2);
                entry = omega (arith, at, found.3, second);
              },
            )
      ]
    ]

  pub position_of_node : (o : Order) (c : Counts) → IsPair board.points c → (i : ℕ) → i < count_in board board.points o c
      → (s : Sides) × IsAtNode board o c i s
  position_of_node Full c pair i low =
      let found = position_at board few c pair i low in
      (found.0, record { position = found.1; of = found.2; own = refl; entry = found.3 })
  position_of_node Classes c pair i low = class_position_at c pair i low
  position_of_node Rows c pair i low = row_position_at c pair i low

  -- each node of the graph stands for one position
  pub at_index-some : (o : Order) (c : Counts) → IsPair board.points c → (i : ℕ) → i < count_in board board.points o c
      → (s : Sides) × IsAtNode board o c i s × (at_index board o c i ≡ s ∷ [])
  at_index-some o c pair i low =
      let found = position_of_node o c pair i low in
      let s = found.0 in
      let w = found.1 in
      (s, w, ap (at_index board o c) (sym w.entry) ∙ at_index-is board few o c (laid_in board few y o c pair) s w.position w.of w.own)
