-- Rows of entries: the numbers of the opponent's stones in each entry of a row.
use Rattle.std.proofs.Common.{◌≡◌, ◌≢◌, ℕ, ◌+◌, ◌-◌, ◌*◌, ◌/◌, ◌%◌, ◌^◌, ◌<◌, ◌≤◌, nat_eq, true, false, List, map, length, slice_index, refl, sym, ◌∙◌, ap, subst, inl, inr, arith}
use Rattle.std.proofs.lemmas.Bool.{cases_Bool, both_ways, eq-eqb, ne_eqb}
use Rattle.std.proofs.lemmas.Bool.Decides.{nat_tests}
use Rattle.std.proofs.lemmas.Nat.{div-add-mod'}
use Rattle.std.proofs.Math.Nat.{mod-lt, pow-le-pow_right}
use Rattle.morris_board.specs.Boards.{Shape}
use Rattle.morris_board.specs.Sets.{has, members, count_of}
use Rattle.morris_board.specs.Positions.{Sides, sides, is_sized, IsApart, IsPosition}
use Rattle.morris_board.specs.Symmetries.{HasSymmetries}
use Rattle.morris_index.specs.Binomials.{choose}
use Rattle.morris_index.specs.Numbering.{rank_of, number_outside, IsRanked}
use Rattle.morris_index.specs.Pairs.{Counts, IsPair, is_of}
use Rattle.morris_index.specs.Parts.{squeeze_below}
use Rattle.morris_index.specs.Classes.{representative_of, class_of}
use Rattle.morris_index.specs.ClassPairs.{canonical_form, class_half_size, class_size_of, class_index_of}
use Rattle.morris_index.specs.ClassMoves.{class_half_start, class_start_of}
use Rattle.morris_index.specs.EntryRows.{InRow, in_row, IsInRow, StandsIn, opponent_count, IsHalfRow, IsEntryRow}
use Rattle.morris_index.specs.Standings.{are_of}
use Rattle.morris_index.proofs.ClassPairLaws.{canonical_itself, canonical_alone, index-lt, entry-parts}
use Rattle.morris_index.proofs.IndexLaws.{number_outside-count}
use Rattle.morris_index.proofs.NumberLaws.{numbers_end}
use Rattle.morris_board.proofs.PositionLaws.{from_between}
use Rattle.morris_index.proofs.Spreading.{IsSpread, spread-ranked, listed-fits, spread_exists}

-- ---- the entries from an index on, by the parts of the index

module _ (board : Shape) (n a b index set : ℕ) (numbers : List ℕ) (least : representative_of board set ≡ set) (within : set < 2 ^ n) (counted : count_of set ≡ a)
    (class : class_of board set ≡ index / choose (n - a) b) (some : 0 < choose (n - a) b) (len : index % choose (n - a) b + length numbers ≡ choose (n - a) b)
    (each : (place : ℕ) → place < length numbers → IsRanked (n - a) 0 b (index % choose (n - a) b + place) (slice_index numbers place)) where
  start_is : class_half_start board n set b ≡ index / choose (n - a) b * choose (n - a) b
  start_is = rw (counted, class) refl

  choices_is : choose (n - count_of set) b ≡ choose (n - a) b
  choices_is = rw counted refl

  rank_is : index - class_half_start board n set b ≡ index % choose (n - a) b
  rank_is = omega (arith, start_is, div-add-mod' index (choose (n - a) b))

  pub half_row : IsHalfRow board n set b index numbers
  half_row = record {
    least = least;
    within = within;
    some = omega (arith, len, mod-lt index some);
    start = omega (arith, start_is, div-add-mod' index (choose (n - a) b));
    whole = omega (arith, start_is, choices_is, div-add-mod' index (choose (n - a) b), len);
    each = λ place low. rw (rank_is, counted) (each place low);
  }

-- ---- a row of either half of a pair

module _ (board : Shape) (n : ℕ) (c : Counts) (pair : IsPair n c) (index own : ℕ) (numbers : List ℕ) where
  pub first_row : count_of own ≡ c.greater → IsHalfRow board n own c.lesser index numbers → IsEntryRow board n (in_row c index own (length numbers)) numbers
  first_row counted half =
      let test : nat_eq (count_of own) c.greater ≡ true = eq-eqb _ _ counted in
      let against : opponent_count c own ≡ c.lesser = rw test refl in
      let of : are_of c (count_of own) c.lesser ≡ true = rw (test, eq-eqb c.lesser c.lesser refl) refl in
      record {
        pair = pair;
        counts = subst (λ b. are_of c (count_of own) b ≡ true) (sym against) of;
        len = refl;
        first = (index, rw test (omega arith), subst (λ b. IsHalfRow board n own b index numbers) (sym against) half);
      }

  pub second_row : c.greater ≢ c.lesser → count_of own ≡ c.lesser → class_half_size board n c.greater c.lesser ≤ index
      → IsHalfRow board n own c.greater (index - class_half_size board n c.greater c.lesser) numbers → IsEntryRow board n (in_row c index own (length numbers)) numbers
  second_row differ counted past half =
      let test : nat_eq (count_of own) c.greater ≡ false = ne_eqb _ _ (λ e. differ (sym e ∙ counted)) in
      let against : opponent_count c own ≡ c.greater = rw test refl in
      let of : are_of c (count_of own) c.greater ≡ true = rw (test, eq-eqb (count_of own) c.lesser counted, eq-eqb c.greater c.greater refl) refl in
      record {
        pair = pair;
        counts = subst (λ b. are_of c (count_of own) b ≡ true) (sym against) of;
        len = refl;
        first = (
          index - class_half_size board n c.greater c.lesser,
          rw test (omega arith),
          subst (λ b. IsHalfRow board n own b (index - class_half_size board n c.greater c.lesser) numbers) (sym against) half,
        );
      }

-- ---- what is known of the entries of a row

-- the numbers of stones are those of a position
module _ (n : ℕ) (c : Counts) (own other : ℕ) (pair : IsPair n c) (of : are_of c own other ≡ true) where
  own_least : 3 ≤ own
  own_least = grind (arith, nat_tests)

  own_most : own ≤ 9
  own_most = grind (arith, nat_tests)

  other_least : 3 ≤ other
  other_least = grind (arith, nat_tests)

  other_most : other ≤ 9
  other_most = grind (arith, nat_tests)

module _ (board : Shape) (n : ℕ) (few : n ≤ 24) (points : board.points ≡ n) (y : HasSymmetries board) (row : InRow) (numbers : List ℕ)
    (k : IsEntryRow board n row numbers) where
  abbrev other_count : ℕ
  other_count = opponent_count row.pair row.own

  abbrev index : ℕ
  index = k.first.0

  half : IsHalfRow board n row.own other_count index numbers
  half = k.first.2

  pub row_some : 1 ≤ row.len
  row_some = omega (arith, half.some, k.len)

  free : number_outside row.own n ≡ n - count_of row.own
  free = omega (arith, number_outside-count n row.own half.within (omega arith))

  pub own_fits : row.own < 2 ^ 24
  own_fits = omega (arith, half.within, pow-le-pow_right {n = 2} (omega arith) {i = n} {j = 24} few)

  module _ (place : ℕ) (inside : place < row.len) where
    abbrev rank : ℕ
    rank = (index - class_half_start board n row.own other_count) + place

    ranked : IsRanked (n - count_of row.own) 0 other_count rank (slice_index numbers place)
    ranked = half.each place (omega (arith, k.len, inside))

    pub numbers_fit : slice_index numbers place < 2 ^ number_outside row.own 24
    numbers_fit = listed-fits n (n - count_of row.own) other_count rank (slice_index numbers place) row.own few free ranked

    module _ (other : ℕ) (within : other < 2 ^ 24) (apart : (p : ℕ) → has other p ≡ true → has row.own p ≡ false)
        (is : squeeze_below row.own other 24 ≡ slice_index numbers place) where
      other_ranked : IsRanked n row.own other_count rank other
      other_ranked = spread-ranked n row.own other_count rank (slice_index numbers place) other few (rw free ranked) within apart is

      own_apart : (p : ℕ) → has row.own p ≡ true → has other p ≡ false
      own_apart p h = elim (cases_Bool (has other p)) [
        | inl here ↦ absurd (both_ways (has row.own p) (apart p here) h)
        | inr none ↦ none
      ]

      row_apart : IsApart board (sides row.own other)
      row_apart = record {
        own_within = subst (λ m. row.own < 2 ^ m) (sym points) half.within;
        other_within = subst (λ m. other < 2 ^ m) (sym points) other_ranked.within;
        apart = own_apart;
      }

      row_sized : is_sized (sides row.own other) ≡ true
      row_sized =
          let least = own_least n row.pair (count_of row.own) other_count k.pair k.counts in
          let most = own_most n row.pair (count_of row.own) other_count k.pair k.counts in
          let other_is = other_ranked.counted in
          let other_low : 3 ≤ count_of other = omega (arith, other_is, other_least n row.pair (count_of row.own) other_count k.pair k.counts) in
          let other_high : count_of other ≤ 9 = omega (arith, other_is, other_most n row.pair (count_of row.own) other_count k.pair k.counts) in
          rw (from_between 2 (count_of row.own) 9 (omega (arith, least)) most, from_between 3 (count_of other) 9 other_low other_high) refl

      row_entry : class_index_of board n row.pair (sides row.own other) ≡ row.first + place
      row_entry =
          let itself : canonical_form board (sides row.own other) ≡ sides row.own other =
          canonical_itself board n few points y row.own other half.within other_ranked.within half.least in
          let ranks : rank_of (map (number_outside (canonical_form board (sides row.own other)).own) (members (canonical_form board (sides row.own other)).other)) ≡ rank =
          ap (λ (s : Sides). rank_of (map (number_outside s.own) (members s.other))) itself ∙ other_ranked.ranked in
          let starts : class_start_of board n row.pair row.own (count_of other) ≡ class_start_of board n row.pair row.own other_count =
          ap (class_start_of board n row.pair row.own) other_ranked.counted in
          omega (arith, entry-parts board n few points y row.pair (sides row.own other), ranks, starts, half.start, k.first.1)

      row_position : IsInRow board n row place (sides row.own other)
      row_position = record {
        lawful = record { stones = row_apart; sized = row_sized };
        counts = subst (λ b. are_of row.pair (count_of row.own) b ≡ true) (sym other_ranked.counted) k.counts;
        own = refl;
        entry = row_entry;
      }

    -- the canonical form of all positions with the entry is the one of the row
    row_canonical : (t s : Sides) → IsInRow board n row place t → IsPosition board s → is_of row.pair s ≡ true
        → class_index_of board n row.pair s ≡ row.first + place → t ≡ canonical_form board s
    row_canonical t s at lawful of entry =
        let own_in : t.own < 2 ^ n = subst (λ m. t.own < 2 ^ m) points at.lawful.stones.own_within in
        let other_in : t.other < 2 ^ n = subst (λ m. t.other < 2 ^ m) points at.lawful.stones.other_within in
        let least : representative_of board t.own ≡ t.own = rw at.own half.least in
        sym (canonical_itself board n few points y t.own t.other own_in other_in least)
        ∙ canonical_alone board n few points y row.pair t s at.lawful lawful at.counts of (at.entry ∙ sym entry)

    pub row_spread : (other : ℕ) → other < 2 ^ 24 → ((p : ℕ) → has other p ≡ true → has row.own p ≡ false) → squeeze_below row.own other 24 ≡ slice_index numbers place
        → StandsIn board n row place (sides row.own other)
    row_spread other within apart is =
        let at = row_position other within apart is in
        record { inside = at; canonical_form = λ s lawful of entry. row_canonical (sides row.own other) s at lawful of entry }

    -- the free points with these numbers
    abbrev stones : (set : ℕ) × IsSpread row.own (slice_index numbers place) set
    stones = spread_exists row.own (slice_index numbers place) numbers_fit

    pub row_stands : (s : Sides) × StandsIn board n row place s
    row_stands = (sides row.own stones.0, row_spread stones.0 stones.1.within stones.1.apart stones.1.squeeze)

    pub row_numbers : (s : Sides) → IsInRow board n row place s → slice_index numbers place ≡ squeeze_below row.own s.other n
    row_numbers s at =
        let same : s ≡ sides row.own stones.0 =
        row_canonical s s at at.lawful at.counts at.entry ∙ sym ((row_spread stones.0 stones.1.within stones.1.apart stones.1.squeeze).canonical_form s at.lawful at.counts at.entry) in
        let other_in : s.other < 2 ^ n = subst (λ m. s.other < 2 ^ m) points at.lawful.stones.other_within in
        let whole : (24 - n) + n ≡ 24 = omega arith in
        sym stones.1.squeeze
        ∙ ap (λ (t : Sides). squeeze_below row.own t.other 24) (sym same)
        ∙ ap (squeeze_below row.own s.other) (sym whole)
        ∙ numbers_end row.own s.other n (24 - n) other_in

  pub row_inside : row.first + row.len ≤ class_size_of board n row.pair
  row_inside =
      let last = row_stands (row.len - 1) (omega (arith, row_some)) in
      omega (arith, row_some, last.1.inside.entry, index-lt board n few points y row.pair last.0 last.1.inside.lawful last.1.inside.counts)
