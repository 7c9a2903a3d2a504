-- Positions that are counted by the codes of the entries of a table.
use Rattle.std.proofs.Common.{◌≡◌, ◌≢◌, ◌⊎◌, ℕ, ◌+◌, ◌-◌, ◌*◌, ◌<◌, ◌≤◌, Bool, true, false, List, [], ◌∷◌, ◌++◌, Option, None, Some, Result, Ok, Err, length, get_or, set, take, drop, replicate, refl, sym, ap, ◌∙◌, subst, inl, inr, arith, append-nil, drop_of_length-le, get_or-set_other, get_or-set_same}
use Rattle.std.specs.Prelude.{IfSome, OnOk}
use Rattle.std.specs.List.{AllPairs, Contains}
use Rattle.std.proofs.lemmas.Bool.{cases_eq, cases_lt}
use Rattle.std.proofs.lemmas.List.{get_or-append_right, get_or-replicate, get_or_append_left, get_or_past, length-append, length-replicate, take_all}
use Rattle.std.proofs.lemmas.List.Elements.{Contains-append_cases, Contains-append_left, Contains-append_right, Contains-get_or, Contains-push, Contains-push_cases}
use Rattle.morris_board.specs.Boards.{Shape}
use Rattle.morris_board.specs.Sets.{count_of}
use Rattle.morris_board.specs.Positions.{Sides, IsPosition}
use Rattle.morris_board.specs.Symmetries.{HasSymmetries}
use Rattle.morris_index.specs.ClassPairs.{class_half_index, class_half_size, class_index_of}
use Rattle.morris_index.specs.Orbits.{HasPositions}
use Rattle.morris_index.specs.Numbering.{half_index, half_size}
use Rattle.morris_index.specs.Pairs.{Counts, IsPair, index_of, is_of}
use Rattle.morris_index.proofs.IndexLaws.{half_index-lt, halves_of, index-first, index-second, placed}
use Rattle.morris_index.proofs.ClassPairLaws.{class_below, class_index-lt}
use Rattle.morris_index.proofs.ClassPairLaws.{index-first as class_index-first, index-second as class_index-second}
use Rattle.morris_pairs.specs.declared.layout.Layout.{Layout}
use Rattle.morris_pairs.specs.declared.layout.Layout.TheVariants.{Full, Classes}
use Rattle.morris_pairs.specs.Codes.{IsCodeOf}
use Rattle.morris_pairs.specs.Counting.{AreSoMany, AreTallies, AreTalliesOf, HasCode, HasStated, IsBetween, IsOfEntry, first_half_of, with_own}
use Rattle.morris_pairs.specs.Entries.{entry_count, entry_index}
use Rattle.morris_pairs.specs.Orders.{order_of}
use Rattle.morris_pairs.specs.EntryLaws.{laid}
use Rattle.morris_pairs.specs.Tables.{IsTable, Table}
use Rattle.morris_pairs.proofs.CodeLaws.{one_code}
use Rattle.morris_pairs.proofs.PositionLaws.{position_of_node}

-- what holds of every two of one list, and of another, and of each of the one with each of the
-- other, holds of every two of both
pub pairs_append : {X : Type 0} (R : X → X → Type 0) (xs ys : List X) → AllPairs R xs → AllPairs R ys
    → ((x y : X) → Contains xs x → Contains ys y → R x y) → AllPairs R (xs ++ ys)
pairs_append R xs ys first second across = λ i j d less within.
    elim (cases_lt j (length xs)) [
      | inl j_low ↦
          let at_i : get_or (xs ++ ys) i d ≡ get_or xs i d = get_or_append_left xs ys d i (omega arith) in
          let at_j : get_or (xs ++ ys) j d ≡ get_or xs j d = get_or_append_left xs ys d j j_low in
          rw (at_i, at_j) (first i j d less j_low)
      | inr j_past ↦
          let j_in : j - length xs < length ys = omega (arith, within, length-append xs ys) in
          let at_j : get_or (xs ++ ys) j d ≡ get_or ys (j - length xs) d = get_or-append_right xs ys (length xs) j d refl j_past in
          elim (cases_lt i (length xs)) [
            | inl i_low ↦
                let at_i : get_or (xs ++ ys) i d ≡ get_or xs i d = get_or_append_left xs ys d i i_low in
                rw (at_i, at_j)
                (across (get_or xs i d) (get_or ys (j - length xs) d) (Contains-get_or xs i d i_low) (Contains-get_or ys (j - length xs) d j_in))
            | inr i_past ↦
                let at_i : get_or (xs ++ ys) i d ≡ get_or ys (i - length xs) d = get_or-append_right xs ys (length xs) i d refl i_past in
                rw (at_i, at_j) (second (i - length xs) (j - length xs) d (omega arith) j_in)
          ]
    ]

-- what follows where a call goes well
pub on_ok : {T E : Type 0} (P Q : Type 0) (r : Result T E) → (P → Q) → OnOk r P → OnOk r Q
on_ok P Q (Ok done) f h = f h
on_ok P Q (Err failed) f h = tt

-- what holds of each value that there may be
pub for_some : {X : Type 0} (o : Option X) (Q : X → Type 0) → ((x : X) → o ≡ Some x → Q x) → IfSome o Q
for_some None Q f = tt
for_some (Some x) Q f = f x refl

-- a list that was changed in place, all of it
pub written_back : (old new : List ℕ) (n : ℕ) → n ≡ length old → length new ≡ length old → take n (new ++ drop (length new) old) ≡ new
written_back old new n len same =
    let none : new ++ drop (length new) old ≡ new = ap (λ l. new ++ l) (drop_of_length-le old {i = length new} (omega arith)) ∙ append-nil new in
    ap (take n) none ∙ take_all n new (omega arith)

-- tallies of nothing
pub none_counted : (n : ℕ) (tallies : List ℕ) → tallies ≡ replicate n 0 → (code : ℕ) → get_or tallies code 0 ≡ 0
none_counted n tallies is code = rw is (elim (cases_lt code n) [
  | inl low ↦ get_or-replicate n code 0 0 low
  | inr past ↦ get_or_past (replicate n 0) code 0 (omega (arith, length-replicate {A = ℕ} n 0, past))
])

-- ---- so many positions

pub many_none : (asked : Sides → Type 0) → ((s : Sides) → asked s → ⊥) → AreSoMany asked 0
many_none asked none = record {
  positions = [];
  listed = λ s. ((λ c. absurd (omega (arith, c.1))), (λ a. absurd (none s a)));
  once = λ i j d less within. absurd (omega arith);
  many = refl;
}

pub many_one : (asked : Sides → Type 0) (p : Sides) → asked p → ((s : Sides) → asked s → p ≡ s) → AreSoMany asked 1
many_one asked p here alone = record {
  positions = p ∷ [];
  listed = λ s. (
    (λ c. elim (Contains-push_cases [] p s c) [
      | inl none ↦ absurd (omega (arith, none.1))
      | inr e ↦ subst asked e here
    ]),
    (λ a. subst (Contains (p ∷ [])) (alone s a) (Contains-push [] p)),
  );
  once = λ i j d less within. absurd (omega arith);
  many = refl;
}

pub many_same : (asked wanted : Sides → Type 0) (n : ℕ) → ((s : Sides) → asked s → wanted s) → ((s : Sides) → wanted s → asked s) → AreSoMany asked n
    → AreSoMany wanted n
many_same asked wanted n there back h = record {
  positions = h.positions;
  listed = λ s. ((λ c. there s ((h.listed s).0 c)), (λ w. (h.listed s).1 (back s w)));
  once = h.once;
  many = h.many;
}

pub many_join : (first second both : Sides → Type 0) (m n : ℕ) → ((s : Sides) → both s → first s ⊎ second s) → ((s : Sides) → first s → both s)
    → ((s : Sides) → second s → both s) → ((s : Sides) → first s → second s → ⊥) → AreSoMany first m → AreSoMany second n → AreSoMany both (m + n)
many_join first second both m n split of_first of_second apart f g = record {
  positions = f.positions ++ g.positions;
  listed = λ s. (
    (λ c. elim (Contains-append_cases f.positions g.positions s c) [
      | inl here ↦ of_first s ((f.listed s).0 here)
      | inr there ↦ of_second s ((g.listed s).0 there)
    ]),
    (λ b. elim (split s b) [
      | inl here ↦ Contains-append_left f.positions g.positions s ((f.listed s).1 here)
      | inr there ↦ Contains-append_right f.positions g.positions s ((g.listed s).1 there)
    ]),
  );
  once =
      pairs_append (λ (s t : Sides). s ≢ t) f.positions g.positions f.once g.once
      (λ s t c d e. apart t (subst first e ((f.listed s).0 c)) ((g.listed t).0 d));
  many = length-append f.positions g.positions ∙ (ap (λ k. k + length g.positions) f.many ∙ ap (λ k. m + k) g.many);
}

-- ---- tallies, entry by entry

module _ (board : Shape) (t : Table) (all : Bool) (start : ℕ) where
  abbrev entry_of : Sides → ℕ
  entry_of s = entry_index board board.points t.layout t.pair s

  -- none yet
  pub tallied_none : (tallies : List ℕ) → ((code : ℕ) → get_or tallies code 0 ≡ 0) → AreTalliesOf board t all start start tallies
  tallied_none tallies zeros = λ code.
      subst (AreSoMany (λ s. IsBetween board t all start start s code)) (sym (zeros code))
      (many_none (λ s. IsBetween board t all start start s code) (λ s h. omega (arith, h.from, h.below)))

  module _ (entry code orbit_size : ℕ) (tallies : List ℕ) (is : code ≡ get_or t.codes entry 0) (low : start ≤ entry) (fits : code < length tallies)
      (here : AreSoMany (IsOfEntry board t.layout t.pair all entry) orbit_size) (before : AreTalliesOf board t all start entry tallies) where
    abbrev after : List ℕ
    after = set tallies code (get_or tallies code 0 + orbit_size)

    -- a position with an entry up to this one has an earlier one, or this one
    later : (k : ℕ) (s : Sides) → IsBetween board t all start entry s k → IsBetween board t all start (entry + 1) s k
    later k s h = record { stated = h.stated; shown = h.shown; from = h.from; below = omega (arith, h.below) }

    earlier : (k : ℕ) (s : Sides) → IsBetween board t all start (entry + 1) s k → entry_of s ≢ entry → IsBetween board t all start entry s k
    earlier k s h other = record { stated = h.stated; shown = h.shown; from = h.from; below = omega (arith, h.below, other) }

    of_entry : (k : ℕ) (s : Sides) → IsBetween board t all start (entry + 1) s k → entry_of s ≡ entry → IsOfEntry board t.layout t.pair all entry s
    of_entry k s h at = record { lawful = h.stated.lawful; of = h.stated.of; shown = h.shown; entry_is = at }

    from_entry : (k : ℕ) → code ≡ k → (s : Sides) → IsOfEntry board t.layout t.pair all entry s → IsBetween board t all start (entry + 1) s k
    from_entry k e s h = record {
      stated = record { lawful = h.lawful; of = h.of; stated = ap (λ i. get_or t.codes i 0) h.entry_is ∙ (sym is ∙ e) };
      shown = h.shown;
      from = omega (arith, low, h.entry_is);
      below = omega (arith, h.entry_is);
    }

    pub tallied_more : AreTalliesOf board t all start (entry + 1) after
    tallied_more = λ k. elim (cases_eq code k) [
      | inl e ↦
          let value : get_or after k 0 ≡ get_or tallies k 0 + orbit_size =
          ap (λ j. get_or after j 0) (sym e) ∙ (get_or-set_same tallies code (get_or tallies code 0 + orbit_size) 0 fits ∙ ap (λ j. get_or tallies j 0 + orbit_size) e) in
          subst (AreSoMany (λ s. IsBetween board t all start (entry + 1) s k)) (sym value)
          (many_join (λ s. IsBetween board t all start entry s k) (IsOfEntry board t.layout t.pair all entry) (λ s. IsBetween board t all start (entry + 1) s k)
          (get_or tallies k 0) orbit_size
          (λ s h. elim (cases_eq (entry_of s) entry) [ inl at ↦ inr (of_entry k s h at) | inr other ↦ inl (earlier k s h other) ])
          (later k) (from_entry k e) (λ s f g. omega (arith, f.below, g.entry_is)) (before k) here)
      | inr d ↦
          let value : get_or after k 0 ≡ get_or tallies k 0 = get_or-set_other tallies code k (get_or tallies code 0 + orbit_size) 0 (λ e. d (sym e)) in
          subst (AreSoMany (λ s. IsBetween board t all start (entry + 1) s k)) (sym value)
          (many_same (λ s. IsBetween board t all start entry s k) (λ s. IsBetween board t all start (entry + 1) s k) (get_or tallies k 0) (later k)
          (λ s h. earlier k s h (λ at. d (is ∙ (ap (λ i. get_or t.codes i 0) (sym at) ∙ h.stated.stated)))) (before k))
    ]

-- a sum stays small
pub tallied_small : (tallies : List ℕ) (code orbit_size entry : ℕ) → code < length tallies → orbit_size ≤ 16 → ((k : ℕ) → get_or tallies k 0 ≤ 16 * entry) → (k : ℕ)
    → get_or (set tallies code (get_or tallies code 0 + orbit_size)) k 0 ≤ 16 * (entry + 1)
tallied_small tallies code orbit_size entry fits most before k = elim (cases_eq code k) [
  | inl e ↦
      let here : get_or (set tallies code (get_or tallies code 0 + orbit_size)) k 0 ≡ get_or tallies code 0 + orbit_size =
      ap (λ j. get_or (set tallies code (get_or tallies code 0 + orbit_size)) j 0) (sym e)
      ∙ get_or-set_same tallies code (get_or tallies code 0 + orbit_size) 0 fits in
      omega (arith, here, before code)
  | inr d ↦
      let other : get_or (set tallies code (get_or tallies code 0 + orbit_size)) k 0 ≡ get_or tallies k 0 =
      get_or-set_other tallies code k (get_or tallies code 0 + orbit_size) 0 (λ e. d (sym e)) in
      omega (arith, other, before k)
]

-- ---- how many positions an entry stands for

module _ (board : Shape) (few : board.points ≤ 24) (y : HasSymmetries board) where
  module _ (c : Counts) (pair : IsPair board.points c) where
    -- one has it for its own
    pub one_own : (l : Layout) (entry : ℕ) → entry < entry_count board board.points l c → AreSoMany (IsOfEntry board l c false entry) 1
    one_own l entry low =
        let found = position_of_node board few y (order_of l) c pair entry low in
        let p : Sides = found.0 in
        let at = found.1 in
        many_one (IsOfEntry board l c false entry) p (record { lawful = at.position; of = at.of; shown = at.own; entry_is = at.entry })
        (λ s h. (laid board few y l c pair).alone p s (placed board board.points p refl at.position) (placed board board.points s refl h.lawful) at.of h.of at.own h.shown
        (at.entry ∙ sym h.entry_is))

    -- where each position has an entry of its own, one has it
    pub one_full : (all : Bool) (entry : ℕ) → entry < entry_count board board.points Full c → AreSoMany (IsOfEntry board Full c all entry) 1
    one_full false entry low = one_own Full entry low
    one_full true entry low =
        many_same (IsOfEntry board Full c false entry) (IsOfEntry board Full c true entry) 1
        (λ s h. record { lawful = h.lawful; of = h.of; shown = refl; entry_is = h.entry_is })
        (λ s h. record { lawful = h.lawful; of = h.of; shown = refl; entry_is = h.entry_is })
        (one_own Full entry low)

    -- all positions with an entry are those whose canonical form has it for its own
    pub many_classes : (entry count : ℕ) → HasPositions board board.points c entry count → AreSoMany (IsOfEntry board Classes c true entry) count
    many_classes entry count h = record {
      positions = h.positions;
      listed = λ s. (
        (λ m. let e = (h.listed s).0 m in record { lawful = e.lawful; of = e.counts; shown = refl; entry_is = e.entry_is }),
        (λ e. (h.listed s).1 (record { lawful = e.lawful; counts = e.of; entry_is = e.entry_is })),
      );
      once = h.once;
      many = h.many;
    }

  -- ---- all entries, and either half

  module _ (t : Table) (pair : IsPair board.points t.pair) where
    -- where only those are asked for that have an entry of their own, or each position has one,
    -- each entry counts for one
    one_each : (all : Bool) → (all ≡ false) ⊎ (t.layout ≡ Full) → (entry : ℕ) → entry < entry_count board board.points t.layout t.pair
        → AreSoMany (IsOfEntry board t.layout t.pair all entry) 1
    one_each all (inl none) entry low = rw none (one_own t.pair pair t.layout entry low)
    one_each all (inr full) entry low =
        subst (λ (l : Layout). AreSoMany (IsOfEntry board l t.pair all entry) 1) (sym full)
        (one_full t.pair pair all entry (subst (λ (l : Layout). entry < entry_count board board.points l t.pair) full low))

    -- so counting them one by one gives the tallies
    pub tallied_one : (all : Bool) → (all ≡ false) ⊎ (t.layout ≡ Full) → (first end : ℕ) → end ≤ entry_count board board.points t.layout t.pair
        → (before after : List ℕ) → ((code : ℕ) → get_or before code 0 ≡ 0)
        → (((entry : ℕ) → first ≤ entry → entry < end → AreSoMany (IsOfEntry board t.layout t.pair all entry) 1)
        → AreTalliesOf board t all first first before → AreTalliesOf board t all first end after)
        → AreTalliesOf board t all first end after
    tallied_one all how first end within before after zeros more =
        more (λ entry low less. one_each all how entry (omega (arith, less, within))) (tallied_none board t all first before zeros)

    abbrev stated_at : Sides → ℕ
    stated_at s = entry_index board board.points t.layout t.pair s

    -- the tallies of all entries are those of all positions
    pub tallied_all : (tallies : List ℕ) → AreTalliesOf board t true 0 (entry_count board board.points t.layout t.pair) tallies
        → AreTallies (HasStated board t) tallies
    tallied_all tallies h = λ code.
        many_same (λ s. IsBetween board t true 0 (entry_count board board.points t.layout t.pair) s code) (λ s. HasStated board t s code) (get_or tallies code 0)
        (λ s b. b.stated)
        (λ s a. record { stated = a; shown = refl; from = omega arith; below = (laid board few y t.layout t.pair pair).below s a.lawful a.of })
        (h code)

    first_full : (s : Sides) → IsPosition board s → is_of t.pair s ≡ true → count_of s.own ≡ t.pair.greater
        → index_of board.points t.pair s < half_size board.points t.pair.greater t.pair.lesser
    first_full s h of own = elim (halves_of t.pair s of) [
      | inl a ↦
          subst (λ i. i < half_size board.points t.pair.greater t.pair.lesser) (sym (index-first board.points t.pair s a.0))
          (subst (λ n. half_index board.points s < half_size board.points n t.pair.lesser) a.0
          (subst (λ n. half_index board.points s < half_size board.points (count_of s.own) n) a.1
          (half_index-lt board.points (omega arith) s (placed board board.points s refl h))))
      | inr a ↦ absurd (a.0 (sym own ∙ a.1))
    ]

    first_classes : (s : Sides) → IsPosition board s → is_of t.pair s ≡ true → count_of s.own ≡ t.pair.greater
        → class_index_of board board.points t.pair s < class_half_size board board.points t.pair.greater t.pair.lesser
    first_classes s h of own = elim (halves_of t.pair s of) [
      | inl a ↦
          subst (λ i. i < class_half_size board board.points t.pair.greater t.pair.lesser) (sym (class_index-first board board.points few refl y t.pair s a.0))
          (subst (λ n. class_half_index board board.points s < class_half_size board board.points n t.pair.lesser) a.0
          (subst (λ n. class_half_index board board.points s < class_half_size board board.points (count_of s.own) n) a.1
          (class_index-lt board board.points few refl y s h (class_below board board.points few refl y s h))))
      | inr a ↦ absurd (a.0 (sym own ∙ a.1))
    ]

    -- the first entries are those with the greater number of stones of the player to move
    in_first : (l : Layout) → t.layout ≡ l → (s : Sides) → IsPosition board s → is_of t.pair s ≡ true → count_of s.own ≡ t.pair.greater
        → stated_at s < first_half_of board board.points t.layout t.pair
    in_first Full is s h of own = rw is (first_full s h of own)
    in_first Classes is s h of own = rw is (first_classes s h of own)

    in_second : (l : Layout) → t.layout ≡ l → (s : Sides) → is_of t.pair s ≡ true → count_of s.own ≢ t.pair.greater
        → first_half_of board board.points t.layout t.pair ≤ stated_at s
    in_second Full is s of own = rw is (omega (arith, index-second board.points t.pair s own))
    in_second Classes is s of own = rw is (omega (arith, class_index-second board board.points few refl y t.pair s own))

    own_lesser : (s : Sides) → is_of t.pair s ≡ true → count_of s.own ≢ t.pair.greater → count_of s.own ≡ t.pair.lesser
    own_lesser s of other = elim (halves_of t.pair s of) [ inl a ↦ absurd (other a.0) | inr a ↦ a.1 ]

    -- the tallies of the first entries are those of the positions with the greater number
    pub tallied_first : (tallies : List ℕ) → AreTalliesOf board t true 0 (first_half_of board board.points t.layout t.pair) tallies
        → AreTallies (with_own t.pair.greater (HasStated board t)) tallies
    tallied_first tallies h = λ code.
        many_same (λ s. IsBetween board t true 0 (first_half_of board board.points t.layout t.pair) s code)
        (λ s. with_own t.pair.greater (HasStated board t) s code) (get_or tallies code 0)
        (λ s b. elim (cases_eq (count_of s.own) t.pair.greater) [
          | inl own ↦ (own, b.stated)
          | inr other ↦ absurd (omega (arith, b.below, in_second t.layout refl s b.stated.of other))
        ])
        (λ s a. record { stated = a.1; shown = refl; from = omega arith; below = in_first t.layout refl s a.1.lawful a.1.of a.0 })
        (h code)

    -- those of the others are those of the positions with the lesser number, where it is another
    -- one
    pub tallied_second : t.pair.lesser < t.pair.greater → (tallies : List ℕ)
        → AreTalliesOf board t true (first_half_of board board.points t.layout t.pair) (entry_count board board.points t.layout t.pair) tallies
        → AreTallies (with_own t.pair.lesser (HasStated board t)) tallies
    tallied_second less tallies h = λ code.
        many_same (λ s. IsBetween board t true (first_half_of board board.points t.layout t.pair) (entry_count board board.points t.layout t.pair) s code)
        (λ s. with_own t.pair.lesser (HasStated board t) s code) (get_or tallies code 0)
        (λ s b. elim (cases_eq (count_of s.own) t.pair.greater) [
          | inl own ↦ absurd (omega (arith, b.from, in_first t.layout refl s b.stated.lawful b.stated.of own))
          | inr other ↦ (own_lesser s b.stated.of other, b.stated)
        ])
        (λ s a. record {
          stated = a.1;
          shown = refl;
          from = in_second t.layout refl s a.1.of (λ own. omega (arith, less, own, a.0));
          below = (laid board few y t.layout t.pair pair).below s a.1.lawful a.1.of;
        })
        (h code)

-- a code that was read, where the codes are known
pub read_known : (stated : Option (List ℕ)) (known : List ℕ) (entry code : ℕ) → IfSome stated (λ codes. code ≡ get_or codes entry 0) → stated ≡ Some known
    → code ≡ get_or known entry 0
read_known stated known entry code h is = subst (λ o. IfSome o (λ codes. code ≡ get_or codes entry 0)) is h

-- ---- the codes of an exact table say the game's values

module _ (board : Shape) (t : Table) (exact : IsTable board t) where
  pub game_code : (s : Sides) (code : ℕ) → HasStated board t s code → HasCode board t.pair s code
  game_code s code h = record { lawful = h.lawful; of = h.of; coded = subst (IsCodeOf board s) h.stated (exact.exact s h.lawful h.of) }

  pub stated_code : (s : Sides) (code : ℕ) → HasCode board t.pair s code → HasStated board t s code
  stated_code s code h = record { lawful = h.lawful; of = h.of; stated = one_code board s _ code (exact.exact s h.lawful h.of) h.coded }

  pub game_tallies : (tallies : List ℕ) → AreTallies (HasStated board t) tallies → AreTallies (HasCode board t.pair) tallies
  game_tallies tallies h = λ code.
      many_same (λ s. HasStated board t s code) (λ s. HasCode board t.pair s code) (get_or tallies code 0) (λ s a. game_code s code a) (λ s a. stated_code s code a)
      (h code)

  pub game_own : (own : ℕ) (tallies : List ℕ) → AreTallies (with_own own (HasStated board t)) tallies → AreTallies (with_own own (HasCode board t.pair)) tallies
  game_own own tallies h = λ code.
      many_same (λ s. with_own own (HasStated board t) s code) (λ s. with_own own (HasCode board t.pair) s code) (get_or tallies code 0)
      (λ s a. (a.0, game_code s code a.1)) (λ s a. (a.0, stated_code s code a.1)) (h code)
