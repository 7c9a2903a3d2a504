-- Laws of tables of which some are let go.
use Rattle.std.proofs.Common.{◌≡◌, ◌≢◌, ℕ, ◌+◌, ◌<◌, ◌≤◌, ◌/◌, ◌%◌, Bool, true, false, ◌&&◌, nat_lt, nat_le, ◌==◌, if◌then◌else◌, length, get_or, set, Option, Some, None, refl, sym, ap, ◌∙◌, subst, inl, inr, arith, length-set, get_or-set_other, get_or-set_same, eq-eqb}
use Rattle.std.specs.Option.{IfSome}
use Rattle.std.proofs.lemmas.Bool.{cases_Bool, cases_eq, cases_lt, cond-true, cond-false, lt-ltb, le-leb}
use Rattle.morris_board.specs.Boards.{Shape}
use Rattle.morris_index.specs.Pairs.{Counts}
use Rattle.morris_pairs.specs.Tables.{Table, IsTable}
use Rattle.morris_pairs.specs.Shelves.{AreTables, Stored, has_place, retained_from, place_of, table_on}
use Rattle.morris_pairs.proofs.ShelfLaws.{HasNumbers, numbers, cases_pair, table_at, table_nowhere, empty-nothing, place_of-lt, put-this, put-other}

module _ (stored : Stored) (empty : (k : ℕ) → get_or stored k None ≡ None) where
  pub empty-tables : (board : Shape) → length stored ≡ 49 → AreTables board stored
  empty-tables board len = record { places = len; tables = λ c. rw (empty-nothing stored empty c) tt }

pub put-tables : (stored : Stored) (t : Table) → has_place t.pair ≡ true → (board : Shape) → AreTables board stored → IsTable board t
    → AreTables board (set stored (place_of t.pair) (Some t))
put-tables stored t h board lawful exact = record {
  places = length-set _ _ _ ∙ lawful.places;
  tables = λ c. elim (cases_pair c t.pair) [
    | inl e ↦ subst (λ p. IfSome (table_on (set stored (place_of t.pair) (Some t)) p) (λ u. (u.pair ≡ p) × IsTable board u)) (sym e) (rw (put-this stored t lawful.places h) (refl, exact))
    | inr other ↦ rw (put-other stored t lawful.places h c other) (lawful.tables c)
  ];
}

-- ---- one table is let go

ltb-no : (a b : ℕ) → b ≤ a → nat_lt a b ≡ false
ltb-no a b h = grind arith

eqb-no : (a b : ℕ) → a ≢ b → (a == b) ≡ false
eqb-no a b h = grind arith

module _ (stored : Stored) (place : ℕ) (len : length stored ≡ 49) (inside : place < 49) where
  abbrev without : Stored
  without = set stored place None

  pub forgotten : (c : Counts) → has_place c ≡ true → table_on without c ≡ (if place_of c == place then None else table_on stored c)
  forgotten c h = elim (cases_eq (place_of c) place) [
    | inl e ↦
        table_at without c h ∙ (ap (λ k. get_or without k None) e ∙ get_or-set_same stored place None None (omega (arith, len, inside)))
        ∙ sym (cond-true (place_of c == place) None (table_on stored c) (eq-eqb (place_of c) place e))
    | inr other ↦
        table_at without c h ∙ get_or-set_other stored place (place_of c) None None other ∙ sym (table_at stored c h)
        ∙ sym (cond-false (place_of c == place) None (table_on stored c) (eqb-no (place_of c) place other))
  ]

  pub forgotten-tables : (board : Shape) → AreTables board stored → AreTables board without
  forgotten-tables board lawful = record {
    places = length-set _ _ _ ∙ len;
    tables = λ c. elim (cases_Bool (has_place c)) [
      | inl h ↦ rw (forgotten c h) (either (place_of c == place) (table_on stored c) c (lawful.tables c))
      | inr h ↦ rw (table_nowhere without c h) tt
    ];
  }
    where
      either : (b : Bool) (o : Option Table) (c : Counts) → IfSome o (λ t. (t.pair ≡ c) × IsTable board t)
          → IfSome (if b then None else o) (λ t. (t.pair ≡ c) × IsTable board t)
      either true o c here = tt
      either false o c here = here

-- ---- those of fewer stones are let go, place by place

-- how many stones the pair at a place has
pub stones-at : (c : Counts) (place : ℕ) → has_place c ≡ true → place_of c ≡ place → c.greater + c.lesser ≡ 6 + place / 7 + place % 7
stones-at c place h e = let n : HasNumbers c = numbers c h in omega (arith, e, n.0, n.1, n.2, n.3)

-- what there is of a pair's table once the places below this one were passed
abbrev pub left_at : ℕ → Stored → ℕ → Counts → Option Table
left_at stones old place c = if nat_lt (place_of c) place && nat_lt (c.greater + c.lesser) stones then None else table_on old c

-- whether another place is passed is as before
passed : (n place : ℕ) → n ≢ place → nat_lt n place ≡ nat_lt n (place + 1)
passed n place other = elim (cases_lt n place) [
  | inl below ↦ lt-ltb n place below ∙ sym (lt-ltb n (place + 1) (omega arith))
  | inr above ↦ ltb-no n place above ∙ sym (ltb-no n (place + 1) (omega (arith, above, other)))
]

module _ (stones : ℕ) (old now : Stored) (place : ℕ) (so_far : (c : Counts) → has_place c ≡ true → table_on now c ≡ left_at stones old place c) where
  pub goes_on-let_go : (next : Stored) → 6 + place / 7 + place % 7 < stones
      → ((c : Counts) → has_place c ≡ true → table_on next c ≡ (if place_of c == place then None else table_on now c))
      → (c : Counts) → has_place c ≡ true → table_on next c ≡ left_at stones old (place + 1) c
  goes_on-let_go next fewer step c h = elim (cases_eq (place_of c) place) [
    | inl e ↦
        let sum = stones-at c place h e in
        step c h ∙ cond-true (place_of c == place) None (table_on now c) (eq-eqb (place_of c) place e)
        ∙ sym (cond-true _ None (table_on old c) (rw (lt-ltb (place_of c) (place + 1) (omega arith), lt-ltb (c.greater + c.lesser) stones (omega arith)) refl))
    | inr other ↦
        step c h ∙ cond-false (place_of c == place) None (table_on now c) (eqb-no (place_of c) place other) ∙ so_far c h
        ∙ ap (λ b. if b && nat_lt (c.greater + c.lesser) stones then None else table_on old c) (passed (place_of c) place other)
  ]

  pub goes_on-keep : stones ≤ 6 + place / 7 + place % 7 → (c : Counts) → has_place c ≡ true → table_on now c ≡ left_at stones old (place + 1) c
  goes_on-keep many c h = elim (cases_eq (place_of c) place) [
    | inl e ↦
        let sum = stones-at c place h e in
        so_far c h ∙ cond-false _ None (table_on old c) (rw (ltb-no (place_of c) place (omega arith)) refl)
        ∙ sym (cond-false _ None (table_on old c) (rw (lt-ltb (place_of c) (place + 1) (omega arith), ltb-no (c.greater + c.lesser) stones (omega arith)) refl))
    | inr other ↦ so_far c h ∙ ap (λ b. if b && nat_lt (c.greater + c.lesser) stones then None else table_on old c) (passed (place_of c) place other)
  ]

-- once all places were passed
pub let_go-last : (stones : ℕ) (old new : Stored) → ((c : Counts) → has_place c ≡ true → table_on new c ≡ left_at stones old 49 c)
    → (c : Counts) → table_on new c ≡ retained_from stones old c
let_go-last stones old new all c = elim (cases_Bool (has_place c)) [
  | inl h ↦ all c h ∙ elim (cases_lt (c.greater + c.lesser) stones) [
    | inl fewer ↦
        cond-true _ None (table_on old c) (rw (lt-ltb (place_of c) 49 (place_of-lt c h), lt-ltb (c.greater + c.lesser) stones fewer) refl)
        ∙ sym (cond-false (nat_le stones (c.greater + c.lesser)) (table_on old c) None (leb-no stones (c.greater + c.lesser) fewer))
    | inr many ↦
        cond-false _ None (table_on old c) (rw (lt-ltb (place_of c) 49 (place_of-lt c h), ltb-no (c.greater + c.lesser) stones many) refl)
        ∙ sym (cond-true (nat_le stones (c.greater + c.lesser)) (table_on old c) None (le-leb stones (c.greater + c.lesser) many))
  ]
  | inr h ↦ table_nowhere new c h ∙ sym (same (nat_le stones (c.greater + c.lesser)) (table_on old c) (table_nowhere old c h))
]
  where
    leb-no : (a b : ℕ) → b < a → nat_le a b ≡ false
    leb-no a b h = grind arith

    same : (b : Bool) (o : Option Table) → o ≡ None → (if b then o else None) ≡ None
    same true o e = e
    same false o e = refl
