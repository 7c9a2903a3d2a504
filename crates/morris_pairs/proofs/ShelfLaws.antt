-- Laws of the shelf: the places of pairs, and what putting a table there does.
use Rattle.std.proofs.Common.{◌≡◌, ◌≢◌, ℕ, zero, suc, ◌-◌, ◌<◌, ◌≤◌, ◌⊎◌, Bool, true, false, ◌&&◌, leb, List, [], ◌∷◌, ◌++◌, length, get_or, set, Option, Some, None, Bor, refl, sym, ap, ◌∙◌, subst, inl, inr, arith, get_or-set_other, get_or-set_same}
use Rattle.std.specs.List.{Contains, list_all, find}
use Rattle.std.specs.Option.{is_some, is_none, IfSome, option_to_list, option_copied}
use Rattle.std.proofs.lemmas.Bool.{cases_Bool, cases_eq, cases_lt, both_ways, and_parts, leb-true, le-leb, lt-ltb, cond-true, cond-false}
use Rattle.std.proofs.lemmas.List.{get_or_default}
use Rattle.std.proofs.Math.Path.{ap₂}
use Rattle.morris_moves.proofs.ListLaws.{all_contained, Contains-head, Contains-tail, Contains-cons_cases}
use Rattle.morris_board.specs.Boards.{Shape}
use Rattle.morris_board.specs.Positions.{is_between}
use Rattle.morris_index.specs.Pairs.{Counts, counts, IsPair, all_needs, less_lesser, all_pairs, is_below, below_of}
use Rattle.morris_pairs.specs.FilterLaws.{filter-contains, contained-filter}
use Rattle.morris_pairs.specs.Tables.{Table}
use Rattle.morris_pairs.specs.Shelves.{AreTables, Stored, has_place, place_of, table_on, HasAllBelow, IsShelf, first_missing}

-- ---- what a search finds

module _ {X : Type 0} (p : X → Bool) where
  pub find_nothing : (xs : List X) (x : X) → find p xs ≡ None → Contains xs x → p x ≡ false
  find_nothing [] x e m = absurd (omega (arith, m.1))
  find_nothing (y ∷ xs) x e m = elim (cases_Bool (p y)) [
    | inl holds ↦ absurd (some_is_not_none (sym (cond-true (p y) (Some y) (find p xs) holds) ∙ e))
    | inr fails ↦
        elim (Contains-cons_cases y xs x m) [
          | inl here ↦ ap p (sym here) ∙ fails
          | inr later ↦ find_nothing xs x (sym (cond-false (p y) (Some y) (find p xs) fails) ∙ e) later
        ]
  ]
    where
      some_is_not_none : {x : X} → Some x ≡ None → ⊥
      some_is_not_none e = cc

  pub find_none : (xs : List X) → ((x : X) → Contains xs x → p x ≡ false) → find p xs ≡ None
  find_none [] h = refl
  find_none (y ∷ xs) h =
      cond-false (p y) (Some y) (find p xs) (h y (Contains-head y xs)) ∙ find_none xs (λ x m. h x (Contains-tail y xs x m))

-- ---- the pairs below a pair

all_lawful : list_all (λ d. leb 3 d.lesser && leb d.lesser d.greater) all_pairs ≡ true
unfolding all_pairs
all_lawful = refl

-- a pair below another is that one itself or below one of those that it needs
pub below-split : (c d : Counts) → Contains (below_of c) d → (d ≡ c) ⊎ ((need : Counts) × Contains (all_needs c) need × Contains (below_of need) d)
unfolding below_of
below-split c d m = elim (cases_lt d.lesser c.lesser) [
  | inl less ↦
      inr (
        counts c.greater (c.lesser - 1),
        rw (lt-ltb 3 c.lesser (omega (arith, lawful.0))) (Contains-head _ _),
        contained-filter (is_below (counts c.greater (c.lesser - 1))) all_pairs d (found.0) (rw (le-leb d.greater c.greater (within.0), le-leb d.lesser (c.lesser - 1) (omega arith)) refl),
      )
  | inr as_many ↦ elim (cases_lt d.greater c.greater) [
    | inl fewer ↦
        inr (
          counts (c.greater - 1) c.lesser,
          rw (lt-ltb c.lesser c.greater (omega (arith, lawful.1))) (last_option (less_lesser c) (counts (c.greater - 1) c.lesser)),
          contained-filter (is_below (counts (c.greater - 1) c.lesser)) all_pairs d (found.0) (rw (le-leb d.greater (c.greater - 1) (omega arith), le-leb d.lesser c.lesser (within.1)) refl),
        )
    | inr the_same ↦ inl (ap₂ counts (omega (arith, within.0)) (omega (arith, within.1)))
  ]
]
  where
    found : Contains all_pairs d × (is_below c d ≡ true)
    found = filter-contains (is_below c) all_pairs d m

    within : (d.greater ≤ c.greater) × (d.lesser ≤ c.lesser)
    within = let parts = and_parts (leb d.greater c.greater) (leb d.lesser c.lesser) (found.1) in (leb-true _ _ parts.0, leb-true _ _ parts.1)

    lawful : (3 ≤ d.lesser) × (d.lesser ≤ d.greater)
    lawful =
        let parts = and_parts (leb 3 d.lesser) (leb d.lesser d.greater) (all_contained (λ e. leb 3 e.lesser && leb e.lesser e.greater) all_pairs all_lawful d (found.0)) in
        (leb-true _ _ parts.0, leb-true _ _ parts.1)

    last_option : (o : Option Counts) (e : Counts) → Contains (option_to_list o ++ option_to_list (Some e)) e
    last_option None e = Contains-head e []
    last_option (Some x) e = Contains-tail x (e ∷ []) e (Contains-head e [])

-- ---- the places

pub has_place-pair : (n : ℕ) (c : Counts) → IsPair n c → has_place c ≡ true
has_place-pair n c h =
    rw (le-leb 3 c.greater (omega (arith, h.least, h.ordered)), le-leb c.greater 9 h.most, le-leb 3 c.lesser h.least, le-leb c.lesser 9 (omega (arith, h.most, h.ordered))) refl

-- the numbers of a pair that has a place
abbrev pub HasNumbers : Counts → Type 0
HasNumbers c = (3 ≤ c.greater) × (c.greater ≤ 9) × (3 ≤ c.lesser) × (c.lesser ≤ 9)

pub numbers : (c : Counts) → has_place c ≡ true → HasNumbers c
numbers c h =
    let both = and_parts (is_between 3 c.greater 9) (is_between 3 c.lesser 9) h in
    let greater = and_parts (leb 3 c.greater) (leb c.greater 9) (both.0) in
    let lesser = and_parts (leb 3 c.lesser) (leb c.lesser 9) (both.1) in
    (leb-true _ _ greater.0, leb-true _ _ greater.1, leb-true _ _ lesser.0, leb-true _ _ lesser.1)

pub place_of-lt : (c : Counts) → has_place c ≡ true → place_of c < 49
place_of-lt c h = let n : HasNumbers c = numbers c h in omega (arith, n.0, n.1, n.2, n.3)

-- two pairs have two places
same_place : (c d : Counts) → has_place c ≡ true → has_place d ≡ true → place_of c ≡ place_of d → c ≡ d
same_place c d h k e =
    let n : HasNumbers c = numbers c h in
    let m : HasNumbers d = numbers d k in
    ap₂ counts (omega (arith, e, n.0, n.2, n.3, m.0, m.2, m.3)) (omega (arith, e, n.0, n.2, n.3, m.0, m.2, m.3))

pub cases_pair : (c d : Counts) → (c ≡ d) ⊎ (c ≢ d)
cases_pair c d = elim (cases_eq c.greater d.greater) [
  | inl e ↦ elim (cases_eq c.lesser d.lesser) [ inl f ↦ inl (ap₂ counts e f) | inr g ↦ inr (λ is. g (ap (λ p. p.lesser) is)) ]
  | inr g ↦ inr (λ is. g (ap (λ p. p.greater) is))
]

pub table_at : (shelf : Stored) (c : Counts) → has_place c ≡ true → table_on shelf c ≡ get_or shelf (place_of c) None
unfolding table_on
table_at shelf c h = rw h refl

pub table_nowhere : (shelf : Stored) (c : Counts) → has_place c ≡ false → table_on shelf c ≡ None
unfolding table_on
table_nowhere shelf c h = rw h refl

-- what is read at the place of a pair
pub table_read : (shelf : Stored) (c : Counts) (place : ℕ) (found : Option Table) → length shelf ≡ 49 → has_place c ≡ true → place ≡ place_of c
    → found ≡ get_or shelf place found → found ≡ table_on shelf c
table_read shelf c place found len h e is =
    is ∙ get_or_default shelf place found None (omega (arith, place_of-lt c h)) ∙ ap (λ k. get_or shelf k None) e ∙ sym (table_at shelf c h)

-- ---- an empty shelf

module _ (shelf : Stored) (empty : (k : ℕ) → get_or shelf k None ≡ None) where
  pub empty-nothing : (c : Counts) → table_on shelf c ≡ None
  empty-nothing c = elim (cases_Bool (has_place c)) [
    | inl h ↦ table_at shelf c h ∙ empty (place_of c)
    | inr h ↦ table_nowhere shelf c h
  ]

pub empty-push : (shelf : Stored) → ((k : ℕ) → get_or shelf k None ≡ None) → (k : ℕ) → get_or (shelf ++ None ∷ []) k None ≡ None
empty-push [] h zero = refl
empty-push [] h (suc k) = refl
empty-push (o ∷ shelf) h zero = h 0
empty-push (o ∷ shelf) h (suc k) = empty-push shelf (λ i. h (suc i)) k

-- ---- a table put on the shelf

-- where no pair is missing, each that is needed is there
pub needed-there : (shelf : Stored) (c : Counts) → first_missing shelf c ≡ None → (need : Counts) → Contains (all_needs c) need → is_some (table_on shelf need) ≡ true
needed-there shelf c all need m = there (table_on shelf need) (find_nothing (λ p. is_none (table_on shelf p)) (all_needs c) need all m)
  where
    there : (o : Option Table) → is_none o ≡ false → is_some o ≡ true
    there None e = cc
    there (Some t) e = refl

-- where each pair that is needed is there, none is missing
pub none-missing : (shelf : Stored) (c : Counts) → ((need : Counts) → Contains (all_needs c) need → is_some (table_on shelf need) ≡ true) → first_missing shelf c ≡ None
none-missing shelf c all = find_none (λ p. is_none (table_on shelf p)) (all_needs c) (λ need m. there (table_on shelf need) (all need m))
  where
    there : (o : Option Table) → is_some o ≡ true → is_none o ≡ false
    there None e = cc
    there (Some t) e = refl

-- what was there when a table was put on the shelf still is
pub still-there : (old new : Stored) (t : Table) → table_on new t.pair ≡ Some t → ((c : Counts) → c ≢ t.pair → table_on new c ≡ table_on old c)
    → (c : Counts) → is_some (table_on old c) ≡ true → is_some (table_on new c) ≡ true
still-there old new t this others c there = elim (cases_pair c t.pair) [
  | inl e ↦ rw (e, this) refl
  | inr other ↦ ap is_some (others c other) ∙ there
]

module _ (shelf : Stored) (t : Table) (len : length shelf ≡ 49) (h : has_place t.pair ≡ true) where
  abbrev put : Stored
  put = set shelf (place_of t.pair) (Some t)

  pub put-this : table_on put t.pair ≡ Some t
  put-this = table_at put t.pair h ∙ get_or-set_same shelf (place_of t.pair) (Some t) None (omega (arith, place_of-lt t.pair h))

  pub put-other : (c : Counts) → c ≢ t.pair → table_on put c ≡ table_on shelf c
  put-other c other = elim (cases_Bool (has_place c)) [
    | inl k ↦
        table_at put c k
        ∙ get_or-set_other shelf (place_of t.pair) (place_of c) (Some t) None (λ e. other (same_place c t.pair k h e))
        ∙ sym (table_at shelf c k)
    | inr k ↦ table_nowhere put c k ∙ sym (table_nowhere shelf c k)
  ]

-- nothing stands on an empty shelf
pub empty-closed : (board : Shape) (shelf : Stored) → AreTables board shelf → ((c : Counts) → table_on shelf c ≡ None) → IsShelf board shelf
empty-closed board shelf exact nothing = record { exact = exact; closed = λ c h. absurd (both_ways (is_some (table_on shelf c)) (ap is_some (nothing c)) h) }

-- a table is put onto a shelf that has those that its pair needs
pub put-lawful : (board : Shape) (shelf put : Stored) (t : Table) → IsShelf board shelf → AreTables board put → first_missing shelf t.pair ≡ None
    → table_on put t.pair ≡ Some t → ((c : Counts) → c ≢ t.pair → table_on put c ≡ table_on shelf c) → IsShelf board put
put-lawful board shelf put t lawful exact all this others = record { exact = exact; closed = put-closed }
  where
    cache : (c : Counts) → is_some (table_on shelf c) ≡ true → is_some (table_on put c) ≡ true
    cache = still-there shelf put t this others

    put-closed : (c : Counts) → is_some (table_on put c) ≡ true → HasAllBelow put c
    put-closed c there d below = elim (cases_pair c t.pair) [
      | inl e ↦
          elim (below-split t.pair d (subst (λ p. Contains (below_of p) d) e below)) [
            | inl itself ↦ rw (itself, this) refl
            | inr under ↦ cache d (lawful.closed (under.0) (needed-there shelf t.pair all (under.0) (under.1)) d (under.2))
          ]
      | inr other ↦ cache d (lawful.closed c (ap is_some (sym (others c other)) ∙ there) d below)
    ]

-- ---- what a look-up gives

module _ {T : Type 0} (P : T → Type 0) where
  pub from_copied : (r : Option (Bor T)) (o : Option T) → option_copied r ≡ o → IfSome o P → IfSome r (λ x. P x.now)
  from_copied None o e h = tt
  from_copied (Some x) o e h = subst (λ s. IfSome s P) (sym e) h

pub where_there : {T : Type 0} (P : Type 0) (r : Option (Bor T)) (o : Option T) → option_copied r ≡ o → (is_some o ≡ true → P) → IfSome r (λ _. P)
where_there P None o e h = tt
where_there P (Some x) o e h = h (ap is_some (sym e))
