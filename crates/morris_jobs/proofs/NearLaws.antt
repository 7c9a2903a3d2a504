-- The tables that stay when those that no later pair needs are dropped.
use Rattle.std.proofs.Common.{◌≡◌, ◌≢◌, ℕ, ◌+◌, ◌-◌, ◌<◌, ◌≤◌, Bool, true, false, ◌&&◌, leb, ltb, nat_le, List, [], ◌∷◌, ◌++◌, Option, Some, None, is_some, refl, sym, ap, ◌∙◌, subst, inl, inr, arith}
use Rattle.std.specs.Prelude.{IfSome, option_to_list}
use Rattle.std.specs.List.{Contains, list_all}
use Rattle.std.proofs.lemmas.Bool.{and_parts, cond-false, cond-true, le-leb, leb-true, ltb-false, ltb-true}
use Rattle.std.proofs.lemmas.List.Elements.{Contains-append_left, Contains-append_right, Contains-push_cases}
use Rattle.std.proofs.lemmas.Option.{cond_some}
use Rattle.morris_moves.proofs.ListLaws.{Ascends, Contains-cons_cases, Contains-head, all_contained}
use Rattle.morris_board.specs.Boards.{Shape}
use Rattle.morris_index.specs.Pairs.{Counts, NeedsFirst, all_pairs, below_of, counts, is_below, less_greater, less_lesser, all_needs}
use Rattle.morris_pairs.specs.declared.layout.Layout.{Layout}
use Rattle.morris_pairs.specs.Shelves.{Stored, first_missing, retained_from, table_on}
use Rattle.morris_pairs.proofs.BackLawsLists.{Ascends-filter}
use Rattle.morris_pairs.proofs.GraphLaws.{needed_cases}
use Rattle.morris_pairs.proofs.ShelfLaws.{cases_pair, none-missing}
use Rattle.morris_jobs.specs.Building.{HasExactAt, ArePruned, RetainsNear, stones}

-- none has fewer stones than one before it
abbrev Rises : List Counts → Type 0
Rises cs = Ascends (λ c d. stones c ≤ stones d) cs

abbrev rising : List Counts → Bool
rising [] = true
rising (c ∷ cs) = list_all (λ d. leb (stones c) (stones d)) cs && rising cs

rises : (cs : List Counts) → rising cs ≡ true → Rises cs
rises [] h = tt
rises (c ∷ cs) h =
    let parts = and_parts (list_all (λ d. leb (stones c) (stones d)) cs) (rising cs) h in (
      (λ d m. leb-true _ _ (all_contained (λ e. leb (stones c) (stones e)) cs parts.0 d m)),
      rises cs parts.1,
    )

all_rise : Rises all_pairs
unfolding all_pairs
all_rise = rises all_pairs refl

rises_to : (before after : List Counts) (c d : Counts) → Rises (before ++ c ∷ after) → Contains before d → stones d ≤ stones c
rises_to [] after c d rise m = absurd (omega (arith, m.1))
rises_to (b ∷ before) after c d rise m = elim (Contains-cons_cases b before d m) [
  | inl here ↦ subst (λ x. stones x ≤ stones c) here (rise.0 c (Contains-append_right before (c ∷ after) c (Contains-head c after)))
  | inr later ↦ rises_to before after c d rise.1 later
]

-- of the pairs below a pair none has fewer stones than one before it
pub below-rises : (pair : Counts) (before after : List Counts) (c d : Counts) → before ++ (c ∷ after) ≡ below_of pair → Contains before d → stones d ≤ stones c
unfolding below_of
below-rises pair before after c d split m =
    rises_to before after c d (subst Rises (sym split) (Ascends-filter (λ c d. stones c ≤ stones d) (is_below pair) all_pairs all_rise)) m

-- a pair needs tables of one stone less
pub needs-one_less : (c d : Counts) → Contains (all_needs c) d → stones d + 1 ≡ stones c
needs-one_less c d m = elim (needed_cases c d m) [
  | inl lesser ↦
      let is = cond_some (ltb 3 c.lesser) (counts c.greater (c.lesser - 1)) d lesser in
      let more : 3 < c.lesser = ltb-true 3 c.lesser is.0 in
      omega (arith, more, ap stones is.1)
  | inr greater ↦
      let is = cond_some (ltb c.lesser c.greater) (counts (c.greater - 1) c.lesser) d greater in
      let more : c.lesser < c.greater = ltb-true c.lesser c.greater is.0 in
      omega (arith, more, ap stones is.1)
]

-- A pair has at most one stone more than one before it that has the most: it needs one of those, or
-- it has the fewest stones.
pub follows : (pair : Counts) (before after : List Counts) (c last : Counts) → NeedsFirst (below_of pair) → before ++ (c ∷ after) ≡ below_of pair
    → ((d : Counts) → Contains before d → stones d ≤ stones last) → 6 ≤ stones last → stones c ≤ stones last + 1
follows pair before after c last build_args split most six = by_lesser (ltb 3 c.lesser) refl
  where
    within : (need : Counts) → Contains (all_needs c) need → stones c ≤ stones last + 1
    within need m =
        let up = needs-one_less c need m in
        omega (arith, up, most need (build_args before after c need (sym split) m))

    by_greater : (b : Bool) → ltb c.lesser c.greater ≡ b → c.lesser ≤ 3 → stones c ≤ stones last + 1
    by_greater true more few =
        let need = counts (c.greater - 1) c.lesser in
        let is : less_greater c ≡ Some need = cond-true (ltb c.lesser c.greater) (Some need) None more in
        within need
        (Contains-append_right (option_to_list (less_lesser c)) (option_to_list (less_greater c)) need
        (subst (λ (o : Option Counts). Contains (option_to_list o) need) (sym is) (Contains-head need [])))
    by_greater false even few =
        let no_more : c.greater ≤ c.lesser = ltb-false c.lesser c.greater even in
        omega (arith, no_more, few, six)

    by_lesser : (b : Bool) → ltb 3 c.lesser ≡ b → stones c ≤ stones last + 1
    by_lesser true more =
        let need = counts c.greater (c.lesser - 1) in
        let is : less_lesser c ≡ Some need = cond-true (ltb 3 c.lesser) (Some need) None more in
        within need
        (Contains-append_left (option_to_list (less_lesser c)) (option_to_list (less_greater c)) need
        (subst (λ (o : Option Counts). Contains (option_to_list o) need) (sym is) (Contains-head need [])))
    by_lesser false few = by_greater (ltb c.lesser c.greater) refl (ltb-false 3 c.lesser few)

-- and with it none before has more
pub most_last : (pair : Counts) (before after : List Counts) (c d : Counts) → before ++ (c ∷ after) ≡ below_of pair → Contains (before ++ c ∷ []) d → stones d ≤ stones c
most_last pair before after c d split m = elim (Contains-push_cases before c d m) [
  | inl earlier ↦ below-rises pair before after c d split earlier
  | inr is ↦ omega (arith, ap stones is)
]

-- a pair has no fewer stones than any of these, and no fewer than a pair may have
abbrev pub IsLast : List Counts → Counts → Type 0
IsLast done last = ((d : Counts) → Contains done d → stones d ≤ stones last) × (6 ≤ stones last)

-- the next pair has at most one stone more than that one
pub last_near : (pair : Counts) (before after : List Counts) (c : Counts) (waiting : Option Counts) → NeedsFirst (below_of pair)
    → before ++ (c ∷ after) ≡ below_of pair → IfSome waiting (IsLast before) → IfSome waiting (λ last. stones c ≤ stones last + 1)
last_near pair before after c None build_args split last = tt
last_near pair before after c (Some d) build_args split last = follows pair before after c d build_args split last.0 last.1

-- a later pair may need the table of this one: none of those so far has two stones more
abbrev pub IsNear : List Counts → Counts → Type 0
IsNear done d = (e : Counts) → Contains done e → stones e ≤ stones d + 1

-- there are the exact tables of all pairs so far that a later one may need
abbrev pub HasNear : Shape → Layout → Stored → List Counts → Type 0
HasNear board l tables done = (d : Counts) → Contains done d → IsNear done d → HasExactAt board l tables d

module _ (board : Shape) (l : Layout) (pair : Counts) (before after : List Counts) (c : Counts) (build_args : NeedsFirst (below_of pair)) (split : before ++ (c ∷ after) ≡ below_of pair) where
  near : (need : Counts) → Contains (all_needs c) need → IsNear before need
  near need m = λ e k. omega (arith, below-rises pair before after c e split k, needs-one_less c need m)

  -- the next pair finds the tables that it needs, also once those of fewer stones are dropped
  pub near-ready : (tables unchanged : Stored) → HasNear board l tables before → ArePruned tables unchanged c → first_missing unchanged c ≡ None
  near-ready tables unchanged has goes = none-missing unchanged c (λ need m.
      let at = has need (build_args before after c need (sym split) m) (near need m) in
      ap is_some (goes need (omega (arith, needs-one_less c need m)) ∙ at.1))

  -- with its own table there are again all that a later one may need
  pub near-more : (tables unchanged new : Stored) → HasNear board l tables before → ArePruned tables unchanged c
      → HasExactAt board l new c → ((d : Counts) → d ≢ c → table_on new d ≡ table_on unchanged d) → HasNear board l new (before ++ c ∷ [])
  near-more tables unchanged new has goes here others = λ d m is_near. elim (cases_pair d c) [
    | inl same ↦ subst (HasExactAt board l new) (sym same) here
    | inr apart ↦ elim (Contains-push_cases before c d m) [
      | inl earlier ↦
          let at = has d earlier (λ e k. is_near e (Contains-append_left before (c ∷ []) e k)) in
          let enough = is_near c (Contains-append_right before (c ∷ []) c (Contains-head c [])) in
          (at.0, others d apart ∙ (goes d enough ∙ at.1), at.2, at.3, at.4)
      | inr is ↦ absurd (apart (sym is))
    ]
  ]

-- dropping tables by their numbers of stones
module _ (old new : Stored) (c : Counts) (goes : (d : Counts) → table_on new d ≡ retained_from (stones c - 1) old d) where
  pub let_go-spares : ArePruned old new c
  let_go-spares = λ d near.
      let enough : stones c - 1 ≤ stones d = omega arith in
      goes d ∙ cond-true (nat_le (stones c - 1) (stones d)) (table_on old d) None (le-leb _ _ enough)

  let_go-gone : (d : Counts) → stones d + 1 < stones c → table_on new d ≡ None
  let_go-gone d far =
      let few : stones d < stones c - 1 = omega arith in
      goes d ∙ cond-false (nat_le (stones c - 1) (stones d)) (table_on old d) None (fewer (stones c - 1) (stones d) few)
    where
      fewer : (a b : ℕ) → b < a → nat_le a b ≡ false
      fewer a b h = grind arith

  pub let_go-keeps : RetainsNear old new c
  let_go-keeps = record { near = let_go-spares; far = let_go-gone }
