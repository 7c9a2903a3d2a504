-- The tables of the pairs below a pair but its own, in an order in which each comes after those
-- that it needs, while those that no later pair needs are dropped, or all are retained.
use Rattle.std.proofs.Common.{◌≡◌, ◌≢◌, ◌≤◌, ℕ, not, true, ◌&&◌, eqb, leb, List, [], ◌∷◌, ◌++◌, None, is_some, sym, ap, ◌∙◌, subst, inl, inr, arith}
use Rattle.std.specs.List.{Contains}
use Rattle.std.proofs.lemmas.Bool.{and_from, and_parts, both_ways, eq-eqb, leb-true, not-true}
use Rattle.std.proofs.lemmas.List.Elements.{Contains-append_left, Contains-append_right, Contains-push_cases}
use Rattle.morris_moves.proofs.ListLaws.{Contains-head}
use Rattle.morris_pairs.specs.FilterLaws.{filter-contains}
use Rattle.morris_board.specs.Boards.{Shape}
use Rattle.morris_index.specs.Pairs.{Counts, NeedsFirst, all_pairs, below_of, is_below}
use Rattle.morris_pairs.specs.declared.layout.Layout.{Layout}
use Rattle.morris_pairs.specs.Known.{IsBeyondCodes}
use Rattle.morris_pairs.specs.Shelves.{Stored, first_missing, table_on}
use Rattle.morris_pairs.proofs.ShelfLaws.{cases_pair, none-missing}
use Rattle.morris_commands.specs.Build.{HasExactBut, IsUnbuiltBefore}
use Rattle.morris_jobs.specs.Building.{HasExactAt, ArePruned, IsUnbuiltAt, stones}
use Rattle.morris_jobs.specs.declared.fault.Fault.{Fault}
use Rattle.morris_jobs.specs.declared.fault.Fault.TheVariants as fault
use Rattle.morris_jobs.proofs.NearLaws.{IsNear, below-rises, needs-one_less}

-- one below it has no more
pub below_no_more : (c d : Counts) → Contains (below_of c) d → stones d ≤ stones c
unfolding below_of
below_no_more c d m =
    let parts = and_parts (leb d.greater c.greater) (leb d.lesser c.lesser) (filter-contains (is_below c) all_pairs d m).1 in
    omega (arith, leb-true _ _ parts.0, leb-true _ _ parts.1)

-- of all pairs so far but for one there are the tables that a later pair may need, and codes
-- suffice for them
abbrev pub AreBuiltBut : Shape → Layout → Stored → Counts → List Counts → Type 0
AreBuiltBut board l tables but done =
    (d : Counts) → Contains done d → d ≢ but → (IsNear done d → HasExactAt board l tables d) × ¬ IsBeyondCodes board d

-- two pairs are different where a test says so
pub told_apart : (c d : Counts) → not (eqb c.greater d.greater && eqb c.lesser d.lesser) ≡ true → c ≢ d
told_apart c d differ = λ same.
    both_ways _ (not-true _ differ) (and_from _ _ (eq-eqb _ _ (ap (λ (x : Counts). x.greater) same)) (eq-eqb _ _ (ap (λ (x : Counts). x.lesser) same)))

push : (xs : List Counts) (x y : Counts) → Contains xs y → Contains (xs ++ x ∷ []) y
push xs x y k = Contains-append_left xs (x ∷ []) y k

module _ (board : Shape) (l : Layout) (pair : Counts) (before after : List Counts) (c : Counts) (split : before ++ (c ∷ after) ≡ below_of pair) where
  here : Contains (below_of pair) c
  here = subst (λ cs. Contains cs c) split (Contains-append_right before (c ∷ after) c (Contains-head c after))

  -- why this pair isn't built is why those below the last one aren't
  pub unbuilt-one : (blocks : ℕ) → c ≢ pair → (e : Fault) → IsUnbuiltAt board c blocks e → IsUnbuiltBefore board pair blocks e
  unbuilt-one blocks other fault.Memory h = tt
  unbuilt-one blocks other (fault.Missing number) h = ((c, here, other), h)
  unbuilt-one blocks other fault.TooDeep h = (c, here, other, h)
  unbuilt-one blocks other _ h = absurd h

  -- the next pair finds the tables that it needs, also once those of fewer stones are dropped
  pub built-ready : (tables kept : Stored) → NeedsFirst (below_of pair) → AreBuiltBut board l tables pair before → ArePruned tables kept c → first_missing kept c ≡ None
  built-ready tables kept build_args has goes = none-missing kept c (λ need m.
      let less = needs-one_less c need m in
      let at = (has need (build_args before after c need (sym split) m) (λ same. absurd (omega (arith, less, ap stones same, below_no_more pair c here)))).0
      (λ e k. omega (arith, below-rises pair before after c e split k, less)) in
      ap is_some (goes need (omega (arith, less)) ∙ at.1))

  -- with its own table there are again all that a later one may need
  pub built-more : (tables kept new : Stored) → AreBuiltBut board l tables pair before → ArePruned tables kept c → HasExactAt board l new c
      → ¬ IsBeyondCodes board c → ((d : Counts) → d ≢ c → table_on new d ≡ table_on kept d) → AreBuiltBut board l new pair (before ++ c ∷ [])
  built-more tables kept new has goes here within others = λ d m other. elim (cases_pair d c) [
    | inl same ↦ (λ is_near. subst (HasExactAt board l new) (sym same) here, subst (λ x. ¬ IsBeyondCodes board x) (sym same) within)
    | inr apart ↦ elim (Contains-push_cases before c d m) [
      | inl earlier ↦
          let was = has d earlier other in (
            λ is_near.
                let at = was.0 (λ e k. is_near e (push before c e k)) in
                let enough = is_near c (Contains-append_right before (c ∷ []) c (Contains-head c [])) in
                (at.0, others d apart ∙ (goes d enough ∙ at.1), at.2, at.3, at.4),
            was.1,
          )
      | inr is ↦ absurd (apart (sym is))
    ]
  ]

  -- that one pair needs no table of its own
  pub built-itself : (tables kept : Stored) → AreBuiltBut board l tables pair before → ArePruned tables kept c → c ≡ pair → AreBuiltBut board l kept pair (before ++ c ∷ [])
  built-itself tables kept has goes itself = λ d m other. elim (Contains-push_cases before c d m) [
    | inl earlier ↦
        let was = has d earlier other in (
          λ is_near.
              let at = was.0 (λ e k. is_near e (push before c e k)) in
              let enough = is_near c (Contains-append_right before (c ∷ []) c (Contains-head c [])) in
              (at.0, goes d enough ∙ at.1, at.2, at.3, at.4),
          was.1,
        )
    | inr is ↦ absurd (other (sym is ∙ itself))
  ]

-- where all are retained there are those of all pairs so far but for one, also with its own table
pub every-more : (board : Shape) (l : Layout) (tables kept new : Stored) (but : Counts) (before : List Counts) (c : Counts) → HasExactBut board l tables but before
    → ((d : Counts) → table_on kept d ≡ table_on tables d) → HasExactAt board l new c → ((d : Counts) → d ≢ c → table_on new d ≡ table_on kept d)
    → HasExactBut board l new but (before ++ c ∷ [])
every-more board l tables kept new but before c has all here others = λ d m other. elim (cases_pair d c) [
  | inl same ↦ subst (HasExactAt board l new) (sym same) here
  | inr apart ↦ elim (Contains-push_cases before c d m) [
    | inl earlier ↦ let at = has d earlier other in (at.0, others d apart ∙ (all d ∙ at.1), at.2, at.3, at.4)
    | inr is ↦ absurd (apart (sym is))
  ]
]

pub every-itself : (board : Shape) (l : Layout) (tables kept : Stored) (but : Counts) (before : List Counts) (c : Counts) → HasExactBut board l tables but before
    → ((d : Counts) → table_on kept d ≡ table_on tables d) → c ≡ but → HasExactBut board l kept but (before ++ c ∷ [])
every-itself board l tables kept but before c has all itself = λ d m other. elim (Contains-push_cases before c d m) [
  | inl earlier ↦ let at = has d earlier other in (at.0, all d ∙ at.1, at.2, at.3, at.4)
  | inr is ↦ absurd (other (sym is ∙ itself))
]

-- at the end there are the tables that the pair itself needs
pub built-last : (board : Shape) (l : Layout) (tables : Stored) (pair : Counts) (front : List Counts) → NeedsFirst (below_of pair)
    → below_of pair ≡ front ++ pair ∷ [] → AreBuiltBut board l tables pair (below_of pair) → first_missing tables pair ≡ None
built-last board l tables pair front build_args last has = none-missing tables pair (λ need m.
    let less = needs-one_less pair need m in
    let there : Contains (below_of pair) need =
    subst (λ cs. Contains cs need) (sym last) (push front pair need (build_args front [] pair need last m)) in
    let at = (has need there (λ same. absurd (omega (arith, less, ap stones same)))).0 (λ e k. omega (arith, below_no_more pair e k, less)) in
    ap is_some at.1)
