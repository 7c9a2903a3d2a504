-- What a move does to the numbers of stones. A quiet move from a position with x own and y other
-- stones leads to one with y own and x other stones; a move that captures leads to one with y - 1
-- own and x other stones.
use Rattle.std.proofs.Common.{◌≡◌, ℕ, suc, ◌-◌, ◌<◌, true, [], ◌∷◌, refl, ◌∙◌, inl, inr, ◌⊎◌, arith, Some, lit<}
use Rattle.std.specs.List.{Contains}
use Rattle.std.specs.Option.{option_to_list}
use Rattle.std.proofs.lemmas.Bool.{cases_lt, eq-eqb, ne_eqb, le-leb, lt-leb, lt-ltb}
use Rattle.std.proofs.lemmas.List.Elements.{Contains-append_left, Contains-append_right}
use Rattle.morris_board.specs.Sets.{count_of}
use Rattle.morris_board.specs.Positions.{Sides}
use Rattle.morris_index.specs.Pairs.{Counts, counts, IsPair, pair_of, has_counts, is_of, less_lesser, less_greater, all_needs}
use Rattle.morris_index.proofs.IndexLaws.{halves_of, is_of-first, is_of-second}

only : (c : Counts) → Contains (c ∷ []) c
only c = (0, lit< tt, refl)

less_lesser_in : (c : Counts) → 3 < c.lesser → Contains (all_needs c) (counts c.greater (c.lesser - 1))
less_lesser_in c h =
    Contains-append_left (option_to_list (less_lesser c)) (option_to_list (less_greater c)) (counts c.greater (c.lesser - 1))
    (rw (lt-ltb 3 c.lesser h) (only (counts c.greater (c.lesser - 1))))

less_greater_in : (c : Counts) → c.lesser < c.greater → Contains (all_needs c) (counts (c.greater - 1) c.lesser)
less_greater_in c h =
    Contains-append_right (option_to_list (less_lesser c)) (option_to_list (less_greater c)) (counts (c.greater - 1) c.lesser)
    (rw (lt-ltb c.lesser c.greater h) (only (counts (c.greater - 1) c.lesser)))

-- ---- on two numbers

-- ---- on positions

made_of : (a b : ℕ) (s : Sides) → count_of s.own ≡ a → count_of s.other ≡ b → has_counts a b s ≡ true
made_of a b s own other = rw (eq-eqb (count_of s.own) a own, eq-eqb (count_of s.other) b other) refl

-- a position of a pair has that pair
pub pair_of-is_of : (n : ℕ) (c : Counts) (s : Sides) → IsPair n c → is_of c s ≡ true → pair_of s ≡ Some c
pair_of-is_of n c s h of = elim (halves_of c s of) [
  | inl y ↦
      rw (y.0, y.1, ne_eqb c.greater 2 (omega (arith, h.least, h.ordered)), le-leb c.lesser c.greater h.ordered) refl
  | inr y ↦
      rw (y.1, y.2, ne_eqb c.lesser 2 (omega (arith, h.least)), lt-leb c.greater c.lesser (omega (arith, h.ordered, y.0))) refl
]

-- the result of a quiet move belongs to the same pair
pub is_of-quiet : (c : Counts) (s t : Sides) → is_of c s ≡ true → count_of t.own ≡ count_of s.other → count_of t.other ≡ count_of s.own → is_of c t ≡ true
is_of-quiet c s t of own other = elim (halves_of c s of) [
  | inl y ↦ is_of-second c t (made_of c.lesser c.greater t (own ∙ y.1) (other ∙ y.0))
  | inr y ↦ is_of-first c t (made_of c.greater c.lesser t (own ∙ y.2) (other ∙ y.1))
]

-- the player to move after a capture has two stones left, or the result belongs to a pair that this
-- one needs
pub is_of-capture : (n : ℕ) (c : Counts) (s t : Sides) → IsPair n c → is_of c s ≡ true
    → suc (count_of t.own) ≡ count_of s.other → count_of t.other ≡ count_of s.own
    → (count_of t.own ≡ 2) ⊎ ((d : Counts) × Contains (all_needs c) d × (is_of d t ≡ true))
is_of-capture n c s t h of own other = elim (halves_of c s of) [
  | inl y ↦ elim (cases_lt 3 c.lesser) [
    | inl more ↦ inr (
      counts c.greater (c.lesser - 1),
      less_lesser_in c more,
      is_of-second (counts c.greater (c.lesser - 1)) t (made_of (c.lesser - 1) c.greater t (omega (arith, own, y.1)) (other ∙ y.0)),
    )
    | inr three ↦ inl (omega (arith, own, y.1, h.least))
  ]
  | inr y ↦ inr (
    counts (c.greater - 1) c.lesser,
    less_greater_in c (omega (arith, h.ordered, y.0)),
    is_of-first (counts (c.greater - 1) c.lesser) t (made_of (c.greater - 1) c.lesser t (omega (arith, own, y.2)) (other ∙ y.1)),
  )
]
