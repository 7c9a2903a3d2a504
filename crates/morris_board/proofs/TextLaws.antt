-- Writing a position string and reading it undo one another.
use Rattle.std.proofs.Common.{◌≡◌, ◌≢◌, ℕ, ◌^◌, ◌<◌, ◌≤◌, true, false, not, ◌&&◌, cond, eqb, ltb, List, length, get_or, position, refl, sym, ◌∙◌, ap, inl, inr, arith, zero-add, Option, Some, None, Result, Ok, Err}
use Rattle.std.proofs.lemmas.Bool.{cases_Bool, cases_eq, cases_lt, eq-eqb, ne_eqb, eqb-true, lt-ltb, le-ltb, ltb-true, ltb-false, both_ways, and_left, and_parts}
use Rattle.std.proofs.lemmas.List.Quantifiers.{position-Some}
use Rattle.std.proofs.lemmas.List.FromFn.{length-map-range_with_len, get_or-map-range_with_len}
use Rattle.std.specs.List.{prefix_len}
use Rattle.std.proofs.lemmas.Grind.{same_number_lists}
use Rattle.std.proofs.lemmas.List.Sums.{prefix_len_passes}
use Rattle.std.proofs.Math.Bool.{not-not}
use Rattle.std.specs.Prelude.{nat_lt, MatchResult}
use Rattle.morris_board.specs.declared.faults.TextFault.TheVariants as fault
use Rattle.morris_board.specs.declared.faults.Stones.{Stones}
use Rattle.morris_board.specs.Sets.{has}
use Rattle.morris_board.specs.Boards.{Shape}
use Rattle.morris_board.specs.Positions.{Sides, IsApart, IsPosition, letter, text_of, is_letter, places_of, sides_of_text, read_of, read_letters, is_sized, check_sides, sides}
use Rattle.morris_board.proofs.PointsLaws.{has-set_where, set_where-lt, same_points, has-above}

-- ---- the characters of a position string

pub length-text_of : (b : Shape) (s : Sides) → length (text_of b s) ≡ b.points
unfolding text_of
length-text_of b s = length-map-range_with_len (letter s) 0 b.points

pub get_or-text_of : (b : Shape) (s : Sides) (p : ℕ) → p < b.points → get_or (text_of b s) p 0 ≡ letter s p
unfolding text_of
get_or-text_of b s p h = get_or-map-range_with_len (letter s) 0 b.points p p 0 h (zero-add p)

letter-own : (s : Sides) (p : ℕ) → eqb (letter s p) 88 ≡ has s.own p
unfolding letter
letter-own s p = elim (cases_Bool (has s.own p)) [
  | inl h ↦ rw h refl
  | inr h ↦ rw h (elim (cases_Bool (has s.other p)) [ inl k ↦ rw k refl | inr k ↦ rw k refl ])
]

letter-other : (s : Sides) (p : ℕ) → (has s.own p ≡ true → has s.other p ≡ false) → eqb (letter s p) 79 ≡ has s.other p
unfolding letter
letter-other s p apart = elim (cases_Bool (has s.own p)) [
  | inl h ↦ rw (h, apart h) refl
  | inr h ↦ rw h (elim (cases_Bool (has s.other p)) [ inl k ↦ rw k refl | inr k ↦ rw k refl ])
]

letter-is : (s : Sides) (p : ℕ) → is_letter (letter s p) ≡ true
unfolding letter
letter-is s p = elim (cases_Bool (has s.own p)) [
  | inl h ↦ rw h refl
  | inr h ↦ rw h (elim (cases_Bool (has s.other p)) [ inl k ↦ rw k refl | inr k ↦ rw k refl ])
]

-- ---- what a position string shows

has-places_of : (c : ℕ) (t : List ℕ) (p : ℕ) → has (places_of c t) p ≡ (ltb p (length t) && eqb (get_or t p 0) c)
unfolding places_of
has-places_of c t p = has-set_where (length t) (λ q. eqb (get_or t q 0) c) p

has-places_of-below : (c : ℕ) (t : List ℕ) (p : ℕ) → p < length t → has (places_of c t) p ≡ eqb (get_or t p 0) c
has-places_of-below c t p h = has-places_of c t p ∙ ap (λ b. b && eqb (get_or t p 0) c) (lt-ltb p (length t) h)

places_of-lt : (c : ℕ) (t : List ℕ) → places_of c t < 2 ^ length t
unfolding places_of
places_of-lt c t = set_where-lt (length t) (λ q. eqb (get_or t q 0) c)

module _ (b : Shape) (s : Sides) (h : IsApart b s) where
  has-shown : (c : ℕ) (side : ℕ) → side < 2 ^ b.points → ((p : ℕ) → p < b.points → eqb (letter s p) c ≡ has side p)
      → places_of c (text_of b s) ≡ side
  has-shown c side small same = same_points _ _ (λ p. elim (cases_lt p b.points) [
    | inl low ↦
        let low' : p < length (text_of b s) = omega (arith, length-text_of b s) in
        has-places_of-below c (text_of b s) p low' ∙ ap (λ x. eqb x c) (get_or-text_of b s p low) ∙ same p low
    | inr high ↦
        let high' : length (text_of b s) ≤ p = omega (arith, length-text_of b s) in
        has-places_of c (text_of b s) p ∙ and_left _ _ (le-ltb p (length (text_of b s)) high') ∙ sym (has-above side b.points p small high)
  ])

  pub shown-text_of : sides_of_text (text_of b s) ≡ s
  unfolding sides_of_text
  shown-text_of =
      let own : places_of 88 (text_of b s) ≡ s.own = has-shown 88 s.own h.own_within (λ p low. letter-own s p) in
      let other : places_of 79 (text_of b s) ≡ s.other = has-shown 79 s.other h.other_within (λ p low. letter-other s p (h.apart p)) in
      rw (own, other) refl

-- ---- reading

no_other : (b : Shape) (s : Sides) → position (λ c. not (is_letter c)) (text_of b s) ≡ None
no_other b s = none (position (λ c. not (is_letter c)) (text_of b s)) refl
  where
    none : (o : Option ℕ) → position (λ c. not (is_letter c)) (text_of b s) ≡ o → o ≡ None
    none None e = refl
    none (Some i) e =
        let at = position-Some (λ c. not (is_letter c)) (text_of b s) i 0 e in
        let low : i < b.points = omega (arith, at.0, length-text_of b s) in
        absurd (both_ways _ (ap not (ap is_letter (get_or-text_of b s i low) ∙ letter-is s i)) at.1)

-- reading it, part by part
abbrev pub other_at : List ℕ → Option ℕ
other_at t = position (λ c. not (is_letter c)) t

read_long : (b : Shape) (t : List ℕ) → length t ≡ b.points → read_of b t ≡ read_letters (other_at t) (sides_of_text t)
read_long b t h = ap (λ x. cond x (read_letters (other_at t) (sides_of_text t)) (Err fault.Length)) (eq-eqb (length t) b.points h)

pub read_whole : (b : Shape) (t : List ℕ) → length t ≡ b.points → other_at t ≡ None
    → read_of b t ≡ cond (is_sized (sides_of_text t)) (Ok (sides_of_text t)) (Err fault.Stones)
read_whole b t h none = read_long b t h ∙ ap (λ o. read_letters o (sides_of_text t)) none

pub read_short : (b : Shape) (t : List ℕ) → length t ≢ b.points → read_of b t ≡ Err fault.Length
read_short b t n = ap (λ x. cond x (read_letters (other_at t) (sides_of_text t)) (Err fault.Length)) (ne_eqb (length t) b.points n)

pub read_bad : (b : Shape) (t : List ℕ) (place : ℕ) → length t ≡ b.points → (first : Option ℕ) → first ≡ other_at t → first ≡ Some place
    → read_of b t ≡ Err (fault.Character place)
read_bad b t place long first is some = read_long b t long ∙ ap (λ o. read_letters o (sides_of_text t)) (sym is ∙ some)

-- a position is read back from its string
pub read_of-text_of : (b : Shape) (s : Sides) → IsPosition b s → read_of b (text_of b s) ≡ Ok s
read_of-text_of b s h =
    read_whole b (text_of b s) (length-text_of b s) (no_other b s)
    ∙ ap (λ x. cond (is_sized x) (Ok x) (Err fault.Stones)) (shown-text_of b s h.stones)
    ∙ ap (λ x. cond x (Ok s) (Err fault.Stones)) h.sized

pub complete_of : (b : Shape) (t : List ℕ) (s : Sides) → IsPosition b s → text_of b s ≡ t → read_of b t ≡ Ok s
complete_of b t s h e = ap (read_of b) (sym e) ∙ read_of-text_of b s h

-- ---- a string shows two sets that have no point in common, and is the string of what it shows

pub IsApart-shown : (b : Shape) (t : List ℕ) → length t ≡ b.points → IsApart b (sides_of_text t)
unfolding sides_of_text
IsApart-shown b t h = record {
  own_within = rw (← h) (places_of-lt 88 t);
  other_within = rw (← h) (places_of-lt 79 t);
  apart = λ p own.
      let both = and_parts _ _ (sym (has-places_of 88 t p) ∙ own) in
      let at : get_or t p 0 ≡ 88 = eqb-true _ _ both.1 in
      has-places_of-below 79 t p (ltb-true _ _ both.0) ∙ ap (λ c. eqb c 79) at;
}

letter-shown : (t : List ℕ) (p : ℕ) → p < length t → is_letter (get_or t p 0) ≡ true → letter (sides_of_text t) p ≡ get_or t p 0
unfolding letter sides_of_text
letter-shown t p low h =
    rw (has-places_of-below 88 t p low, has-places_of-below 79 t p low) (shows (get_or t p 0) h)
  where
    shows : (c : ℕ) → is_letter c ≡ true → cond (eqb c 88) 88 (cond (eqb c 79) 79 46) ≡ c
    shows c h = elim (cases_Bool (eqb c 88)) [
      | inl x ↦ rw x (sym (eqb-true c 88 x))
      | inr x ↦ elim (cases_Bool (eqb c 79)) [
        | inl o ↦ rw (x, o) (sym (eqb-true c 79 o))
        | inr o ↦ let v : eqb c 46 ≡ true = rw (x, o) at h in rw (x, o) (sym (eqb-true c 46 v))
      ]
    ]

all_letters : (t : List ℕ) → other_at t ≡ None → (p : ℕ) → p < length t → is_letter (get_or t p 0) ≡ true
all_letters t none p low = let first : ℕ = prefix_len (λ c. not (not (is_letter c))) t in elim (cases_Bool (nat_lt first (length t))) [
  | inl h ↦
      let some : other_at t ≡ Some first = ap (λ b. cond b (Some first) None) h in
      cc
  | inr h ↦
      let past : length t ≤ first = ltb-false first (length t) h in
      let here : p < first = omega arith in
      sym (not-not (is_letter (get_or t p 0))) ∙ prefix_len_passes (λ c. not (not (is_letter c))) t p 0 here
]

pub text_of-shown : (b : Shape) (t : List ℕ) → length t ≡ b.points → other_at t ≡ None → text_of b (sides_of_text t) ≡ t
text_of-shown b t h none = same_number_lists _ _ (length-text_of b (sides_of_text t) ∙ sym h) (λ p low.
    let low' : p < b.points = omega (arith, length-text_of b (sides_of_text t)) in
    let low'' : p < length t = omega arith in
    get_or-text_of b (sides_of_text t) p low' ∙ letter-shown t p low'' (all_letters t none p low''))

pub shows_of : (b : Shape) (t : List ℕ) (s : Sides) → read_of b t ≡ Ok s → text_of b s ≡ t
shows_of b t s e = elim (cases_eq (length t) b.points) [
  | inr n ↦
      let bad : read_of b t ≡ Err fault.Length = ap (λ x. cond x (read_letters (other_at t) (sides_of_text t)) (Err fault.Length)) (ne_eqb (length t) b.points n) in
      cc
  | inl h ↦ some h (other_at t) refl
]
  where
    some : length t ≡ b.points → (o : Option ℕ) → other_at t ≡ o → text_of b s ≡ t
    some h (Some i) k =
        let bad : read_of b t ≡ Err (fault.Character i) = read_long b t h ∙ ap (λ o. read_letters o (sides_of_text t)) k in
        cc
    some h None k = elim (cases_Bool (is_sized (sides_of_text t))) [
      | inr n ↦
          let bad : read_of b t ≡ Err fault.Stones = read_whole b t h k ∙ ap (λ x. cond x (Ok (sides_of_text t)) (Err fault.Stones)) n in
          cc
      | inl y ↦
          let good : read_of b t ≡ Ok (sides_of_text t) = read_whole b t h k ∙ ap (λ x. cond x (Ok (sides_of_text t)) (Err fault.Stones)) y in
          let same : s ≡ sides_of_text t = cc in
          ap (text_of b) same ∙ text_of-shown b t h k
    ]

-- what a string of the right length and characters gives is what its two sets make
module _ (b : Shape) (t : List ℕ) (own other : ℕ) (long : length t ≡ b.points)
    (first : Option ℕ) (first_is : first ≡ other_at t) (none_first : first ≡ None)
    (own_is : own ≡ places_of 88 t) (other_is : other ≡ places_of 79 t)
    (r : Result Sides Stones) (r_is : r ≡ check_sides (sides own other)) where
  are_shown : sides own other ≡ sides_of_text t
  unfolding sides_of_text
  are_shown = rw (own_is, other_is) refl

  answer_made : MatchResult r (λ s. read_of b t ≡ Ok s) (λ e. read_of b t ≡ Err fault.Stones)
  answer_made = let none : other_at t ≡ None = sym first_is ∙ none_first in elim (cases_Bool (is_sized (sides_of_text t))) [
    | inl y ↦
        let is : r ≡ Ok (sides_of_text t) = r_is ∙ ap check_sides are_shown ∙ ap (λ x. cond x (Ok (sides_of_text t)) (Err (record {}))) y in
        rw is (read_whole b t long none ∙ ap (λ x. cond x (Ok (sides_of_text t)) (Err fault.Stones)) y)
    | inr n ↦
        let is : r ≡ Err (record {}) = r_is ∙ ap check_sides are_shown ∙ ap (λ x. cond x (Ok (sides_of_text t)) (Err (record {}))) n in
        rw is (read_whole b t long none ∙ ap (λ x. cond x (Ok (sides_of_text t)) (Err fault.Stones)) n)
  ]

  pub ok_made : (s : Sides) → r ≡ Ok s → read_of b t ≡ Ok s
  ok_made s e = rw e at answer_made

  pub err_made : (e : Stones) → r ≡ Err e → read_of b t ≡ Err fault.Stones
  err_made x e = rw e at answer_made
