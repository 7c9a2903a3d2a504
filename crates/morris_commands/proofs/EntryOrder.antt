-- Where one position has an entry of its own, and another one's entry isn't smaller, the first
-- one's index among all positions isn't greater: classes are numbered in the order of the masks of
-- their canonical forms, and no set has a smaller mask than its canonical form.
use Rattle.std.proofs.Common.{◌≡◌, ◌≢◌, ℕ, ◌+◌, ◌-◌, ◌*◌, ◌^◌, ◌<◌, ◌≤◌, true, map, refl, sym, ap, ap₂, ◌∙◌, subst, inl, inr, arith}
use Rattle.std.proofs.lemmas.Bool.{cases_eq, cases_lt, eqb-true}
use Rattle.morris_board.specs.Boards.{Shape}
use Rattle.morris_board.specs.Sets.{members, count_of}
use Rattle.morris_board.specs.Positions.{Sides, IsPosition}
use Rattle.morris_board.specs.Symmetries.{HasSymmetries}
use Rattle.morris_index.specs.Binomials.{choose}
use Rattle.morris_index.specs.Numbering.{half_index, half_size, number_outside, rank_of}
use Rattle.morris_index.specs.Classes.{class_of, classes_below, representative_of}
use Rattle.morris_index.specs.ClassPairs.{class_half_index, class_half_size, class_index_of, canonical_form}
use Rattle.morris_index.specs.Pairs.{Counts, index_of, is_of}
use Rattle.morris_index.proofs.ClassLaws.{class_lt, representative_count, representative_le, representative_twice, test_from}
use Rattle.morris_index.proofs.ClassPairLaws.{class_below, class_index-lt, canonical_itself, canonical_rank-lt}
use Rattle.morris_index.proofs.ClassPairLaws.{index-first as class_index-first, index-second as class_index-second}
use Rattle.morris_index.proofs.IndexLaws.{half_index-lt, halves_of, index-first, index-second, map_number-none, other_rank-lt, parts_lt, placed}
use Rattle.morris_index.proofs.OrderLaws.{rank_less}
use Rattle.morris_pairs.specs.declared.layout.Layout.{Layout}
use Rattle.morris_pairs.specs.declared.layout.Layout.TheVariants.{Full, Classes}
use Rattle.morris_pairs.specs.Entries.{entry_index, has_own_entry}

module _ (board : Shape) (few : board.points ≤ 24) (y : HasSymmetries board) where
  -- how many sets of the opponent's stones there are beside those of the player to move
  abbrev choices : Sides → ℕ
  choices s = choose (board.points - count_of s.own) (count_of s.other)

  abbrev own_rank : Sides → ℕ
  own_rank s = rank_of (members s.own)

  abbrev other_rank : Sides → ℕ
  other_rank s = rank_of (map (number_outside s.own) (members s.other))

  own_less : (a b : ℕ) → a < 2 ^ board.points → b < 2 ^ board.points → count_of a ≡ count_of b → a < b → rank_of (members a) < rank_of (members b)
  own_less a b a_in b_in counts less =
      rw (map_number-none (members a), map_number-none (members b)) at (rank_less board.points (omega arith) a b a_in b_in counts less)

  -- ---- positions with the same numbers of stones

  module _ (s t : Sides) (h : IsPosition board s) (k : IsPosition board t) (own : count_of s.own ≡ count_of t.own) (other : count_of s.other ≡ count_of t.other) where
    same_choices : choices t ≡ choices s
    same_choices = rw (own, other) refl

    before_by_own : s.own < t.own → half_index board.points s ≤ half_index board.points t
    unfolding half_index
    before_by_own less =
        let parts : own_rank s * choices s + other_rank s < own_rank t * choices s =
        parts_lt (own_rank s) (other_rank s) (own_rank t) (choices s) (own_less s.own t.own h.stones.own_within k.stones.own_within own less)
        (other_rank-lt board.points (omega arith) s (placed board board.points s refl h)) in
        omega (arith, parts, ap (λ c. own_rank t * c) same_choices)

    before_by_other : s.own ≡ t.own → other_rank s ≤ other_rank t → half_index board.points s ≤ half_index board.points t
    unfolding half_index
    before_by_other same le =
        let e : own_rank s * choices s ≡ own_rank t * choices t = ap₂ (λ r c. r * c) (ap (λ o. rank_of (members o)) same) (sym same_choices) in
        omega (arith, e, le)

    -- a smaller class comes first
    class_less : representative_of board t.own < representative_of board s.own → class_of board t.own < class_of board s.own
    unfolding class_of
    class_less less =
        subst (λ m. classes_below board m (representative_of board t.own) < classes_below board (count_of s.own) (representative_of board s.own)) own
        (class_lt board (count_of s.own) (representative_of board t.own) (representative_of board s.own)
        (test_from board (count_of s.own) (representative_of board t.own) (representative_twice board few y t.own k.stones.own_within)
        (representative_count board few y t.own k.stones.own_within ∙ sym own)) less)

    entry_less : class_of board t.own < class_of board s.own → class_half_index board board.points t < class_half_index board board.points s
    unfolding class_half_index
    entry_less less =
        let parts : class_of board t.own * choices t + other_rank (canonical_form board t) < class_of board s.own * choices t =
        parts_lt (class_of board t.own) (other_rank (canonical_form board t)) (class_of board s.own) (choices t) less (canonical_rank-lt board board.points few refl y t k) in
        omega (arith, parts, ap (λ c. class_of board s.own * c) same_choices)

    entry_same : class_of board t.own ≡ class_of board s.own → class_half_index board board.points s ≤ class_half_index board board.points t
        → other_rank (canonical_form board s) ≤ other_rank (canonical_form board t)
    unfolding class_half_index
    entry_same same le = omega (arith, le, ap₂ (λ x c. x * c) same same_choices)

    half_order : representative_of board s.own ≡ s.own → class_half_index board board.points s ≤ class_half_index board board.points t
        → half_index board.points s ≤ half_index board.points t
    half_order least le = elim (cases_lt s.own t.own) [
      | inl less ↦ before_by_own less
      | inr after ↦ elim (cases_eq s.own t.own) [
        | inl same ↦
            let s_there : canonical_form board s ≡ s = canonical_itself board board.points few refl y s.own s.other h.stones.own_within h.stones.other_within least in
            let t_there : canonical_form board t ≡ t =
            canonical_itself board board.points few refl y t.own t.other k.stones.own_within k.stones.other_within
            (ap (representative_of board) (sym same) ∙ least ∙ same) in
            let ranks : other_rank (canonical_form board s) ≤ other_rank (canonical_form board t) = entry_same (ap (class_of board) (sym same)) le in
            before_by_other same (omega (arith, ranks, ap other_rank s_there, ap other_rank t_there))
        | inr differ ↦
            let below : representative_of board t.own ≤ t.own = representative_le board few y t.own k.stones.own_within in
            absurd (omega (arith, le, entry_less (class_less (omega (arith, below, least, after, differ)))))
      ]
    ]

  -- ---- positions of a pair

  module _ (c : Counts) where
    first_half : (s : Sides) → IsPosition board s → count_of s.own ≡ c.greater → count_of s.other ≡ c.lesser
        → index_of board.points c s < half_size board.points c.greater c.lesser
    first_half s h own other =
        subst (λ i. i < half_size board.points c.greater c.lesser) (sym (index-first board.points c s own))
        (subst (λ a. half_index board.points s < half_size board.points a c.lesser) own
        (subst (λ b. half_index board.points s < half_size board.points (count_of s.own) b) other
        (half_index-lt board.points (omega arith) s (placed board board.points s refl h))))

    first_entries : (s : Sides) → IsPosition board s → count_of s.own ≡ c.greater → count_of s.other ≡ c.lesser
        → class_index_of board board.points c s < class_half_size board board.points c.greater c.lesser
    first_entries s h own other =
        subst (λ i. i < class_half_size board board.points c.greater c.lesser) (sym (class_index-first board board.points few refl y c s own))
        (subst (λ a. class_half_index board board.points s < class_half_size board board.points a c.lesser) own
        (subst (λ b. class_half_index board board.points s < class_half_size board board.points (count_of s.own) b) other
        (class_index-lt board board.points few refl y s h (class_below board board.points few refl y s h))))

    classes_order : (s t : Sides) → IsPosition board s → IsPosition board t → is_of c s ≡ true → is_of c t ≡ true → representative_of board s.own ≡ s.own
        → class_index_of board board.points c s ≤ class_index_of board board.points c t → index_of board.points c s ≤ index_of board.points c t
    classes_order s t h k s_of t_of least le = elim (halves_of c s s_of) [
      | inl a ↦ elim (halves_of c t t_of) [
        | inl b ↦
            omega (
              arith,
              index-first board.points c s a.0,
              index-first board.points c t b.0,
              half_order s t h k (a.0 ∙ sym b.0) (a.1 ∙ sym b.1) least
                  (omega (arith, le, class_index-first board board.points few refl y c s a.0, class_index-first board board.points few refl y c t b.0)),
            )
        | inr b ↦
            let t_own : count_of t.own ≢ c.greater = λ e. b.0 (sym e ∙ b.1) in
            omega (arith, first_half s h a.0 a.1, index-second board.points c t t_own)
      ]
      | inr a ↦
          let s_own : count_of s.own ≢ c.greater = λ e. a.0 (sym e ∙ a.1) in
          elim (halves_of c t t_of) [
            | inl b ↦ absurd (omega (arith, le, first_entries t k b.0 b.1, class_index-second board board.points few refl y c s s_own))
            | inr b ↦
                let t_own : count_of t.own ≢ c.greater = λ e. b.0 (sym e ∙ b.1) in
                omega (
                  arith,
                  index-second board.points c s s_own,
                  index-second board.points c t t_own,
                  half_order s t h k (a.1 ∙ sym b.1) (a.2 ∙ sym b.2) least
                      (omega (arith, le, class_index-second board board.points few refl y c s s_own, class_index-second board board.points few refl y c t t_own)),
                )
          ]
    ]

    pub in_order : (l : Layout) (s t : Sides) → IsPosition board s → IsPosition board t → is_of c s ≡ true → is_of c t ≡ true → has_own_entry board l s ≡ true
        → entry_index board board.points l c s ≤ entry_index board board.points l c t → index_of board.points c s ≤ index_of board.points c t
    in_order Full s t h k s_of t_of own le = le
    in_order Classes s t h k s_of t_of own le = classes_order s t h k s_of t_of (eqb-true (representative_of board s.own) s.own own) le
