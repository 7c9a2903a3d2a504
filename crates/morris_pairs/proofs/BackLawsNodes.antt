-- The positions of a pair with an index: there is at most one.
use Rattle.std.proofs.Common.{◌≡◌, ℕ, ◌<◌, ◌≤◌, ◌^◌, true, false, not, ◌&&◌, eqb, List, [], ◌∷◌, map, refl, sym, ap, ◌∙◌, inl, inr, ◌⊎◌, arith}
use Rattle.std.proofs.lemmas.Bool.{eq-eqb, eqb-true, and_parts, and_from, not-true, not_from_false}
use Rattle.std.specs.List.{Contains, range_with_len}
use Rattle.morris_board.specs.Sets.{has}
use Rattle.morris_board.specs.Boards.{Shape}
use Rattle.morris_board.specs.Positions.{Sides, sides}
use Rattle.morris_board.proofs.PointsLaws.{members_all, all_members}
use Rattle.morris_moves.proofs.ListLaws.{Ascends, Contains-head, Contains-tail, Contains-map, Contains-map_cases, Contains-flat_map, Contains-flat_map_cases, Ascends-flat_map, Ascends-map}
use Rattle.morris_moves.proofs.SetLaws.{point_lt}
use Rattle.morris_index.specs.Pairs.{Counts, is_of, index_of}
use Rattle.morris_index.proofs.IndexLaws.{IsPlaced, index-same}
use Rattle.morris_pairs.specs.Orders.{Full}
use Rattle.morris_pairs.specs.PairNets.{all_sides, are_apart, is_at, at_index}
use Rattle.morris_pairs.specs.FilterLaws.{filter-contains, contained-filter, range_bounds}
use Rattle.morris_pairs.proofs.BackLawsLists.{Contains-range, Ascends-range, Ascends-filter}

-- ---- the positions with an index

-- s is the pair's position with index i
pub record IsIndexed (b : Shape) (c : Counts) (i : ℕ) (s : Sides) : Type 0 where
  pub placed : IsPlaced b.points s
  pub of : is_of c s ≡ true
  pub index : index_of b.points c s ≡ i

apart_from : (s : Sides) → are_apart s ≡ true → (p : ℕ) → p < 32 → has s.own p ≡ true → has s.other p ≡ false
apart_from s h p low here = not-true _ (members_all s.own (λ k. not (has s.other k)) h p low here)

from_apart : (s : Sides) → ((p : ℕ) → has s.own p ≡ true → has s.other p ≡ false) → are_apart s ≡ true
from_apart s each = all_members s.own (λ k. not (has s.other k)) (λ p here. not_from_false _ (each p here))

in_all_sides : (n : ℕ) (s : Sides) → Contains (all_sides n) s → (s.own < 2 ^ n) × (s.other < 2 ^ n)
unfolding all_sides
in_all_sides n s k =
    let r = Contains-flat_map_cases (λ own. map (sides own) (range_with_len 0 (2 ^ n))) (range_with_len 0 (2 ^ n)) s k in
    let t = Contains-map_cases (sides r.0) (range_with_len 0 (2 ^ n)) s r.2 in
    let own = range_bounds 0 (2 ^ n) r.0 r.1 in
    let other = range_bounds 0 (2 ^ n) t.0 t.1 in
    let same_own : r.0 ≡ s.own = ap (λ (x : Sides). x.own) t.2 in
    let same_other : t.0 ≡ s.other = ap (λ (x : Sides). x.other) t.2 in
    (omega arith, omega arith)

all_sides_has : (n : ℕ) (s : Sides) → s.own < 2 ^ n → s.other < 2 ^ n → Contains (all_sides n) s
unfolding all_sides
all_sides_has n s own other =
    Contains-flat_map (λ own. map (sides own) (range_with_len 0 (2 ^ n))) (range_with_len 0 (2 ^ n)) s.own s
    (Contains-range 0 (2 ^ n) s.own (omega arith) (omega arith))
    (Contains-map (sides s.own) (range_with_len 0 (2 ^ n)) s.other (Contains-range 0 (2 ^ n) s.other (omega arith) (omega arith)))

abbrev Differ : Sides → Sides → Type 0
Differ s t = s ≡ t → ⊥

all_sides_differ : (n : ℕ) → Ascends Differ (all_sides n)
unfolding all_sides
all_sides_differ n =
    Ascends-flat_map (λ x y. x < y) Differ (λ own. map (sides own) (range_with_len 0 (2 ^ n))) (range_with_len 0 (2 ^ n)) (Ascends-range 0 (2 ^ n))
    (λ own. Ascends-map (λ x y. x < y) Differ (sides own) (range_with_len 0 (2 ^ n)) (Ascends-range 0 (2 ^ n))
    (λ x z l e. let same : x ≡ z = ap (λ (t : Sides). t.other) e in omega arith))
    (λ x z y w o c d e.
    let r = Contains-map_cases (sides x) (range_with_len 0 (2 ^ n)) y c in
    let t = Contains-map_cases (sides z) (range_with_len 0 (2 ^ n)) w d in
    let same : x ≡ z = ap (λ (p : Sides). p.own) (r.2 ∙ (e ∙ sym t.2)) in
    omega arith)

module _ (b : Shape) (c : Counts) (low : b.points ≤ 24) (i : ℕ) where
  pub at_index-indexed : (s : Sides) → Contains (at_index b Full c i) s → IsIndexed b c i s
  unfolding at_index
  at_index-indexed s k =
      let r = filter-contains (is_at b Full c i) (all_sides b.points) s k in
      let within = in_all_sides b.points s r.0 in
      let parts = and_parts (are_apart s) (is_of c s && eqb (index_of b.points c s) i) r.1 in
      let more = and_parts (is_of c s) (eqb (index_of b.points c s) i) parts.1 in
      record {
        placed = record {
          own_within = within.0;
          other_within = within.1;
          apart = λ p here.
              let below : p < b.points = point_lt s.own b.points p within.0 here in
              apart_from s parts.0 p (omega arith) here;
        };
        of = more.0;
        index = eqb-true _ _ more.1;
      }

  pub indexed-at_index : (s : Sides) → IsIndexed b c i s → Contains (at_index b Full c i) s
  unfolding at_index
  indexed-at_index s h =
      contained-filter (is_at b Full c i) (all_sides b.points) s (all_sides_has b.points s h.placed.own_within h.placed.other_within)
      (and_from _ _ (from_apart s h.placed.apart) (and_from _ _ h.of (eq-eqb _ _ h.index)))

  pub indexed_same : (s t : Sides) → IsIndexed b c i s → IsIndexed b c i t → s ≡ t
  indexed_same s t h k = index-same b.points c (omega arith) s t h.placed k.placed h.of k.of (h.index ∙ sym k.index)

  at_index_differ : Ascends Differ (at_index b Full c i)
  unfolding at_index
  at_index_differ = Ascends-filter Differ (is_at b Full c i) (all_sides b.points) (all_sides_differ b.points)

  pub none_or_one : (at_index b Full c i ≡ []) ⊎ ((s : Sides) × (at_index b Full c i ≡ s ∷ []))
  none_or_one = short (at_index b Full c i) at_index_differ (λ s t k l. indexed_same s t (at_index-indexed s k) (at_index-indexed t l))
    where
      short : (xs : List Sides) → Ascends Differ xs → ((s t : Sides) → Contains xs s → Contains xs t → s ≡ t)
          → (xs ≡ []) ⊎ ((s : Sides) × (xs ≡ s ∷ []))
      short [] a same = inl refl
      short (s ∷ []) a same = inr (s, refl)
      short (s ∷ t ∷ xs) a same =
          absurd (a.0 t (Contains-head t xs) (same s t (Contains-head s (t ∷ xs)) (Contains-tail s (t ∷ xs) t (Contains-head t xs))))
