-- The un-moves that come down to one of a position: each symmetry that gives an un-move gives one
-- of them, and each of them is given by one.
use Rattle.std.proofs.Common.{◌≡◌, ℕ, ◌^◌, ◌<◌, ◌≤◌, Bool, true, false, not, ◌&&◌, ◌||◌, eqb, leb, List, ◌++◌, map, filter, ◌↔◌, refl, sym, ◌∙◌, ap, ap₂, subst, inl, inr, arith}
use Rattle.std.specs.List.{range_with_len, Contains}
use Rattle.std.proofs.lemmas.Bool.{cases_Bool, eq-eqb, eqb-true, ne_eqb, le-leb, and_parts, and_from, or_right, both_ways}
use Rattle.std.proofs.lemmas.Simd.{map-map}
use Rattle.morris_board.specs.Boards.{Shape}
use Rattle.morris_board.specs.Sets.{has, count_of, with_point, without_point}
use Rattle.morris_board.specs.Positions.{Sides, sides, IsPosition}
use Rattle.morris_board.specs.Symmetries.{image_of, image_sides, inverse_of, HasSymmetries}
use Rattle.morris_board.proofs.PointsLaws.{has-with, has-without, same_points}
use Rattle.morris_board.proofs.ImageLaws.{IsOneToOne, one_to_one, IsPosition-image, count_of-image, has-image_at, image_of-lt, image_of-with, image_of-without, image_of-undone}
use Rattle.morris_index.specs.Classes.{is_canonicalizing, symmetry_of, representative_of}
use Rattle.morris_index.specs.ClassPairs.{canonical_form, class_index_of}
use Rattle.morris_index.specs.Moves.{unmove_sides, move_sides}
use Rattle.morris_index.specs.Pairs.{Counts, IsPair, is_of}
use Rattle.morris_index.specs.Unmoves.{Unmove, unmove, end_of, ComesDownTo, AddsEntries, gives_unmove, entry_predecessors}
use Rattle.morris_index.proofs.IndexLaws.{IsPlaced, placed, halves_of, is_of-first, is_of-second}
use Rattle.morris_board.proofs.PositionLaws.{from_between, own_count, other_count}
use Rattle.morris_board.proofs.SetLaws.{with_point-lt, without_point-lt}
use Rattle.morris_index.proofs.MoveLaws.{vacant_own, vacant_other, own_lt, other_lt, before_count, before_placed}
use Rattle.morris_index.proofs.ClassLaws.{all_range, image_twice, canonical_least, representative_twice, symmetry_first, symmetry_within}
use Rattle.morris_index.proofs.FallLaws.{table-from, table-has, table-once}

-- ---- a stone that has gone to another point goes back

settle : (a b c : Bool) → (b ≡ true → c ≡ true) → (a ≡ true → c ≡ false) → ((not a && ((not b && c) || a)) || b) ≡ c
settle true true c h k = absurd (both_ways c (k refl) (h refl))
settle true false c h k = sym (k refl)
settle false true c h k = sym (h refl)
settle false false true h k = refl
settle false false false h k = refl

there_back : (x v u : ℕ) → has x v ≡ true → has x u ≡ false → with_point (without_point (with_point (without_point x v) u) u) v ≡ x
there_back x v u here free =
    same_points (with_point (without_point (with_point (without_point x v) u) u) v) x (λ q.
    has-with (without_point (with_point (without_point x v) u) u) v q
    ∙ ap (λ b. b || eqb q v) (has-without (with_point (without_point x v) u) u q
    ∙ ap (λ b. not (eqb q u) && b) (has-with (without_point x v) u q ∙ ap (λ b. b || eqb q u) (has-without x v q)))
    ∙ settle (eqb q u) (eqb q v) (has x q) (λ e. ap (has x) (eqb-true q v e) ∙ here) (λ e. ap (has x) (eqb-true q u e) ∙ free))

module _ (board : Shape) (n : ℕ) (few : n ≤ 24) (points : board.points ≡ n) (y : HasSymmetries board) where
  low : board.points ≤ 24
  low = omega arith

  on_board : (set : ℕ) → set < 2 ^ n → set < 2 ^ board.points
  on_board set h = subst (λ k. set < 2 ^ k) (sym points) h

  -- ---- images under a symmetry

  module _ (s : ℕ) (s_in : s < board.symmetries) where
    abbrev f : ℕ → ℕ
    f = board.image s

    one : IsOneToOne board.points f (board.image (inverse_of s))
    one = one_to_one board _ _ (y.symmetry s s_in)

    stone_gone : (x a b : ℕ) → x < 2 ^ board.points → a < board.points → b < board.points
        → image_of f (with_point (without_point x a) b) ≡ with_point (without_point (image_of f x) (f a)) (f b)
    stone_gone x a b within a_in b_in =
        image_of-with board.points low f _ one (without_point x a) b (without_point-lt x board.points a within) b_in
        ∙ ap (λ t. with_point t (f b)) (image_of-without board.points low f _ one x a within a_in)

    moved_on-image : (q : Sides) (a b : ℕ) → q.own < 2 ^ board.points → a < board.points → b < board.points
        → image_sides f (move_sides q a b) ≡ move_sides (image_sides f q) (f a) (f b)
    moved_on-image q a b within a_in b_in = ap (sides (image_of f q.other)) (stone_gone q.own a b within a_in b_in)

    taken_back-image : (q : Sides) (u v : ℕ) → q.other < 2 ^ board.points → u < board.points → v < board.points
        → image_sides f (unmove_sides q u v) ≡ unmove_sides (image_sides f q) (f u) (f v)
    taken_back-image q u v within u_in v_in = ap (λ own. sides own (image_of f q.own)) (stone_gone q.other v u within v_in u_in)

    forth_back : (q : Sides) → q.own < 2 ^ board.points → q.other < 2 ^ board.points → image_sides (board.image (inverse_of s)) (image_sides f q) ≡ q
    forth_back q own other = ap₂ sides (image_of-undone board.points low f _ one q.own own) (image_of-undone board.points low f _ one q.other other)

    -- a symmetry that takes a set to a representative is canonicalizing for it
    pub leads_from : (set : ℕ) → set < 2 ^ board.points → representative_of board (image_of f set) ≡ image_of f set → is_canonicalizing board set s ≡ true
    unfolding is_canonicalizing representative_of
    leads_from set small own =
        all_range (λ t. leb (image_of f set) (image_of (board.image t) set)) 0 board.symmetries (λ t t_in.
        let image_small : image_of f set < 2 ^ board.points = image_of-lt board.points low f _ one set small in
        let u = image_twice board low y (image_of f set) image_small t (inverse_of s) (omega arith) (y.inverse_within s s_in) in
        let first = symmetry_first board (image_of f set) y.some in
        let undone : image_of (board.image (inverse_of s)) (image_of f set) ≡ set = image_of-undone board.points low f _ one set small in
        let least : image_of (board.image (symmetry_of board (image_of f set))) (image_of f set) ≤ image_of (board.image u.0) (image_of f set) = first.least u.0 u.1 in
        let seen : image_of (board.image t) set ≡ image_of (board.image u.0) (image_of f set) = ap (image_of (board.image t)) (sym undone) ∙ u.2 in
        le-leb _ _ (omega (arith, least, own, seen)))

  -- ---- the un-moves that come down to one of a position

  module _ (c : Counts) (pair : IsPair n c) (p : Sides) (h : IsPosition board p) (of : is_of c p ≡ true) (u v : ℕ) (u_in : u < n)
      (vacant : not (has p.own u || has p.other u) ≡ true) (here : has p.other v ≡ true) where
    abbrev before : Sides
    before = unmove_sides p u v

    free_own : has p.own u ≡ false
    free_own = vacant_own _ _ vacant

    free_other : has p.other u ≡ false
    free_other = vacant_other _ _ vacant

    u_low : u < board.points
    u_low = omega arith

    v_low : v < board.points
    v_low = omega (arith, other_lt board n points few p h v here)

    own_most : count_of p.own ≤ 9
    own_most = (own_count p h.sized).1

    other_most : count_of p.other ≤ 9
    other_most = (other_count p h.sized).1

    own_least : 3 ≤ count_of p.own
    own_least = elim (halves_of c p of) [
      | inl a ↦ omega (arith, a.0, pair.least, pair.ordered)
      | inr a ↦ omega (arith, a.1, pair.least)
    ]

    here_placed : IsPlaced n before
    here_placed = before_placed n few c p (placed board n p points h) own_most other_most u v u_in free_own free_other here

    mover_count : count_of before.own ≡ count_of p.other
    mover_count = before_count n few c p (placed board n p points h) own_most other_most u v u_in free_own free_other here

    before_of : is_of c before ≡ true
    before_of = elim (halves_of c p of) [
      | inl a ↦ is_of-second c before (and_from _ _ (eq-eqb (count_of before.own) c.lesser (mover_count ∙ a.1)) (eq-eqb (count_of before.other) c.greater a.0))
      | inr a ↦ is_of-first c before (and_from _ _ (eq-eqb (count_of before.own) c.greater (mover_count ∙ a.2)) (eq-eqb (count_of before.other) c.lesser a.1))
    ]

    own_within : before.own < 2 ^ board.points
    own_within = on_board before.own here_placed.own_within

    other_within : before.other < 2 ^ board.points
    other_within = on_board before.other here_placed.other_within

    before_position : IsPosition board before
    before_position = record {
      stones = record { own_within = own_within; other_within = other_within; apart = here_placed.apart };
      sized = and_from _ _ (from_between 2 (count_of before.own) 9 (omega (arith, mover_count, (other_count p h.sized).0)) (omega (arith, mover_count, other_most)))
          (from_between 3 (count_of before.other) 9 own_least own_most);
    }

    v_left : has before.own v ≡ false
    v_left =
        has-with (without_point p.other v) u v
        ∙ ap (λ b. b || eqb v u) (has-without p.other v v ∙ ap (λ b. not b && has p.other v) (eq-eqb v v refl))
        ∙ ne_eqb v u (λ e. both_ways (has p.other u) free_other (ap (has p.other) (sym e) ∙ here))

    v_free : has before.other v ≡ false
    v_free = elim (cases_Bool (has p.own v)) [
      | inl t ↦ absurd (both_ways (has p.other v) (h.stones.apart v t) here)
      | inr t ↦ t
    ]

    moves_there : move_sides before u v ≡ p
    moves_there = ap (sides p.own) (there_back p.other v u here free_other)

    -- the un-move that symmetry s gives
    abbrev unmoved : ℕ → Unmove
    unmoved s = unmove (image_sides (board.image s) before) (board.image s u) (board.image s v)

    module _ (s : ℕ) (s_in : s < board.symmetries) (k : gives_unmove board p before.own s ≡ true) where
      parts : (is_canonicalizing board before.own s ≡ true) × (eqb (symmetry_of board (image_of (board.image s) p.own)) (inverse_of s) ≡ true)
      parts = and_parts _ _ k

      ends_there : end_of (unmoved s) ≡ image_sides (board.image s) p
      ends_there = sym (moved_on-image s s_in before u v own_within u_low v_low) ∙ ap (image_sides (board.image s)) moves_there

      leads_back : symmetry_of board (end_of (unmoved s)).own ≡ inverse_of s
      leads_back = ap (λ (x : Sides). symmetry_of board x.own) ends_there ∙ eqb-true _ _ parts.1

      falls_there : canonical_form board (end_of (unmoved s)) ≡ p
      unfolding canonical_form
      falls_there =
          ap (λ t. image_sides (board.image t) (end_of (unmoved s))) leads_back
          ∙ ap (image_sides (board.image (inverse_of s))) ends_there
          ∙ forth_back s s_in p h.stones.own_within h.stones.other_within

      own_is : image_of (board.image s) before.own ≡ representative_of board before.own
      own_is = canonical_least board before.own s s_in parts.0

      comes_down : ComesDownTo board n c p u v (unmoved s)
      comes_down = record {
        lawful = IsPosition-image board low _ _ (one s s_in) before before_position;
        counts = rw (
          count_of-image board.points low _ _ (one s s_in) before.own own_within,
          count_of-image board.points low _ _ (one s s_in) before.other other_within,
        ) before_of;
        own = ap (representative_of board) own_is ∙ representative_twice board low y before.own own_within ∙ sym own_is;
        stone = has-image_at board.points low _ _ (one s s_in) before.own own_within u u_low
            ∙ has-with (without_point p.other v) u u
            ∙ or_right _ _ (eq-eqb u u refl);
        inside = omega (arith, (one s s_in).within v v_low);
        vacant = rw (
          has-image_at board.points low _ _ (one s s_in) before.own own_within v v_low,
          has-image_at board.points low _ _ (one s s_in) before.other other_within v v_low,
          v_left,
          v_free,
        ) refl;
        lands = falls_there;
        leaves = ap (λ t. board.image t (board.image s u)) leads_back ∙ (one s s_in).undone u u_low;
        arrives = ap (λ t. board.image t (board.image s v)) leads_back ∙ (one s s_in).undone v v_low;
      }

    module _ (x : Unmove) (k : ComesDownTo board n c p u v x) where
      abbrev t : Sides
      t = end_of x

      abbrev g : ℕ
      g = symmetry_of board t.own

      abbrev back : ℕ
      back = inverse_of g

      from_low : x.from < board.points
      from_low = omega (arith, own_lt board n points few x.start k.lawful x.from k.stone)

      to_low : x.to < board.points
      to_low = omega (arith, k.inside)

      t_own : t.own < 2 ^ board.points
      t_own = k.lawful.stones.other_within

      t_other : t.other < 2 ^ board.points
      t_other =
          with_point-lt (without_point x.start.own x.from) board.points x.to
          (without_point-lt x.start.own board.points x.from k.lawful.stones.own_within) to_low

      g_in : g < board.symmetries
      g_in = symmetry_within board low y t.own t_own

      back_in : back < board.symmetries
      back_in = y.inverse_within g g_in

      there : image_sides (board.image g) t ≡ p
      unfolding canonical_form
      there = k.lands

      back_there : image_sides (board.image back) p ≡ t
      back_there = ap (image_sides (board.image back)) (sym there) ∙ forth_back g g_in t t_own t_other

      goes_back : unmove_sides t x.from x.to ≡ x.start
      goes_back = ap (λ own. sides own x.start.other) (there_back x.start.own x.from x.to k.stone (vacant_own _ _ k.vacant))

      before_is : before ≡ image_sides (board.image g) x.start
      before_is =
          ap (λ (z : Sides). unmove_sides z u v) (sym there)
          ∙ ap₂ (unmove_sides (image_sides (board.image g) t)) (sym k.leaves) (sym k.arrives)
          ∙ sym (taken_back-image g g_in t x.from x.to t_other from_low to_low)
          ∙ ap (image_sides (board.image g)) goes_back

      start_is : image_sides (board.image back) before ≡ x.start
      start_is =
          ap (image_sides (board.image back)) before_is
          ∙ forth_back g g_in x.start k.lawful.stones.own_within k.lawful.stones.other_within

      from_is : board.image back u ≡ x.from
      from_is = ap (board.image back) (sym k.leaves) ∙ (one g g_in).undone x.from from_low

      to_is : board.image back v ≡ x.to
      to_is = ap (board.image back) (sym k.arrives) ∙ (one g g_in).undone x.to to_low

      carries_it : gives_unmove board p before.own back ≡ true
      carries_it =
          and_from _ _
          (leads_from back back_in before.own own_within (subst (λ (z : Sides). representative_of board z.own ≡ z.own) (sym start_is) k.own))
          (eq-eqb _ _ (ap (λ (z : Sides). symmetry_of board z.own) back_there ∙ sym (y.inverse_twice g g_in)))

      carried_is : unmoved back ≡ x
      carried_is = ap (λ z. unmove z (board.image back u) (board.image back v)) start_is ∙ ap₂ (unmove x.start) from_is to_is

    -- ---- all of them

    abbrev all_steps : List Unmove
    all_steps = map unmoved (filter (gives_unmove board p before.own) (range_with_len 0 board.symmetries))

    steps_listed : (x : Unmove) → Contains all_steps x ↔ ComesDownTo board n c p u v x
    steps_listed x = (
      (λ m.
          let r = table-from unmoved (gives_unmove board p before.own) 0 board.symmetries x m in
          subst (ComesDownTo board n c p u v) r.4 (comes_down r.0 (omega (arith, r.2)) r.3)),
      (λ k.
          subst (Contains all_steps) (carried_is x k)
          (table-has unmoved (gives_unmove board p before.own) 0 board.symmetries (back x k) (omega arith) (omega (arith, back_in x k)) (carries_it x k))),
    )

    steps_alone : (s t : ℕ) → s < board.symmetries → t < board.symmetries → gives_unmove board p before.own s ≡ true → gives_unmove board p before.own t ≡ true
        → unmoved s ≡ unmoved t → s ≡ t
    steps_alone s t s_in t_in of_s of_t e =
        sym (y.inverse_twice s s_in)
        ∙ ap inverse_of (sym (leads_back s s_in of_s) ∙ ap (λ (x : Unmove). symmetry_of board (end_of x).own) e ∙ leads_back t t_in of_t)
        ∙ y.inverse_twice t t_in

    entries_are : map (λ (x : Unmove). class_index_of board n c x.start) all_steps ≡ entry_predecessors board n c p u v
    unfolding entry_predecessors
    entries_are = map-map (λ (x : Unmove). class_index_of board n c x.start) unmoved (filter (gives_unmove board p before.own) (range_with_len 0 board.symmetries))

    pub adds_entries : (old new : List ℕ) → new ≡ old ++ entry_predecessors board n c p u v → AddsEntries board n c p u v old new
    adds_entries old new is = record {
      unmoves = all_steps;
      listed = steps_listed;
      once = table-once unmoved (gives_unmove board p before.own) board.symmetries steps_alone 0 board.symmetries (omega arith);
      added = is ∙ ap (λ xs. old ++ xs) (sym entries_are);
    }
