-- Positions grouped by the opponent's set: the entries of the members, the canonicalizing symmetry
-- of the results of their moves, and that each position with an entry of its own is a member.
use Rattle.std.proofs.Common.{◌≡◌, ℕ, ◌+◌, ◌^◌, ◌<◌, ◌≤◌, true, eqb, List, ◌++◌, map, filter, refl, sym, ◌∙◌, ap, ap₂, subst, inl, inr, arith}
use Rattle.std.specs.List.{range_with_len, All, Contains}
use Rattle.std.proofs.lemmas.Bool.{cases_lt, eq-eqb, eqb-true, and_parts, and_from}
use Rattle.std.proofs.lemmas.List.Elements.{All-append, All-contains_itself, All-weaker, Contains-append_left, Contains-append_right}
use Rattle.morris_board.specs.Boards.{Shape}
use Rattle.morris_board.specs.Sets.{count_of}
use Rattle.morris_board.specs.Positions.{Sides, sides, IsPosition}
use Rattle.morris_board.specs.Symmetries.{image_of, image_sides, inverse_of, HasSymmetries}
use Rattle.morris_board.proofs.ImageLaws.{IsOneToOne, one_to_one, IsPosition-image, count_of-image, image_sides-undone}
use Rattle.morris_index.specs.Classes.{is_canonicalizing, symmetry_of, representative_of}
use Rattle.morris_index.specs.ClassMoves.{class_start_of, IsCanonicalOn}
use Rattle.morris_index.specs.ClassPairs.{canonical_form, class_index_of, class_size_of}
use Rattle.morris_index.specs.Moves.{InPair, in_pair}
use Rattle.morris_index.specs.Pairs.{Counts, IsPair, is_of}
use Rattle.morris_index.specs.Unmoves.{gives_unmove}
use Rattle.morris_index.specs.ByOpponent.{swap_sides, by_opponent, IsGroupMember, IsGroupMemberFrom, AreByOpponent}
use Rattle.morris_index.proofs.IndexLaws.{IsPlaced, placed, other_apart, halves_of}
use Rattle.morris_board.proofs.PositionLaws.{from_between, own_count, other_count}
use Rattle.morris_index.proofs.ResultLaws.{is_of-quiet}
use Rattle.morris_index.proofs.ClassLaws.{representative_twice, representative_symmetry, image_none, symmetry_within}
use Rattle.morris_index.proofs.ClassPairLaws.{canonical_position, canonical_own, canonical_own_count, canonical_other_count, canonical_itself, canonical_alone, index-lt}
use Rattle.morris_index.proofs.CarriedLaws.{IsCarried, is_carried}
use Rattle.morris_index.proofs.StepLaws.{leads_from}
use Rattle.morris_index.proofs.FallLaws.{table-from, table-has}

-- the other player has as many stones as the pair allows
pub turned_of : (c : Counts) (p : Sides) → is_of c p ≡ true → is_of c (swap_sides p) ≡ true
turned_of c p of = is_of-quiet c p (swap_sides p) of refl refl

-- positions of a pair with the same stones of the player to move have as many of the other's
pub same_others : (c : Counts) (s t : Sides) → is_of c s ≡ true → is_of c t ≡ true → s.own ≡ t.own → count_of s.other ≡ count_of t.other
same_others c s t s_of t_of own = elim (halves_of c s s_of) [
  | inl a ↦ elim (halves_of c t t_of) [
    | inl b ↦ a.1 ∙ sym b.1
    | inr b ↦ absurd (b.0 (sym a.0 ∙ ap count_of own ∙ b.1))
  ]
  | inr a ↦ elim (halves_of c t t_of) [
    | inl b ↦ absurd (a.0 (sym b.0 ∙ ap count_of (sym own) ∙ a.1))
    | inr b ↦ a.2 ∙ sym b.2
  ]
]

module _ (board : Shape) (n : ℕ) (few : n ≤ 24) (points : board.points ≡ n) (y : HasSymmetries board) (c : Counts) (pair : IsPair n c) where
  low : board.points ≤ 24
  low = omega arith

  one : (s : ℕ) → s < board.symmetries → IsOneToOne board.points (board.image s) (board.image (inverse_of s))
  one s s_in = one_to_one board _ _ (y.symmetry s s_in)

  -- ---- the other player is to move

  module _ (p : Sides) (h : IsPosition board p) (of : is_of c p ≡ true) where
    own_most : count_of p.own ≤ 9
    own_most = (own_count p h.sized).1

    other_most : count_of p.other ≤ 9
    other_most = (other_count p h.sized).1

    own_least : 3 ≤ count_of p.own
    own_least = elim (halves_of c p of) [
      | inl a ↦ omega (arith, a.0, pair.least, pair.ordered)
      | inr a ↦ omega (arith, a.1, pair.least)
    ]

    pub turned_position : IsPosition board (swap_sides p)
    turned_position = record {
      stones = record {
        own_within = h.stones.other_within;
        other_within = h.stones.own_within;
        apart = other_apart n (omega arith) p (placed board n p points h);
      };
      sized = and_from _ _ (from_between 2 (count_of p.other) 9 (omega (arith, (other_count p h.sized).0)) other_most)
          (from_between 3 (count_of p.own) 9 own_least own_most);
    }

    turned_placed : IsPlaced n (swap_sides p)
    turned_placed = placed board n (swap_sides p) points turned_position

    -- ---- the member that a symmetry gives

    module _ (own : representative_of board p.own ≡ p.own) (s : ℕ) (s_in : s < board.symmetries) (k : gives_unmove board p p.other s ≡ true) where
      abbrev pub member : Sides
      member = image_sides (board.image s) (swap_sides p)

      parts : (is_canonicalizing board p.other s ≡ true) × (eqb (symmetry_of board (image_of (board.image s) p.own)) (inverse_of s) ≡ true)
      parts = and_parts _ _ k

      faced_position : IsPosition board member
      faced_position = IsPosition-image board low _ _ (one s s_in) (swap_sides p) turned_position

      faced_of : is_of c member ≡ true
      faced_of = rw (
        count_of-image board.points low _ _ (one s s_in) p.other h.stones.other_within,
        count_of-image board.points low _ _ (one s s_in) p.own h.stones.own_within,
      ) (turned_of c p of)

      pub faced_carried : IsCarried board n (swap_sides p) s
      faced_carried = is_carried board n few points y (swap_sides p) turned_placed own_most s s_in parts.0

      faced_least : representative_of board member.own ≡ member.own
      faced_least = ap (representative_of board) faced_carried.own ∙ representative_twice board low y p.other h.stones.other_within ∙ sym faced_carried.own

      pub is_faced : (entry : ℕ) → entry ≡ class_index_of board n c member → IsGroupMember board n (in_pair c member) entry
      is_faced entry e = record {
        counts = faced_of;
        lawful = faced_position;
        own = faced_least;
        at = sym e;
        inside = subst (λ k. k < class_size_of board n c) (sym e) (index-lt board n few points y c member faced_position faced_of);
      }

      -- ---- the position of which it is the image

      pub faced_from : (place first : ℕ) → place ≡ p.own → first ≡ class_start_of board n c p.own (count_of p.other) → first ≤ 2 ^ 54
          → IsGroupMemberFrom board n c (swap_sides p) s place first
      faced_from place first same e small = record {
        counts = turned_of c p of;
        lawful = turned_position;
        pair = pair;
        canonical_form = record { within = s_in; least = own; back = eqb-true _ _ parts.1 };
        place_is = same;
        start = e;
        few = small;
      }

  -- ---- the results of the moves of a position of which an image is a member

  pub canonical_itself_on : (p : Sides) (symmetry place first : ℕ) → IsGroupMemberFrom board n c p symmetry place first → IsCanonicalOn board n (in_pair c p) 0 p first
  canonical_itself_on p symmetry place first k = record {
    counts = k.counts;
    lawful = k.lawful;
    pair = pair;
    leads = sym (ap (symmetry_of board) (sym k.canonical_form.least) ∙ representative_symmetry board low y p.other k.lawful.stones.other_within);
    canonical_form = sym (ap₂ sides (image_none board low y p.own k.lawful.stones.own_within) (image_none board low y p.other k.lawful.stones.other_within));
    start = k.start;
    few = k.few;
  }

  -- ---- each position with an entry of its own is a member

  pub record IsCovered (x : Sides) : Type 0 where
    pub facing_it : Sides
    pub lawful : IsPosition board facing_it
    pub counts : is_of c facing_it ≡ true
    pub own : representative_of board facing_it.own ≡ facing_it.own
    pub listed : Contains (by_opponent board c facing_it) (in_pair c x)

  module _ (x : Sides) (h : IsPosition board x) (of : is_of c x ≡ true) (own : representative_of board x.own ≡ x.own) where
    abbrev t : Sides
    t = swap_sides x

    t_position : IsPosition board t
    t_position = turned_position x h of

    abbrev g : ℕ
    g = symmetry_of board x.other

    g_in : g < board.symmetries
    g_in = symmetry_within board low y x.other h.stones.other_within

    abbrev p : Sides
    p = canonical_form board t

    abbrev back : ℕ
    back = inverse_of g

    back_in : back < board.symmetries
    back_in = y.inverse_within g g_in

    p_is : p ≡ image_sides (board.image g) t
    unfolding canonical_form
    p_is = refl

    p_position : IsPosition board p
    p_position = canonical_position board n few points y t t_position

    p_of : is_of c p ≡ true
    p_of = rw (canonical_own_count board n few points y t t_position, canonical_other_count board n few points y t t_position) (turned_of c x of)

    p_least : representative_of board p.own ≡ p.own
    p_least =
        ap (representative_of board) (canonical_own board n few points y t t_position)
        ∙ representative_twice board low y x.other h.stones.other_within
        ∙ sym (canonical_own board n few points y t t_position)

    undone : image_sides (board.image back) p ≡ t
    undone = ap (image_sides (board.image back)) p_is ∙ image_sides-undone board low _ _ (one g g_in) t t_position.stones

    back_other : image_of (board.image back) p.other ≡ x.own
    back_other = ap (λ (s : Sides). s.other) undone

    back_own_is : image_of (board.image back) p.own ≡ x.other
    back_own_is = ap (λ (s : Sides). s.own) undone

    carried_there : gives_unmove board p p.other back ≡ true
    carried_there =
        and_from _ _
        (leads_from board n few points y back back_in p.other p_position.stones.other_within
        (ap (representative_of board) back_other ∙ own ∙ sym back_other))
        (eq-eqb _ _ (ap (symmetry_of board) back_own_is ∙ sym (y.inverse_twice g g_in)))

    there : in_pair c (image_sides (board.image back) (swap_sides p)) ≡ in_pair c x
    there = ap₂ (λ a b. in_pair c (sides a b)) back_other back_own_is

    pub covered : IsCovered x
    unfolding by_opponent
    covered = record {
      facing_it = p;
      lawful = p_position;
      counts = p_of;
      own = p_least;
      listed =
          subst (Contains (map (λ s. in_pair c (image_sides (board.image s) (swap_sides p))) (filter (gives_unmove board p p.other) (range_with_len 0 board.symmetries)))) there
          (table-has (λ s. in_pair c (image_sides (board.image s) (swap_sides p))) (gives_unmove board p p.other) 0 board.symmetries back (omega arith) (omega (arith, back_in)) carried_there);
    }

  -- ---- all members that the positions of some entries give

  facing_pairs : (p : Sides) → All (λ (q : InPair). q.pair ≡ c) (by_opponent board c p)
  unfolding by_opponent
  facing_pairs p =
      let all : List InPair = map (λ s. in_pair c (image_sides (board.image s) (swap_sides p))) (filter (gives_unmove board p p.other) (range_with_len 0 board.symmetries)) in
      All-weaker (Contains all) (λ (q : InPair). q.pair ≡ c)
      (λ q m.
      let r = table-from (λ s. in_pair c (image_sides (board.image s) (swap_sides p))) (gives_unmove board p p.other) 0 board.symmetries q m in
      ap (λ (x : InPair). x.pair) (sym r.4))
      all (All-contains_itself all)

  -- a position with an entry of its own is the only one
  own_alone : (s t : Sides) → IsPosition board s → IsPosition board t → is_of c s ≡ true → is_of c t ≡ true
      → representative_of board s.own ≡ s.own → representative_of board t.own ≡ t.own
      → class_index_of board n c s ≡ class_index_of board n c t → s ≡ t
  own_alone s t h k s_of t_of s_own t_own same =
      sym (canonical_itself board n few points y s.own s.other (placed board n s points h).own_within (placed board n s points h).other_within s_own)
      ∙ canonical_alone board n few points y c s t h k s_of t_of same
      ∙ canonical_itself board n few points y t.own t.other (placed board n t points k).own_within (placed board n t points k).other_within t_own

  pub by_opponents-more : (first k : ℕ) (by_opponents : List InPair) (p : Sides) → IsPosition board p → is_of c p ≡ true → representative_of board p.own ≡ p.own
      → class_index_of board n c p ≡ k → AreByOpponent board n c first k by_opponents → AreByOpponent board n c first (k + 1) (by_opponents ++ by_opponent board c p)
  by_opponents-more first k by_opponents p h of own at before = record {
    pairs = All-append (λ (q : InPair). q.pair ≡ c) by_opponents (by_opponent board c p) before.pairs (facing_pairs p);
    each = λ s s_h s_of s_own from to q m. elim (cases_lt (class_index_of board n c s) k) [
      | inl l ↦ Contains-append_left by_opponents (by_opponent board c p) q (before.each s s_h s_of s_own from l q m)
      | inr g ↦
          let same : s ≡ p = own_alone s p s_h h s_of of s_own own (omega (arith, at)) in
          Contains-append_right by_opponents (by_opponent board c p) q (subst (λ (x : Sides). Contains (by_opponent board c x) q) same m)
    ];
  }
