-- The predecessors of a position of a row are found from the un-moves of the row's stones, without
-- those from points on which the other side stands.
use Rattle.std.proofs.Common.{◌≡◌, ℕ, suc, ◌+◌, ◌<◌, ◌≤◌, ◌^◌, Bool, true, false, not, ◌&&◌, ◌||◌, cond, eqb, ltb, List, [], ◌∷◌, ◌++◌, length, map, filter, None, refl, sym, ap, ap₂, subst, ◌∙◌, inl, inr, arith, append_assoc, take, get_or}
use Rattle.std.proofs.lemmas.Bool.{and_parts, and_from, eq-eqb, lt-ltb, ltb-true, le-leb, lt-leb, not-true}
use Rattle.std.proofs.lemmas.List.{append-nil, map-append, flat_map_more, take_more}
use Rattle.std.proofs.lemmas.List.Elements.{filter-append, All-push}
use Rattle.std.specs.List.{range_with_len, flat_map}
use Rattle.morris_board.specs.Boards.{Shape, is_adjacent, adjacent}
use Rattle.morris_board.specs.Sets.{has, members, count_of}
use Rattle.morris_board.specs.Positions.{Sides, sides, IsPosition}
use Rattle.morris_board.specs.Symmetries.{image_of, image_sides, HasSymmetries}
use Rattle.morris_board.proofs.ImageLaws.{one_to_one, IsPosition-image}
use Rattle.morris_board.proofs.PointsLaws.{has-set_where, members-none}
use Rattle.morris_board.proofs.SetLaws.{point_lt, lt_from_points, is_adjacent-back}
use Rattle.morris_moves.specs.Rules.{goes, in_mill, is_vacant, move, move_stone}
use Rattle.morris_moves.specs.declared.game_move.Move.{Move}
use Rattle.morris_moves.specs.Backward.{unmove, has_come}
use Rattle.morris_moves.proofs.SetLaws.{has-member}
use Rattle.morris_moves.proofs.BackLaws.{come, count_of-before_own, IsPosition-before, vacant_from}
use Rattle.morris_moves.proofs.ResultLaws.{moved_cases, count_of-move_stone}
use Rattle.morris_index.specs.Classes.{is_canonicalizing, representative_of}
use Rattle.morris_index.specs.ClassPairs.{class_index_of}
use Rattle.morris_index.specs.ByOpponent.{swap_sides}
use Rattle.morris_index.specs.Moves.{unmove_sides}
use Rattle.morris_index.specs.Pairs.{Counts, IsPair, is_of}
use Rattle.morris_index.specs.Standings.{are_of, IsCanonicalStanding}
use Rattle.morris_index.specs.declared.standing.Standing.{Standing}
use Rattle.morris_index.proofs.ClassLaws.{image_within, image_count}
use Rattle.morris_index.proofs.FacingLaws.{turned_of, turned_position}
use Rattle.morris_index.proofs.RankLaws.{members-passing, passing-yes, passing-no}
use Rattle.morris_pairs.specs.Predecessors.{moves_into, unmoves_to, predecessors_in_rows, predecessors_in, AddsPredecessorsIn}
use Rattle.morris_pairs.specs.EntryLaws.{first_half_cases}
use Rattle.morris_pairs.specs.Orders.{Rows, is_first_half}
use Rattle.morris_pairs.proofs.BackLawsLoops.{all_leading}
use Rattle.morris_pairs.proofs.RowNodeLaws.{leading_test, prior_of, prior_first_half, image_index, before-carried, own-swap_sides}
use Rattle.morris_pairs.specs.declared.row_unmoves.RowUnmove.{RowUnmove}
use Rattle.morris_pairs.specs.RowUnmoves.{may_have_come, gives_unmove_of, Unmove, unmove_by, unmoves_from, unmoves_at, unmoves_into, predecessor_by, comes_free, nodes_by, unmove_of, IsRowUnmove, AreRowUnmoves, AddsUnmoves}
use Rattle.morris_pairs.proofs.RowStepLists.{flat_map-contained, flat_map-twice, through_joins, flat_map-mapped, filter-mapped, map-mapped, same_joins, filter-none, filter-same, filter-const, map-cond, same_where}

-- ---- the predecessors by several lists of un-moves

module _ (b : Shape) (n : ℕ) (c : Counts) (p : Sides) where
  pub nodes_none : nodes_by b n c p [] ≡ []
  unfolding nodes_by
  nodes_none = refl

  pub nodes_joined : (xs ys : List Unmove) → nodes_by b n c p (xs ++ ys) ≡ nodes_by b n c p xs ++ nodes_by b n c p ys
  unfolding nodes_by
  nodes_joined xs ys =
      ap (map (predecessor_by b n c p)) (filter-append (comes_free p) xs ys)
      ∙ map-append (predecessor_by b n c p) (filter (comes_free p) xs) (filter (comes_free p) ys)

  pub nodes_one : (k : Unmove) → comes_free p k ≡ true → nodes_by b n c p (k ∷ []) ≡ predecessor_by b n c p k ∷ []
  unfolding nodes_by
  nodes_one k free = ap (λ x. map (predecessor_by b n c p) (cond {A = List Unmove} x (k ∷ []) [])) free

  pub nodes_not : (k : Unmove) → comes_free p k ≡ false → nodes_by b n c p (k ∷ []) ≡ []
  unfolding nodes_by
  nodes_not k stands = ap (λ x. map (predecessor_by b n c p) (cond {A = List Unmove} x (k ∷ []) [])) stands

  -- those of one move: none where its point isn't vacant
  pub nodes_from : (v u : ℕ) → nodes_by b n c p (unmoves_from b p.other v u)
      ≡ cond {A = List ℕ} (not (has p.own u))
      (map (λ s. predecessor_by b n c p (unmove_by v u s)) (filter (gives_unmove_of b p.other (move_stone p.other v u)) (range_with_len 0 b.symmetries))) []
  unfolding nodes_by unmoves_from
  nodes_from v u =
      let carrying : List ℕ = filter (gives_unmove_of b p.other (move_stone p.other v u)) (range_with_len 0 b.symmetries) in
      ap (map (predecessor_by b n c p)) (filter-mapped (comes_free p) (unmove_by v u) carrying)
      ∙ map-mapped (predecessor_by b n c p) (unmove_by v u) (filter (λ s. not (has p.own u)) carrying)
      ∙ ap (map (λ s. predecessor_by b n c p (unmove_by v u s))) (filter-const (not (has p.own u)) carrying)
      ∙ map-cond (λ s. predecessor_by b n c p (unmove_by v u s)) (not (has p.own u)) carrying

-- vacancy, and then the rest
both_vacant : {Y : Type 0} (theirs ours rest : Bool) (xs : List Y)
    → cond {A = List Y} (not (theirs || ours) && rest) xs [] ≡ cond {A = List Y} (not ours && rest) (cond {A = List Y} (not theirs) xs []) []
both_vacant true true true xs = refl
both_vacant true true false xs = refl
both_vacant true false true xs = refl
both_vacant true false false xs = refl
both_vacant false true true xs = refl
both_vacant false true false xs = refl
both_vacant false false true xs = refl
both_vacant false false false xs = refl

-- ---- the law

module _ (b : Shape) (low : b.points ≤ 24) (y : HasSymmetries b) (c : Counts) (pair : IsPair b.points c) (two : c.lesser < c.greater) (p : Sides) (h : IsPosition b p)
    (of : is_of c p ≡ true) (second_half : is_first_half p ≡ false) where
  module _ (v : ℕ) (end : has p.other v ≡ true) where
    -- whether a move from u led there
    abbrev canonical_form : ℕ → Bool
    canonical_form u = has_come b p (move u v None)

    led_is : (u : ℕ) → u < b.points → canonical_form u ≡ (is_vacant p u && (goes b (count_of p.other) u v && not (in_mill b p.other v)))
    led_is u start = come b low p h v end u start

    abbrev nodes : ℕ → List ℕ
    nodes u = map (λ s. predecessor_by b b.points c p (unmove_by v u s)) (filter (gives_unmove_of b p.other (move_stone p.other v u)) (range_with_len 0 b.symmetries))

    before_is : (u : ℕ) → u < b.points → canonical_form u ≡ true → predecessors_in_rows b b.points c p u v ≡ nodes u
    unfolding unmove move_stone
    before_is u start came =
        let vacant : is_vacant p u ≡ true = (and_parts (is_vacant p u) _ (sym (led_is u start) ∙ came)).0 in
        before-carried b b.points low refl y c p u v second_half
        (prior_first_half b b.points low refl y c pair two p (unmove_sides p u v) of (count_of-before_own b low p h (move u v None) start vacant end) refl second_half)

    here : (u : ℕ) → u < b.points
        → cond {A = List ℕ} (canonical_form u) (predecessors_in_rows b b.points c p u v) []
        ≡ cond {A = List ℕ} (may_have_come b p.other v u) (nodes_by b b.points c p (unmoves_from b p.other v u)) []
    here u start =
        let rest : Bool = goes b (count_of p.other) u v && not (in_mill b p.other v) in
        same_where (canonical_form u) (predecessors_in_rows b b.points c p u v) (nodes u) (before_is u start)
        ∙ ap (λ t. cond {A = List ℕ} t (nodes u) []) (led_is u start)
        ∙ both_vacant (has p.own u) (has p.other u) rest (nodes u)
        ∙ ap (λ t. cond {A = List ℕ} (may_have_come b p.other v u) t []) (sym (nodes_from b b.points c p v u))

    into : flat_map (λ (m : Move). predecessors_in_rows b b.points c p m.from m.to) (moves_into b p v b.points) ≡ nodes_by b b.points c p (unmoves_at b p.other v)
    unfolding moves_into unmoves_at
    into =
        ap (flat_map (λ (m : Move). predecessors_in_rows b b.points c p m.from m.to)) (filter-mapped (has_come b p) (λ u. move u v None) (range_with_len 0 b.points))
        ∙ flat_map-mapped (λ (m : Move). predecessors_in_rows b b.points c p m.from m.to) (λ u. move u v None) (filter canonical_form (range_with_len 0 b.points))
        ∙ same_joins canonical_form (may_have_come b p.other v) (λ u. predecessors_in_rows b b.points c p u v) (λ u. nodes_by b b.points c p (unmoves_from b p.other v u)) b.points here
        ∙ sym (through_joins (nodes_by b b.points c p) (nodes_none b b.points c p) (nodes_joined b b.points c p)
        (unmoves_from b p.other v) (filter (may_have_come b p.other v) (range_with_len 0 b.points)))

  leading_here : predecessors_in Rows b b.points c p (unmoves_to b p b.points (members p.other)) ≡ nodes_by b b.points c p (unmoves_into b p.other)
  unfolding predecessors_in unmoves_to unmoves_into
  leading_here =
      flat_map-twice (λ (m : Move). predecessors_in_rows b b.points c p m.from m.to) (λ v. moves_into b p v b.points) (members p.other)
      ∙ flat_map-contained (λ v. flat_map (λ (m : Move). predecessors_in_rows b b.points c p m.from m.to) (moves_into b p v b.points))
      (λ v. nodes_by b b.points c p (unmoves_at b p.other v)) (members p.other) (λ v at. into v (has-member p.other v at))
      ∙ sym (through_joins (nodes_by b b.points c p) (nodes_none b b.points c p) (nodes_joined b b.points c p) (unmoves_at b p.other) (members p.other))

-- where the opponent has more stones, the predecessors of a position are those by the un-moves of
-- the opponent's stones from vacant points
pub leading_by_unmoves : (b : Shape) (n : ℕ) (few : n ≤ 24) (points : b.points ≡ n) (y : HasSymmetries b) (c : Counts) (pair : IsPair n c) (two : c.lesser < c.greater)
    (p : Sides) (h : IsPosition b p) (of : is_of c p ≡ true) (second_half : is_first_half p ≡ false)
    → predecessors_in Rows b n c p (unmoves_to b p n (members p.other)) ≡ nodes_by b n c p (unmoves_into b p.other)
leading_by_unmoves b n few points y c pair two p h of second_half =
    subst (λ k. predecessors_in Rows b k c p (unmoves_to b p k (members p.other)) ≡ nodes_by b k c p (unmoves_into b p.other)) points
    (leading_here b (omega arith) y c (subst (λ k. IsPair k c) (sym points) pair) two p h of second_half)

-- ---- which symmetries give un-moves

-- a symmetry canonicalizes a set where it takes it to its canonical form
module _ (b : Shape) (n : ℕ) (few : n ≤ 24) (points : b.points ≡ n) (y : HasSymmetries b) (mover s image least : ℕ) (within : mover < 2 ^ n) (s_low : s < b.symmetries)
    (e : image ≡ image_of (b.image s) mover) (f : least ≡ representative_of b mover) where
  pub leads_to_least : eqb image least ≡ is_canonicalizing b mover s
  unfolding representative_of
  leads_to_least = ap₂ (λ x z. eqb x z) e f ∙ leading_test b n few points y mover s (subst (λ m. mover < 2 ^ m) (sym points) within) s_low

-- ---- an un-move

module _ (stones n v u : ℕ) (few : n ≤ 24) (within : stones < 2 ^ n) (there : has stones v ≡ true) (low : u < n) (vacant : has stones u ≡ false) where
  pub end_low : v < 32
  end_low = let lower : v < n = point_lt stones n v within there in omega arith

  pub start_low : u < 32
  start_low = omega arith

  pub moved_within : move_stone stones v u < 2 ^ n
  moved_within = lt_from_points (move_stone stones v u) n (λ p here. elim (moved_cases stones v u p here) [
    | inl stays ↦ point_lt stones n p within stays
    | inr same ↦ subst (λ k. k < n) (sym same) low
  ])

  pub moved_count : count_of (move_stone stones v u) ≡ count_of stones
  moved_count = count_of-move_stone stones v u end_low start_low there vacant

-- ---- the loops that list the moves

module _ (b : Shape) (n : ℕ) (c : Counts) (stones other : ℕ) where
  pub adds_none : (unmoves : List RowUnmove) → AddsUnmoves b n c stones other [] unmoves unmoves
  adds_none unmoves = record { listed = sym (append-nil (map unmove_of unmoves)); each = λ each. each }

  pub adds_then : (xs ys : List Unmove) (old mid new : List RowUnmove) → AddsUnmoves b n c stones other xs old mid → AddsUnmoves b n c stones other ys mid new
      → AddsUnmoves b n c stones other (xs ++ ys) old new
  adds_then xs ys old mid new first second = record {
    listed = second.listed ∙ ap (λ t. t ++ ys) first.listed ∙ append_assoc (map unmove_of old) xs ys;
    each = λ each. second.each (first.each each);
  }

  pub adds_one : (unmoves : List RowUnmove) (row_unmove : RowUnmove) → IsRowUnmove b n c stones other row_unmove → AddsUnmoves b n c stones other (unmove_of row_unmove ∷ []) unmoves (unmoves ++ row_unmove ∷ [])
  adds_one unmoves row_unmove cache = record {
    listed = map-append unmove_of unmoves (row_unmove ∷ []);
    each = λ each. All-push (IsRowUnmove b n c stones other) unmoves row_unmove each cache;
  }

  pub kept_at_end : (unmoves : List RowUnmove) → AddsUnmoves b n c stones other (unmoves_into b stones) [] unmoves → AreRowUnmoves b n c stones other unmoves
  kept_at_end unmoves adds = record { listed = adds.listed; each = adds.each (λ k d low. absurd (omega arith)) }

-- the un-moves that symmetries below a number give
abbrev pub carried_below : Shape → ℕ → ℕ → ℕ → ℕ → List Unmove
carried_below b stones v u k = map (unmove_by v u) (filter (gives_unmove_of b stones (move_stone stones v u)) (range_with_len 0 k))

pub carried_all : (b : Shape) (stones v u k : ℕ) → k ≡ b.symmetries → carried_below b stones v u k ≡ unmoves_from b stones v u
unfolding unmoves_from
carried_all b stones v u k e = ap (carried_below b stones v u) e

pub carried_more : (b : Shape) (stones v u k : ℕ) → gives_unmove_of b stones (move_stone stones v u) k ≡ true
    → carried_below b stones v u k ++ unmove_by v u k ∷ [] ≡ carried_below b stones v u (k + 1)
carried_more b stones v u k passes =
    sym (map-append (unmove_by v u) (filter (gives_unmove_of b stones (move_stone stones v u)) (range_with_len 0 k)) (k ∷ []))
    ∙ ap (map (unmove_by v u)) (sym (passing-yes (gives_unmove_of b stones (move_stone stones v u)) k passes))
    ∙ ap (carried_below b stones v u) (let e : suc k ≡ k + 1 = omega arith in e)

pub carried_not : (b : Shape) (stones v u k : ℕ) → gives_unmove_of b stones (move_stone stones v u) k ≡ false
    → carried_below b stones v u k ≡ carried_below b stones v u (k + 1)
carried_not b stones v u k fails =
    ap (map (unmove_by v u)) (sym (passing-no (gives_unmove_of b stones (move_stone stones v u)) k fails))
    ∙ ap (carried_below b stones v u) (let e : suc k ≡ k + 1 = omega arith in e)

-- the moves to a point from some of the points from which they may have come
pub among_more : (b : Shape) (stones v : ℕ) (us : List ℕ) (u : ℕ)
    → flat_map (unmoves_from b stones v) us ++ unmoves_from b stones v u ≡ flat_map (unmoves_from b stones v) (us ++ u ∷ [])
among_more b stones v us u = flat_map_more (unmoves_from b stones v) [] us u

pub into_more : (b : Shape) (stones : ℕ) (vs : List ℕ) (v : ℕ) → flat_map (unmoves_at b stones) vs ++ unmoves_at b stones v ≡ flat_map (unmoves_at b stones) (vs ++ v ∷ [])
into_more b stones vs v = flat_map_more (unmoves_at b stones) [] vs v

-- no move led to a point in a mill
pub at_mill : (b : Shape) (stones v : ℕ) → in_mill b stones v ≡ true → unmoves_at b stones v ≡ []
unfolding unmoves_at
at_mill b stones v mill =
    ap (flat_map (unmoves_from b stones v)) (filter-none (may_have_come b stones v) 0 b.points (λ u. rw mill (nothing (not (has stones u)) (goes b (count_of stones) u v))))
  where
    nothing : (x y : Bool) → (x && (y && not true)) ≡ false
    nothing false y = refl
    nothing true false = refl
    nothing true true = refl

-- the points from which a stone may have come, where these are adjacent ones
module _ (b : Shape) (n : ℕ) (few : n ≤ 24) (points : b.points ≡ n) (stones v near from : ℕ) (many : 3 < count_of stones) (outside : in_mill b stones v ≡ false)
    (adjoins : near ≡ adjacent b v) (less : (p : ℕ) → has from p ≡ (has near p && not (has stones p))) where
  source_is : (u : ℕ) → has from u ≡ (ltb u b.points && may_have_come b stones v u)
  unfolding adjacent
  source_is u =
      less u
      ∙ ap (λ x. x && not (has stones u)) (ap (λ s. has s u) adjoins ∙ has-set_where b.points (is_adjacent b v) u)
      ∙ turn (ltb u b.points) (is_adjacent b v u) (not (has stones u))
      ∙ ap₂ (λ x z. ltb u b.points && (not (has stones u) && (x && not z))) (is_adjacent-back b v u ∙ sym (slides u)) (sym outside)
    where
      turn : (x y z : Bool) → ((x && y) && z) ≡ (x && (z && (y && not false)))
      turn false y z = refl
      turn true false false = refl
      turn true false true = refl
      turn true true false = refl
      turn true true true = refl

      slides : (w : ℕ) → goes b (count_of stones) w v ≡ is_adjacent b w v
      slides w = ap (λ x. cond {A = Bool} x (is_adjacent b w v) (eqb (count_of stones) 3)) (lt-ltb 3 (count_of stones) many)

  pub source_lt : (u : ℕ) → has from u ≡ true → u < n
  source_lt u here = subst (λ k. u < k) points (ltb-true u b.points (and_parts (ltb u b.points) _ (sym (source_is u) ∙ here)).0)

  pub source_vacant : (u : ℕ) → has from u ≡ true → has stones u ≡ false
  source_vacant u here = not-true (has stones u) ((and_parts _ _ (and_parts (ltb u b.points) _ (sym (source_is u) ∙ here)).1)).0

  pub at_sources : unmoves_at b stones v ≡ flat_map (unmoves_from b stones v) (members from)
  unfolding unmoves_at
  at_sources =
      let below : from < 2 ^ b.points = lt_from_points from b.points (λ u here. subst (λ k. u < k) (sym points) (source_lt u here)) in
      ap (flat_map (unmoves_from b stones v))
      (filter-same (may_have_come b stones v) (has from) 0 b.points
      (λ u high low. let here : u < b.points = omega arith in sym (source_is u ∙ ap (λ x. x && may_have_come b stones v u) (lt-ltb u b.points here)))
      ∙ sym (members-passing from b.points below (omega arith)))

-- ---- a position with more stones of the player to move

pub are_here : (c : Counts) (k : ℕ) → k ≡ c.greater → are_of c k c.lesser ≡ true
are_here c k e = ap (λ x. x || (eqb k c.lesser && eqb c.lesser c.greater)) (and_from _ _ (eq-eqb k c.greater e) (eq-eqb c.lesser c.lesser refl))

module _ (n : ℕ) (c : Counts) (pair : IsPair n c) (two : c.lesser < c.greater) (s : Sides) (of : is_of c s ≡ true) (greater : count_of s.own ≡ c.greater) where
  pub lesser_count : count_of s.other ≡ c.lesser
  lesser_count = elim (first_half_cases n c pair s of) [
    | inl a ↦ a.2
    | inr a ↦ absurd (omega (arith, a.2, greater, two))
  ]

  pub is_first_half_here : is_first_half s ≡ true
  is_first_half_here = le-leb (count_of s.other) (count_of s.own) (omega (arith, greater, lesser_count, two))

  pub is_second_half_swapped : is_first_half (swap_sides s) ≡ false
  is_second_half_swapped = lt-leb (count_of s.own) (count_of s.other) (omega (arith, greater, lesser_count, two))

-- ---- the predecessors by the un-moves of a row

module _ (b : Shape) (n : ℕ) (few : n ≤ 24) (points : b.points ≡ n) (y : HasSymmetries b) (fewer : b.symmetries ≤ 16) (c : Counts) (pair : IsPair n c)
    (two : c.lesser < c.greater) (s : Sides) (h : IsPosition b s) (of : is_of c s ≡ true) (greater : count_of s.own ≡ c.greater) where
  few_points : b.points ≤ 24
  few_points = omega arith

  lesser_here : count_of s.other ≡ c.lesser
  lesser_here = lesser_count n c pair two s of greater

  second_half : is_first_half (swap_sides s) ≡ false
  second_half = is_second_half_swapped n c pair two s of greater

  module _ (row_unmove : RowUnmove) (cache : IsRowUnmove b n c s.own c.lesser row_unmove) where
    low_symmetry : row_unmove.symmetry < b.symmetries
    low_symmetry = cache.symmetry_within

    pub image_counted : count_of (image_of (b.image row_unmove.symmetry) s.other) ≡ c.lesser
    image_counted = image_count b few_points y s.other h.stones.other_within row_unmove.symmetry low_symmetry ∙ lesser_here

    pub step_stands : IsCanonicalStanding b n c (count_of (image_of (b.image row_unmove.symmetry) s.other)) row_unmove.standing
    step_stands = subst (λ k. IsCanonicalStanding b n c k row_unmove.standing) (sym image_counted) cache.stands

    module _ (free : has s.other row_unmove.from ≡ false) where
      abbrev prior : Sides
      prior = unmove_sides (swap_sides s) row_unmove.from row_unmove.to

      low_start : row_unmove.from < b.points
      low_start = subst (λ k. row_unmove.from < k) (sym points) cache.within

      swapped_is : IsPosition b (swap_sides s)
      swapped_is = turned_position b n few points y c pair s h of

      vacant_here : is_vacant (swap_sides s) row_unmove.from ≡ true
      vacant_here = vacant_from (swap_sides s) row_unmove.from free cache.from

      prior_own : count_of prior.own ≡ count_of (swap_sides s).other
      unfolding unmove move_stone
      prior_own = count_of-before_own b few_points (swap_sides s) swapped_is (move row_unmove.from row_unmove.to None) low_start vacant_here cache.to

      prior_is : IsPosition b prior
      unfolding unmove move_stone
      prior_is = IsPosition-before b few_points (swap_sides s) swapped_is (move row_unmove.from row_unmove.to None) low_start vacant_here cache.to (omega (arith, lesser_here, pair.least))

      prior_other : count_of prior.other ≡ count_of (swap_sides s).own
      prior_other = refl

      prior_pair : is_of c prior ≡ true
      prior_pair = prior_of b n few points y c pair two (swap_sides s) prior (turned_of c s of) prior_own prior_other

      prior_is_first_half : is_first_half prior ≡ true
      prior_is_first_half = prior_first_half b n few points y c pair two (swap_sides s) prior (turned_of c s of) prior_own prior_other second_half

      same_sides : sides row_unmove.standing.own (image_of (b.image row_unmove.symmetry) s.other) ≡ image_sides (b.image row_unmove.symmetry) prior
      unfolding move_stone
      same_sides = ap (λ own. sides own (image_of (b.image row_unmove.symmetry) s.other)) cache.own

      pub image_lawful : IsPosition b (sides row_unmove.standing.own (image_of (b.image row_unmove.symmetry) s.other))
      image_lawful = subst (IsPosition b) (sym same_sides)
          (IsPosition-image b few_points _ _ (one_to_one b _ _ (y.symmetry row_unmove.symmetry low_symmetry)) prior prior_is)

      pub step_node : class_index_of b n c (sides row_unmove.standing.own (image_of (b.image row_unmove.symmetry) s.other)) ≡ predecessor_by b n c (swap_sides s) (unmove_of row_unmove)
      step_node =
          ap (class_index_of b n c) same_sides
          ∙ sym (image_index b n few points y c pair two prior prior_is prior_pair prior_is_first_half row_unmove.symmetry low_symmetry)

  -- the end of the loop over the un-moves
  module _ (least : representative_of b s.own ≡ s.own) (unmoves : List RowUnmove) (cache : AreRowUnmoves b n c s.own c.lesser unmoves) where
    pub added_by_unmoves : (old new : List ℕ) → new ≡ old ++ nodes_by b n c (swap_sides s) (map unmove_of unmoves) → AddsPredecessorsIn Rows b n c (swap_sides s) old new
    added_by_unmoves old new follows =
        let swapped_here = turned_position b n few points y c pair s h of in
        let all = all_leading Rows b n points few y c pair (swap_sides s) swapped_here (turned_of c s of)
        (own-swap_sides b n few points y c pair two s of (is_first_half_here n c pair two s of greater) least)
        (members s.own) 0 (ap (λ zs. members s.own ++ zs) members-none ∙ append-nil (members s.own)) members-none in
        let is : predecessors_in Rows b n c (swap_sides s) (unmoves_to b (swap_sides s) n (members s.own)) ≡ nodes_by b n c (swap_sides s) (map unmove_of unmoves) =
        leading_by_unmoves b n few points y c pair two (swap_sides s) swapped_here (turned_of c s of) second_half
        ∙ ap (nodes_by b n c (swap_sides s)) (sym cache.listed) in
        record {
          added = predecessors_in Rows b n c (swap_sides s) (unmoves_to b (swap_sides s) n (members s.own));
          follow = follows ∙ ap (λ zs. old ++ zs) (sym is);
          often = λ j low. all.often j;
          nodes = all.nodes;
          few = omega (arith, all.few, fewer);
        }

-- ---- the record of an un-move

module _ (b : Shape) (n : ℕ) (few : n ≤ 24) (points : b.points ≡ n) (y : HasSymmetries b) (c : Counts) (stones v u : ℕ) (within : stones < 2 ^ n)
    (count : count_of stones ≡ c.greater) (there : has stones v ≡ true) (low : u < n) (vacant : has stones u ≡ false)
    (mover : ℕ) (mover_is : mover ≡ move_stone stones v u) where
  pub mover_within : mover < 2 ^ n
  mover_within = subst (λ k. k < 2 ^ n) (sym mover_is) (moved_within stones n v u few within there low vacant)

  pub mover_count : count_of mover ≡ c.greater
  mover_count = ap count_of mover_is ∙ moved_count stones n v u few within there low vacant ∙ count

  on_board : mover < 2 ^ b.points
  on_board = subst (λ k. mover < 2 ^ k) (sym points) mover_within

  module _ (s : ℕ) (s_low : s < b.symmetries) (image : ℕ) (image_is : image ≡ image_of (b.image s) mover) where
    pub carried_within : image < 2 ^ n
    carried_within = subst (λ k. k < 2 ^ n) (sym image_is)
        (subst (λ k. image_of (b.image s) mover < 2 ^ k) points (image_within b (omega arith) y mover on_board s s_low))

    pub carried_count : count_of image ≡ c.greater
    carried_count = ap count_of image_is ∙ image_count b (omega arith) y mover on_board s s_low ∙ mover_count

    pub carried_kept : (standing : Standing) → standing.own ≡ image → IsCanonicalStanding b n c c.lesser standing → (row_unmove : RowUnmove) → row_unmove.from ≡ u → row_unmove.to ≡ v → row_unmove.symmetry ≡ s
        → row_unmove.standing ≡ standing → IsRowUnmove b n c stones c.lesser row_unmove
    carried_kept standing own stands row_unmove from to symmetry same = record {
      within = rw from low;
      from = rw from vacant;
      to = rw to there;
      symmetry_within = rw symmetry s_low;
      own = ap (λ (t : Standing). t.own) same ∙ own ∙ image_is ∙ ap₂ (λ k m. image_of (b.image k) m) (sym symmetry) (mover_is ∙ ap₂ (move_stone stones) (sym to) (sym from));
      stands = subst (IsCanonicalStanding b n c c.lesser) (sym same) stands;
    }

-- ---- the loop over the un-moves

module _ (b : Shape) (n : ℕ) (c : Counts) (p : Sides) (unmoves : List RowUnmove) (i : ℕ) (row_unmove : RowUnmove) (low : i < length unmoves) (is : row_unmove ≡ get_or unmoves i row_unmove)
    (old out : List ℕ) (before_it : out ≡ old ++ nodes_by b n c p (map unmove_of (take i unmoves))) where
  abbrev passed : List Unmove
  passed = map unmove_of (take i unmoves)

  one_more : map unmove_of (take (i + 1) unmoves) ≡ passed ++ unmove_of row_unmove ∷ []
  one_more =
      ap (map unmove_of) (take_more unmoves i row_unmove low)
      ∙ map-append unmove_of (take i unmoves) (get_or unmoves i row_unmove ∷ [])
      ∙ ap (λ (s : RowUnmove). passed ++ unmove_of s ∷ []) (sym is)

  pub nodes_more : (node : ℕ) → comes_free p (unmove_of row_unmove) ≡ true → node ≡ predecessor_by b n c p (unmove_of row_unmove)
      → out ++ node ∷ [] ≡ old ++ nodes_by b n c p (map unmove_of (take (i + 1) unmoves))
  nodes_more node free e =
      ap₂ (λ (xs : List ℕ) (x : ℕ). xs ++ x ∷ []) before_it e
      ∙ append_assoc old (nodes_by b n c p passed) (predecessor_by b n c p (unmove_of row_unmove) ∷ [])
      ∙ ap (λ (t : List ℕ). old ++ t) (ap (λ (t : List ℕ). nodes_by b n c p passed ++ t) (sym (nodes_one b n c p (unmove_of row_unmove) free))
      ∙ sym (nodes_joined b n c p passed (unmove_of row_unmove ∷ [])) ∙ ap (nodes_by b n c p) (sym one_more))

  pub nodes_same : comes_free p (unmove_of row_unmove) ≡ false → out ≡ old ++ nodes_by b n c p (map unmove_of (take (i + 1) unmoves))
  nodes_same stands =
      before_it
      ∙ ap (λ (t : List ℕ). old ++ t) (sym (append-nil (nodes_by b n c p passed))
      ∙ ap (λ (t : List ℕ). nodes_by b n c p passed ++ t) (sym (nodes_not b n c p (unmove_of row_unmove) stands))
      ∙ sym (nodes_joined b n c p passed (unmove_of row_unmove ∷ [])) ∙ ap (nodes_by b n c p) (sym one_more))
