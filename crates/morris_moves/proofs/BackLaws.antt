-- The quiet moves that lead to a position: where the stone that moved came from, and the
-- predecessor.
use Rattle.std.proofs.Common.{◌≡◌, ◌≢◌, ℕ, ◌<◌, ◌≤◌, Bool, true, false, not, ◌&&◌, ◌||◌, cond, eqb, ltb, refl, sym, ap, ap₂, ◌∙◌, subst, inl, inr, arith, None, Ok, Err}
use Rattle.std.proofs.lemmas.Bool.{cases_Bool, cases_eq, cases_lt, eq-eqb, ne_eqb, lt-ltb, le-ltb, both_ways, and_parts, and_from, or_parts, or_right, not-true, false_from_ne_true}
use Rattle.morris_board.specs.Sets.{has, count_of, with_point, without_point}
use Rattle.morris_board.specs.Boards.{Shape}
use Rattle.morris_board.specs.Positions.{Sides, sides, IsApart, IsPosition, is_sized, check_sides}
use Rattle.morris_board.proofs.PointsLaws.{same_points, has-none}
use Rattle.morris_board.proofs.SetLaws.{point_lt, lt_from_points, is_adjacent-back}
use Rattle.morris_board.proofs.PositionLaws.{own_count, other_count, sized_from}
use Rattle.morris_moves.specs.declared.game_move.Move.{Move}
use Rattle.morris_moves.specs.Rules.{in_mill, closes, move_stone, is_vacant, goes, reach, move, is_legal, left_of, result_of}
use Rattle.morris_moves.specs.Backward.{LeadsTo, unmove, has_come}
use Rattle.morris_moves.proofs.MaskLaws.{IsVacancy, IsSteps, reach-has, may_go-vacant}
use Rattle.morris_moves.proofs.LegalLaws.{listed_move, listed_is_legal, legal_is_listed}
use Rattle.morris_moves.proofs.ResultLaws.{has-move_stone, moved_cases, count_of-move_stone}

-- ---- a stone that goes from a point to another and back

module _ (own u v : ℕ) (start : has own u ≡ true) (end : has own v ≡ false) where
  differ : u ≢ v
  differ e = both_ways (has own v) end (subst (λ p. has own p ≡ true) e start)

  pub moved_here : has (move_stone own u v) v ≡ true
  moved_here = has-move_stone own u v v ∙ or_right (not (eqb v u) && has own v) (eqb v v) (eq-eqb v v refl)

  pub moved_gone : has (move_stone own u v) u ≡ false
  moved_gone = has-move_stone own u v u ∙ rw (eq-eqb u u refl, ne_eqb u v differ) refl

  pub moved_back : move_stone (move_stone own u v) v u ≡ own
  moved_back = same_points _ _ each
    where
      plain : (x : Bool) → ((not false && ((not false && x) || false)) || false) ≡ x
      plain true = refl
      plain false = refl

      each : (p : ℕ) → has (move_stone (move_stone own u v) v u) p ≡ has own p
      each p = has-move_stone (move_stone own u v) v u p ∙ elim (cases_eq p u) [
        | inl e ↦ or_right _ (eqb p u) (eq-eqb p u e) ∙ sym (ap (has own) e ∙ start)
        | inr d ↦ elim (cases_eq p v) [
          | inl e ↦ rw (eq-eqb p v e, ne_eqb p u d) (sym (ap (has own) e ∙ end))
          | inr f ↦ rw (ne_eqb p v f, ne_eqb p u d, has-move_stone own u v p, ne_eqb p v f, ne_eqb p u d) (plain (has own p))
        ]
      ]

-- ---- the predecessor by a quiet move

pub vacant_parts : (s : Sides) (u : ℕ) → is_vacant s u ≡ true → (has s.own u ≡ false) × (has s.other u ≡ false)
vacant_parts s u h = or_parts (has s.own u) (has s.other u) (not-true _ h)

pub vacant_from : (s : Sides) (u : ℕ) → has s.own u ≡ false → has s.other u ≡ false → is_vacant s u ≡ true
vacant_from s u own other = rw (own, other) refl

module _ (b : Shape) (small : b.points ≤ 24) (q : Sides) (h : IsPosition b q) (m : Move) (start : m.from < b.points)
    (vacant : is_vacant q m.from ≡ true) (end : has q.other m.to ≡ true) where
  end_lt : m.to < b.points
  end_lt = point_lt q.other b.points m.to h.stones.other_within end

  pub IsApart-before : IsApart b (unmove q m)
  unfolding unmove
  IsApart-before = record {
    own_within = lt_from_points _ b.points (λ p e. elim (moved_cases q.other m.to m.from p e) [
      | inl stays ↦ point_lt q.other b.points p h.stones.other_within stays
      | inr same ↦ subst (λ k. k < b.points) (sym same) start
    ]);
    other_within = h.stones.own_within;
    apart = λ p e. elim (moved_cases q.other m.to m.from p e) [
      | inl stays ↦ false_from_ne_true _ (λ also. both_ways _ (h.stones.apart p also) stays)
      | inr same ↦ subst (λ k. has q.own k ≡ false) (sym same) (vacant_parts q m.from vacant).0
    ];
  }

  pub count_of-before_own : count_of (unmove q m).own ≡ count_of q.other
  unfolding unmove
  count_of-before_own =
      count_of-move_stone q.other m.to m.from (omega (arith, end_lt)) (omega (arith, start)) end (vacant_parts q m.from vacant).1

  pub count_of-before_other : count_of (unmove q m).other ≡ count_of q.own
  unfolding unmove
  count_of-before_other = refl

  pub is_sized-before : 3 ≤ count_of q.own → is_sized (unmove q m) ≡ true
  is_sized-before enough =
      let own = own_count q h.sized in
      let other = other_count q h.sized in
      sized_from (unmove q m) (omega (arith, count_of-before_own, other.0)) (omega (arith, count_of-before_own, other.1))
      (omega (arith, count_of-before_other, enough)) (omega (arith, count_of-before_other, own.1))

  pub IsPosition-before : 3 ≤ count_of q.own → IsPosition b (unmove q m)
  IsPosition-before enough = record { stones = IsApart-before; sized = is_sized-before enough }

  made-before : 3 ≤ count_of q.own → check_sides (unmove q m) ≡ Ok (unmove q m)
  made-before enough = ap (λ x. cond x (Ok (unmove q m)) (Err (record {}))) (is_sized-before enough)

  -- the move leads to q again
  pub result-before : m.taken ≡ None → result_of (unmove q m) m ≡ q
  unfolding unmove result_of
  result-before quiet =
      ap₂ sides (ap (left_of q.own) quiet) (moved_back q.other m.to m.from end (vacant_parts q m.from vacant).1)

-- what the code makes of the sets that it computes
pub record IsMade (b : Shape) (q : Sides) (m : Move) (s : Sides) : Type 0 where
  pub apart : IsApart b s
  pub made_is : check_sides s ≡ Ok (unmove q m)
  pub own : count_of (unmove q m).own ≡ count_of q.other
  pub leads : result_of (unmove q m) m ≡ q

module _ (b : Shape) (n : ℕ) (e : b.points ≡ n) (few : n ≤ 24) (q : Sides) (h : IsPosition b q) (u v : ℕ) (start : u < n)
    (vacant : is_vacant q u ≡ true) (end : has q.other v ≡ true) where
  pub end_low : v < 32
  end_low =
      let small : b.points ≤ 24 = omega arith in
      let low : u < b.points = omega arith in
      let high : v < b.points = end_lt b small q h (move u v None) low vacant end in
      omega arith

  pub is_made : 3 ≤ count_of q.own → (mover rest other own : ℕ) → mover ≡ with_point rest u → rest ≡ without_point other v → other ≡ q.other → own ≡ q.own
      → IsMade b q (move u v None) (sides mover own)
  unfolding unmove move_stone
  is_made enough mover rest other own f g i j =
      let small : b.points ≤ 24 = omega arith in
      let low : u < b.points = omega arith in
      let same : sides mover own ≡ unmove q (move u v None) = rw (j, f, g, i) refl in
      subst (IsMade b q (move u v None)) (sym same) (record {
        apart = IsApart-before b small q h (move u v None) low vacant end;
        made_is = made-before b small q h (move u v None) low vacant end enough;
        own = count_of-before_own b small q h (move u v None) low vacant end;
        leads = result-before b small q h (move u v None) low vacant end refl;
      })

-- ---- whether a quiet move leads to a position

goes-back : (b : Shape) (n u v : ℕ) → goes b n u v ≡ goes b n v u
goes-back b n u v = ap (λ x. cond (ltb 3 n) x (eqb n 3)) (is_adjacent-back b u v)

module _ (b : Shape) (small : b.points ≤ 24) (q : Sides) (h : IsPosition b q) (v : ℕ) (end : has q.other v ≡ true) where
  pub end_within : v < b.points
  end_within = point_lt q.other b.points v h.stones.other_within end

  end_not_own : has q.own v ≡ false
  end_not_own = false_from_ne_true _ (λ also. both_ways _ (h.stones.apart v also) end)

  module _ (u : ℕ) (start : u < b.points) (vacant : is_vacant q u ≡ true) where
    not_there : has q.other u ≡ false
    not_there = (vacant_parts q u vacant).1

    here : has (unmove q (move u v None)).own u ≡ true
    unfolding unmove
    here = moved_here q.other v u end not_there

    free : is_vacant (unmove q (move u v None)) v ≡ true
    unfolding unmove
    free = rw (moved_gone q.other v u end not_there, end_not_own) refl

    reaches : has (reach b (unmove q (move u v None)) u) v ≡ goes b (count_of q.other) u v
    reaches =
        reach-has b (unmove q (move u v None)) u v end_within
        ∙ (may_go-vacant b (unmove q (move u v None)) u v free
        ∙ ap (λ n. goes b n u v) (count_of-before_own b small q h (move u v None) start vacant end))

    shuts : closes b (unmove q (move u v None)).own u v ≡ in_mill b q.other v
    unfolding closes unmove
    shuts = ap (λ s. in_mill b s v) (moved_back q.other v u end not_there)

    came : has_come b q (move u v None) ≡ (goes b (count_of q.other) u v && not (in_mill b q.other v))
    unfolding has_come is_legal
    came = rw (vacant, here, reaches, shuts) refl

  pub come : (u : ℕ) → u < b.points → has_come b q (move u v None) ≡ (is_vacant q u && (goes b (count_of q.other) u v && not (in_mill b q.other v)))
  unfolding has_come
  come u start = elim (cases_Bool (is_vacant q u)) [
    | inl y ↦ came u start y ∙ rw y refl
    | inr n ↦ rw n refl
  ]

  -- what the code computes
  abbrev pub IsSources : ℕ → Type 0
  IsSources r = (u : ℕ) → has r u ≡ (ltb u b.points && has_come b q (move u v None))

  -- from a test that agrees with the set on the points of the board
  same_below : (r : ℕ) → ((u : ℕ) → b.points ≤ u → has r u ≡ false)
      → ((u : ℕ) → u < b.points → has r u ≡ (is_vacant q u && (goes b (count_of q.other) u v && not (in_mill b q.other v)))) → IsSources r
  same_below r above below u = elim (cases_lt u b.points) [
    | inl low ↦ below u low ∙ (sym (come u low) ∙ sym (ap (λ x. x && has_come b q (move u v None)) (lt-ltb u b.points low)))
    | inr high ↦ above u high ∙ sym (ap (λ x. x && has_come b q (move u v None)) (le-ltb u b.points high))
  ]

  pub sources-none : in_mill b q.other v ≡ true → IsSources 0
  sources-none mill = same_below 0 (λ u high. has-none u) (λ u low. has-none u ∙ rw mill (nothing (is_vacant q u) (goes b (count_of q.other) u v)))
    where
      nothing : (x y : Bool) → false ≡ (x && (y && false))
      nothing false y = refl
      nothing true true = refl
      nothing true false = refl

  pub sources-steps : in_mill b q.other v ≡ false → (near free r : ℕ) → IsSteps b (count_of q.other) v near → IsVacancy b q free
      → ((p : ℕ) → has r p ≡ (has near p && has free p)) → IsSources r
  sources-steps open_ near free r steps vacant each = same_below r
      (λ u high. each u ∙ rw (steps u, le-ltb u b.points high) refl)
      (λ u low. each u ∙ rw (steps u, vacant u, lt-ltb u b.points low, open_, goes-back b (count_of q.other) u v)
      (swap (goes b (count_of q.other) v u) (is_vacant q u)))
    where
      swap : (x y : Bool) → (x && y) ≡ (y && (x && true))
      swap true true = refl
      swap true false = refl
      swap false true = refl
      swap false false = refl

-- ---- the positions with a quiet move to a position

module _ (b : Shape) (small : b.points ≤ 24) (q : Sides) (h : IsPosition b q) where
  -- what is known of such a move, looked at from q
  pub record HasLed (p : Sides) (m : Move) : Type 0 where
    pub start : m.from < b.points
    pub end : has q.other m.to ≡ true
    pub come : has_come b q m ≡ true
    pub enough : 3 ≤ count_of q.own
    pub value : p ≡ unmove q m

  pub come_vacant : (m : Move) → has_come b q m ≡ true → is_vacant q m.from ≡ true
  unfolding has_come
  come_vacant m e = (and_parts (is_vacant q m.from) (is_legal b (unmove q m) m) e).0

  come_legal : (m : Move) → has_come b q m ≡ true → is_legal b (unmove q m) m ≡ true
  unfolding has_come
  come_legal m e = (and_parts (is_vacant q m.from) (is_legal b (unmove q m) m) e).1

  pub leads-before : (m : Move) → m.from < b.points → has q.other m.to ≡ true → m.taken ≡ None → has_come b q m ≡ true → 3 ≤ count_of q.own
      → LeadsTo b q (unmove q m) m
  leads-before m start end quiet come enough =
      let vacant = come_vacant m come in
      let position = IsPosition-before b small q h m start vacant end enough in
      record {
        position = position;
        legal = legal_is_listed b (unmove q m) small position.stones m (come_legal m come);
        quiet = quiet;
        result = result-before b small q h m start vacant end quiet;
      }

  pub led : (p : Sides) (m : Move) → LeadsTo b q p m → HasLed p m
  unfolding unmove has_come result_of
  led p m l =
      let legal = listed_is_legal b p small l.position.stones m l.legal in
      let is = listed_move b p small l.position.stones m l.legal in
      let own : p.other ≡ q.own = sym (ap (left_of p.other) l.quiet) ∙ ap (λ (s : Sides). s.own) l.result in
      let other : move_stone p.own m.from m.to ≡ q.other = ap (λ (s : Sides). s.other) l.result in
      let value : p ≡ unmove q m =
      ap₂ sides (sym (moved_back p.own m.from m.to is.from_own is.to_not_own) ∙ ap (λ s. move_stone s m.to m.from) other) own in
      let not_own : has q.own m.from ≡ false = rw (← own) (l.position.stones.apart m.from is.from_own) in
      let not_other : has q.other m.from ≡ false = rw (← other) (moved_gone p.own m.from m.to is.from_own is.to_not_own) in
      record {
        start = is.from_within;
        end = rw (← other) (moved_here p.own m.from m.to is.from_own is.to_not_own);
        come = and_from _ _ (vacant_from q m.from not_own not_other) (subst (λ s. is_legal b s m ≡ true) value legal);
        enough = rw (← own) (other_count p l.position.sized).0;
        value = value;
      }

  -- a set that has each point from which the stone on v has come has each point from which a quiet
  -- move to v leads to q
  pub sources-complete : (n : ℕ) → b.points ≡ n → (v r : ℕ) → ((u : ℕ) → has r u ≡ (ltb u n && has_come b q (move u v None)))
      → (u : ℕ) (p : Sides) → LeadsTo b q p (move u v None) → has r u ≡ true
  sources-complete n e v r each u p l =
      let l = led p (move u v None) l in
      each u ∙ and_from _ _ (lt-ltb u n (omega (arith, l.start))) l.come
