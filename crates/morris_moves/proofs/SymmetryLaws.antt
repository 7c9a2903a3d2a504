-- A symmetry of the board takes the legal moves of a position to those of its image, and leaves its
-- value as it is.
use Rattle.std.proofs.Common.{◌≡◌, ℕ, zero, suc, ◌^◌, ◌<◌, ◌≤◌, true, false, not, ◌&&◌, eqb, refl, sym, ap, subst, ◌∙◌, inl, inr, arith, Option, Some, None}
use Rattle.std.proofs.lemmas.Bool.{cases_Bool, cases_eq, ne_eqb, lt-ltb, and_parts}
use Rattle.std.specs.Option.{option_map}
use Rattle.std.specs.List.{Contains}
use Rattle.morris_board.specs.Sets.{has, with_point, without_point, is_subset}
use Rattle.morris_board.specs.Boards.{Shape, mills_of}
use Rattle.morris_board.specs.Positions.{Sides, IsApart, IsPosition}
use Rattle.morris_board.specs.Symmetries.{image_of, image_sides, IsSymmetry}
use Rattle.morris_board.proofs.PointsLaws.{same_test, has-set_where, set_where-lt}
use Rattle.morris_board.proofs.SetLaws.{point_lt, with_point-lt, without_point-lt}
use Rattle.morris_board.proofs.ImageLaws.{image_has, image_within, IsOneToOne, one_to_one, IsSymmetry-back, has-image_at, is_image, image_of-none, image_of-with, image_of-without, count_of-image, image_of-undone, IsApart-image, IsPosition-image, image_sides-undone}
use Rattle.morris_moves.specs.declared.game_move.Move.{Move}
use Rattle.morris_moves.specs.declared.within.Within.{Within}
use Rattle.morris_moves.specs.declared.within.Within.TheVariants.{Lost, Won, Unknown}
use Rattle.morris_moves.specs.Rules.{in_mill, move_stone, closes, may_go, reach, free_stones, takable_stones, move, takes_rightly, is_legal, moves_of, left_of, result_of}
use Rattle.morris_moves.specs.Images.{IsImage, HaveOneValue}
use Rattle.morris_moves.specs.Values.{is_lost, is_won, IsOpen, IsLostIn, IsWonIn, AnswersWithin}
use Rattle.morris_moves.proofs.ListLaws.{all_contained, contained_all, any_contained, contained_any}
use Rattle.morris_moves.proofs.LegalLaws.{listed_is_legal, legal_is_listed, IsLegalMove, legal_move}
use Rattle.morris_moves.proofs.ResultLaws.{IsPosition-result}

-- The image of a move goes from the image of the one point to that of the other, and takes the
-- stone on the image of the point that the move takes from.
abbrev pub image_move : (ℕ → ℕ) → Move → Move
image_move f m = move (f m.from) (f m.to) (option_map f m.taken)

-- ---- mills

-- a map that takes mills to mills takes a mill of a set to one of its image
mill_goes : (b : Shape) (f : ℕ → ℕ) → ((m : ℕ) → Contains (mills_of b) m → Contains (mills_of b) (image_of f m))
    → (s t : ℕ) → t < 32 → in_mill b s t ≡ true → in_mill b (image_of f s) (f t) ≡ true
unfolding in_mill
mill_goes b f mills s t low h =
    let r = any_contained (λ mill. has mill t && is_subset mill s) (mills_of b) h in
    let parts = and_parts (has r.0 t) (is_subset r.0 s) r.2 in
    contained_any (λ mill. has mill (f t) && is_subset mill (image_of f s)) (mills_of b) (image_of f r.0) (mills r.0 r.1)
    (rw (image_has f r.0 t low parts.0, image_within f r.0 s parts.1) refl)

module _ (b : Shape) (few : b.points ≤ 24) (f back : ℕ → ℕ) (y : IsSymmetry b f back) where
  one : IsOneToOne b.points f back
  one = one_to_one b f back y

  pub in_mill-image : (s t : ℕ) → s < 2 ^ b.points → t < b.points → in_mill b (image_of f s) (f t) ≡ in_mill b s t
  in_mill-image s t small low = same_test _ _
      (λ h.
      let there : in_mill b (image_of back (image_of f s)) (back (f t)) ≡ true =
      mill_goes b back y.back_mills (image_of f s) (f t) (omega (arith, y.within t low)) h in
      subst (λ p. in_mill b s p ≡ true) (y.undone t low)
      (subst (λ x. in_mill b x (back (f t)) ≡ true) (image_of-undone b.points few f back one s small) there))
      (λ h. mill_goes b f y.mills s t (omega arith) h)

  move_stone-lt : (own u v : ℕ) → own < 2 ^ b.points → v < b.points → move_stone own u v < 2 ^ b.points
  unfolding move_stone
  move_stone-lt own u v small high = with_point-lt (without_point own u) b.points v (without_point-lt own b.points u small) high

  pub move_stone-image : (own u v : ℕ) → own < 2 ^ b.points → u < b.points → v < b.points
      → image_of f (move_stone own u v) ≡ move_stone (image_of f own) (f u) (f v)
  unfolding move_stone
  move_stone-image own u v small low high =
      image_of-with b.points few f back one (without_point own u) v (without_point-lt own b.points u small) high
      ∙ ap (λ x. with_point x (f v)) (image_of-without b.points few f back one own u small low)

  pub closes-image : (own u v : ℕ) → own < 2 ^ b.points → u < b.points → v < b.points
      → closes b (image_of f own) (f u) (f v) ≡ closes b own u v
  unfolding closes
  closes-image own u v small low high =
      ap (λ x. in_mill b x (f v)) (sym (move_stone-image own u v small low high))
      ∙ in_mill-image (move_stone own u v) v (move_stone-lt own u v small high) high

  -- ---- what may be taken

  pub free_stones-image : (other : ℕ) → other < 2 ^ b.points → image_of f (free_stones b other) ≡ free_stones b (image_of f other)
  unfolding free_stones
  free_stones-image other small =
      is_image b.points few f back one _ (set_where-lt b.points (λ t. has other t && not (in_mill b other t))) _
      (set_where-lt b.points (λ t. has (image_of f other) t && not (in_mill b (image_of f other) t))) (λ p low.
      has-set_where b.points (λ t. has (image_of f other) t && not (in_mill b (image_of f other) t)) (f p)
      ∙ rw (
        lt-ltb (f p) b.points (y.within p low),
        has-image_at b.points few f back one other small p low,
        in_mill-image other p small low,
        lt-ltb p b.points low,
      ) refl
      ∙ sym (has-set_where b.points (λ t. has other t && not (in_mill b other t)) p))

  free_stones-lt : (other : ℕ) → free_stones b other < 2 ^ b.points
  unfolding free_stones
  free_stones-lt other = set_where-lt b.points (λ t. has other t && not (in_mill b other t))

  -- a set is empty exactly where its image is
  empty-image : (s : ℕ) → s < 2 ^ b.points → eqb (image_of f s) 0 ≡ eqb s 0
  empty-image s small = elim (cases_eq s 0) [
    | inl e ↦ rw e (ap (λ x. eqb x 0) (image_of-none f))
    | inr some ↦
        ne_eqb (image_of f s) 0 (λ e. some (sym (image_of-undone b.points few f back one s small) ∙ ap (image_of back) e ∙ image_of-none back))
        ∙ sym (ne_eqb s 0 some)
  ]

  pub takable_stones-image : (other : ℕ) → other < 2 ^ b.points → image_of f (takable_stones b other) ≡ takable_stones b (image_of f other)
  unfolding takable_stones
  takable_stones-image other small =
      let none : eqb (free_stones b (image_of f other)) 0 ≡ eqb (free_stones b other) 0 =
      ap (λ x. eqb x 0) (sym (free_stones-image other small)) ∙ empty-image (free_stones b other) (free_stones-lt other) in
      rw none (elim (cases_Bool (eqb (free_stones b other) 0)) [
        | inl h ↦ rw h refl
        | inr h ↦ rw h (free_stones-image other small)
      ])

  takable_stones-lt : (other : ℕ) → other < 2 ^ b.points → takable_stones b other < 2 ^ b.points
  unfolding takable_stones
  takable_stones-lt other small = elim (cases_Bool (eqb (free_stones b other) 0)) [
    | inl h ↦ rw h small
    | inr h ↦ rw h (free_stones-lt other)
  ]

  -- ---- the legal moves

  module _ (s : Sides) (h : IsApart b s) where
    pub may_go-image : (u v : ℕ) → u < b.points → v < b.points → may_go b (image_sides f s) (f u) (f v) ≡ may_go b s u v
    unfolding may_go
    may_go-image u v low high = rw (
      has-image_at b.points few f back one s.own h.own_within v high,
      has-image_at b.points few f back one s.other h.other_within v high,
      count_of-image b.points few f back one s.own h.own_within,
      y.adjacent u v low high,
    ) refl

    pub has-reach-image : (u v : ℕ) → u < b.points → v < b.points → has (reach b (image_sides f s) (f u)) (f v) ≡ has (reach b s u) v
    unfolding reach
    has-reach-image u v low high =
        has-set_where b.points (may_go b (image_sides f s) (f u)) (f v)
        ∙ rw (lt-ltb (f v) b.points (y.within v high), may_go-image u v low high, lt-ltb v b.points high) refl
        ∙ sym (has-set_where b.points (may_go b s u) v)

    takes_rightly-image : (u v : ℕ) (t : Option ℕ) → u < b.points → v < b.points → ((r : ℕ) → t ≡ Some r → r < b.points)
        → takes_rightly b (image_sides f s) (f u) (f v) (option_map f t) ≡ takes_rightly b s u v t
    takes_rightly-image u v None low high taken = ap not (closes-image s.own u v h.own_within low high)
    takes_rightly-image u v (Some t) low high taken = rw (
      closes-image s.own u v h.own_within low high,
      ← takable_stones-image s.other h.other_within,
      has-image_at b.points few f back one (takable_stones b s.other) (takable_stones-lt s.other h.other_within) t (taken t refl),
    ) refl

    -- a move between points of the board is legal exactly where its image is
    pub is_legal-image : (m : Move) → m.from < b.points → m.to < b.points → ((r : ℕ) → m.taken ≡ Some r → r < b.points)
        → is_legal b (image_sides f s) (image_move f m) ≡ is_legal b s m
    unfolding is_legal
    is_legal-image m low high taken = rw (
      has-image_at b.points few f back one s.own h.own_within m.from low,
      has-reach-image m.from m.to low high,
      takes_rightly-image m.from m.to m.taken low high taken,
    ) refl

    left_of-image : (t : Option ℕ) → ((r : ℕ) → t ≡ Some r → r < b.points) → left_of (image_of f s.other) (option_map f t) ≡ image_of f (left_of s.other t)
    left_of-image None taken = refl
    left_of-image (Some t) taken = sym (image_of-without b.points few f back one s.other t h.other_within (taken t refl))

    -- the image of the result is the result of the image
    pub result_of-image : (m : Move) → m.from < b.points → m.to < b.points → ((r : ℕ) → m.taken ≡ Some r → r < b.points)
        → result_of (image_sides f s) (image_move f m) ≡ image_sides f (result_of s m)
    unfolding result_of
    result_of-image m low high taken = rw (left_of-image m.taken taken, move_stone-image s.own m.from m.to h.own_within low high) refl

    pub taken_within : (m : Move) → IsLegalMove b s m → (r : ℕ) → m.taken ≡ Some r → r < b.points
    taken_within m l r e = point_lt s.other b.points r h.other_within (l.taken_other r e)

    -- the image of a legal move is a legal move of the image, and its result is the image of the
    -- result
    pub legal_goes : (m : Move) → is_legal b s m ≡ true
        → (is_legal b (image_sides f s) (image_move f m) ≡ true) × (result_of (image_sides f s) (image_move f m) ≡ image_sides f (result_of s m))
    legal_goes m e =
        let l : IsLegalMove b s m = legal_move b s h m e in (
          is_legal-image m l.from_within l.to_within (taken_within m l) ∙ e,
          result_of-image m l.from_within l.to_within (taken_within m l),
        )

  -- the image under the inverse of the image of a move
  image_move-undone : (m : Move) → m.from < b.points → m.to < b.points → ((r : ℕ) → m.taken ≡ Some r → r < b.points)
      → image_move back (image_move f m) ≡ m
  image_move-undone m low high taken = rw (y.undone m.from low, y.undone m.to high, taken_undone m.taken taken) refl
    where
      taken_undone : (t : Option ℕ) → ((r : ℕ) → t ≡ Some r → r < b.points) → option_map back (option_map f t) ≡ t
      taken_undone None low = refl
      taken_undone (Some t) low = ap Some (y.undone t (low t refl))

-- ---- the value

-- a legal move of an image is the image of a legal move of the position
pub record IsSeen (b : Shape) (f : ℕ → ℕ) (s : Sides) (m : Move) : Type 0 where
  pub seen : Move
  pub listed : Contains (moves_of b s) seen
  pub image : image_move f seen ≡ m
  pub result : result_of (image_sides f s) m ≡ image_sides f (result_of s seen)

module _ (b : Shape) (few : b.points ≤ 24) (f back : ℕ → ℕ) (y : IsSymmetry b f back) where
  pub listed_goes : (s : Sides) → IsApart b s → (m : Move) → Contains (moves_of b s) m → Contains (moves_of b (image_sides f s)) (image_move f m)
  listed_goes s h m c =
      legal_is_listed b (image_sides f s) few (IsApart-image b few f back (one b few f back y) s h) (image_move f m)
      (legal_goes b few f back y s h m (listed_is_legal b s few h m c)).0

  pub seen_from : (s : Sides) → IsApart b s → (m : Move) → Contains (moves_of b (image_sides f s)) m → IsSeen b f s m
  seen_from s h m c =
      let there : IsApart b (image_sides f s) = IsApart-image b few f back (one b few f back y) s h in
      let legal : is_legal b (image_sides f s) m ≡ true = listed_is_legal b (image_sides f s) few there m c in
      let l : IsLegalMove b (image_sides f s) m = legal_move b (image_sides f s) there m legal in
      let same : image_move f (image_move back m) ≡ m =
      image_move-undone b few back f (IsSymmetry-back b f back y) m l.from_within l.to_within (taken_within b few f back y (image_sides f s) there m l) in
      let here : is_legal b s (image_move back m) ≡ true =
      subst (λ x. is_legal b x (image_move back m) ≡ true) (image_sides-undone b few f back (one b few f back y) s h)
      (legal_goes b few back f (IsSymmetry-back b f back y) (image_sides f s) there m legal).0 in record {
        seen = image_move back m;
        listed = legal_is_listed b s few h (image_move back m) here;
        image = same;
        result = ap (result_of (image_sides f s)) (sym same) ∙ (legal_goes b few f back y s h (image_move back m) here).1;
      }

  IsPosition-listed : (s : Sides) → IsPosition b s → (m : Move) → Contains (moves_of b s) m → IsPosition b (result_of s m)
  IsPosition-listed s h m c = IsPosition-result b s few h m (legal_move b s h.stones m (listed_is_legal b s few h.stones m c))

  value_goes : (n : ℕ) (s : Sides) → IsPosition b s
      → (is_lost n b s ≡ true → is_lost n b (image_sides f s) ≡ true) × (is_won n b s ≡ true → is_won n b (image_sides f s) ≡ true)
  unfolding is_lost is_won
  value_goes zero s h = (
    (λ lost. contained_all (λ m. false) (moves_of b (image_sides f s)) (λ m c.
        let r : IsSeen b f s m = seen_from s h.stones m c in
        all_contained (λ m. false) (moves_of b s) lost r.seen r.listed)),
    (λ won. won),
  )
  value_goes (suc n) s h = (
    (λ lost. contained_all (λ m. is_won n b (result_of (image_sides f s) m)) (moves_of b (image_sides f s)) (λ m c.
        let r : IsSeen b f s m = seen_from s h.stones m c in
        let won : is_won n b (result_of s r.seen) ≡ true = all_contained (λ m. is_won n b (result_of s m)) (moves_of b s) lost r.seen r.listed in
        rw r.result ((value_goes n (result_of s r.seen) (IsPosition-listed s h r.seen r.listed)).1 won))),
    (λ won.
        let r = any_contained (λ m. is_lost n b (result_of s m)) (moves_of b s) won in
        let legal : is_legal b s r.0 ≡ true = listed_is_legal b s few h.stones r.0 r.1 in
        contained_any (λ m. is_lost n b (result_of (image_sides f s) m)) (moves_of b (image_sides f s)) (image_move f r.0)
        (listed_goes s h.stones r.0 r.1)
        (rw (legal_goes b few f back y s h.stones r.0 legal).1 ((value_goes n (result_of s r.0) (IsPosition-listed s h r.0 r.1)).0 r.2))),
  )

-- an image has the value of the position
module _ (b : Shape) (few : b.points ≤ 24) (f back : ℕ → ℕ) (y : IsSymmetry b f back) (s : Sides) (h : IsPosition b s) where
  image_back : image_sides back (image_sides f s) ≡ s
  image_back = image_sides-undone b few f back (one b few f back y) s h.stones

  image_position : IsPosition b (image_sides f s)
  image_position = IsPosition-image b few f back (one b few f back y) s h

  pub is_lost-image : (n : ℕ) → is_lost n b s ≡ is_lost n b (image_sides f s)
  is_lost-image n = same_test _ _ (value_goes b few f back y n s h).0 (λ e.
      subst (λ x. is_lost n b x ≡ true) image_back ((value_goes b few back f (IsSymmetry-back b f back y) n (image_sides f s) image_position).0 e))

  pub is_won-image : (n : ℕ) → is_won n b s ≡ is_won n b (image_sides f s)
  is_won-image n = same_test _ _ (value_goes b few f back y n s h).1 (λ e.
      subst (λ x. is_won n b x ≡ true) image_back ((value_goes b few back f (IsSymmetry-back b f back y) n (image_sides f s) image_position).1 e))

  pub HaveOneValue-image : HaveOneValue b s (image_sides f s)
  HaveOneValue-image = record { lost = is_lost-image; won = is_won-image }

pub IsImage-value : (b : Shape) → b.points ≤ 24 → (s t : Sides) → IsPosition b s → IsImage b s t → HaveOneValue b s t
IsImage-value b few s t h i = subst (HaveOneValue b s) i.image (HaveOneValue-image b few i.map i.back i.symmetry s h)

-- ---- what follows for two positions of one value

pub HaveOneValue-sym : (b : Shape) (s t : Sides) → HaveOneValue b s t → HaveOneValue b t s
HaveOneValue-sym b s t v = record { lost = λ n. sym (v.lost n); won = λ n. sym (v.won n) }

module _ (b : Shape) (s t : Sides) (v : HaveOneValue b s t) where
  pub IsOpen-same : (n : ℕ) → IsOpen b s n → IsOpen b t n
  IsOpen-same n o = record { not_lost = sym (v.lost n) ∙ o.not_lost; not_won = sym (v.won n) ∙ o.not_won }

  pub IsLostIn-same : (d : ℕ) → IsLostIn b s d → IsLostIn b t d
  IsLostIn-same d l = record { lost = sym (v.lost d) ∙ l.lost; least = λ n low. IsOpen-same n (l.least n low) }

  pub IsWonIn-same : (d : ℕ) → IsWonIn b s d → IsWonIn b t d
  IsWonIn-same d w = record { won = sym (v.won d) ∙ w.won; least = λ n low. IsOpen-same n (w.least n low) }

  pub AnswersWithin-same : (n : ℕ) (r : Within) → AnswersWithin b s n r → AnswersWithin b t n r
  AnswersWithin-same n (Lost d) a = (a.0, IsLostIn-same d a.1)
  AnswersWithin-same n (Won d) a = (a.0, IsWonIn-same d a.1)
  AnswersWithin-same n Unknown a = λ k low. IsOpen-same k (a k low)

-- a search of an image answers for the position
pub IsImage-answer : (b : Shape) → b.points ≤ 24 → (s t : Sides) → IsPosition b s → IsImage b s t → (n : ℕ) (r : Within)
    → AnswersWithin b t n r → AnswersWithin b s n r
IsImage-answer b few s t h i n r a = AnswersWithin-same b t s (HaveOneValue-sym b s t (IsImage-value b few s t h i)) n r a
