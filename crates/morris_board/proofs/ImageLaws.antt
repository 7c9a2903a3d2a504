-- Laws of the images of sets and of positions under a map of points that has an inverse: what an
-- image has, how many points, and the images of the sets that are made from others.
use Rattle.std.proofs.Common.{◌≡◌, ℕ, zero, suc, ◌+◌, ◌^◌, ◌<◌, ◌≤◌, Bool, true, false, ◌&&◌, ◌||◌, eqb, ltb, List, [], ◌∷◌, length, filter, map, refl, sym, ap, subst, ◌∙◌, inl, inr, arith}
use Rattle.std.proofs.lemmas.Bool.{cases_Bool, cases_eq, cases_lt, eq-eqb, ne_eqb, eqb-true, lt-ltb, ltb-true, and_parts, or_right, both_ways, false_from_ne_true, leb-true}
use Rattle.std.specs.List.{All, range_with_len, list_all, list_any, Contains}
use Rattle.std.proofs.lemmas.List.Elements.{All-nil, All-cons, All-contains}
use Rattle.morris_board.specs.Sets.{has, members, count_of, with_point, without_point, is_subset, set_where, set_of}
use Rattle.morris_board.specs.Boards.{Shape, mills_of, is_mill, is_board}
use Rattle.morris_board.specs.Positions.{Sides, IsApart, IsPosition, is_sized}
use Rattle.morris_board.specs.Symmetries.{image_of, image_sides, IsSymmetry}
use Rattle.morris_board.proofs.PointsLaws.{has-none, has-with, has-without, has-above, has-set_where, set_where-lt, same_points, same_test, members-none, count_of-with, within_each, each_within, all_members, members_all}
use Rattle.morris_board.proofs.SetLaws.{point_lt, lt_from_points, with_point-lt, without_point-lt}

-- ---- the points of a list

any-map : (test : ℕ → Bool) (f : ℕ → ℕ) (ks : List ℕ) → list_any test (map f ks) ≡ list_any (λ k. test (f k)) ks
any-map test f [] = refl
any-map test f (k ∷ ks) = rw (any-map test f ks) refl

pub has-set_of : (ps : List ℕ) (q : ℕ) → has (set_of ps) q ≡ list_any (eqb q) ps
unfolding set_of
has-set_of [] q = has-none q
has-set_of (p ∷ ps) q = has-with (set_of ps) p q ∙ rw (has-set_of ps q) (swap (list_any (eqb q) ps) (eqb q p))
  where
    swap : (x y : Bool) → (x || y) ≡ (y || x)
    swap true true = refl
    swap true false = refl
    swap false true = refl
    swap false false = refl

-- some number of a range that passes one test passes another
module _ (test g : ℕ → Bool) where
  any_range : (a n p : ℕ) → a ≤ p → p < a + n → g p ≡ true → test p ≡ true → list_any test (filter g (range_with_len a n)) ≡ true
  any_range a zero p low high holds passes = absurd (omega arith)
  any_range a (suc n) p low high holds passes = elim (cases_eq p a) [
    | inl e ↦ let here : g a ≡ true = rw (← e) holds in let there : test a ≡ true = rw (← e) passes in rw (here, there) refl
    | inr differ ↦
        let rest : list_any test (filter g (range_with_len (a + 1) n)) ≡ true = any_range (a + 1) n p (omega arith) (omega arith) holds passes in
        elim (cases_Bool (g a)) [
          | inl y ↦ rw (y, rest) (or_right (test a) true refl)
          | inr y ↦ rw y rest
        ]
  ]

  range_any : (a n : ℕ) → list_any test (filter g (range_with_len a n)) ≡ true
      → (p : ℕ) × (a ≤ p) × (p < a + n) × (g p ≡ true) × (test p ≡ true)
  range_any a zero h = absurd (both_ways false refl h)
  range_any a (suc n) h = elim (cases_Bool (g a)) [
    | inl y ↦ elim (cases_Bool (test a)) [
      | inl passes ↦ (a, omega arith, omega arith, y, passes)
      | inr fails ↦ let r = range_any (a + 1) n (rw (y, fails) at h) in (r.0, omega (arith, r.1), omega (arith, r.2), r.3, r.4)
    ]
    | inr y ↦ let r = range_any (a + 1) n (rw y at h) in (r.0, omega (arith, r.1), omega (arith, r.2), r.3, r.4)
  ]

pub count_of-none : count_of 0 ≡ 0
unfolding count_of
count_of-none = ap length members-none

counted : (s : ℕ) → length (filter (has s) (range_with_len 0 32)) ≡ count_of s
unfolding count_of members
counted s = refl

-- ---- what an image has, whatever the map

has-images : (f : ℕ → ℕ) (ks : List ℕ) (q : ℕ) → has (set_of (map f ks)) q ≡ list_any (λ p. eqb q (f p)) ks
has-images f ks q = has-set_of (map f ks) q ∙ any-map (eqb q) f ks

module _ (f : ℕ → ℕ) where
  -- the image of a point of the set
  pub image_has : (s p : ℕ) → p < 32 → has s p ≡ true → has (image_of f s) (f p) ≡ true
  unfolding image_of members
  image_has s p low h =
      has-images f (members s) (f p) ∙ any_range (λ k. eqb (f p) (f k)) (has s) 0 32 p (omega arith) (omega arith) h (eq-eqb (f p) (f p) refl)

  -- each point of the image is one of these
  pub image_cases : (s q : ℕ) → has (image_of f s) q ≡ true → (p : ℕ) × (p < 32) × (has s p ≡ true) × (f p ≡ q)
  unfolding image_of members
  image_cases s q h =
      let r = range_any (λ k. eqb q (f k)) (has s) 0 32 (sym (has-images f (members s) q) ∙ h) in
      (r.0, omega (arith, r.2), r.3, sym (eqb-true q (f r.0) r.4))

  pub image_of-none : image_of f 0 ≡ 0
  unfolding image_of set_of
  image_of-none = ap (λ ks. set_of (map f ks)) members-none

  -- a part of a set goes to a part of its image
  pub image_within : (s t : ℕ) → is_subset s t ≡ true → is_subset (image_of f s) (image_of f t) ≡ true
  unfolding is_subset
  image_within s t h = all_members (image_of f s) (has (image_of f t)) (λ q e.
      let r = image_cases s q e in
      subst (λ x. has (image_of f t) x ≡ true) r.3 (image_has t r.0 r.1 (members_all s (has t) h r.0 r.1 r.2)))

-- ---- a map of the points below n, and its inverse

pub record IsOneToOne (n : ℕ) (f back : ℕ → ℕ) : Type 0 where
  pub within : (p : ℕ) → p < n → f p < n
  pub back_within : (p : ℕ) → p < n → back p < n
  pub undone : (p : ℕ) → p < n → back (f p) ≡ p
  pub redone : (p : ℕ) → p < n → f (back p) ≡ p

pub one_to_one : (b : Shape) (f back : ℕ → ℕ) → IsSymmetry b f back → IsOneToOne b.points f back
one_to_one b f back y = record { within = y.within; back_within = y.back_within; undone = y.undone; redone = y.redone }

pub IsOneToOne-back : (n : ℕ) (f back : ℕ → ℕ) → IsOneToOne n f back → IsOneToOne n back f
IsOneToOne-back n f back o = record { within = o.back_within; back_within = o.within; undone = o.redone; redone = o.undone }

module _ (n : ℕ) (few : n ≤ 24) (f back : ℕ → ℕ) (o : IsOneToOne n f back) where
  -- two points are the same exactly where their images are
  pub eqb-image : (p q : ℕ) → p < n → q < n → eqb (f p) (f q) ≡ eqb p q
  eqb-image p q low high = elim (cases_eq p q) [
    | inl e ↦ rw e (eq-eqb (f q) (f q) refl ∙ sym (eq-eqb q q refl))
    | inr differ ↦ ne_eqb (f p) (f q) (λ e. differ (sym (o.undone p low) ∙ ap back e ∙ o.undone q high)) ∙ sym (ne_eqb p q differ)
  ]

  module _ (s : ℕ) (small : s < 2 ^ n) where
    -- a point of the image is the image of a point of the set
    pub has-image_at : (p : ℕ) → p < n → has (image_of f s) (f p) ≡ has s p
    has-image_at p low = same_test _ _
        (λ h. let r = image_cases f s (f p) h in
        let at : r.0 < n = point_lt s n r.0 small r.2 in
        subst (λ x. has s x ≡ true) (sym (o.undone r.0 at) ∙ ap back r.3 ∙ o.undone p low) r.2)
        (λ h. image_has f s p (omega arith) h)

    pub has-image : (q : ℕ) → q < n → has (image_of f s) q ≡ has s (back q)
    has-image q low = ap (has (image_of f s)) (sym (o.redone q low)) ∙ has-image_at (back q) (o.back_within q low)

    pub image_of-lt : image_of f s < 2 ^ n
    image_of-lt = lt_from_points (image_of f s) n (λ q h.
        let r = image_cases f s q h in
        subst (λ x. x < n) r.3 (o.within r.0 (point_lt s n r.0 small r.2)))

    -- a set that has the image of each point of s, and no other, is the image
    pub is_image : (t : ℕ) → t < 2 ^ n → ((p : ℕ) → p < n → has t (f p) ≡ has s p) → image_of f s ≡ t
    is_image t within each = same_points (image_of f s) t (λ q. elim (cases_lt q n) [
      | inl low ↦ has-image q low ∙ sym (each (back q) (o.back_within q low)) ∙ ap (has t) (o.redone q low)
      | inr high ↦ has-above (image_of f s) n q image_of-lt high ∙ sym (has-above t n q within high)
    ])

  pub image_of-with : (s p : ℕ) → s < 2 ^ n → p < n → image_of f (with_point s p) ≡ with_point (image_of f s) (f p)
  image_of-with s p small low =
      is_image (with_point s p) (with_point-lt s n p small low) (with_point (image_of f s) (f p))
      (with_point-lt (image_of f s) n (f p) (image_of-lt s small) (o.within p low)) (λ r at.
      has-with (image_of f s) (f p) (f r) ∙ rw (has-image_at s small r at, eqb-image r p at low) (sym (has-with s p r)))

  pub image_of-without : (s p : ℕ) → s < 2 ^ n → p < n → image_of f (without_point s p) ≡ without_point (image_of f s) (f p)
  image_of-without s p small low =
      is_image (without_point s p) (without_point-lt s n p small) (without_point (image_of f s) (f p))
      (without_point-lt (image_of f s) n (f p) (image_of-lt s small)) (λ r at.
      has-without (image_of f s) (f p) (f r) ∙ rw (has-image_at s small r at, eqb-image r p at low) (sym (has-without s p r)))

  -- the points at which a test holds
  pub image_of-where : (test : ℕ → Bool) → image_of f (set_where n test) ≡ set_where n (λ q. test (back q))
  image_of-where test =
      is_image (set_where n test) (set_where-lt n test) (set_where n (λ q. test (back q))) (set_where-lt n (λ q. test (back q))) (λ p low.
      has-set_where n (λ q. test (back q)) (f p)
      ∙ rw (lt-ltb (f p) n (o.within p low), o.undone p low, lt-ltb p n low) refl
      ∙ sym (has-set_where n test p))

  -- one set is a part of another exactly where its image is a part of the other's
  pub is_subset-image : (s t : ℕ) → s < 2 ^ n → t < 2 ^ n → is_subset (image_of f s) (image_of f t) ≡ is_subset s t
  is_subset-image s t small within = same_test _ _
      (λ h. each_within s t (λ p here.
      let at : p < n = point_lt s n p small here in
      sym (has-image_at t within p at)
      ∙ within_each (image_of f s) (image_of f t) (wide (image_of f s) (image_of-lt s small)) h (f p) (has-image_at s small p at ∙ here)))
      (λ h. image_within f s t h)
    where
      wide : (x : ℕ) → x < 2 ^ n → x < 2 ^ 32
      wide x h = lt_from_points x 32 (λ p here. let at : p < n = point_lt x n p h here in omega arith)

  -- the image has as many points as the set
  images_count : (g : ℕ → Bool) (a k : ℕ) → ((p : ℕ) → g p ≡ true → p < n)
      → count_of (set_of (map f (filter g (range_with_len a k)))) ≡ length (filter g (range_with_len a k))
  unfolding set_of
  images_count g a zero below = count_of-none
  images_count g a (suc k) below =
      let rest : count_of (set_of (map f (filter g (range_with_len (a + 1) k)))) ≡ length (filter g (range_with_len (a + 1) k)) =
      images_count g (a + 1) k below in
      elim (cases_Bool (g a)) [
        | inl y ↦
            let at : a < n = below a y in
            let fresh : has (set_of (map f (filter g (range_with_len (a + 1) k)))) (f a) ≡ false =
            false_from_ne_true _ (λ h.
            let r = range_any (λ p. eqb (f a) (f p)) g (a + 1) k (sym (has-images f (filter g (range_with_len (a + 1) k)) (f a)) ∙ h) in
            let same : a ≡ r.0 = eqb-true a r.0 (sym (eqb-image a r.0 at (below r.0 r.3)) ∙ r.4) in
            absurd (omega (arith, r.1))) in
            let low : f a < 32 = omega (arith, o.within a at) in
            rw y (count_of-with (set_of (map f (filter g (range_with_len (a + 1) k)))) (f a) low fresh ∙ ap suc rest)
        | inr y ↦ rw y rest
      ]

  pub count_of-image : (s : ℕ) → s < 2 ^ n → count_of (image_of f s) ≡ count_of s
  unfolding image_of members
  count_of-image s small = images_count (has s) 0 32 (λ p h. point_lt s n p small h) ∙ counted s

-- ---- the inverse, and one map after another

-- the image under the inverse is the set again
pub image_of-undone : (n : ℕ) → n ≤ 24 → (f back : ℕ → ℕ) → IsOneToOne n f back → (s : ℕ) → s < 2 ^ n → image_of back (image_of f s) ≡ s
image_of-undone n few f back o s small =
    is_image n few back f (IsOneToOne-back n f back o) (image_of f s) (image_of-lt n few f back o s small) s small
    (λ q low. sym (has-image n few f back o s small q low))

module _ (n : ℕ) (few : n ≤ 24) (f f_back g g_back : ℕ → ℕ) (o : IsOneToOne n f f_back) (i : IsOneToOne n g g_back) where
  -- first g, and then f
  pub IsOneToOne-then : IsOneToOne n (λ p. f (g p)) (λ p. g_back (f_back p))
  IsOneToOne-then = record {
    within = λ p low. o.within (g p) (i.within p low);
    back_within = λ p low. i.back_within (f_back p) (o.back_within p low);
    undone = λ p low. ap g_back (o.undone (g p) (i.within p low)) ∙ i.undone p low;
    redone = λ p low. ap f (i.redone (f_back p) (o.back_within p low)) ∙ o.redone p low;
  }

  pub image_of-then : (s : ℕ) → s < 2 ^ n → image_of f (image_of g s) ≡ image_of (λ p. f (g p)) s
  image_of-then s small =
      let inner : image_of g s < 2 ^ n = image_of-lt n few g g_back i s small in
      sym (is_image n few (λ p. f (g p)) (λ p. g_back (f_back p)) IsOneToOne-then s small (image_of f (image_of g s))
      (image_of-lt n few f f_back o (image_of g s) inner) (λ p low.
      has-image_at n few f f_back o (image_of g s) inner (g p) (i.within p low) ∙ has-image_at n few g g_back i s small p low))

-- the map that leaves each point where it is
pub IsOneToOne-same : (n : ℕ) → IsOneToOne n (λ p. p) (λ p. p)
IsOneToOne-same n = record { within = λ p low. low; back_within = λ p low. low; undone = λ p low. refl; redone = λ p low. refl }

pub image_of-unmoved : (n : ℕ) → n ≤ 24 → (s : ℕ) → s < 2 ^ n → image_of (λ p. p) s ≡ s
image_of-unmoved n few s small = is_image n few (λ p. p) (λ p. p) (IsOneToOne-same n) s small s small (λ p low. refl)

-- ---- symmetries

-- a mill is a set of points of the board
mill_points : (n : ℕ) (ps : List ℕ) → is_mill n ps ≡ true → set_of ps < 2 ^ n
unfolding set_of
mill_points n [] h = absurd (both_ways false refl h)
mill_points n (p ∷ []) h = absurd (both_ways false refl h)
mill_points n (p ∷ q ∷ []) h = absurd (both_ways false refl h)
mill_points n (p ∷ q ∷ r ∷ []) h =
    let first = and_parts (ltb p q) (ltb q r && ltb r n) h in
    let second = and_parts (ltb q r) (ltb r n) first.1 in
    let low : p < q = ltb-true p q first.0 in
    let middle : q < r = ltb-true q r second.0 in
    let high : r < n = ltb-true r n second.1 in
    with_point-lt _ n p (with_point-lt _ n q (with_point-lt 0 n r (lt_from_points 0 n (λ k e. absurd (both_ways (has 0 k) (has-none k) e))) high)
    (omega arith)) (omega arith)
mill_points n (p ∷ q ∷ r ∷ x ∷ ps) h = absurd (both_ways false refl h)

mills_points : (n : ℕ) (mills : List (List ℕ)) → list_all (is_mill n) mills ≡ true → All (λ m. m < 2 ^ n) (map set_of mills)
mills_points n [] h = All-nil (λ m. m < 2 ^ n)
mills_points n (ps ∷ mills) h =
    let parts = and_parts (is_mill n ps) (list_all (is_mill n) mills) h in
    All-cons (λ m. m < 2 ^ n) (set_of ps) (map set_of mills) (mill_points n ps parts.0) (mills_points n mills parts.1)

pub mill-lt : (b : Shape) → is_board b ≡ true → (m : ℕ) → Contains (mills_of b) m → m < 2 ^ b.points
unfolding is_board mills_of
mill-lt b h m c =
    let rest = (and_parts _ _ h).1 in
    All-contains (λ m. m < 2 ^ b.points) (map set_of b.mills) m (mills_points b.points b.mills (and_parts _ _ rest).1) c

pub few_points : (b : Shape) → is_board b ≡ true → b.points ≤ 24
unfolding is_board
few_points b h = leb-true b.points 24 (and_parts _ _ h).0

-- the map that leaves each point where it is
pub IsSymmetry-same : (b : Shape) → is_board b ≡ true → IsSymmetry b (λ p. p) (λ p. p)
IsSymmetry-same b h = record {
  within = λ p low. low;
  back_within = λ p low. low;
  undone = λ p low. refl;
  redone = λ p low. refl;
  adjacent = λ p q low high. refl;
  mills = unmoved;
  back_mills = unmoved;
}
  where
    unmoved : (m : ℕ) → Contains (mills_of b) m → Contains (mills_of b) (image_of (λ p. p) m)
    unmoved m c = rw (image_of-unmoved b.points (few_points b h) m (mill-lt b h m c)) c

-- the inverse is a symmetry too
pub IsSymmetry-back : (b : Shape) (f back : ℕ → ℕ) → IsSymmetry b f back → IsSymmetry b back f
IsSymmetry-back b f back y = record {
  within = y.back_within;
  back_within = y.within;
  undone = y.redone;
  redone = y.undone;
  adjacent = λ p q low high.
      sym (y.adjacent (back p) (back q) (y.back_within p low) (y.back_within q high))
      ∙ rw (y.redone p low, y.redone q high) refl;
  mills = y.back_mills;
  back_mills = y.mills;
}

-- one symmetry after another: first g, and then f
pub IsSymmetry-then : (b : Shape) → is_board b ≡ true → (f f_back g g_back : ℕ → ℕ) → IsSymmetry b f f_back → IsSymmetry b g g_back
    → IsSymmetry b (λ p. f (g p)) (λ p. g_back (f_back p))
IsSymmetry-then b h f f_back g g_back y z =
    let o : IsOneToOne b.points f f_back = one_to_one b f f_back y in
    let i : IsOneToOne b.points g g_back = one_to_one b g g_back z in
    let few : b.points ≤ 24 = few_points b h in
    let both : IsOneToOne b.points (λ p. f (g p)) (λ p. g_back (f_back p)) = IsOneToOne-then b.points few f f_back g g_back o i in record {
      within = both.within;
      back_within = both.back_within;
      undone = both.undone;
      redone = both.redone;
      adjacent = λ p q low high. y.adjacent (g p) (g q) (z.within p low) (z.within q high) ∙ z.adjacent p q low high;
      mills = λ m c. subst (Contains (mills_of b)) (image_of-then b.points few f f_back g g_back o i m (mill-lt b h m c)) (y.mills (image_of g m) (z.mills m c));
      back_mills = λ m c.
          subst (Contains (mills_of b))
          (image_of-then b.points few g_back g f_back f (IsOneToOne-back b.points g g_back i) (IsOneToOne-back b.points f f_back o) m (mill-lt b h m c))
          (z.back_mills (image_of f_back m) (y.back_mills m c));
    }

-- ---- the image of a position

module _ (b : Shape) (few : b.points ≤ 24) (f back : ℕ → ℕ) (o : IsOneToOne b.points f back) (s : Sides) where
  pub IsApart-image : IsApart b s → IsApart b (image_sides f s)
  IsApart-image h = record {
    own_within = image_of-lt b.points few f back o s.own h.own_within;
    other_within = image_of-lt b.points few f back o s.other h.other_within;
    apart = λ q here.
        let low : q < b.points = point_lt (image_of f s.own) b.points q (image_of-lt b.points few f back o s.own h.own_within) here in
        has-image b.points few f back o s.other h.other_within q low
        ∙ h.apart (back q) (sym (has-image b.points few f back o s.own h.own_within q low) ∙ here);
  }

  pub is_sized-image : IsApart b s → is_sized (image_sides f s) ≡ is_sized s
  is_sized-image h = rw (
    count_of-image b.points few f back o s.own h.own_within,
    count_of-image b.points few f back o s.other h.other_within,
  ) refl

  pub IsPosition-image : IsPosition b s → IsPosition b (image_sides f s)
  IsPosition-image h = record { stones = IsApart-image h.stones; sized = is_sized-image h.stones ∙ h.sized }

  pub image_sides-undone : IsApart b s → image_sides back (image_sides f s) ≡ s
  image_sides-undone h = rw (
    image_of-undone b.points few f back o s.own h.own_within,
    image_of-undone b.points few f back o s.other h.other_within,
  ) refl
