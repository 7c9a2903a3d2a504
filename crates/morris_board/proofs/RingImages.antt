-- The images of sets of points of Nine by its rings: the table has the image of each set of places
-- of a ring, and what it gives for the three rings is the image of the whole set.
use Rattle.std.proofs.Common.{◌≡◌, ℕ, zero, suc, ◌+◌, ◌-◌, ◌*◌, ◌/◌, ◌%◌, ◌^◌, ◌<◌, ◌≤◌, Bool, true, false, ◌&&◌, cond, eqb, ltb, [], get_or, refl, sym, ap, ap₂, ◌∙◌, inl, inr, arith}
use Rattle.std.proofs.lemmas.Bool.{cases_lt, ltb-true, lt-ltb, le-ltb, and_parts, eqb-true}
use Rattle.std.proofs.lemmas.Nat.Bits.{bit_at_cat_low, bit_at_cat_high}
use Rattle.std.specs.Int.{bit_at}
use Rattle.std.specs.List.{range_with_len, list_all}
use Rattle.morris_board.specs.Sets.{has}
use Rattle.morris_board.specs.Boards.{nine, nine_image}
use Rattle.morris_board.specs.Symmetries.{image_of, inverse_of}
use Rattle.morris_board.specs.SymmetryLaws.{below, symmetries-nine}
use Rattle.morris_board.proofs.ImageLaws.{one_to_one, is_image}
use Rattle.morris_board.specs.declared.rings.TheConstants as table

-- ---- the table

-- the image of a set of places under symmetry s, below 8
abbrev pub ring_image : ℕ → ℕ → ℕ
ring_image s places = get_or (get_or table.RING_IMAGES s []) places 0

-- two tests that give the same
abbrev agree : Bool → Bool → Bool
agree true y = y
agree false true = false
agree false false = true

agree-same : (x y : Bool) → agree x y ≡ true → x ≡ y
agree-same true y h = sym h
agree-same false true h = h
agree-same false false h = refl

-- whether an entry is a set of places, and has the image of a place where the set has the place
abbrev is_ring_image : ℕ → ℕ → Bool
is_ring_image s places =
    ltb (ring_image s places) 256 && list_all (λ k. agree (has (ring_image s places) (nine_image s k)) (has places k)) (range_with_len 0 8)

ring_images : list_all (λ s. list_all (is_ring_image s) (range_with_len 0 256)) (range_with_len 0 8) ≡ true
unfolding nine_image has
ring_images = refl

-- what an entry says of each place
entry : (s places : ℕ) → s < 8 → places < 256 → (ring_image s places < 256) × ((k : ℕ) → k < 8 → has (ring_image s places) (nine_image s k) ≡ has places k)
entry s places low small =
    let parts : is_ring_image s places ≡ true = below (is_ring_image s) 256 (below (λ t. list_all (is_ring_image t) (range_with_len 0 256)) 8 ring_images s low) places small in
    let both = and_parts _ _ parts in
    (ltb-true _ _ both.0, λ k here. agree-same _ _ (below (λ j. agree (has (ring_image s places) (nine_image s j)) (has places j)) 8 both.1 k here))

-- ---- three rings

-- the set of the points of three rings, each of them given as a set of places
abbrev pub rings : ℕ → ℕ → ℕ → ℕ
rings outer middle inner = outer + middle * 256 + inner * 65536

-- ring r of three
abbrev ring : ℕ → ℕ → ℕ → ℕ → ℕ
ring outer middle inner zero = outer
ring outer middle inner (suc zero) = middle
ring outer middle inner (suc (suc r)) = inner

has_low : (t above a k : ℕ) → t ≡ above * 2 ^ 8 + a → k < 8 → has t k ≡ has a k
unfolding has
has_low t above a k e here = ap (λ n. eqb (bit_at n k) 1) e ∙ ap (λ n. eqb n 1) (bit_at_cat_low above 8 a k here)

has_high : (t above a p : ℕ) → t ≡ above * 2 ^ 8 + a → a < 2 ^ 8 → 8 ≤ p → has t p ≡ has above (p - 8)
unfolding has
has_high t above a p e small high = ap (λ n. eqb (bit_at n p) 1) e ∙ ap (λ n. eqb n 1) (bit_at_cat_high above 8 a p small high)

has-rings : (a b c p : ℕ) → a < 256 → b < 256 → p < 24 → has (rings a b c) p ≡ has (ring a b c (p / 8)) (p % 8)
has-rings a b c p outer middle low = elim (cases_lt p 8) [
  | inl first ↦
      let r : p / 8 ≡ 0 = omega arith in let k : p % 8 ≡ p = omega arith in
      rw (r, k) (has_low _ (b + c * 256) a p (omega arith) first)
  | inr high ↦
      let on : has (rings a b c) p ≡ has (b + c * 256) (p - 8) = has_high _ (b + c * 256) a p (omega arith) outer high in
      elim (cases_lt p 16) [
        | inl second ↦
            let r : p / 8 ≡ 1 = omega arith in let k : p % 8 ≡ p - 8 = omega arith in
            rw (r, k) (on ∙ has_low _ c b (p - 8) (omega arith) (omega arith))
        | inr third ↦
            let r : p / 8 ≡ 2 = omega arith in let k : p % 8 ≡ p - 8 - 8 = omega arith in
            rw (r, k) (on ∙ has_high _ c b (p - 8) (omega arith) middle (omega arith))
      ]
]

-- the rings' images are the images' rings, and so where two of them are exchanged
ring-each : (f : ℕ → ℕ) (a b c r : ℕ) → ring (f a) (f b) (f c) r ≡ f (ring a b c r)
ring-each f a b c zero = refl
ring-each f a b c (suc zero) = refl
ring-each f a b c (suc (suc r)) = refl

ring-exchanged : (f : ℕ → ℕ) (a b c r : ℕ) → r < 3 → ring (f c) (f b) (f a) (2 - r) ≡ f (ring a b c r)
ring-exchanged f a b c zero low = refl
ring-exchanged f a b c (suc zero) low = refl
ring-exchanged f a b c (suc (suc zero)) low = refl
ring-exchanged f a b c (suc (suc (suc r))) low = absurd (omega arith)

-- ---- the image of a set

-- to which ring a symmetry takes ring r
abbrev taken : ℕ → ℕ → ℕ
taken s r = cond (ltb s 8) r (2 - r)

-- each point goes to the image of its place, on the ring to which its ring is taken
abbrev goes_to : ℕ → ℕ → Bool
goes_to s p = eqb (nine_image s p) (8 * taken s (p / 8) + nine_image (s % 8) (p % 8)) && ltb (nine_image (s % 8) (p % 8)) 8

all_go : list_all (λ s. list_all (goes_to s) (range_with_len 0 24)) (range_with_len 0 16) ≡ true
unfolding nine_image
all_go = refl

module _ (s set : ℕ) (low : s < 16) (small : set < 2 ^ 24) where
  -- the set by its rings
  own_ring : ℕ → ℕ
  own_ring = ring (set % 256) (set / 256 % 256) (set / 65536)

  own_ring-lt : (r : ℕ) → r < 3 → own_ring r < 256
  unfolding own_ring
  own_ring-lt zero here = omega arith
  own_ring-lt (suc zero) here = omega arith
  own_ring-lt (suc (suc zero)) here = omega arith
  own_ring-lt (suc (suc (suc r))) here = absurd (omega arith)

  has-own_ring : (p : ℕ) → p < 24 → has (own_ring (p / 8)) (p % 8) ≡ has set p
  unfolding own_ring
  has-own_ring p here =
      let whole : rings (set % 256) (set / 256 % 256) (set / 65536) ≡ set = omega arith in
      sym (has-rings _ _ _ p (omega arith) (omega arith) here) ∙ ap (λ n. has n p) whole

  -- three rings of which each is the image of the one that is taken there
  module _ (x y z : ℕ) (same : (r : ℕ) → r < 3 → ring x y z (taken s r) ≡ ring_image (s % 8) (own_ring r)) where
    point : x < 256 → y < 256 → (p : ℕ) → p < 24 → has (rings x y z) (nine_image s p) ≡ has set p
    point first second p here =
        let parts = and_parts _ _ (below (goes_to s) 24 (below (λ t. list_all (goes_to t) (range_with_len 0 24)) 16 all_go s low) p here) in
        let goes : nine_image s p ≡ 8 * taken s (p / 8) + nine_image (s % 8) (p % 8) = eqb-true _ _ parts.0 in
        let place : nine_image (s % 8) (p % 8) < 8 = ltb-true _ _ parts.1 in
        let on : p / 8 < 3 = omega arith in
        let there : taken s (p / 8) < 3 = taken_lt (ltb s 8) (p / 8) on in
        let r : nine_image s p / 8 ≡ taken s (p / 8) = omega arith in
        let k : nine_image s p % 8 ≡ nine_image (s % 8) (p % 8) = omega arith in
        has-rings x y z (nine_image s p) first second (omega arith)
        ∙ ap₂ (λ ring place. has ring place) (ap (ring x y z) r ∙ same (p / 8) on) k
        ∙ (entry (s % 8) (own_ring (p / 8)) (omega arith) (own_ring-lt (p / 8) on)).1 (p % 8) (omega arith)
        ∙ has-own_ring p here
      where
        taken_lt : (b : Bool) (r : ℕ) → r < 3 → cond b r (2 - r) < 3
        taken_lt true r h = h
        taken_lt false r h = omega arith

    image-rings : x < 256 → y < 256 → z < 256 → rings x y z ≡ image_of (nine.image s) set
    unfolding nine
    image-rings first second third =
        sym (is_image 24 (omega arith) (nine_image s) (nine_image (inverse_of s)) (one_to_one nine _ _ (symmetries-nine.symmetry s low)) set small
        (rings x y z) (omega arith) (point first second))

-- what the code computes: the outer and the inner ring change places from symmetry 8 on
module _ (s set : ℕ) (small : set < 2 ^ 24) where
  within : (places : ℕ) → places < 256 → ring_image (s % 8) places < 256
  within places h = (entry (s % 8) places (omega arith) h).0

  abbrev pub image : ℕ → ℕ
  image = ring_image (s % 8)

  pub image-buffered : s < 8 → rings (image (set % 256)) (image (set / 256 % 256)) (image (set / 65536)) ≡ image_of (nine.image s) set
  unfolding own_ring
  image-buffered low =
      image-rings s set (omega arith) small _ _ _
      (λ r here. rw (lt-ltb s 8 low) (ring-each (ring_image (s % 8)) (set % 256) (set / 256 % 256) (set / 65536) r))
      (within _ (omega arith)) (within _ (omega arith)) (within _ (omega arith))

  pub image-exchanged : 8 ≤ s → s < 16 → rings (image (set / 65536)) (image (set / 256 % 256)) (image (set % 256)) ≡ image_of (nine.image s) set
  unfolding own_ring
  image-exchanged high low =
      image-rings s set low small _ _ _
      (λ r here. rw (le-ltb s 8 high) (ring-exchanged (ring_image (s % 8)) (set % 256) (set / 256 % 256) (set / 65536) r here))
      (within _ (omega arith)) (within _ (omega arith)) (within _ (omega arith))
