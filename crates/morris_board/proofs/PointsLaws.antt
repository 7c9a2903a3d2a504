-- Laws of the sets of points: what each set has, its members in order, and when two sets are the
-- same.
use Rattle.std.proofs.Common.{◌≡◌, ◌≢◌, ℕ, zero, suc, ◌+◌, ◌-◌, ◌*◌, ◌/◌, ◌%◌, ◌^◌, ◌<◌, ◌≤◌, max, min, Bool, true, false, not, ◌&&◌, ◌||◌, cond, eqb, ltb, List, [], ◌∷◌, length, drop, refl, sym, ◌∙◌, ap, inl, inr, arith}
use Rattle.std.proofs.lemmas.Bool.{cases_Bool, cases_eq, eq-eqb, ne_eqb, eqb-true, lt-ltb, le-ltb, both_ways, and_parts}
use Rattle.std.proofs.lemmas.Bool.Decides.{nat_tests}
use Rattle.std.proofs.lemmas.Nat.Bits.{bit_at_or, bit_at_xor, bit_at_and, bit_at-pow_same, bit_at-pow_other, bit_at-lt, bit_at-zero, bit_at_above, same_from_bits}
use Rattle.std.specs.Int.{bit_at}
use Rattle.std.specs.Int.RustNames.{bit_or, bit_xor}
use lib.Bits.{bit_and}
use Rattle.std.specs.List.{range_with_len, list_all, filter}
use Rattle.std.specs.Prelude.{map}
use Rattle.std.proofs.Common.{add-one}
use Rattle.std.proofs.lemmas.Bool.{cases_lt, or_right, and_left, and_right}
use Rattle.std.proofs.lemmas.Nat.Bits.{bit_at-suc, bit_at_lowest}
use Rattle.std.proofs.lemmas.List.Sums.{length-filter, count_by-le-length}
use Rattle.std.proofs.lemmas.List.FromFn.{length-range_with_len}
use lib.Count.{ones, ones_step}
use lib.Bits.{or_lt, and_le_l, and_mask}
use Rattle.std.proofs.lemmas.Nat.{div-add-mod', pow_pos}
use Rattle.std.proofs.Math.Nat.{mod-lt, mod-le}
use Rattle.std.proofs.lemmas.Nat.Bits.{bit_at_cat_low, bit_at_cat_high, bit_at_ones_above}
use Rattle.std.proofs.Common.{one-mul}
use Rattle.std.proofs.Math.Nat.{mod-eq_of_lt}
use Rattle.std.proofs.Math.Pow.{pow-lt}
use Rattle.std.specs.Int.{trailing_zeros, w32}
use Rattle.std.proofs.lemmas.Nat.Bits.{shr_and_one, bit_at-trailing_zeros, bit_at_clear_same, bit_at_clear_other}
use Rattle.std.proofs.Common.{pow-suc, lit<}
use Rattle.morris_board.specs.Sets.{has, members, count_of, with_point, without_point, is_subset, set_where}

-- ---- what a set has

-- two tests are the same where each gives true where the other does
pub same_test : (a b : Bool) → (a ≡ true → b ≡ true) → (b ≡ true → a ≡ true) → a ≡ b
same_test true b f g = sym (f refl)
same_test false true f g = g refl
same_test false false f g = refl

bit_max : (x y : ℕ) → x < 2 → y < 2 → eqb (max x y) 1 ≡ (eqb x 1 || eqb y 1)
bit_max x y h k = grind (arith, nat_tests)

bit_flip : (x : ℕ) → x < 2 → eqb ((x + 0) % 2) 1 ≡ eqb x 1
bit_flip x h = let e : (x + 0) % 2 ≡ x = omega arith in ap (λ n. eqb n 1) e

has_power : (p q : ℕ) → eqb (bit_at (2 ^ p) q) 1 ≡ eqb q p
has_power p q = elim (cases_eq q p) [
  | inl e ↦ rw e (ap (λ n. eqb n 1) (bit_at-pow_same p) ∙ sym (eq-eqb p p refl))
  | inr n ↦ ap (λ n. eqb n 1) (bit_at-pow_other p q n) ∙ sym (ne_eqb q p n)
]

pub has-none : (p : ℕ) → has 0 p ≡ false
unfolding has
has-none p = ap (λ n. eqb n 1) (bit_at-zero p)

pub has-with : (s p q : ℕ) → has (with_point s p) q ≡ (has s q || eqb q p)
unfolding has with_point
has-with s p q =
    ap (λ n. eqb n 1) (bit_at_or s (2 ^ p) q)
    ∙ bit_max (bit_at s q) (bit_at (2 ^ p) q) (bit_at-lt s q) (bit_at-lt (2 ^ p) q)
    ∙ ap (λ b. eqb (bit_at s q) 1 || b) (has_power p q)

flipped_same : (s p : ℕ) → has s p ≡ true → has (bit_xor s (2 ^ p)) p ≡ false
unfolding has
flipped_same s p h =
    let one : bit_at s p ≡ 1 = eqb-true _ _ h in
    ap (λ n. eqb n 1) (bit_at_xor s (2 ^ p) p ∙ ap (λ n. (n + bit_at (2 ^ p) p) % 2) one ∙ ap (λ n. (1 + n) % 2) (bit_at-pow_same p))

flipped_other : (s p q : ℕ) → q ≢ p → has (bit_xor s (2 ^ p)) q ≡ has s q
unfolding has
flipped_other s p q n =
    ap (λ n. eqb n 1) (bit_at_xor s (2 ^ p) q ∙ ap (λ n. (bit_at s q + n) % 2) (bit_at-pow_other p q n))
    ∙ bit_flip (bit_at s q) (bit_at-lt s q)

without_same : (s p : ℕ) → has (without_point s p) p ≡ false
unfolding without_point
without_same s p = elim (cases_Bool (has s p)) [
  | inl h ↦ rw h (flipped_same s p h)
  | inr h ↦ rw h h
]

without_other : (s p q : ℕ) → q ≢ p → has (without_point s p) q ≡ has s q
unfolding without_point
without_other s p q n = elim (cases_Bool (has s p)) [
  | inl h ↦ rw h (flipped_other s p q n)
  | inr h ↦ rw h refl
]

pub has-without : (s p q : ℕ) → has (without_point s p) q ≡ (not (eqb q p) && has s q)
has-without s p q = elim (cases_eq q p) [
  | inl e ↦ rw (e, eq-eqb p p refl) (without_same s p)
  | inr n ↦ rw (ne_eqb q p n) (without_other s p q n)
]

bit_of : (x y : ℕ) → x < 2 → y < 2 → eqb x 1 ≡ eqb y 1 → x ≡ y
bit_of x y h k e = grind (arith, nat_tests)

-- two sets that have the same points are the same
pub same_points : (s t : ℕ) → ((p : ℕ) → has s p ≡ has t p) → s ≡ t
unfolding has
same_points s t each = same_from_bits s t (λ p. bit_of (bit_at s p) (bit_at t p) (bit_at-lt s p) (bit_at-lt t p) (each p))

-- a set of points below n has no point from n on
pub has-above : (s n p : ℕ) → s < 2 ^ n → n ≤ p → has s p ≡ false
unfolding has
has-above s n p h k = ap (λ n. eqb n 1) (bit_at_above s n p h k)

-- ---- the members of a set, in order

module _ (f : ℕ → Bool) where
  filter_none : (a n : ℕ) → ((k : ℕ) → a ≤ k → f k ≡ false) → filter f (range_with_len a n) ≡ []
  filter_none a zero none = refl
  filter_none a (suc n) none = rw (none a (omega arith)) (filter_none (a + 1) n (λ k h. none k (omega arith)))

  filter_same : (g : ℕ → Bool) (a n : ℕ) → ((k : ℕ) → a ≤ k → f k ≡ g k) → filter f (range_with_len a n) ≡ filter g (range_with_len a n)
  filter_same g a zero same = refl
  filter_same g a (suc n) same =
      rw (same a (omega arith), filter_same g (a + 1) n (λ k h. same k (omega arith))) refl

  -- all but the number p
  less_one : ℕ → ℕ → Bool
  less_one p k = not (eqb k p) && f k

  less_one_here : (p : ℕ) → less_one p p ≡ false
  unfolding less_one
  less_one_here p = rw (eq-eqb p p refl) refl

  less_one_there : (p k : ℕ) → k ≢ p → less_one p k ≡ f k
  unfolding less_one
  less_one_there p k n = rw (ne_eqb k p n) refl

  filter_first : (a n p : ℕ) → a ≤ p → p < a + n → f p ≡ true → ((k : ℕ) → a ≤ k → k < p → f k ≡ false)
      → filter f (range_with_len a n) ≡ p ∷ filter (less_one p) (range_with_len a n)
  filter_first a zero p low high here below = absurd (omega arith)
  filter_first a (suc n) p low high here below = elim (cases_eq a p) [
    | inl e ↦
        let same : filter f (range_with_len (a + 1) n) ≡ filter (less_one p) (range_with_len (a + 1) n) =
        filter_same (less_one p) (a + 1) n (λ k h. sym (less_one_there p k (omega arith))) in
        let head : f a ≡ true = rw e here in
        let none : less_one p a ≡ false = rw e (less_one_here p) in
        rw (head, none, same, e) refl
    | inr n' ↦
        let head : f a ≡ false = below a (omega arith) (omega arith) in
        let none : less_one p a ≡ false = less_one_there p a n' ∙ head in
        rw (head, none) (filter_first (a + 1) n p (omega arith) (omega arith) here (λ k h l. below k (omega arith) l))
  ]

  -- one less where one number of the range is left out
  length_less_one : (a n p : ℕ) → a ≤ p → p < a + n → f p ≡ true
      → length (filter f (range_with_len a n)) ≡ suc (length (filter (less_one p) (range_with_len a n)))
  length_less_one a zero p low high here = absurd (omega arith)
  length_less_one a (suc n) p low high here = elim (cases_eq a p) [
    | inl e ↦
        let same : filter f (range_with_len (a + 1) n) ≡ filter (less_one p) (range_with_len (a + 1) n) =
        filter_same (less_one p) (a + 1) n (λ k h. sym (less_one_there p k (omega arith))) in
        let head : f a ≡ true = rw e here in
        let none : less_one p a ≡ false = rw e (less_one_here p) in
        rw (head, none, same) refl
    | inr n' ↦
        let rest : length (filter f (range_with_len (a + 1) n)) ≡ suc (length (filter (less_one p) (range_with_len (a + 1) n))) =
        length_less_one (a + 1) n p (omega arith) (omega arith) here in
        elim (cases_Bool (f a)) [
          | inl h ↦ rw (h, less_one_there p a n' ∙ h) (ap suc rest)
          | inr h ↦ rw (h, less_one_there p a n' ∙ h) rest
        ]
  ]

members_less_one : (s p : ℕ) → members (without_point s p) ≡ filter (less_one (has s) p) (range_with_len 0 32)
unfolding members less_one
members_less_one s p = filter_same _ _ 0 32 (λ k h. has-without s p k)

pub members-first : (s p : ℕ) → p < 32 → has s p ≡ true → ((k : ℕ) → k < p → has s k ≡ false)
    → members s ≡ p ∷ members (without_point s p)
unfolding members
members-first s p low here below =
    filter_first (has s) 0 32 p (omega arith) (omega arith) here (λ k h l. below k l) ∙ ap (λ t. p ∷ t) (sym (members_less_one s p))

pub members-none : members 0 ≡ []
unfolding members
members-none = filter_none (has 0) 0 32 (λ k h. has-none k)

pub count_of-without : (s p : ℕ) → p < 32 → has s p ≡ true → count_of s ≡ suc (count_of (without_point s p))
unfolding count_of members
count_of-without s p low here =
    length_less_one (has s) 0 32 p (omega arith) (omega arith) here ∙ ap (λ t. suc (length t)) (sym (members_less_one s p))

without_with : (s p : ℕ) → has s p ≡ false → without_point (with_point s p) p ≡ s
without_with s p none = same_points _ _ (λ q. has-without (with_point s p) p q ∙ ap (λ b. not (eqb q p) && b) (has-with s p q) ∙ lemma q)
  where
    lemma : (q : ℕ) → (not (eqb q p) && (has s q || eqb q p)) ≡ has s q
    lemma q = elim (cases_eq q p) [
      | inl e ↦ rw (e, eq-eqb p p refl, none) refl
      | inr n ↦ rw (ne_eqb q p n) (elim (cases_Bool (has s q)) [ inl h ↦ rw h refl | inr h ↦ rw h refl ])
    ]

pub count_of-with : (s p : ℕ) → p < 32 → has s p ≡ false → count_of (with_point s p) ≡ suc (count_of s)
count_of-with s p low none =
    count_of-without (with_point s p) p low (has-with s p p ∙ rw (none, eq-eqb p p refl) refl) ∙ ap (λ t. suc (count_of t)) (without_with s p none)

-- ---- how many points a set has

range_up : (a n : ℕ) → range_with_len (a + 1) n ≡ map suc (range_with_len a n)
range_up a zero = refl
range_up a (suc n) = rw (range_up (a + 1) n, add-one a) refl

bits_above : (s : ℕ) (ks : List ℕ) → length (filter (has s) (map suc ks)) ≡ length (filter (has (s / 2)) ks)
unfolding has
bits_above s [] = refl
bits_above s (k ∷ ks) =
    rw bit_at-suc (elim (cases_Bool (eqb (bit_at (s / 2) k) 1)) [ inl h ↦ rw h (ap suc (bits_above s ks)) | inr h ↦ rw h (bits_above s ks) ])

lowest : (s : ℕ) → cond (has s 0) 1 0 ≡ s % 2
unfolding has
lowest s = rw bit_at_lowest (elim (cases_eq (s % 2) 1) [
  | inl e ↦ rw (eq-eqb (s % 2) 1 e) (sym e)
  | inr n ↦ rw (ne_eqb (s % 2) 1 n) (omega arith)
])

ones_zero : ones 0 ≡ 0
unfolding ones
ones_zero = refl

ones_members : (w s : ℕ) → s < 2 ^ w → length (filter (has s) (range_with_len 0 w)) ≡ ones s
ones_members zero s h = let e : s ≡ 0 = omega arith in rw (e, ones_zero) refl
ones_members (suc w) s h =
    let half : s / 2 < 2 ^ w = half_lt w h in
    let rest : length (filter (has s) (range_with_len 1 w)) ≡ ones (s / 2) =
    ap (λ ks. length (filter (has s) ks)) (range_up 0 w) ∙ bits_above s (range_with_len 0 w) ∙ ones_members w (s / 2) half in
    elim (cases_Bool (has s 0)) [
      | inl h ↦ let one : 1 ≡ s % 2 = rw h at (lowest s) in rw (h, ones_step s, ← one) (ap suc rest ∙ omega arith)
      | inr h ↦ let one : 0 ≡ s % 2 = rw h at (lowest s) in rw (h, ones_step s, ← one) (rest ∙ omega arith)
    ]
  where
    half_lt : (w : ℕ) → s < 2 ^ suc w → s / 2 < 2 ^ w
    half_lt w h = let e : 2 ^ suc w ≡ 2 ^ w * 2 = pow-suc 2 w in omega arith

pub count_of-ones : (s : ℕ) → s < 2 ^ 32 → count_of s ≡ ones s
unfolding count_of members
count_of-ones s h = ones_members 32 s h

pub count_of-le : (s : ℕ) → count_of s ≤ 32
unfolding count_of members
count_of-le s = omega (arith, length-filter (has s) (range_with_len 0 32), count_by-le-length (has s) (range_with_len 0 32), length-range_with_len 0 32)

-- ---- each of its members

all_filter : (f g : ℕ → Bool) (ks : List ℕ) → ((k : ℕ) → f k ≡ true → g k ≡ true) → list_all g (filter f ks) ≡ true
all_filter f g [] h = refl
all_filter f g (k ∷ ks) h = elim (cases_Bool (f k)) [
  | inl e ↦ rw (e, h k e) (all_filter f g ks h)
  | inr e ↦ rw e (all_filter f g ks h)
]

filter_all : (f g : ℕ → Bool) (a n : ℕ) → list_all g (filter f (range_with_len a n)) ≡ true → (k : ℕ) → a ≤ k → k < a + n → f k ≡ true → g k ≡ true
filter_all f g a zero h k low high e = absurd (omega arith)
filter_all f g a (suc n) h k low high e = elim (cases_eq k a) [
  | inl s ↦ let here : f a ≡ true = rw (← s) e in rw s (and_parts _ _ (rw here at h)).0
  | inr s ↦ elim (cases_Bool (f a)) [
    | inl y ↦ filter_all f g (a + 1) n (and_parts _ _ (rw y at h)).1 k (omega arith) (omega arith) e
    | inr y ↦ filter_all f g (a + 1) n (rw y at h) k (omega arith) (omega arith) e
  ]
]

-- what a test says of each member, and of each point of the set
pub all_members : (s : ℕ) (test : ℕ → Bool) → ((p : ℕ) → has s p ≡ true → test p ≡ true) → list_all test (members s) ≡ true
unfolding members
all_members s test each = all_filter (has s) test (range_with_len 0 32) each

pub members_all : (s : ℕ) (test : ℕ → Bool) → list_all test (members s) ≡ true → (p : ℕ) → p < 32 → has s p ≡ true → test p ≡ true
unfolding members
members_all s test all p low h = filter_all (has s) test 0 32 all p (omega arith) (omega arith) h

pub has-below : (s p : ℕ) → s < 2 ^ 32 → has s p ≡ true → p < 32
has-below s p small h = elim (cases_lt p 32) [
  | inl low ↦ low
  | inr high ↦ absurd (both_ways (has s p) (has-above s 32 p small high) h)
]

pub within_each : (s t : ℕ) → s < 2 ^ 32 → is_subset s t ≡ true → (p : ℕ) → has s p ≡ true → has t p ≡ true
unfolding is_subset
within_each s t small h p e = members_all s (has t) h p (has-below s p small e) e

pub each_within : (s t : ℕ) → ((p : ℕ) → has s p ≡ true → has t p ≡ true) → is_subset s t ≡ true
unfolding is_subset
each_within s t each = all_members s (has t) each

pub has-and : (s t p : ℕ) → has (bit_and s t) p ≡ (has s p && has t p)
unfolding has
has-and s t p = ap (λ n. eqb n 1) (bit_at_and s t p) ∙ both (bit_at s p) (bit_at t p) (bit_at-lt s p) (bit_at-lt t p)
  where
    both : (x y : ℕ) → x < 2 → y < 2 → eqb (min x y) 1 ≡ (eqb x 1 && eqb y 1)
    both x y h k = grind (arith, nat_tests)

-- the test that the code makes
pub is_subset-and : (s t : ℕ) → s < 2 ^ 32 → eqb (bit_and s t) s ≡ is_subset s t
is_subset-and s t small = same_test _ _
    (λ h. let e : bit_and s t ≡ s = eqb-true _ _ h in
    each_within s t (λ p y. (and_parts (has s p) (has t p) (sym (has-and s t p) ∙ ap (λ n. has n p) e ∙ y)).1))
    (λ h. eq-eqb _ _ (same_points _ _ (λ p. has-and s t p ∙ absorbed (has s p) (has t p) (within_each s t small h p))))
  where
    absorbed : (x y : Bool) → (x ≡ true → y ≡ true) → (x && y) ≡ x
    absorbed true y f = f refl
    absorbed false y f = refl

-- ---- the set of the points at which a test holds

pub has-set_where : (n : ℕ) (f : ℕ → Bool) (p : ℕ) → has (set_where n f) p ≡ (ltb p n && f p)
unfolding set_where
has-set_where zero f p = has-none p ∙ sym (and_left (ltb p 0) (f p) (le-ltb p 0 (omega arith)))
has-set_where (suc n) f p = elim (cases_eq p n) [
  | inl e ↦ elim (cases_Bool (f n)) [
    | inl h ↦ rw (h, e) (has-with (set_where n f) n n ∙ rw (eq-eqb n n refl, lt-ltb n (suc n) (omega arith), h) (or_right _ _ refl))
    | inr h ↦ rw (h, e) (has-set_where n f n ∙ rw (h, le-ltb n n (omega arith), lt-ltb n (suc n) (omega arith)) refl)
  ]
  | inr d ↦
      let same : ltb p (suc n) ≡ ltb p n = grind (arith, nat_tests) in
      elim (cases_Bool (f n)) [
        | inl h ↦ rw h (has-with (set_where n f) n p ∙ rw (ne_eqb p n d, has-set_where n f p, same) (or_false _))
        | inr h ↦ rw h (has-set_where n f p ∙ rw same refl)
      ]
]
  where
    or_false : (b : Bool) → (b || false) ≡ b
    or_false true = refl
    or_false false = refl

-- a loop over the points from 0 on begins with the empty set, and takes each point that passes
pub set_where_none : (f : ℕ → Bool) → set_where 0 f ≡ 0
unfolding set_where
set_where_none f = refl

pub set_where_more : (n : ℕ) (f : ℕ → Bool) → set_where (n + 1) f ≡ cond (f n) (with_point (set_where n f) n) (set_where n f)
unfolding set_where
set_where_more n f = rw (add-one n) refl

-- all of them are below n
pub set_where-lt : (n : ℕ) (f : ℕ → Bool) → set_where n f < 2 ^ n
unfolding set_where with_point
set_where-lt zero f = lit< tt
set_where-lt (suc n) f =
    let small : set_where n f < 2 ^ suc n = omega (arith, set_where-lt n f, pow-suc 2 n) in
    elim (cases_Bool (f n)) [
      | inl h ↦ rw h (or_lt (suc n) (set_where n f) (2 ^ n) small (omega (arith, pow-suc 2 n, pow_pos n)))
      | inr h ↦ rw h small
    ]

-- ---- what the code computes

shifted : (w p : ℕ) → p < w → 1 * 2 ^ p % 2 ^ w ≡ 2 ^ p
shifted w p h =
    let one : 1 * 2 ^ p ≡ 2 ^ p = one-mul (2 ^ p) in
    rw one (mod-eq_of_lt (pow-lt h))

-- `mask | 1 << p`
pub with_point-or : (s p : ℕ) → p < 32 → bit_or s (1 * 2 ^ p % 4294967296) ≡ with_point s p
unfolding with_point
with_point-or s p h = ap (bit_or s) (shifted 32 p h)

-- `mask & !(1 << p)`
module _ (s p : ℕ) (small : s < 2 ^ 32) (low : p < 32) where
  cleared : ℕ
  cleared = bit_and s (4294967295 - 1 * 2 ^ p % 4294967296)

  cleared_same : has cleared p ≡ false
  unfolding has cleared
  cleared_same = ap (λ n. eqb n 1) (bit_at_clear_same w32 s p low)

  cleared_other : (q : ℕ) → q < 32 → q ≢ p → has cleared q ≡ has s q
  unfolding has cleared
  cleared_other q h n = ap (λ n. eqb n 1) (bit_at_clear_other w32 s p low q h n)

  each_cleared : (q : ℕ) → has cleared q ≡ has (without_point s p) q
  unfolding cleared
  each_cleared q = elim (cases_lt q 32) [
    | inl h ↦ elim (cases_eq q p) [
      | inl e ↦ rw e (cleared_same ∙ sym (has-without s p p ∙ rw (eq-eqb p p refl) refl))
      | inr n ↦ cleared_other q h n ∙ sym (has-without s p q ∙ rw (ne_eqb q p n) refl)
    ]
    | inr high ↦
        let part : bit_and s (4294967295 - 1 * 2 ^ p % 4294967296) ≤ s = and_le_l s _ in
        let below : bit_and s (4294967295 - 1 * 2 ^ p % 4294967296) < 2 ^ 32 = omega arith in
        has-above _ 32 q below high
        ∙ sym (has-without s p q ∙ and_right (not (eqb q p)) (has s q) (has-above s 32 q small high))
  ]

  pub without_point-and : bit_and s (4294967295 - 1 * 2 ^ p % 4294967296) ≡ without_point s p
  unfolding cleared
  without_point-and = same_points _ _ each_cleared

-- `mask >> p & 1`
pub has-shr : (s p : ℕ) → eqb (bit_and (s / 2 ^ p) 1) 1 ≡ has s p
unfolding has
has-shr s p = ap (λ n. eqb n 1) (shr_and_one s p)

-- `mask.trailing_zeros()`
pub record IsFirst (s p : ℕ) : Type 0 where
  pub low : p < 32
  pub here : has s p ≡ true
  pub rest : members s ≡ p ∷ members (without_point s p)

pub first_is : (s : ℕ) → 0 < s → s < 2 ^ 32 → IsFirst s (trailing_zeros w32 s)
unfolding has
first_is s some small =
    let t = bit_at-trailing_zeros w32 s some small in
    let here : has s (trailing_zeros w32 s) ≡ true = eq-eqb _ _ t.1 in
    record {
      low = t.0;
      here = here;
      rest = members-first s (trailing_zeros w32 s) t.0 here (λ k h. ap (λ n. eqb n 1) (t.2 k h));
    }

-- ---- the points of a set below a point

has-low : (s n p : ℕ) → has (s % 2 ^ n) p ≡ (ltb p n && has s p)
unfolding has
has-low s n p = elim (cases_lt p n) [
  | inl low ↦ rw (lt-ltb p n low) (ap (λ k. eqb k 1) (sym (bit_at_cat_low (s / 2 ^ n) n (s % 2 ^ n) p low) ∙ ap (λ k. bit_at k p) (div-add-mod' s (2 ^ n))))
  | inr high ↦ rw (le-ltb p n high) (ap (λ k. eqb k 1) (bit_at_above (s % 2 ^ n) n p (mod-lt s (pow_pos n)) high))
]

-- `mask & (mask - 1)`, where t is the least point
module _ (s t : ℕ) (here : has s t ≡ true) (below : (q : ℕ) → q < t → has s q ≡ false) where
  above : ℕ
  above = s / 2 ^ t / 2

  cut : s ≡ above * 2 ^ suc t + 2 ^ t
  unfolding above has
  cut =
      let odd : s / 2 ^ t % 2 ≡ 1 = eqb-true _ _ here in
      let none : s % 2 ^ t ≡ 0 = same_points _ 0 (λ q. has-low s t q ∙ low_none q ∙ sym (has-none q)) in
      let whole : s / 2 ^ t * 2 ^ t + s % 2 ^ t ≡ s = div-add-mod' s (2 ^ t) in
      let half : s / 2 ^ t ≡ s / 2 ^ t / 2 * 2 + 1 = omega arith in
      let twice : s / 2 ^ t * 2 ^ t ≡ (s / 2 ^ t / 2 * 2 + 1) * 2 ^ t = ap (λ n. n * 2 ^ t) half in
      sym whole ∙ omega (arith, none, twice, spread (s / 2 ^ t / 2) (2 ^ t) (2 ^ suc t) (pow-suc 2 t))
    where
      spread : (a p q : ℕ) → q ≡ p * 2 → (a * 2 + 1) * p ≡ a * q + p
      spread a p q e = rw e (omega arith)

      low_none : (q : ℕ) → (ltb q t && has s q) ≡ false
      low_none q = elim (cases_lt q t) [
        | inl low ↦ and_right (ltb q t) (has s q) (below q low)
        | inr high ↦ and_left (ltb q t) (has s q) (le-ltb q t high)
      ]

  less : s - 1 ≡ above * 2 ^ suc t + (2 ^ t - 1)
  less = omega (arith, cut, pow_pos t)

  difference-here : has (s - 1) t ≡ false
  unfolding has
  difference-here = ap (λ n. eqb n 1) (ap (λ n. bit_at n t) less ∙ bit_at_cat_low above (suc t) (2 ^ t - 1) t (omega arith) ∙ bit_at_ones_above t t (omega arith))

  difference-above : (q : ℕ) → t < q → has (s - 1) q ≡ has s q
  unfolding has
  difference-above q high =
      ap (λ n. eqb n 1)
      (ap (λ n. bit_at n q) less
      ∙ bit_at_cat_high above (suc t) (2 ^ t - 1) q (omega (arith, pow-suc 2 t, pow_pos t)) (omega arith)
      ∙ sym (ap (λ n. bit_at n q) cut ∙ bit_at_cat_high above (suc t) (2 ^ t) q (omega (arith, pow-suc 2 t, pow_pos t)) (omega arith)))

  difference-each : (q : ℕ) → (has s q && has (s - 1) q) ≡ (not (eqb q t) && has s q)
  difference-each q = elim (cases_lt q t) [
    | inl low ↦ rw (below q low) (sym (and_right (not (eqb q t)) false refl))
    | inr high ↦ elim (cases_eq q t) [
      | inl e ↦ rw (e, difference-here, eq-eqb t t refl) (and_right (has s t) false refl)
      | inr differ ↦ rw (difference-above q (omega arith), ne_eqb q t differ) (same (has s q))
    ]
  ]
    where
      same : (b : Bool) → (b && b) ≡ b
      same true = refl
      same false = refl

  pub lowest_cleared : bit_and s (s - 1) ≡ without_point s t
  lowest_cleared = same_points _ _ (λ q. has-and s (s - 1) q ∙ difference-each q ∙ sym (has-without s t q))

pub rest_is : (s : ℕ) → s < 2 ^ 32 → members (bit_and s ((s + 4294967295) % 4294967296)) ≡ drop 1 (members s)
unfolding has
rest_is s small = elim (cases_lt 0 s) [
  | inl some ↦
      let t = bit_at-trailing_zeros w32 s some small in
      let less : (s + 4294967295) % 4294967296 ≡ s - 1 = omega arith in
      ap (λ n. members (bit_and s n)) less
      ∙ ap members (lowest_cleared s (trailing_zeros w32 s) (eq-eqb _ _ t.1) (λ k h. ap (λ n. eqb n 1) (t.2 k h)))
      ∙ ap (drop 1) (sym (first_is s some small).rest)
  | inr none ↦
      let zero_is : s ≡ 0 = omega arith in
      rw (zero_is, members-none) refl
]

filter_filter : (f g : ℕ → Bool) (ks : List ℕ) → filter f (filter g ks) ≡ filter (λ k. f k && g k) ks
filter_filter f g [] = refl
filter_filter f g (k ∷ ks) = elim (cases_Bool (g k)) [
  | inl y ↦ elim (cases_Bool (f k)) [ inl x ↦ rw (y, x) (ap (λ rest. k ∷ rest) (filter_filter f g ks)) | inr x ↦ rw (y, x) (filter_filter f g ks) ]
  | inr y ↦ rw (y, and_right (f k) false refl) (filter_filter f g ks)
]

counted_below : (s p : ℕ) → count_of (s % 2 ^ p) ≡ length (filter (λ q. ltb q p) (members s))
unfolding count_of members
counted_below s p = ap length (filter_same (has (s % 2 ^ p)) (λ q. ltb q p && has s q) 0 32 (λ q h. has-low s p q)
    ∙ sym (filter_filter (λ q. ltb q p) (has s) (range_with_len 0 32)))

-- `(mask & ((1 << p) - 1)).count_ones()`
pub count_below-ones : (s p : ℕ) → s < 2 ^ 32 → p < 32
    → ones (bit_and s (1 * 2 ^ p % 4294967296 - 1)) ≡ length (filter (λ q. ltb q p) (members s))
count_below-ones s p small low =
    let mask : bit_and s (1 * 2 ^ p % 4294967296 - 1) ≡ s % 2 ^ p = ap (λ k. bit_and s (k - 1)) (shifted 32 p low) ∙ and_mask s p in
    let within : s % 2 ^ p < 2 ^ 32 = omega (arith, mod-le s (2 ^ p)) in
    ap ones mask ∙ sym (count_of-ones (s % 2 ^ p) within) ∙ counted_below s p

-- ---- two sets together

-- `(1 << n) - 1`
pub has-below_mask : (n p : ℕ) → n < 32 → has (1 * 2 ^ n % 4294967296 - 1) p ≡ ltb p n
unfolding has
has-below_mask n p low =
    let one : has (2 ^ p) p ≡ true = has_power p p ∙ eq-eqb p p refl in
    let mask : has (bit_and (2 ^ p) (2 ^ n - 1)) p ≡ (ltb p n && has (2 ^ p) p) = ap (λ s. has s p) (and_mask (2 ^ p) n) ∙ has-low (2 ^ p) n p in
    ap (λ k. has (k - 1) p) (shifted 32 n low)
    ∙ sym (has-and (2 ^ p) (2 ^ n - 1) p ∙ ap (λ b. b && has (2 ^ n - 1) p) one)
    ∙ mask ∙ ap (λ b. ltb p n && b) one ∙ and_true (ltb p n)
  where
    and_true : (b : Bool) → (b && true) ≡ b
    and_true true = refl
    and_true false = refl

-- `mask | other`
pub has-or : (s t p : ℕ) → has (bit_or s t) p ≡ (has s p || has t p)
unfolding has
has-or s t p = ap (λ n. eqb n 1) (bit_at_or s t p) ∙ bit_max (bit_at s p) (bit_at t p) (bit_at-lt s p) (bit_at-lt t p)

abbrev differs : Bool → Bool → Bool
differs true y = not y
differs false y = y

has-xor : (s t p : ℕ) → has (bit_xor s t) p ≡ differs (has s p) (has t p)
unfolding has
has-xor s t p = ap (λ n. eqb n 1) (bit_at_xor s t p) ∙ bits (bit_at s p) (bit_at t p) (bit_at-lt s p) (bit_at-lt t p)
  where
    bits : (x y : ℕ) → x < 2 → y < 2 → eqb ((x + y) % 2) 1 ≡ differs (eqb x 1) (eqb y 1)
    bits zero y h k = ap (λ n. eqb n 1) (omega arith)
    bits (suc zero) zero h k = refl
    bits (suc zero) (suc zero) h k = refl
    bits (suc zero) (suc (suc y)) h k = absurd (omega arith)
    bits (suc (suc x)) y h k = absurd (omega arith)

-- `mask & (mask ^ other)`
pub has-difference : (s t p : ℕ) → has (bit_and s (bit_xor s t)) p ≡ (has s p && not (has t p))
has-difference s t p = has-and s (bit_xor s t) p ∙ ap (λ b. has s p && b) (has-xor s t p) ∙ parts (has s p) (has t p)
  where
    parts : (x y : Bool) → (x && differs x y) ≡ (x && not y)
    parts true y = refl
    parts false y = refl
