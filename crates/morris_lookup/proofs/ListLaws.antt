-- Laws of lists of representatives: which of them are below a mask, the class of a set by them, and
-- how they are listed, chunk by chunk.
use Rattle.std.proofs.Common.{◌≡◌, ℕ, zero, suc, ◌+◌, ◌-◌, ◌^◌, ◌<◌, ◌≤◌, Bool, true, false, cond, ltb, List, [], ◌∷◌, ◌++◌, length, filter, get_or, take, set, get_or-set_other, get_or-set_same, length-set, refl, sym, ap, ◌∙◌, inl, inr, subst, arith, length-append, zero-add}
use Rattle.std.proofs.lemmas.Bool.{cases_Bool, cases_eq, cases_lt, lt-ltb, ltb-true, ltb-false}
use Rattle.std.proofs.lemmas.List.{get_or_append_left, get_or_push, get_or-append-add, get_or-take, append-nil, ext_get_or, length-take-le}
use Rattle.std.proofs.lemmas.List.Elements.{All-filter, filter-append}
use Rattle.std.proofs.lemmas.List.FromFn.{get_or-range_with_len, length-range_with_len}
use Rattle.std.specs.List.{All, range_with_len}
use Rattle.std.specs.List.Sorted.{IsPartitionedBy, IsPartitionPoint}
use Rattle.morris_board.specs.Boards.{Shape}
use Rattle.morris_board.specs.Sets.{count_of}
use Rattle.morris_board.specs.Symmetries.{HasSymmetries}
use Rattle.morris_index.specs.Numbering.{count_below}
use Rattle.morris_index.specs.Classes.{is_representative, representative_of, classes_below, class_of}
use Rattle.morris_index.proofs.ClassLaws.{representative_within}
use Rattle.morris_lookup.specs.Representatives.{representatives_of, AreListed}

-- ---- the numbers from one on that pass a test

range_join : (a n m : ℕ) → range_with_len a (n + m) ≡ range_with_len a n ++ range_with_len (a + n) m
range_join a zero m =
    let none : 0 + m ≡ m = omega arith in
    let same : a ≡ a + 0 = omega arith in
    ap (range_with_len a) none ∙ ap (λ k. range_with_len k m) same
range_join a (suc n) m =
    let e : suc n + m ≡ suc (n + m) = omega arith in
    let next : a + 1 + n ≡ a + suc n = omega arith in
    ap (range_with_len a) e
    ∙ ap (λ xs. a ∷ xs) (range_join (a + 1) n m ∙ ap (λ k. range_with_len (a + 1) n ++ range_with_len k m) next)

abbrev pub between : (ℕ → Bool) → ℕ → ℕ → List ℕ
between f a n = filter f (range_with_len a n)

module _ (f : ℕ → Bool) where
  pub between-join : (a n m : ℕ) → between f a (n + m) ≡ between f a n ++ between f (a + n) m
  between-join a n m = ap (filter f) (range_join a n m) ∙ filter-append f (range_with_len a n) (range_with_len (a + n) m)

  pub between-yes : (a n : ℕ) → f (a + n) ≡ true → between f a (n + 1) ≡ between f a n ++ (a + n) ∷ []
  between-yes a n h = between-join a n 1 ∙ ap (λ b. between f a n ++ cond b ((a + n) ∷ []) []) h

  pub between-no : (a n : ℕ) → f (a + n) ≡ false → between f a (n + 1) ≡ between f a n
  between-no a n h = between-join a n 1 ∙ ap (λ b. between f a n ++ cond b ((a + n) ∷ []) []) h ∙ append-nil (between f a n)

  pub between-none : (a n : ℕ) → ((i : ℕ) → i < n → f (a + i) ≡ false) → between f a n ≡ []
  between-none a zero none = refl
  between-none a (suc n) none =
      let e : suc n ≡ n + 1 = omega arith in
      ap (between f a) e ∙ between-no a n (none n (omega arith)) ∙ between-none a n (λ i low. none i (omega arith))

  -- each is one of these numbers
  between-in : (a n : ℕ) → All (λ m. (a ≤ m) × (m < a + n)) (between f a n)
  between-in a n =
      All-filter f (λ m. (a ≤ m) × (m < a + n)) (range_with_len a n)
      (λ k d h.
      let low : k < n = omega (arith, h, length-range_with_len a n) in
      let at : get_or (range_with_len a n) k d ≡ a + k = get_or-range_with_len a n k d low in
      (omega (arith, at), omega (arith, at, low)))

  pub between-few : (a n : ℕ) → length (between f a n) ≤ n
  between-few a zero = omega arith
  between-few a (suc n) =
      let e : suc n ≡ n + 1 = omega arith in
      elim (cases_Bool (f (a + n))) [
        | inl y ↦ omega (arith, between-few a n, ap (λ k. length (between f a k)) e, ap length (between-yes a n y), length-append (between f a n) ((a + n) ∷ []))
        | inr out ↦ omega (arith, between-few a n, ap (λ k. length (between f a k)) e, ap length (between-no a n out))
      ]

-- ---- a list stands in words

pub listed-one : (list : List ℕ) (start end mask : ℕ) (words old : List ℕ) → AreListed list start end words old
    → AreListed (list ++ mask ∷ []) start (end + 1) (set words end mask) old
listed-one list start end mask words old here =
    let len : length (list ++ mask ∷ []) ≡ length list + 1 = length-append list (mask ∷ []) in
    let same : length (set words end mask) ≡ length words = length-set words end mask in
    record {
      ends = omega (arith, len, here.ends);
      listed = λ i h room. elim (cases_lt i (length list)) [
        | inl low ↦
            get_or-set_other words end (start + i) mask 0 (omega (arith, here.ends))
            ∙ here.listed i low (omega (arith, room, same))
            ∙ sym (get_or_append_left list (mask ∷ []) 0 i low)
        | inr le ↦
            let at : length list ≡ i = omega (arith, len) in
            let place : start + i ≡ end = omega (arith, here.ends) in
            ap (λ k. get_or (set words end mask) k 0) place
            ∙ get_or-set_same words end mask 0 (omega (arith, room, same, place))
            ∙ sym (get_or_push list mask 0 i at)
      ];
      before = λ i h. get_or-set_other words end i mask 0 (omega (arith, here.ends)) ∙ here.before i h;
    }

pub listed-join : (xs ys : List ℕ) (start mid end : ℕ) (words mids old : List ℕ) → length words ≡ length mids → AreListed xs start mid mids old → AreListed ys mid end words mids
    → AreListed (xs ++ ys) start end words old
listed-join xs ys start mid end words mids old same first then =
    let len : length (xs ++ ys) ≡ length xs + length ys = length-append xs ys in
    record {
      ends = omega (arith, len, first.ends, then.ends);
      listed = λ i h room. elim (cases_lt i (length xs)) [
        | inl low ↦ then.before (start + i) (omega (arith, first.ends)) ∙ first.listed i low (omega (arith, room, same)) ∙ sym (get_or_append_left xs ys 0 i low)
        | inr le ↦
            let j : ℕ = i - length xs in
            let place : start + i ≡ mid + j = omega (arith, first.ends) in
            let at : length xs + j ≡ i = omega arith in
            ap (λ k. get_or words k 0) place
            ∙ then.listed j (omega (arith, len)) (omega (arith, room, place))
            ∙ sym (get_or-append-add xs ys j 0)
            ∙ ap (λ k. get_or (xs ++ ys) k 0) at
      ];
      before = λ i h. then.before i (omega (arith, first.ends)) ∙ first.before i h;
    }

-- ---- the masks of a chunk are tested one after the other

module _ (f : ℕ → Bool) (a mask : ℕ) (from : a ≤ mask) where
  one_more : mask - a + 1 ≡ mask + 1 - a
  one_more = omega arith

  between-yes_to : f mask ≡ true → between f a (mask + 1 - a) ≡ between f a (mask - a) ++ mask ∷ []
  between-yes_to h =
      let e : a + (mask - a) ≡ mask = omega arith in
      ap (between f a) (sym one_more) ∙ between-yes f a (mask - a) (ap f e ∙ h) ∙ ap (λ m. between f a (mask - a) ++ m ∷ []) e

  between-no_to : f mask ≡ false → between f a (mask + 1 - a) ≡ between f a (mask - a)
  between-no_to h =
      let e : a + (mask - a) ≡ mask = omega arith in
      ap (between f a) (sym one_more) ∙ between-no f a (mask - a) (ap f e ∙ h)

  module _ (start end : ℕ) (words old : List ℕ) (here : AreListed (between f a (mask - a)) start end words old) where
    pub listed-yes : f mask ≡ true → AreListed (between f a (mask + 1 - a)) start (end + 1) (set words end mask) old
    listed-yes h =
        subst (λ xs. AreListed xs start (end + 1) (set words end mask) old) (sym (between-yes_to h)) (listed-one (between f a (mask - a)) start end mask words old here)

    pub listed-no : f mask ≡ false → AreListed (between f a (mask + 1 - a)) start end words old
    listed-no h = subst (λ xs. AreListed xs start end words old) (sym (between-no_to h)) here

-- ---- chunks are listed one after the other

module _ (f : ℕ → Bool) (a n : ℕ) where
  join_at : between f 0 (a + n) ≡ between f 0 a ++ between f a n
  join_at = between-join f 0 a n ∙ ap (λ k. between f 0 a ++ between f k n) (zero-add a)

  pub listed-chunk : (start mid end : ℕ) (words mids old : List ℕ) → length words ≡ length mids → AreListed (between f 0 a) start mid mids old
      → AreListed (between f a n) mid end words mids → AreListed (between f 0 (a + n)) start end words old
  listed-chunk start mid end words mids old same first then =
      subst (λ xs. AreListed xs start end words old) (sym join_at) (listed-join (between f 0 a) (between f a n) start mid end words mids old same first then)

-- a list that stands at the beginning of words, up to where it ends
pub listed_first : (list : List ℕ) (end : ℕ) (words old : List ℕ) → AreListed list 0 end words old → end ≤ length words → take end words ≡ list
listed_first list end words old here within =
    let ends : end ≡ length list = omega (arith, here.ends) in
    let len : length (take end words) ≡ length list = length-take-le end words within ∙ ends in
    ext_get_or 0 (take end words) list len (λ i h.
    get_or-take end words i 0 (omega (arith, h, len, ends))
    ∙ ap (λ k. get_or words k 0) (sym (zero-add i))
    ∙ here.listed i (omega (arith, h, len)) (omega (arith, h, len, ends, within)))

-- ---- how many there are

module _ (board : Shape) where
  pub representatives-few : (count : ℕ) → length (representatives_of board count) ≤ 2 ^ board.points
  unfolding representatives_of
  representatives-few count = between-few (is_representative board count) 0 (2 ^ board.points)

-- ---- the class of a set

module _ (board : Shape) (few : board.points ≤ 24) (y : HasSymmetries board) (set : ℕ) (small : set < 2 ^ board.points)
    (list : List ℕ) (is : list ≡ representatives_of board (count_of set)) (least : ℕ) (least_is : least ≡ representative_of board set) where
  abbrev own : ℕ → Bool
  own = is_representative board (count_of set)

  abbrev below : List ℕ
  below = between own 0 least

  abbrev others : List ℕ
  others = between own least (2 ^ board.points - least)

  split : list ≡ below ++ others
  unfolding representatives_of
  split =
      let rest : ℕ = 2 ^ board.points - least in
      let all : least + rest ≡ 2 ^ board.points = omega (arith, least_is, representative_within board few y set small) in
      is ∙ ap (between own 0) (sym all) ∙ join_at own least rest

  length_is : length list ≡ length below + length others
  length_is = ap length split ∙ length-append below others

  lower : (k d : ℕ) → k < length below → get_or list k d < least
  lower k d h = omega (arith, ap (λ xs. get_or xs k d) split, get_or_append_left below others d k h, (between-in own 0 least k d h).1)

  upper : (k d : ℕ) → length below ≤ k → k < length list → least ≤ get_or list k d
  upper k d le h =
      let j : ℕ = k - length below in
      let place : length below + j ≡ k = omega arith in
      let at : get_or list k d ≡ get_or others j d = ap (λ xs. get_or xs k d) split ∙ ap (λ i. get_or (below ++ others) i d) (sym place) ∙ get_or-append-add below others j d in
      omega (arith, at, (between-in own least (2 ^ board.points - least) j d (omega (arith, h, length_is))).0)

  -- the representatives below a mask stand before the others
  pub partitioned : IsPartitionedBy (λ mask. ltb mask least) list
  partitioned i j d le low h = elim (cases_lt j (length below)) [
    | inl under ↦ lt-ltb (get_or list i d) least (lower i d (omega arith))
    | inr over ↦ absurd (omega (arith, ltb-true (get_or list j d) least h, upper j d over low))
  ]

  -- so there are as many as where they end
  pub class_is : (i : ℕ) → i ≤ length list → IsPartitionPoint (λ mask. ltb mask least ≡ true) (λ mask. ltb mask least ≡ false) list i → i ≡ class_of board set
  unfolding class_of classes_below count_below
  class_is i le point = subst (λ m. i ≡ length (between own 0 m)) least_is (elim (cases_lt i (length below)) [
    | inl under ↦
        let in_list : i < length list = omega (arith, length_is) in
        absurd (omega (arith, lower i 0 under, ltb-false (get_or list i 0) least (point.1 i 0 (omega arith) in_list)))
    | inr over ↦ elim (cases_eq i (length below)) [
      | inl e ↦ e
      | inr d ↦
          let at : ℕ = length below in
          absurd (omega (arith, upper at 0 (omega arith) (omega arith), ltb-true (get_or list at 0) least (point.0 at 0 (omega arith) (omega arith))))
    ]
  ])
