-- The predecessors by an un-move, symmetry by symmetry, and their entries.
use Rattle.std.proofs.Common.{◌≡◌, ◌≢◌, ℕ, ◌+◌, ◌-◌, ◌^◌, ◌<◌, ◌≤◌, Bool, true, false, not, ◌&&◌, ◌||◌, eqb, ltb, List, [], ◌∷◌, ◌++◌, map, filter, refl, sym, ◌∙◌, ap, ap₂, subst, inl, inr, arith, append_assoc}
use Rattle.std.specs.List.{range_with_len, list_all}
use Rattle.std.proofs.lemmas.Bool.{cases_eq, cases_lt, ne_eqb, lt-ltb, le-ltb, ltb-true, and_parts, and_from, and_right}
use Rattle.std.proofs.lemmas.List.{map-append}
use Rattle.std.proofs.lemmas.List.Folds.{list_all-append}
use Rattle.morris_board.specs.Boards.{Shape}
use Rattle.morris_board.specs.Sets.{has, members, count_of, with_point}
use Rattle.morris_board.specs.Positions.{Sides, IsApart}
use Rattle.morris_board.specs.Symmetries.{image_of, image_sides, inverse_of, HasSymmetries}
use Rattle.morris_board.proofs.PointsLaws.{has-none, has-with, all_members}
use Rattle.morris_board.proofs.ImageLaws.{IsOneToOne, one_to_one, IsApart-image, count_of-image}
use Rattle.morris_index.specs.Numbering.{rank_of, number_outside}
use Rattle.morris_index.specs.Classes.{is_canonicalizing, symmetry_of, representative_of, class_of, AreCanonicalizing}
use Rattle.morris_index.specs.ClassPairs.{canonical_form, class_index_of}
use Rattle.morris_index.specs.ClassMoves.{class_start_of}
use Rattle.morris_index.specs.Pairs.{Counts}
use Rattle.morris_index.specs.Moves.{InPair, unmove_sides}
use Rattle.morris_index.specs.Unmoves.{gives_unmove, IsTransversal, HasTransversal}
use Rattle.morris_index.proofs.RankLaws.{passing, passing-above}
use Rattle.morris_index.proofs.SetLaws.{or_false}
use Rattle.morris_index.proofs.Following.{passing-same}
use Rattle.morris_index.proofs.IndexLaws.{IsPlaced, placed, within_24, other_apart}
use Rattle.morris_board.proofs.PositionLaws.{own_count, other_count}
use Rattle.morris_index.proofs.MoveLaws.{vacant_own, vacant_other, before_count, before_placed}
use Rattle.morris_index.proofs.ClassLaws.{more_new, canonical_least, representative_twice, class_of-representative}
use Rattle.morris_index.proofs.ClassPairLaws.{canonical_itself, entry-parts}

-- ---- a set of the numbers that pass a test, number by number

pub none_pass : (test : ℕ → Bool) (s : ℕ) → has 0 s ≡ (ltb s 0 && test s)
none_pass test s = has-none s ∙ sym (rw (le-ltb s 0 (omega arith)) refl)

module _ (test : ℕ → Bool) (k x : ℕ) (before : (s : ℕ) → has x s ≡ (ltb s k && test s)) where
  as_before : (s : ℕ) → s ≢ k → ltb s (k + 1) ≡ ltb s k
  as_before s d = elim (cases_lt s k) [
    | inl l ↦ lt-ltb s (k + 1) (omega arith) ∙ sym (lt-ltb s k l)
    | inr g ↦ le-ltb s (k + 1) (omega arith) ∙ sym (le-ltb s k g)
  ]

  pub one_passes : test k ≡ true → (s : ℕ) → has (with_point x k) s ≡ (ltb s (k + 1) && test s)
  one_passes h s = elim (cases_eq s k) [
    | inl e ↦ more_new x k s e ∙ sym (and_from (ltb s (k + 1)) (test s) (lt-ltb s (k + 1) (omega arith)) (ap test e ∙ h))
    | inr d ↦ has-with x k s ∙ rw (ne_eqb s k d, as_before s d) (or_false (has x s) ∙ before s)
  ]

  pub one_fails : test k ≡ false → (s : ℕ) → has x s ≡ (ltb s (k + 1) && test s)
  one_fails h s = elim (cases_eq s k) [
    | inl e ↦
        before s ∙ and_right (ltb s k) (test s) (ap test e ∙ h) ∙ sym (and_right (ltb s (k + 1)) (test s) (ap test e ∙ h))
    | inr d ↦ before s ∙ ap (λ b. b && test s) (sym (as_before s d))
  ]

-- its members are the numbers that pass
pub members-listed : (test : ℕ → Bool) (x n : ℕ) → n ≤ 32 → ((s : ℕ) → has x s ≡ (ltb s n && test s)) → members x ≡ filter test (range_with_len 0 n)
unfolding members
members-listed test x n low is =
    let e : 32 ≡ (32 - n) + n = omega arith in
    ap (passing (has x)) e
    ∙ passing-above (has x) n (32 - n) (λ k h. is k ∙ ap (λ b. b && test k) (le-ltb k n h))
    ∙ passing-same (has x) test n (λ k h. is k ∙ ap (λ b. b && test k) (lt-ltb k n h))

-- what an iterator over a set yields is in the set
pub member_has : (x p : ℕ) (before after left : List ℕ) → before ++ left ≡ members x → left ≡ p ∷ after → has x p ≡ true
member_has x p before after left split unmove =
    let cut : before ++ p ∷ after ≡ members x = ap (λ t. before ++ t) (sym unmove) ∙ split in
    (and_parts (has x p) (list_all (has x) after) (and_parts (list_all (has x) before) (list_all (has x) (p ∷ after))
    (sym (list_all-append (has x) before (p ∷ after)) ∙ ap (list_all (has x)) cut ∙ all_members x (has x) (λ k h. h))).1).0

pub split_after : (before whole : List ℕ) (p : ℕ) (after left : List ℕ) → left ≡ p ∷ after → before ++ left ≡ whole → (before ++ p ∷ []) ++ after ≡ whole
split_after before whole p after left unmove split = append_assoc before (p ∷ []) after ∙ ap (λ t. before ++ t) (sym unmove) ∙ split

-- one result more at the end of a list
pub pushed : {X : Type 0} (f : ℕ → X) (old : List X) (yielded : List ℕ) (out : List X) (s : ℕ) (x : X) → out ≡ old ++ map f yielded → x ≡ f s
    → out ++ x ∷ [] ≡ old ++ map f (yielded ++ s ∷ [])
pushed f old yielded out s x e is =
    ap₂ (λ a b. a ++ b ∷ []) e is
    ∙ append_assoc old (map f yielded) (f s ∷ [])
    ∙ ap (λ t. old ++ t) (sym (map-append f yielded (s ∷ [])))

both_and : (a b c : Bool) → ((a && b) && (a && c)) ≡ (a && (b && c))
both_and true b c = refl
both_and false b c = refl

-- ---- the symmetries that give un-moves

-- those that are canonicalizing for the stones `mover` and in the transversal of p's player's
-- stones
module _ (board : Shape) (p : Sides) (mover canonicalizing transversal member_symmetries : ℕ) (set_classes : AreCanonicalizing board mover canonicalizing) (returns : IsTransversal board p.own transversal)
    (common : (t : ℕ) → has member_symmetries t ≡ (has canonicalizing t && has transversal t)) where
  pub both_carry : (t : ℕ) → has member_symmetries t ≡ (ltb t board.symmetries && gives_unmove board p mover t)
  both_carry t =
      common t
      ∙ ap₂ (λ a b. a && b) (set_classes t) (returns t)
      ∙ both_and (ltb t board.symmetries) (is_canonicalizing board mover t) (eqb (symmetry_of board (image_of (board.image t) p.own)) (inverse_of t))

module _ (board : Shape) (p : Sides) (mover member_symmetries : ℕ) (carry : (t : ℕ) → has member_symmetries t ≡ (ltb t board.symmetries && gives_unmove board p mover t)) where
  pub carrying_members : board.symmetries ≤ 32 → members member_symmetries ≡ filter (gives_unmove board p mover) (range_with_len 0 board.symmetries)
  carrying_members most = members-listed (gives_unmove board p mover) member_symmetries board.symmetries most carry

  pub one_carries : (t : ℕ) → has member_symmetries t ≡ true → (t < board.symmetries) × (gives_unmove board p mover t ≡ true)
  one_carries t inside =
      let both = and_parts (ltb t board.symmetries) (gives_unmove board p mover t) (sym (carry t) ∙ inside) in
      (ltb-true t board.symmetries both.0, both.1)

-- ---- the image of a position under a canonicalizing symmetry

-- the rank of the other player's stones in it
abbrev pub carried_rank : Shape → Sides → ℕ → ℕ
carried_rank board q t = rank_of (map (number_outside (representative_of board q.own)) (members (image_of (board.image t) q.other)))

-- what its entry is found from: the images of these stones, outside the representative on which the
-- player to move stands
pub record IsCarried (board : Shape) (n : ℕ) (q : Sides) (t : ℕ) : Type 0 where
  pub own : image_of (board.image t) q.own ≡ representative_of board q.own
  pub within : image_of (board.image t) q.other < 2 ^ 24
  pub counted : count_of (image_of (board.image t) q.other) ≡ count_of q.other
  pub most : count_of (image_of (board.image t) q.other) ≤ 9
  pub apart : (p : ℕ) → has (image_of (board.image t) q.other) p ≡ true → has (representative_of board q.own) p ≡ false
  pub entry : (c : Counts) → class_start_of board n c q.own (count_of q.other) + carried_rank board q t ≡ class_index_of board n c (image_sides (board.image t) q)

module _ (board : Shape) (n : ℕ) (few : n ≤ 24) (points : board.points ≡ n) (y : HasSymmetries board) where
  low : board.points ≤ 24
  low = omega arith

  on_board : (set : ℕ) → set < 2 ^ n → set < 2 ^ board.points
  on_board set h = subst (λ k. set < 2 ^ k) (sym points) h

  off_board : (set : ℕ) → set < 2 ^ board.points → set < 2 ^ n
  off_board set h = subst (λ k. set < 2 ^ k) points h

  module _ (q : Sides) (h : IsPlaced n q) (most : count_of q.other ≤ 9) (t : ℕ) (t_low : t < board.symmetries) (set_classes : is_canonicalizing board q.own t ≡ true) where
    abbrev unmoved : Sides
    unmoved = image_sides (board.image t) q

    one : IsOneToOne board.points (board.image t) (board.image (inverse_of t))
    one = one_to_one board _ _ (y.symmetry t t_low)

    carried_apart : IsApart board unmoved
    carried_apart =
        IsApart-image board low _ _ one q
        (record { own_within = on_board q.own h.own_within; other_within = on_board q.other h.other_within; apart = h.apart })

    carried_placed : IsPlaced n unmoved
    carried_placed = record {
      own_within = off_board unmoved.own carried_apart.own_within;
      other_within = off_board unmoved.other carried_apart.other_within;
      apart = carried_apart.apart;
    }

    carried_own : unmoved.own ≡ representative_of board q.own
    carried_own = canonical_least board q.own t t_low set_classes

    own_same : count_of unmoved.own ≡ count_of q.own
    own_same = count_of-image board.points low _ _ one q.own (on_board q.own h.own_within)

    other_same : count_of unmoved.other ≡ count_of q.other
    other_same = count_of-image board.points low _ _ one q.other (on_board q.other h.other_within)

    itself : canonical_form board unmoved ≡ unmoved
    itself =
        canonical_itself board n few points y unmoved.own unmoved.other carried_placed.own_within carried_placed.other_within
        (ap (representative_of board) carried_own ∙ representative_twice board low y q.own (on_board q.own h.own_within) ∙ sym carried_own)

    same_class : class_of board unmoved.own ≡ class_of board q.own
    same_class = ap (class_of board) carried_own ∙ class_of-representative board low y q.own (on_board q.own h.own_within)

    same_start : (c : Counts) → class_start_of board n c unmoved.own (count_of unmoved.other) ≡ class_start_of board n c q.own (count_of q.other)
    same_start c = rw (own_same, other_same, same_class) refl

    rank_same : rank_of (map (number_outside (canonical_form board unmoved).own) (members (canonical_form board unmoved).other)) ≡ carried_rank board q t
    rank_same =
        ap (λ (s : Sides). rank_of (map (number_outside s.own) (members s.other))) itself
        ∙ ap (λ o. rank_of (map (number_outside o) (members unmoved.other))) carried_own

    pub is_carried : IsCarried board n q t
    is_carried = record {
      own = carried_own;
      within = within_24 unmoved.other n carried_placed.other_within few;
      counted = other_same;
      most = omega (arith, other_same);
      apart = λ p here. ap (λ o. has o p) (sym carried_own) ∙ other_apart n (omega arith) unmoved carried_placed p here;
      entry = λ c. sym (entry-parts board n few points y c unmoved ∙ ap₂ (λ a b. a + b) (same_start c) rank_same);
    }

  -- ---- the predecessor by a quiet un-move

  module _ (q : InPair) (transversal : ℕ) (k : HasTransversal board q transversal) (u v : ℕ) (u_in : u < n)
      (vacant : not (has q.position.own u || has q.position.other u) ≡ true) (here : has q.position.other v ≡ true) where
    abbrev s : Sides
    s = q.position

    abbrev before : Sides
    before = unmove_sides s u v

    own_most : count_of s.own ≤ 9
    own_most = (own_count s k.lawful.sized).1

    other_most : count_of s.other ≤ 9
    other_most = (other_count s k.lawful.sized).1

    pub before_here : IsPlaced n before
    before_here =
        before_placed n few q.pair s (placed board n s points k.lawful) own_most other_most u v u_in (vacant_own _ _ vacant) (vacant_other _ _ vacant) here

    pub mover_count : count_of before.own ≡ count_of s.other
    mover_count =
        before_count n few q.pair s (placed board n s points k.lawful) own_most other_most u v u_in (vacant_own _ _ vacant) (vacant_other _ _ vacant) here

    module _ (canonicalizing member_symmetries : ℕ) (set_classes : AreCanonicalizing board before.own canonicalizing) (common : (t : ℕ) → has member_symmetries t ≡ (has canonicalizing t && has transversal t)) where
      carrying_is : (t : ℕ) → has member_symmetries t ≡ (ltb t board.symmetries && gives_unmove board s before.own t)
      carrying_is = both_carry board s before.own canonicalizing transversal member_symmetries set_classes k.returns common

      -- the symmetries that give un-moves
      pub members_are : board.symmetries ≤ 32 → members member_symmetries ≡ filter (gives_unmove board s before.own) (range_with_len 0 board.symmetries)
      members_are = carrying_members board s before.own member_symmetries carrying_is

      -- one of them, and what it makes of the predecessor
      pub carried_before : (t : ℕ) → has member_symmetries t ≡ true
          → (t < board.symmetries) × IsCarried board n before t
      carried_before t inside =
          let both = one_carries board s before.own member_symmetries carrying_is t inside in
          (both.0, is_carried before before_here own_most t both.0 (and_parts _ _ both.1).0)
