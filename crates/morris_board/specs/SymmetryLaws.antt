-- The symmetries of the two boards, each by tests that are computed over the whole board, and by
-- lemmas that turn a test into the law at each point, edge and mill.
use Rattle.std.proofs.Common.{◌≡◌, ℕ, zero, suc, ◌+◌, ◌-◌, ◌*◌, ◌/◌, ◌%◌, ◌<◌, ◌≤◌, Bool, true, false, ◌&&◌, ◌||◌, cond, eqb, ltb, List, [], ◌∷◌, refl, sym, ◌∙◌, ap, ap₂, subst, inl, inr, arith}
use Rattle.std.proofs.lemmas.Bool.{cases_eq, eqb-true, ltb-true, and_parts, or_cases, both_ways}
use Rattle.std.specs.List.{range_with_len, list_any, list_all, Contains}
use Rattle.std.proofs.lemmas.Map.Views.{Contains-from_any}
use Rattle.std.proofs.lemmas.List.Elements.{All-contains}
use Rattle.std.proofs.lemmas.List.Sums.{AllPass-from_list_all}
use Rattle.morris_board.specs.Sets.{has, members, set_of, with_point}
use Rattle.morris_board.specs.Boards.{Shape, is_adjacent, mills_of, grid, nine, grid_image, nine_image}
use Rattle.morris_board.specs.Symmetries.{image_of, HasSymmetries, inverse_of}

-- ---- tests over ranges, edges and mills

-- what a test says of each number of a range
each_of : (test : ℕ → Bool) (a n : ℕ) → list_all test (range_with_len a n) ≡ true → (k : ℕ) → a ≤ k → k < a + n → test k ≡ true
each_of test a zero all k low high = absurd (omega arith)
each_of test a (suc n) all k low high = elim (cases_eq k a) [
  | inl e ↦ rw e (and_parts _ _ all).0
  | inr ne ↦ each_of test (a + 1) n (and_parts _ _ all).1 k (omega arith) (omega arith)
]

pub below : (test : ℕ → Bool) (n : ℕ) → list_all test (range_with_len 0 n) ≡ true → (k : ℕ) → k < n → test k ≡ true
below test n all k low = each_of test 0 n all k (omega arith) (omega arith)

-- of each element of a list
element : {X : Type 0} (test : X → Bool) (xs : List X) → list_all test xs ≡ true → (x : X) → Contains xs x → test x ≡ true
element test xs all x here = All-contains (λ y. test y ≡ true) xs x (AllPass-from_list_all test xs all) here

-- two tests are the same where each gives true where the other does
same_test : (a b : Bool) → (a ≡ true → b ≡ true) → (b ≡ true → a ≡ true) → a ≡ b
same_test true b f g = sym (f refl)
same_test false true f g = g refl
same_test false false f g = refl

-- ---- edges

swapped : (x y : Bool) → (x || y) ≡ (y || x)
swapped true true = refl
swapped true false = refl
swapped false true = refl
swapped false false = refl

-- whether an edge joins p and q
abbrev joins : ℕ → ℕ → ℕ × ℕ → Bool
joins p q e = (eqb e.0 p && eqb e.1 q) || (eqb e.0 q && eqb e.1 p)

either_way : (p q : ℕ) (es : List (ℕ × ℕ)) → list_any (joins p q) es ≡ list_any (joins q p) es
either_way p q [] = refl
either_way p q (e ∷ es) = rw (swapped (eqb e.0 p && eqb e.1 q) (eqb e.0 q && eqb e.1 p), either_way p q es) refl

-- whether the image of each edge is an edge
abbrev preserves_edges : Shape → (ℕ → ℕ) → Bool
preserves_edges board f = list_all (λ e. is_adjacent board (f e.0) (f e.1)) board.edges

module _ (board : Shape) (f : ℕ → ℕ) where
  other_way : (p q : ℕ) → is_adjacent board p q ≡ is_adjacent board q p
  unfolding is_adjacent
  other_way p q = either_way p q board.edges

  edge_image : (p q : ℕ) (es : List (ℕ × ℕ)) → list_all (λ e. is_adjacent board (f e.0) (f e.1)) es ≡ true → list_any (joins p q) es ≡ true
      → is_adjacent board (f p) (f q) ≡ true
  edge_image p q [] all some = absurd (both_ways false refl some)
  edge_image p q (e ∷ es) all some = elim (or_cases (joins p q e) (list_any (joins p q) es) some) [
    | inl here ↦ elim (or_cases (eqb e.0 p && eqb e.1 q) (eqb e.0 q && eqb e.1 p) here) [
      | inl same ↦
          let parts = and_parts _ _ same in
          subst (λ x. is_adjacent board (f x) (f q) ≡ true) (eqb-true e.0 p parts.0)
          (subst (λ y. is_adjacent board (f e.0) (f y) ≡ true) (eqb-true e.1 q parts.1) (and_parts _ _ all).0)
      | inr crossed ↦
          let parts = and_parts _ _ crossed in
          subst (λ x. is_adjacent board (f x) (f q) ≡ true) (eqb-true e.1 p parts.1)
          (subst (λ y. is_adjacent board (f e.1) (f y) ≡ true) (eqb-true e.0 q parts.0) (other_way (f e.1) (f e.0) ∙ (and_parts _ _ all).0))
    ]
    | inr later ↦ edge_image p q es (and_parts _ _ all).1 later
  ]

  any_edge : (p q : ℕ) → is_adjacent board p q ≡ true → list_any (joins p q) board.edges ≡ true
  unfolding is_adjacent
  any_edge p q h = h

  adjacent_image : preserves_edges board f ≡ true → (p q : ℕ) → is_adjacent board p q ≡ true → is_adjacent board (f p) (f q) ≡ true
  adjacent_image preserves p q h = edge_image p q board.edges preserves (any_edge p q h)

-- ---- mills

-- whether the image of each mill is a mill
abbrev preserves_mills : Shape → (ℕ → ℕ) → Bool
preserves_mills board f = list_all (λ m. list_any (eqb (image_of f m)) (mills_of board)) (mills_of board)

mill_image : (board : Shape) (f : ℕ → ℕ) → preserves_mills board f ≡ true → (m : ℕ) → Contains (mills_of board) m → Contains (mills_of board) (image_of f m)
mill_image board f preserves m here =
    Contains-from_any {eq = eqb} eqb-true (image_of f m) (mills_of board) (element (λ x. list_any (eqb (image_of f x)) (mills_of board)) (mills_of board) preserves m here)

-- ---- all symmetries of a board

-- whether a map takes each of n points to one of them, from which the other map takes it back
abbrev leads_back : ℕ → (ℕ → ℕ) → (ℕ → ℕ) → Bool
leads_back n f back = list_all (λ p. ltb (f p) n && eqb (back (f p)) p) (range_with_len 0 n)

abbrev all_symmetries : Shape → (ℕ → Bool) → Bool
all_symmetries board test = list_all test (range_with_len 0 board.symmetries)

-- Symmetry t and then symmetry s: it mirrors where just one of them does, and the turn of t counts
-- the other way round where s mirrors. The rings are exchanged where just one of them exchanges
-- them.
abbrev composite : ℕ → ℕ → ℕ
composite s t =
    ((s % 4) + cond (eqb ((s / 4) % 2) 1) (4 - t % 4) (t % 4)) % 4 + 4 * ((s / 4 + t / 4) % 2) + 8 * ((s / 8 + t / 8) % 2)

-- the tests of a board
record Tests (board : Shape) : Type 0 where
  back : all_symmetries board (λ s. leads_back board.points (board.image s) (board.image (inverse_of s))) ≡ true
  edges : all_symmetries board (λ s. preserves_edges board (board.image s)) ≡ true
  mills : all_symmetries board (λ s. preserves_mills board (board.image s)) ≡ true
  inverses : all_symmetries board (λ s. ltb (inverse_of s) board.symmetries && eqb (inverse_of (inverse_of s)) s) ≡ true
  same : list_all (λ p. eqb (board.image 0 p) p) (range_with_len 0 board.points) ≡ true
  composed : all_symmetries board (λ s. all_symmetries board (λ t. ltb (composite s t) board.symmetries
      && list_all (λ p. eqb (board.image (composite s t) p) (board.image s (board.image t p))) (range_with_len 0 board.points))) ≡ true

module _ (board : Shape) (tests : Tests board) (some : 0 < board.symmetries) where
  inverse_is : (s : ℕ) → s < board.symmetries → (inverse_of s < board.symmetries) × (inverse_of (inverse_of s) ≡ s)
  inverse_is s low =
      let parts = and_parts _ _ (below _ board.symmetries tests.inverses s low) in
      (ltb-true _ _ parts.0, eqb-true _ _ parts.1)

  back_is : (s p : ℕ) → s < board.symmetries → p < board.points → (board.image s p < board.points) × (board.image (inverse_of s) (board.image s p) ≡ p)
  back_is s p low here =
      let parts = and_parts _ _ (below _ board.points (below _ board.symmetries tests.back s low) p here) in
      (ltb-true _ _ parts.0, eqb-true _ _ parts.1)

  there_is : (s p : ℕ) → s < board.symmetries → p < board.points → board.image s (board.image (inverse_of s) p) ≡ p
  there_is s p low here =
      ap (λ t. board.image t (board.image (inverse_of s) p)) (sym (inverse_is s low).1) ∙ (back_is (inverse_of s) p (inverse_is s low).0 here).1

  adjacent_is : (s p q : ℕ) → s < board.symmetries → p < board.points → q < board.points
      → is_adjacent board (board.image s p) (board.image s q) ≡ is_adjacent board p q
  adjacent_is s p q low here there = same_test _ _
      (λ h.
      ap₂ (is_adjacent board) (sym (back_is s p low here).1) (sym (back_is s q low there).1)
      ∙ adjacent_image board (board.image (inverse_of s)) (below _ board.symmetries tests.edges (inverse_of s) (inverse_is s low).0) _ _ h)
      (adjacent_image board (board.image s) (below _ board.symmetries tests.edges s low) p q)

  symmetries_of : HasSymmetries board
  symmetries_of = record {
    symmetry = λ s low. record {
      within = λ p here. (back_is s p low here).0;
      back_within = λ p here. (back_is (inverse_of s) p (inverse_is s low).0 here).0;
      undone = λ p here. (back_is s p low here).1;
      redone = λ p here. there_is s p low here;
      adjacent = λ p q here there. adjacent_is s p q low here there;
      mills = mill_image board (board.image s) (below _ board.symmetries tests.mills s low);
      back_mills = mill_image board (board.image (inverse_of s)) (below _ board.symmetries tests.mills (inverse_of s) (inverse_is s low).0);
    };
    inverse_within = λ s low. (inverse_is s low).0;
    inverse_twice = λ s low. (inverse_is s low).1;
    some = some;
    identity = λ p here. eqb-true _ _ (below _ board.points tests.same p here);
    closed = λ s t low high.
        let parts = and_parts _ _ (below _ board.symmetries (below _ board.symmetries tests.composed s low) t high) in (
          composite s t,
          record {
            within = ltb-true _ _ parts.0;
            same = λ p here. eqb-true _ _ (below _ board.points parts.1 p here);
          },
        );
  }

-- ---- the two boards

grid_tests : Tests grid
unfolding grid grid_image is_adjacent mills_of image_of members has set_of with_point inverse_of
grid_tests = record { back = refl; edges = refl; mills = refl; inverses = refl; same = refl; composed = refl }

pub symmetries-grid : HasSymmetries grid
unfolding grid
symmetries-grid = symmetries_of grid grid_tests (omega arith)

nine_tests : Tests nine
unfolding nine nine_image is_adjacent mills_of image_of members has set_of with_point inverse_of
nine_tests = record { back = refl; edges = refl; mills = refl; inverses = refl; same = refl; composed = refl }

pub symmetries-nine : HasSymmetries nine
unfolding nine
symmetries-nine = symmetries_of nine nine_tests (omega arith)

pub symmetry_count-grid : grid.symmetries ≡ 8
unfolding grid
symmetry_count-grid = refl

pub symmetry_count-nine : nine.symmetries ≡ 16
unfolding nine
symmetry_count-nine = refl
