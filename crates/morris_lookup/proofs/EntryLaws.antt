-- Laws of the entries by classes, where the representatives are listed.
use Rattle.std.proofs.Common.{◌≡◌, ◌≢◌, ℕ, ◌+◌, ◌^◌, ◌<◌, ◌≤◌, true, List, length, refl, ap, inl, inr, arith}
use Rattle.morris_board.specs.Boards.{Shape}
use Rattle.morris_board.specs.Sets.{count_of}
use Rattle.morris_board.specs.Positions.{Sides, IsPosition}
use Rattle.morris_index.specs.Binomials.{choose}
use Rattle.morris_index.specs.Numbering.{count_below}
use Rattle.morris_index.specs.Classes.{class_count, classes_below}
use Rattle.morris_index.specs.Pairs.{Counts, is_of}
use Rattle.morris_index.proofs.IndexLaws.{placed, counts_fit, halves_of}
use Rattle.morris_index.proofs.ClassCounts.{class_count-few}
use Rattle.morris_pairs.specs.declared.layout.Layout.{Layout}
use Rattle.morris_pairs.specs.declared.layout.Layout.TheVariants.{Full, Classes}
use Rattle.morris_lookup.specs.Representatives.{representatives_of}
use Rattle.morris_lookup.specs.Numberings.{AreListsFor}
use Rattle.morris_lookup.proofs.ListLaws.{representatives-few}
use Rattle.morris_lookup.proofs.StretchLaws.{few_masks}

-- as many classes as representatives
pub class_count-is : (board : Shape) (count : ℕ) → class_count board count ≡ length (representatives_of board count)
unfolding class_count classes_below count_below representatives_of
class_count-is board count = refl

-- so no more than there are sets
pub representatives-le : (board : Shape) (n count : ℕ) → n ≤ 24 → board.points ≡ n → length (representatives_of board count) ≤ choose n count
representatives-le board n count few points = omega (arith, class_count-is board count, class_count-few board n count few points)

-- ---- the entry by classes

-- all stones have room on the board
pub stones_fit : (board : Shape) (n : ℕ) → n ≤ 24 → board.points ≡ n → (s : Sides) → IsPosition board s → count_of s.own + count_of s.other ≤ n
stones_fit board n few points s h = counts_fit n (omega arith) s (placed board n s points h)

pub own_is_lesser : (c : Counts) (s : Sides) → is_of c s ≡ true → count_of s.own ≢ c.greater → count_of s.own ≡ c.lesser
own_is_lesser c s of d = elim (halves_of c s of) [
  | inl a ↦ absurd (d a.0)
  | inr b ↦ b.1
]

-- ---- lists of representatives

-- they have fewer numbers than there are sets
pub serve_few : (board : Shape) → board.points ≤ 24 → (l : Layout) (c : Counts) (greater lesser greater_class_words lesser_class_words : List ℕ) → AreListsFor board l c greater lesser greater_class_words lesser_class_words
    → (length greater < 2 ^ 32) × (length lesser < 2 ^ 32)
serve_few board low Full c greater lesser greater_class_words lesser_class_words h =
    let none : length greater ≡ 0 = ap length h.0 in
    let nothing : length lesser ≡ 0 = ap length h.1 in
    (omega (arith, none), omega (arith, nothing))
serve_few board low Classes c greater lesser greater_class_words lesser_class_words h =
    let few : 2 ^ board.points ≤ 2 ^ 24 = few_masks board.points low in
    (omega (arith, ap length h.0, representatives-few board c.greater, few), omega (arith, ap length h.1, representatives-few board c.lesser, few))
