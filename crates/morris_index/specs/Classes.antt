-- Classes of sets of points. The class of a set is the set of its images under the symmetries of
-- the board.
use Rattle.std.specs.Prelude.{◌≡◌, ℕ, ◌^◌, ◌<◌, ◌≤◌, Bool, true, ◌&&◌, nat_eq, nat_lt, nat_le, List, length, map, slice_index}
use Rattle.std.specs.List.{range_with_len, list_all, position_or_len}
use Rattle.morris_board.specs.Boards.{Shape}
use Rattle.morris_board.specs.Sets.{has, count_of}
use Rattle.morris_board.specs.Symmetries.{image_of}
use Rattle.morris_index.specs.Binomials.{choose}
use Rattle.morris_index.specs.Numbering.{count_below, IsRanked}
use Rattle.morris_index.specs.declared.classes.SetClass.{SetClass}

-- whether symmetry s takes a set to its image with the least mask
unfoldable pub is_canonicalizing : Shape → ℕ → ℕ → Bool
is_canonicalizing board set s =
    list_all (λ t. nat_le (image_of (board.image s) set) (image_of (board.image t) set)) (range_with_len 0 board.symmetries)

-- x has the canonicalizing symmetries of a set, those that take it there, and no other numbers
abbrev pub AreCanonicalizing : Shape → ℕ → ℕ → Type 0
AreCanonicalizing board set x = (s : ℕ) → has x s ≡ (nat_lt s board.symmetries && is_canonicalizing board set s)

-- the canonicalizing symmetry of a set: the least of them
unfoldable pub symmetry_of : Shape → ℕ → ℕ
symmetry_of board set = position_or_len (is_canonicalizing board set) (range_with_len 0 board.symmetries)

-- the representative of the set's class, its canonical form: the image with the least mask
unfoldable pub representative_of : Shape → ℕ → ℕ
representative_of board set = image_of (board.image (symmetry_of board set)) set

-- whether a set of `count` points is the representative of its class
unfoldable pub is_representative : Shape → ℕ → ℕ → Bool
is_representative board count set = nat_eq (representative_of board set) set && nat_eq (count_of set) count

-- The classes of sets of `count` points are numbered 0, 1, .. in ascending order of the masks of
-- their representatives: how many of these are below a mask.
unfoldable pub classes_below : Shape → ℕ → ℕ → ℕ
classes_below board count mask = count_below (is_representative board count) mask

-- the number of the class of a set
unfoldable pub class_of : Shape → ℕ → ℕ
class_of board set = classes_below board (count_of set) (representative_of board set)

-- how many classes of sets of `count` points there are
unfoldable pub class_count : Shape → ℕ → ℕ
class_count board count = classes_below board count (2 ^ board.points)

-- the classes and the canonicalizing symmetries of sets, each as a list
abbrev pub classes_in : List SetClass → List ℕ
classes_in set_classes = map (λ (set_class : SetClass). set_class.class) set_classes

abbrev pub canonicalizing_in : List SetClass → List ℕ
canonicalizing_in set_classes = map (λ (set_class : SetClass). set_class.canonicalizing) set_classes

-- The table of the sets of `count` points, on n points, whose rank is below `to`: at the rank of
-- each, its class and all its canonicalizing symmetries; and the representatives among them, in the
-- order of their classes.
pub record IsClassTable (board : Shape) (n count to : ℕ) (classes canonicalizing representatives : List ℕ) : Type 0 where
  pub classes_len : length classes ≡ to
  pub canonicalizing_len : length canonicalizing ≡ to
  pub few : length representatives ≤ to
  pub class : (rank set : ℕ) → rank < to → IsRanked n 0 count rank set → slice_index classes rank ≡ class_of board set
  pub set_classes : (rank set : ℕ) → rank < to → IsRanked n 0 count rank set → AreCanonicalizing board set (slice_index canonicalizing rank)
  pub listed : (k : ℕ) → k < length representatives
      → (is_representative board count (slice_index representatives k) ≡ true) × (slice_index representatives k < 2 ^ n)
      × (classes_below board count (slice_index representatives k) ≡ k)
  pub whole : (mask : ℕ) → mask ≤ 2 ^ n
      → ((rank set : ℕ) → IsRanked n 0 count rank set → set < mask → rank < to)
      → ((rank set : ℕ) → IsRanked n 0 count rank set → rank < to → set < mask)
      → classes_below board count mask ≡ length representatives

-- the same of all sets of `count` points
pub record IsClasses (board : Shape) (n count : ℕ) (classes canonicalizing representatives : List ℕ) : Type 0 where
  pub few : count ≤ 9
  pub fits : count ≤ n
  pub table : IsClassTable board n count (choose n count) classes canonicalizing representatives
