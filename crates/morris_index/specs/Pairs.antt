-- Pairs of numbers of stones, and the numbering of all positions of a pair.
use Rattle.std.specs.Prelude.{◌≡◌, ℕ, ◌+◌, ◌-◌, ◌≤◌, Bool, ◌&&◌, ◌||◌, nat_eq, nat_lt, nat_le, List, [], ◌∷◌, ◌++◌, map, filter, drop, Option, Some, None, is_some, Result, Ok, Err, decimal, if◌then◌else◌}
use Rattle.std.specs.List.{range_with_len, flat_map, Contains}
use Rattle.std.specs.Option.{option_to_list}
use Rattle.morris_board.specs.Sets.{count_of}
use Rattle.morris_board.specs.Positions.{Sides, is_between}
use Rattle.morris_index.specs.Numbering.{half_size, half_index}
use Rattle.morris_index.specs.declared.faults.PairFault.{PairFault}
use Rattle.morris_index.specs.declared.faults.PairFault.TheVariants as fault

-- the pair a-b stands for all positions with a own and b other stones, or the reverse
pub record Counts : Type 0 where
  pub greater : ℕ
  pub lesser : ℕ

abbrev pub counts : ℕ → ℕ → Counts
counts greater lesser = record { greater = greater; lesser = lesser }

-- a pair of a board of n points: 9 >= a >= b >= 3, and not more stones than points
pub record IsPair (n : ℕ) (c : Counts) : Type 0 where
  pub most : c.greater ≤ 9
  pub ordered : c.lesser ≤ c.greater
  pub least : 3 ≤ c.lesser
  pub fits : c.greater + c.lesser ≤ n

-- whether two numbers of stones are a pair of a board of n points
abbrev pub is_pair : ℕ → Counts → Bool
is_pair n c = nat_le c.greater 9 && (nat_le c.lesser c.greater && (nat_le 3 c.lesser && nat_le (c.greater + c.lesser) n))

-- the pair of two numbers of stones, given in either order
abbrev pub sort_counts : ℕ → ℕ → Counts
sort_counts a b = if nat_le b a then counts a b else counts b a

-- What two numbers of stones make on n points: a refusal where one of them isn't 3 to 9, then one
-- where there are more stones than points, and otherwise their pair.
abbrev pub make_pair : ℕ → ℕ → ℕ → Result Counts PairFault
make_pair n a b =
    if is_between 3 a 9 && is_between 3 b 9 then (if nat_le (a + b) n then Ok (sort_counts a b) else Err fault.Crowded) else Err fault.Counts

-- the pair that a position belongs to: none where the player to move has two stones
abbrev pub pair_of : Sides → Option Counts
pair_of s = if nat_eq (count_of s.own) 2 then None else Some (sort_counts (count_of s.own) (count_of s.other))

-- a pair is printed as its two numbers with a hyphen (45) between them
abbrev pub pair_text : Counts → List ℕ
pair_text c = decimal c.greater ++ 45 ∷ decimal c.lesser

-- numbers of stones of the two players that a pair may have, on n points
pub record IsHalf (n own other : ℕ) : Type 0 where
  pub own_least : 3 ≤ own
  pub own_most : own ≤ 9
  pub other_least : 3 ≤ other
  pub other_most : other ≤ 9
  pub fits : own + other ≤ n

-- whether a position has the pair's numbers of stones in the given order: the first number is the
-- player's to move
abbrev pub has_counts : ℕ → ℕ → Sides → Bool
has_counts a b s = nat_eq (count_of s.own) a && nat_eq (count_of s.other) b

-- whether a position is one of the pair
abbrev pub is_of : Counts → Sides → Bool
is_of c s = has_counts c.greater c.lesser s || has_counts c.lesser c.greater s

-- How many positions the pair has: with a = b one half, else the half (a, b) and then the half (b,
-- a).
unfoldable pub size_of : ℕ → Counts → ℕ
size_of n c =
    if nat_eq c.greater c.lesser then half_size n c.greater c.lesser
    else half_size n c.greater c.lesser + half_size n c.lesser c.greater

-- The index of a position in its pair: the positions with a own stones stand first, those with b
-- follow.
unfoldable pub index_of : ℕ → Counts → Sides → ℕ
index_of n c s = if nat_eq (count_of s.own) c.greater then half_index n s else half_size n c.greater c.lesser + half_index n s

-- the pairs that captures of a pair lead to: a-(b-1) where b > 3, and (a-1)-b where a > b
abbrev pub less_lesser : Counts → Option Counts
less_lesser c = if nat_lt 3 c.lesser then Some (counts c.greater (c.lesser - 1)) else None

abbrev pub less_greater : Counts → Option Counts
less_greater c = if nat_lt c.lesser c.greater then Some (counts (c.greater - 1) c.lesser) else None

-- the pairs that a pair needs, as a list
abbrev pub all_needs : Counts → List Counts
all_needs c = option_to_list (less_lesser c) ++ option_to_list (less_greater c)

-- the same two, those that there are first
abbrev pub needs_of : Counts → Option Counts × Option Counts
needs_of c = if is_some (less_lesser c) then (less_lesser c, less_greater c) else (less_greater c, None)

-- all pairs of numbers of stones, in order of their sum and then of the greater one
unfoldable pub all_pairs : List Counts
all_pairs =
    filter (λ c. nat_le 3 c.lesser && nat_le c.lesser c.greater)
    (flat_map (λ stones. map (λ greater. counts greater (stones - greater)) (range_with_len 3 7)) (range_with_len 6 13))

-- whether a pair c-d is below a pair a-b: c <= a and d <= b
abbrev pub is_below : Counts → Counts → Bool
is_below c d = nat_le d.greater c.greater && nat_le d.lesser c.lesser

-- the pairs below a pair, itself among them, in that order; and those of them that come after the
-- first `place` of all pairs
unfoldable pub below_of : Counts → List Counts
below_of c = filter (is_below c) all_pairs

unfoldable pub below_from : Counts → ℕ → List Counts
below_from c place = filter (is_below c) (drop place all_pairs)

-- whether x is the last of a list
abbrev pub EndsIn : List Counts → Counts → Type 0
EndsIn cs c = (front : List Counts) × (cs ≡ front ++ c ∷ [])

-- each pair of a list stands after all pairs that it needs
abbrev pub NeedsFirst : List Counts → Type 0
NeedsFirst cs = (before after : List Counts) (c need : Counts) → cs ≡ before ++ c ∷ after → Contains (all_needs c) need → Contains before need
