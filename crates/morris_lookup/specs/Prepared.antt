-- Prepared words: the representatives of the classes of sets of 3 to 9 points, and the class words
-- of sets of 3 to 6 points, as one list of numbers of 32 bits.
use Rattle.std.specs.Prelude.{◌≡◌, ◌≢◌, ℕ, zero, suc, ◌+◌, ◌-◌, ◌*◌, ◌^◌, ◌<◌, ◌≤◌, Bool, ◌&&◌, nat_eq, nat_lt, nat_le, List, length, slice_index, take, drop, if◌then◌else◌}
use Rattle.morris_board.specs.Boards.{Shape}
use Rattle.morris_board.specs.Sets.{members, count_of}
use Rattle.morris_index.specs.Binomials.{choose}
use Rattle.morris_index.specs.Numbering.{rank_of}
use Rattle.morris_index.specs.Classes.{class_of, symmetry_of, representative_of}
use Rattle.morris_lookup.specs.Representatives.{representatives_of}

-- the class word of a set: its class and the least symmetry that brings it to canonical form, which
-- is below 16, in one number
unfoldable pub class_word_of : Shape → ℕ → ℕ
class_word_of board set = 16 * class_of board set + symmetry_of board set

-- The words have eleven sections. The first seven have the representatives of sets of 3, 4, .. 9
-- points, in ascending order of their masks; the last four have the class words of the sets of 3,
-- 4, 5 and 6 points. So many each has.
unfoldable pub section_size : Shape → ℕ → ℕ
section_size board k = if nat_lt k 7 then length (representatives_of board (3 + k)) else choose board.points (k - 4)

-- where section k begins: 13 words stand before all of them
unfoldable pub start_of : Shape → ℕ → ℕ
start_of board zero = 13
start_of board (suc k) = start_of board k + section_size board k

-- how many prepared words there are
abbrev pub prepared_count : Shape → ℕ
prepared_count board = start_of board 11

-- the first word: the letters MWC, and the number of the board
abbrev pub first_word : Shape → ℕ
first_word board = 0x4D574300 + board.id

-- Of prepared words the first one is that, and the next twelve say where the sections begin, and
-- where the last one ends. What follows after it doesn't matter.
pub record IsPrepared (board : Shape) (words : List ℕ) : Type 0 where
  pub first : slice_index words 0 ≡ first_word board
  pub starts : (k : ℕ) → k < 12 → slice_index words (1 + k) ≡ start_of board k
  pub whole : prepared_count board ≤ length words
  pub listed : (k i : ℕ) → k < 7 → i < length (representatives_of board (3 + k))
      → slice_index words (start_of board k + i) ≡ slice_index (representatives_of board (3 + k)) i
  pub canonical_form : (k set : ℕ) → k < 4 → set < 2 ^ board.points → count_of set ≡ 3 + k
      → slice_index words (start_of board (7 + k) + rank_of (members set)) ≡ class_word_of board set

-- What is tested of words where they are used: they begin with the first word of the board, and
-- there are as many as the thirteenth of them says, or more.
abbrev pub looks_prepared : Shape → List ℕ → Bool
looks_prepared board words =
    nat_le 13 (length words) && (nat_eq (slice_index words 0) (first_word board) && nat_le (slice_index words 12) (length words))

-- ---- parts of a call

-- what stands in section k, by the words that say where it and the next one begin
abbrev pub section_at : List ℕ → ℕ → List ℕ
section_at words k = take (slice_index words (k + 2) - slice_index words (k + 1)) (drop (slice_index words (k + 1)) words)

-- the sections before section k are filled, and it begins at `end`
pub record IsPreparedTo (board : Shape) (k end : ℕ) (words : List ℕ) : Type 0 where
  pub ends : end ≡ start_of board k
  pub first : slice_index words 0 ≡ first_word board
  pub starts : (j : ℕ) → j ≤ k → slice_index words (1 + j) ≡ start_of board j
  pub within : end ≤ length words
  pub listed : (j i : ℕ) → j < k → j < 7 → i < length (representatives_of board (3 + j))
      → slice_index words (start_of board j + i) ≡ slice_index (representatives_of board (3 + j)) i
  pub canonical_form : (j set : ℕ) → 7 + j < k → set < 2 ^ board.points → count_of set ≡ 3 + j
      → slice_index words (start_of board (7 + j) + rank_of (members set)) ≡ class_word_of board set

-- each set of `count` points has its class word, at its rank from `start` on
abbrev pub HaveClassWords : Shape → ℕ → ℕ → List ℕ → Type 0
HaveClassWords board count start words = (set : ℕ) → set < 2 ^ board.points → count_of set ≡ count
    → slice_index words (start + rank_of (members set)) ≡ class_word_of board set

-- each set with this representative has a class word with this class
abbrev pub HaveClassWord : Shape → ℕ → ℕ → ℕ → List ℕ → Type 0
HaveClassWord board start class representative words = (set : ℕ) → set < 2 ^ board.points → representative_of board set ≡ representative
    → slice_index words (start + rank_of (members set)) ≡ 16 * class + symmetry_of board set

-- the words of the sets of `count` points with another representative are the old ones
abbrev pub OthersStay : Shape → ℕ → ℕ → ℕ → List ℕ → List ℕ → Type 0
OthersStay board count start representative words old = (set : ℕ) → set < 2 ^ board.points → count_of set ≡ count
    → representative_of board set ≢ representative
    → slice_index words (start + rank_of (members set)) ≡ slice_index old (start + rank_of (members set))

-- so are those before a place
abbrev pub StayBefore : ℕ → List ℕ → List ℕ → Type 0
StayBefore place words old = (i : ℕ) → i < place → slice_index words i ≡ slice_index old i

-- Where there are words at all, they are the class words of the sets of `count` points, each at the
-- rank of its set.
abbrev pub AreClassWords : Shape → ℕ → List ℕ → Type 0
AreClassWords board count class_words = 0 < length class_words → (choose board.points count ≤ length class_words) × HaveClassWords board count 0 class_words
