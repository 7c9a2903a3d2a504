-- The entries of a pair by classes in which the two players have given numbers of stones.
use Rattle.std.specs.Prelude.{◌≡◌, ℕ, ◌-◌, ◌^◌, ◌<◌, ◌≤◌, nat_eq, true, List, if◌then◌else◌}
use Rattle.morris_board.specs.Boards.{Shape}
use Rattle.morris_index.specs.Binomials.{choose}
use Rattle.morris_index.specs.Unmoves.{AreTransversals}
use Rattle.morris_index.specs.Classes.{class_count}
use Rattle.morris_index.specs.ClassPairs.{class_half_size}
use Rattle.morris_index.specs.Pairs.{Counts, IsPair}
use Rattle.morris_index.specs.Standings.{are_of}

-- the entries of a pair in which the player to move has `own` stones, and the opponent `other`
pub record HalfOf : Type 0 where
  pub pair : Counts
  pub own : ℕ
  pub other : ℕ

abbrev pub half_of : Counts → ℕ → ℕ → HalfOf
half_of c own other = record { pair = c; own = own; other = other }

-- The tables for them, on n points: the number of points of the sets that have their classes there
-- and of those that the rows rank, the first of the entries, and for a class how many sets of the
-- opponent's stones there are outside the representative.
pub record IsHalfTable (board : Shape) (n : ℕ) (h : HalfOf) (sets ranked start each : ℕ) : Type 0 where
  pub pair : IsPair n h.pair
  pub counts : are_of h.pair h.own h.other ≡ true
  pub classes : sets ≡ h.own
  pub rows : ranked ≡ h.own
  pub first : start ≡ (if nat_eq h.own h.pair.greater then 0 else class_half_size board n h.pair.greater h.pair.lesser)
  pub few : start ≤ 2 ^ 39
  pub choices : each ≡ choose (n - h.own) h.other
  pub choices_few : each < 2 ^ 21

-- The tables, on n points, for the sets of `own` points of a pair whose other number is `other`:
-- the number of points of the sets that have their classes there; the transversals of the
-- representatives; and of the list of the sets of `other` points that one of these leaves room for,
-- of how many points they are taken, how many each has, and how many they are.
pub record AreCountTables (board : Shape) (n own other sets : ℕ) (transversal : List ℕ) (points count each : ℕ) : Type 0 where
  pub classes : sets ≡ own
  pub returns : AreTransversals board n own (class_count board own) transversal
  pub left_free : points ≡ n - own
  pub others : count ≡ other
  pub choices : each ≡ choose (n - own) other
  pub choices_few : each < 2 ^ 21
