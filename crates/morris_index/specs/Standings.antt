-- The entries of positions of a pair with given stones of the player to move, found from the
-- opponent's stones alone.
use Rattle.std.specs.Prelude.{◌≡◌, ℕ, suc, ◌+◌, ◌-◌, ◌*◌, ◌^◌, ◌≤◌, Bool, true, ◌&&◌, ◌||◌, nat_eq}
use Rattle.morris_board.specs.Boards.{Shape}
use Rattle.morris_board.specs.Sets.{members, count_of}
use Rattle.morris_index.specs.Binomials.{choose}
use Rattle.morris_index.specs.Numbering.{rank_of, number_outside}
use Rattle.morris_index.specs.Pairs.{Counts, IsPair}
use Rattle.morris_index.specs.Moves.{InPair, start_of}
use Rattle.morris_index.specs.Classes.{symmetry_of, representative_of}
use Rattle.morris_index.specs.ClassMoves.{class_start_of}
use Rattle.morris_index.specs.Parts.{squeeze_below}
use Rattle.morris_index.specs.declared.standing.Standing.{Standing}

-- whether the pair has positions with so many stones of the player to move and of the opponent
abbrev pub are_of : Counts → ℕ → ℕ → Bool
are_of c own other = (nat_eq own c.greater && nat_eq other c.lesser) || (nat_eq own c.lesser && nat_eq other c.greater)

-- Where they stand, on n points, if the opponent has `other` stones and each position has an entry:
-- the first entry with these own stones, and these stones, outside which the opponent's are ranked.
pub record IsStanding (n : ℕ) (c : Counts) (other : ℕ) (standing : Standing) : Type 0 where
  pub pair : IsPair n c
  pub counts : are_of c (count_of standing.own) other ≡ true
  pub place : standing.place ≡ standing.own
  pub start : standing.start
      ≡ start_of n c (count_of standing.own) + rank_of (members standing.own) * choose (n - count_of standing.own) other

-- Where they stand if the entries are numbered by classes: the canonicalizing symmetry of the own
-- stones, their representative, outside which the images of the opponent's stones are ranked, how
-- many of the points below 8 and below 16 it leaves free, and the first entry with it.
pub record IsCanonicalStanding (board : Shape) (n : ℕ) (c : Counts) (other : ℕ) (standing : Standing) : Type 0 where
  pub counts : are_of c (count_of standing.own) other ≡ true
  pub symmetry : standing.symmetry ≡ symmetry_of board standing.own
  pub place : standing.place ≡ representative_of board standing.own
  pub second : standing.second ≡ number_outside standing.place 8
  pub third : standing.third ≡ number_outside standing.place 16
  pub start : standing.start ≡ class_start_of board n c standing.own other
  pub few : standing.start ≤ 2 ^ 54

-- What is kept of a position without one of the opponent's stones, in which the player to move
-- stands on a representative: where the entries stand of positions with one stone more, the numbers
-- of the opponent's stones among the points that the player to move leaves free, and how many
-- stones there are with that one.
pub record IsElsewhere (board : Shape) (n : ℕ) (at : InPair) (standing : Standing) (squeeze count : ℕ) : Type 0 where
  pub counted : count ≡ suc (count_of at.position.other)
  pub stands : IsCanonicalStanding board n at.pair count standing
  pub own : standing.own ≡ at.position.own
  pub least : representative_of board at.position.own ≡ at.position.own
  pub numbers : squeeze ≡ squeeze_below at.position.own at.position.other 24
