-- The value of a position: lost, won or drawn, and in how many plies, looking forward over the
-- legal moves.
use Rattle.std.specs.Prelude.{◌≡◌, ℕ, zero, suc, ◌<◌, ◌≤◌, Bool, true, false}
use Rattle.std.specs.List.{list_any, list_all}
use Rattle.morris_board.specs.Boards.{Shape}
use Rattle.morris_board.specs.Positions.{Sides}
use Rattle.morris_moves.specs.Rules.{moves_of, result_of}
use Rattle.morris_moves.specs.declared.within.Within.{Within}
use Rattle.morris_moves.specs.declared.within.Within.TheVariants.{Lost, Won, Unknown}

-- The player to move has lost within n plies: there is no legal move, or n > 0 and the result of
-- every legal move is won within n - 1. The player to move has won within n plies: n > 0 and the
-- result of some legal move is lost within n - 1.
unfoldable mutual
  pub is_lost : ℕ → Shape → Sides → Bool
  is_lost zero board s = list_all (λ m. false) (moves_of board s)
  is_lost (suc n) board s = list_all (λ m. is_won n board (result_of s m)) (moves_of board s)

  pub is_won : ℕ → Shape → Sides → Bool
  is_won zero board s = false
  is_won (suc n) board s = list_any (λ m. is_lost n board (result_of s m)) (moves_of board s)

-- neither lost nor won within n plies
pub record IsOpen (board : Shape) (s : Sides) (n : ℕ) : Type 0 where
  pub not_lost : is_lost n board s ≡ false
  pub not_won : is_won n board s ≡ false

-- lost in d plies: within d, and within no fewer; the depth is d
pub record IsLostIn (board : Shape) (s : Sides) (d : ℕ) : Type 0 where
  pub lost : is_lost d board s ≡ true
  pub least : (n : ℕ) → n < d → IsOpen board s n

-- won in d plies: within d, and within no fewer; the depth is d
pub record IsWonIn (board : Shape) (s : Sides) (d : ℕ) : Type 0 where
  pub won : is_won d board s ≡ true
  pub least : (n : ℕ) → n < d → IsOpen board s n

-- a draw: neither lost nor won within any number of plies
pub record IsDraw (board : Shape) (s : Sides) : Type 0 where
  pub never : (n : ℕ) → IsOpen board s n

-- what a search to n plies answers: the value where its depth is at most n, and otherwise that it
-- is open within n
abbrev pub AnswersWithin : Shape → Sides → ℕ → Within → Type 0
AnswersWithin board s n (Lost d) = (d ≤ n) × IsLostIn board s d
AnswersWithin board s n (Won d) = (d ≤ n) × IsWonIn board s d
AnswersWithin board s n Unknown = (k : ℕ) → k ≤ n → IsOpen board s k
