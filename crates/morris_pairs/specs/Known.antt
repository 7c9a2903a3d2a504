-- What is known of the positions that the captures of a pair lead to, and what codes of 16 bits
-- can't state of a pair.
use Rattle.std.specs.Prelude.{◌≡◌, ℕ, ◌≤◌, ◌⊎◌, true}
use Rattle.std.specs.List.{Contains}
use Rattle.morris_board.specs.Boards.{Shape}
use Rattle.morris_board.specs.Positions.{Sides, IsPosition}
use Rattle.morris_moves.specs.declared.game_move.Move.{Move}
use Rattle.morris_moves.specs.Rules.{moves_of, result_of}
use Rattle.morris_moves.specs.Values.{IsLostIn}
use Rattle.morris_index.specs.Pairs.{Counts, is_of}
use Rattle.morris_pairs.specs.Codes.{IsCodeOf}
use Rattle.morris_pairs.specs.PairNets.{is_capture}

-- the position's value has a code of 16 bits, so that its depth is at most 65,534 where it isn't a
-- draw
abbrev pub HasSmallCode : Shape → Sides → Type 0
HasSmallCode board s = (code : ℕ) × (code ≤ 65535) × IsCodeOf board s code

-- each position of the pair has such a code: what a table of the pair says
abbrev pub IsTabled : Shape → Counts → Type 0
IsTabled board c = (s : Sides) → IsPosition board s → is_of c s ≡ true → HasSmallCode board s

-- each capture from a position of the pair leads to a position with such a code: what the pair's
-- values rest on
abbrev pub IsKnown : Shape → Counts → Type 0
IsKnown board c =
    (s : Sides) → IsPosition board s → is_of c s ≡ true
    → (m : Move) → Contains (moves_of board s) m → is_capture m ≡ true → HasSmallCode board (result_of s m)

-- the position is won or lost, in 65,534 plies or more
abbrev pub HasGreatCode : Shape → Sides → Type 0
HasGreatCode board s = (code : ℕ) × (65535 ≤ code) × IsCodeOf board s code

-- some capture leads to a position that is lost in 65,534 plies, and none to one that is lost in
-- fewer
pub record WinsLateByCapture (board : Shape) (s : Sides) : Type 0 where
  pub late : (m : Move) × Contains (moves_of board s) m × (is_capture m ≡ true) × IsLostIn board (result_of s m) 65534
  pub none_before : (m : Move) (depth : ℕ) → Contains (moves_of board s) m → is_capture m ≡ true
      → IsLostIn board (result_of s m) depth → 65534 ≤ depth

-- Codes of 16 bits don't suffice for the pair: some position of it is won or lost in 65,534 plies
-- or more, or is won by a capture after which the opponent is lost in 65,534 and by none after
-- which it is lost in fewer.
abbrev pub IsBeyondCodes : Shape → Counts → Type 0
IsBeyondCodes board c = (s : Sides) × IsPosition board s × (is_of c s ≡ true) × (HasGreatCode board s ⊎ WinsLateByCapture board s)
