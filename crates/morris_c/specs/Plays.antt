-- What calls answer that need no tables, on one board: the legal moves of a position, and the
-- position after one of them.
use Rattle.std.specs.Prelude.{◌≡◌, ◌≢◌, ℕ, ℤ, pos, nat_eq, ◌<◌, ◌≤◌, List, length, take, map, Option, Some, None, if◌then◌else◌}
use Rattle.std.specs.List.{Contains}
use Rattle.morris_board.specs.Boards.{Shape}
use Rattle.morris_board.specs.Positions.{Sides, IsPosition}
use Rattle.morris_moves.specs.declared.game_move.Move.{Move}
use Rattle.morris_moves.specs.Rules.{move, moves_of, result_of}
use Rattle.morris_pairs.specs.declared.value.Value.TheVariants.{Draw}
use Rattle.morris_lookup.specs.declared.fault.MaskFault.{MaskFault}
use Rattle.morris_lookup.specs.declared.records.MoveRecord.{MoveRecord}
use Rattle.morris_lookup.specs.Masks.{IsMaskRefusal}
use Rattle.morris_lookup.specs.Records.{move_record}
use Rattle.morris_c.specs.Statuses.{mask_status}

-- the record of a legal move without tables: nothing is known of what it leads to, and its value is
-- that of a draw
abbrev pub bare_record : Move → MoveRecord
bare_record m = move_record m Draw

-- What listing the legal moves answers. Masks that aren't a position have the status of the fault,
-- and nothing is written. Where there is room for the moves, each is written once, in their order,
-- and how many there are, with status 0; where there is too little, it is 7, and nothing is
-- written.
pub record ListsLegalMoves (board : Shape) (s : Sides) (status : ℤ) (old new : List MoveRecord) (old_count new_count : ℕ) : Type 0 where
  pub refused : (fault : MaskFault) → IsMaskRefusal board s fault → (status ≡ pos (mask_status fault)) × (new ≡ old)
  pub room : IsPosition board s → length old < length (moves_of board s) → (status ≡ pos 7) × (new ≡ old)
  pub listed : IsPosition board s → length (moves_of board s) ≤ length old
      → (status ≡ pos 0) × (take new_count new ≡ map bare_record (moves_of board s))
  pub counted : status ≡ pos 0 → new_count ≡ length (moves_of board s)
  pub uncounted : status ≢ pos 0 → new_count ≡ old_count

-- the stone that a record's number says is taken: none where it is 255
unfoldable pub taken_by : ℕ → Option ℕ
taken_by number = if nat_eq number 255 then None else Some number

-- the move that a record names
abbrev pub move_named : MoveRecord → Move
move_named r = move r.from r.to (taken_by r.taken)

-- What playing a move answers. Masks that aren't a position have the status of the fault. Of a
-- position, a move that is none of the legal ones has status 19, and of each legal one the position
-- that it leads to is written, with status 0. With any other status nothing is written.
pub record PlaysMove (board : Shape) (s : Sides) (m : Move) (status : ℤ) (old new : Sides) : Type 0 where
  pub refused : (fault : MaskFault) → IsMaskRefusal board s fault → status ≡ pos (mask_status fault)
  pub illegal : IsPosition board s → (Contains (moves_of board s) m → ⊥) → status ≡ pos 19
  pub played : IsPosition board s → Contains (moves_of board s) m → (status ≡ pos 0) × (new ≡ result_of s m)
  pub unchanged : status ≢ pos 0 → new ≡ old
