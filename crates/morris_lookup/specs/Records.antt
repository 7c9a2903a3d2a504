-- Values and moves as records of numbers.
use Rattle.std.specs.Prelude.{unwrap_or}
use Rattle.morris_moves.specs.declared.game_move.Move.{Move}
use Rattle.morris_pairs.specs.declared.value.Value.{Value}
use Rattle.morris_pairs.specs.declared.value.Value.TheVariants.{Draw, Won, Lost}
use Rattle.morris_lookup.specs.declared.records.ValueRecord.{ValueRecord}
use Rattle.morris_lookup.specs.declared.records.MoveRecord.{MoveRecord}

-- 0 for a draw, 1 for a win and 2 for a loss of the player to move; and in how many plies
abbrev pub value_record : Value → ValueRecord
value_record Draw = record { kind = 0; depth = 0 }
value_record (Won depth) = record { kind = 1; depth = depth }
value_record (Lost depth) = record { kind = 2; depth = depth }

-- a move; the point of the stone that is taken is 255 where none is
abbrev pub move_record : Move → Value → MoveRecord
move_record m value = record { from = m.from; to = m.to; taken = unwrap_or m.taken 255; pad = 0; value = value_record value }
