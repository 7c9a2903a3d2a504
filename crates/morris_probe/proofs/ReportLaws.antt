-- The lines of moves that are printed one after another.
use Rattle.std.proofs.Common.{◌≡◌, ◌+◌, ◌<◌, ℕ, List, [], ◌∷◌, ◌++◌, take, get_or, length, ap, ◌∙◌, append-nil}
use Rattle.std.specs.List.{flat_map}
use Rattle.std.proofs.lemmas.List.{take_more}
use Rattle.std.proofs.lemmas.Grind.{flat_map-append}
use Rattle.morris_moves.specs.declared.game_move.Move.{Move}
use Rattle.morris_probe.specs.Lines.{move_line}

-- the lines of the moves up to this one are those of the moves before it, and its own
pub lines_to : (moves : List Move) (i : ℕ) (d : Move) → i < length moves
    → flat_map move_line (take (i + 1) moves) ≡ flat_map move_line (take i moves) ++ move_line (get_or moves i d)
lines_to moves i d low =
    let m : Move = get_or moves i d in
    ap (flat_map move_line) (take_more moves i d low)
    ∙ flat_map-append move_line (take i moves) (m ∷ [])
    ∙ ap (λ line. flat_map move_line (take i moves) ++ line) (append-nil (move_line m))
