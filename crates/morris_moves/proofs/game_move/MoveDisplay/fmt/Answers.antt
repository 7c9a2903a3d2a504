use Rattle.std.proofs.Common.{◌≡◌, ℕ, ◌∷◌, ◌++◌, append_assoc, Some, None}
use Rattle.std.proofs.lemmas.List.{append-nil}
use Rattle.std.specs.Fmt.{decimal}
use Rattle.morris_moves.specs.declared.game_move.Move.{Move}
use Rattle.morris_moves.specs.MoveText.{move_text}
use Rattle.morris_moves.proofs.game_move.MoveDisplay.fmt.Goals as goal

quiet_text : (m : Move) → m.taken ≡ None → move_text m ≡ decimal m.from ++ (45 ∷ decimal m.to)
unfolding move_text
quiet_text m e = rw e (append-nil (decimal m.from ++ (45 ∷ decimal m.to)))

capture_text : (m : Move) (t : ℕ) → m.taken ≡ Some t → move_text m ≡ decimal m.from ++ (45 ∷ (decimal m.to ++ (120 ∷ decimal t)))
unfolding move_text
capture_text m t e = rw e (append_assoc (decimal m.from) (45 ∷ decimal m.to) (120 ∷ decimal t))

pub returns-in-None-clause-writes : goal.returns-in-None-clause-writes
returns-in-None-clause-writes g c = rw (quiet_text c.args.self.now c.in-None.is) c.write.ensures.writes

pub returns-in-Some-clause-writes : goal.returns-in-Some-clause-writes
returns-in-Some-clause-writes g c = rw (capture_text c.args.self.now c.in-Some.taken c.in-Some.is) c.write-in-Some.ensures.writes
