-- A list of moves, one after another.
use Rattle.std.proofs.Common.{◌≡◌, List, [], ◌∷◌, ◌++◌, sym, ap, ◌∙◌, append-nil, append_assoc}
use Rattle.morris_moves.specs.declared.game_move.Move.{Move}

pub listed_next : (past left rest all : List Move) (m : Move) → past ++ left ≡ all → left ≡ m ∷ rest → (past ++ m ∷ []) ++ rest ≡ all
listed_next past left rest all m h e = append_assoc past (m ∷ []) rest ∙ ap (λ ms. past ++ ms) (sym e) ∙ h

pub listed_all : (past left all : List Move) → past ++ left ≡ all → left ≡ [] → past ≡ all
listed_all past left all h e = sym (append-nil past) ∙ ap (λ ms. past ++ ms) (sym e) ∙ h
