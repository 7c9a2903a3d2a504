-- Laws of what files say of moves in turn.
use Rattle.std.proofs.Common.{◌≡◌, ℕ, List, [], ◌∷◌, ◌++◌, Result, Ok, Err, refl, sym, ap, ap₂, ◌∙◌, append_assoc}
use Rattle.morris_board.specs.Boards.{Shape}
use Rattle.morris_board.specs.Positions.{Sides}
use Rattle.morris_moves.specs.declared.game_move.Move.{Move}
use Rattle.morris_lookup.specs.declared.fault.ViewFault.{ViewFault}
use Rattle.morris_lookup.specs.declared.records.MoveRecord.{MoveRecord}
use Rattle.morris_lookup.specs.Listing.{outcome_of, with_first, outcomes_said, IsExactOutcome, AreExactOutcomes}

module _ (board : Shape) (files : List (List ℕ)) (s : Sides) where
  abbrev said : List Move → Result (List MoveRecord) ViewFault
  said ms = outcomes_said board files s ms

  -- what is said of moves and then of more
  abbrev after : Result (List MoveRecord) ViewFault → Result (List MoveRecord) ViewFault → Result (List MoveRecord) ViewFault
  after (Ok os) (Ok more) = Ok (os ++ more)
  after (Ok os) (Err refusal) = Err refusal
  after (Err refusal) more = Err refusal

  one_by_one : (first : Result MoveRecord ViewFault) (rest more : Result (List MoveRecord) ViewFault) → with_first first (after rest more) ≡ after (with_first first rest) more
  one_by_one (Ok o) (Ok os) (Ok more) = refl
  one_by_one (Ok o) (Ok os) (Err refusal) = refl
  one_by_one (Ok o) (Err refusal) more = refl
  one_by_one (Err refusal) rest more = refl

  none_after : (more : Result (List MoveRecord) ViewFault) → more ≡ after (Ok []) more
  none_after (Ok os) = refl
  none_after (Err refusal) = refl

  said-append : (ms more : List Move) → said (ms ++ more) ≡ after (said ms) (said more)
  unfolding outcomes_said
  said-append [] more = none_after (said more)
  said-append (m ∷ ms) more = ap (with_first (outcome_of board files s m)) (said-append ms more) ∙ one_by_one (outcome_of board files s m) (said ms) (said more)

  said-one : (m : Move) (o : MoveRecord) → Ok o ≡ outcome_of board files s m → said (m ∷ []) ≡ Ok (o ∷ [])
  unfolding outcomes_said
  said-one m o e = rw (← e) refl

  said-refused : (m : Move) (rest : List Move) (refusal : ViewFault) → Err refusal ≡ outcome_of board files s m → said (m ∷ rest) ≡ Err refusal
  unfolding outcomes_said
  said-refused m rest refusal e = rw (← e) refl

  -- one move more
  pub said-more : (ms : List Move) (m : Move) (os : List MoveRecord) (o : MoveRecord) → said ms ≡ Ok os → Ok o ≡ outcome_of board files s m
      → said (ms ++ m ∷ []) ≡ Ok (os ++ o ∷ [])
  said-more ms m os o e f = said-append ms (m ∷ []) ∙ ap₂ after e (said-one m o f)

  -- the first move that is refused refuses all
  pub said-stops : (ms : List Move) (m : Move) (rest all : List Move) (os : List MoveRecord) (refusal : ViewFault) → said ms ≡ Ok os → Err refusal ≡ outcome_of board files s m
      → (ms ++ m ∷ []) ++ rest ≡ all → said all ≡ Err refusal
  said-stops ms m rest all os refusal e f whole =
      ap said (sym whole ∙ append_assoc ms (m ∷ []) rest) ∙ said-append ms (m ∷ rest) ∙ ap₂ after e (said-refused m rest refusal f)

  pub said-none : said [] ≡ Ok []
  unfolding outcomes_said
  said-none = refl

-- exact ones, and one more
pub exact_more : (board : Shape) (s : Sides) (ms : List Move) (os : List MoveRecord) (m : Move) (o : MoveRecord) → AreExactOutcomes board s ms os → IsExactOutcome board s m o
    → AreExactOutcomes board s (ms ++ m ∷ []) (os ++ o ∷ [])
exact_more board s [] [] m o all here = (here, tt)
exact_more board s [] (p ∷ os) m o all here = absurd all
exact_more board s (n ∷ ms) [] m o all here = absurd all
exact_more board s (n ∷ ms) (p ∷ os) m o all here = (all.0, exact_more board s ms os m o all.1 here)
