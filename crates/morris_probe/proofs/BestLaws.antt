-- The best moves among those that a loop over the legal moves has seen.
use Rattle.std.proofs.Common.{◌≡◌, ◌↔◌, ℕ, ◌<◌, List, [], ◌∷◌, ◌++◌, Some, length, get_or, refl, sym, ap, subst, ◌∙◌, inl, inr, arith, length-append}
use Rattle.std.specs.List.{AllPairs, Contains}
use Rattle.std.proofs.lemmas.List.{get_or_append_left, get_or_default}
use Rattle.std.proofs.lemmas.List.Elements.{Contains-append_left, Contains-push, Contains-push_cases}
use Rattle.std.proofs.lemmas.List.Quantifiers.{all_pairs_push}
use Rattle.std.proofs.Math.Seq.{get_or-append_seam}
use Rattle.morris_board.specs.Boards.{Shape}
use Rattle.morris_board.specs.Positions.{Sides}
use Rattle.morris_moves.specs.declared.game_move.Move.{Move}
use Rattle.morris_moves.specs.Order.{Precedes}
use Rattle.morris_moves.specs.Rules.{moves_of, result_of}
use Rattle.morris_moves.proofs.ValueLaws.{lost_once, won_once, lost_not_won, lost_no_draw, won_no_draw}
use Rattle.morris_pairs.specs.declared.value.Value.{Value}
use Rattle.morris_pairs.specs.declared.value.Value.TheVariants.{Draw, Won, Lost}
use Rattle.morris_pairs.specs.Codes.{IsValue}
use Rattle.morris_probe.specs.Best.{after_best, LeadsOn, AreBest}

-- ---- a position has one value

pub one_value : (board : Shape) (s : Sides) (v w : Value) → IsValue board s v → IsValue board s w → v ≡ w
one_value board s Draw Draw h k = refl
one_value board s Draw (Won e) h k = absurd (won_no_draw board s e k h)
one_value board s Draw (Lost e) h k = absurd (lost_no_draw board s e k h)
one_value board s (Won d) Draw h k = absurd (won_no_draw board s d h k)
one_value board s (Won d) (Won e) h k = ap (λ n. Won n) (won_once board s d e h k)
one_value board s (Won d) (Lost e) h k = absurd (lost_not_won board s e d k h)
one_value board s (Lost d) Draw h k = absurd (lost_no_draw board s d h k)
one_value board s (Lost d) (Won e) h k = absurd (lost_not_won board s d e h k)
one_value board s (Lost d) (Lost e) h k = ap (λ n. Lost n) (lost_once board s d e h k)

-- ---- a list in order, seen up to some element

-- an element that was seen stands before the next one
seen_before : {X : Type 0} (R : X → X → Type 0) (seen rest : List X) (x y : X) → AllPairs R (seen ++ y ∷ rest) → Contains seen x → R x y
seen_before R seen rest x y pairs h =
    let there : length seen < length (seen ++ y ∷ rest) = omega (arith, length-append seen (y ∷ rest)) in
    let first : get_or (seen ++ y ∷ rest) h.0 x ≡ x = get_or_append_left seen (y ∷ rest) x h.0 h.1 ∙ h.2 in
    let second : get_or (seen ++ y ∷ rest) (length seen) x ≡ y = get_or-append_seam seen y rest x in
    subst (λ z. R z y) first (subst (R (get_or (seen ++ y ∷ rest) h.0 x)) second (pairs h.0 (length seen) x h.1 there))

module _ (board : Shape) (s : Sides) (value : Value) where
  -- the best of the moves that were seen, in order
  pub record AreBestOf (seen best : List Move) : Type 0 where
    pub each : (m : Move) → Contains best m ↔ (Contains seen m × LeadsOn board s value m)
    pub ascending : AllPairs Precedes best

  pub best_none : AreBestOf [] []
  best_none = record {
    each = λ m. ((λ c. absurd (omega (arith, c.1))), (λ c. c.0));
    ascending = λ i j d low high. absurd (omega arith);
  }

  module _ (seen rest best : List Move) (m : Move) (so_far : AreBestOf seen best) where
    -- the next move is among the best
    pub best_more : AllPairs Precedes (seen ++ m ∷ rest) → LeadsOn board s value m → AreBestOf (seen ++ m ∷ []) (best ++ m ∷ [])
    best_more order good = record {
      each = λ x. (
        (λ c. elim (Contains-push_cases best m x c) [
          | inl earlier ↦ let was = (so_far.each x).0 earlier in (Contains-append_left seen (m ∷ []) x was.0, was.1)
          | inr is ↦ subst (λ y. Contains (seen ++ m ∷ []) y × LeadsOn board s value y) is (Contains-push seen m, good)
        ]),
        (λ c. elim (Contains-push_cases seen m x c.0) [
          | inl earlier ↦ Contains-append_left best (m ∷ []) x ((so_far.each x).1 (earlier, c.1))
          | inr is ↦ subst (Contains (best ++ m ∷ [])) is (Contains-push best m)
        ]),
      );
      ascending =
          all_pairs_push Precedes best m so_far.ascending (λ k d low.
          seen_before Precedes seen rest (get_or best k d) m order ((so_far.each (get_or best k d)).0 (k, low, itself best k d low)).0);
    }
      where
        itself : (xs : List Move) (k : ℕ) (d : Move) → k < length xs → get_or xs k (get_or xs k d) ≡ get_or xs k d
        itself xs k d low = get_or_default xs k (get_or xs k d) d low

    -- the next move isn't
    pub best_same : (LeadsOn board s value m → ⊥) → AreBestOf (seen ++ m ∷ []) best
    best_same bad = record {
      each = λ x. (
        (λ c. let was = (so_far.each x).0 c in (Contains-append_left seen (m ∷ []) x was.0, was.1)),
        (λ c. elim (Contains-push_cases seen m x c.0) [
          | inl earlier ↦ (so_far.each x).1 (earlier, c.1)
          | inr is ↦ absurd (bad (subst (LeadsOn board s value) (sym is) c.1))
        ]),
      );
      ascending = so_far.ascending;
    }

  -- the value of its result says whether a move is best
  pub leads_on : (m : Move) (next : Value) → IsValue board (result_of s m) next → after_best value ≡ Some next → LeadsOn board s value m
  leads_on m next h e = (next, e, h)

  pub leads_off : (m : Move) (next : Value) → IsValue board (result_of s m) next → (after_best value ≡ Some next → ⊥) → LeadsOn board s value m → ⊥
  leads_off m next h off on = off (on.1 ∙ ap (λ v. Some v) (one_value board (result_of s m) on.0 next on.2 h))

  -- the best of all moves
  pub best_all : (best : List Move) → IsValue board s value → AreBestOf (moves_of board s) best → AreBest board s best
  best_all best h all = record {
    each = λ m. (
      (λ c. let was = (all.each m).0 c in (was.0, (value, h, was.1))),
      (λ c. (all.each m).1 (c.0, subst (λ v. LeadsOn board s v m) (one_value board s c.1.0 value c.1.1 h) c.1.2)),
    );
    ascending = all.ascending;
  }
