-- An image of a position that wins late by a capture does so as well.
use Rattle.std.proofs.Common.{◌≡◌, ℕ, ◌≤◌, true, not, Option, Some, None, is_none, refl, sym, ap, subst, ◌∙◌, inl, inr, ◌⊎◌}
use Rattle.std.specs.Option.{option_map}
use Rattle.std.specs.List.{Contains}
use Rattle.morris_board.specs.Boards.{Shape}
use Rattle.morris_board.specs.Positions.{Sides, IsPosition}
use Rattle.morris_board.specs.Symmetries.{image_sides, IsSymmetry}
use Rattle.morris_moves.specs.declared.game_move.Move.{Move}
use Rattle.morris_moves.specs.Rules.{moves_of, result_of}
use Rattle.morris_moves.specs.Images.{IsImage, HaveOneValue}
use Rattle.morris_moves.specs.Values.{IsLostIn}
use Rattle.morris_moves.proofs.LegalLaws.{listed_is_legal}
use Rattle.morris_moves.proofs.SymmetryLaws.{image_move, legal_goes, IsSeen, listed_goes, seen_from, HaveOneValue-image, HaveOneValue-sym, IsLostIn-same}
use Rattle.morris_pairs.specs.PairNets.{is_capture}
use Rattle.morris_pairs.specs.Known.{WinsLateByCapture}
use Rattle.morris_pairs.specs.NetLaws.{result-position}

-- the image of a capture is a capture, and so is what has one for its image
pub takes-image : (f : ℕ → ℕ) (o : Option ℕ) → is_none (option_map f o) ≡ is_none o
takes-image f None = refl
takes-image f (Some t) = refl

capture-image : (f : ℕ → ℕ) (m : Move) → is_capture (image_move f m) ≡ is_capture m
capture-image f m = ap not (takes-image f m.taken)

module _ (board : Shape) (few : board.points ≤ 24) (f back : ℕ → ℕ) (y : IsSymmetry board f back) (s : Sides) (h : IsPosition board s) where
  -- a result has the value of its image
  one_result : (m : Move) → Contains (moves_of board s) m → HaveOneValue board (result_of s m) (image_sides f (result_of s m))
  one_result m listed = HaveOneValue-image board few f back y (result_of s m) (result-position board few s h m listed)

  lost_there : (m : Move) (depth : ℕ) → Contains (moves_of board s) m → IsLostIn board (result_of s m) depth
      → IsLostIn board (result_of (image_sides f s) (image_move f m)) depth
  lost_there m depth listed lost =
      subst (λ t. IsLostIn board t depth) (sym (legal_goes board few f back y s h.stones m (listed_is_legal board s few h.stones m listed)).1)
      (IsLostIn-same board (result_of s m) (image_sides f (result_of s m)) (one_result m listed) depth lost)

  lost_here : (m : Move) (depth : ℕ) (seen : IsSeen board f s m) → IsLostIn board (result_of (image_sides f s) m) depth
      → IsLostIn board (result_of s seen.seen) depth
  lost_here m depth seen lost =
      IsLostIn-same board (image_sides f (result_of s seen.seen)) (result_of s seen.seen)
      (HaveOneValue-sym board (result_of s seen.seen) (image_sides f (result_of s seen.seen)) (one_result seen.seen seen.listed)) depth
      (subst (λ t. IsLostIn board t depth) seen.result lost)

  wins_late-symmetry : WinsLateByCapture board s → WinsLateByCapture board (image_sides f s)
  wins_late-symmetry w =
      let m = w.late.0 in
      record {
        late = (image_move f m, listed_goes board few f back y s h.stones m w.late.1, capture-image f m ∙ w.late.2, lost_there m 65534 w.late.1 w.late.3);
        none_before = λ m depth listed takes lost.
            let seen = seen_from board few f back y s h.stones m listed in
            let capture : is_capture seen.seen ≡ true = sym (capture-image f seen.seen) ∙ ap is_capture seen.image ∙ takes in
            w.none_before seen.seen depth seen.listed capture (lost_here m depth seen lost);
      }

-- so it is of the position itself and of each image
pub wins_late-image : (board : Shape) → board.points ≤ 24 → (s t : Sides) → IsPosition board s → (s ≡ t) ⊎ IsImage board s t
    → WinsLateByCapture board s → WinsLateByCapture board t
wins_late-image board few s t h image w = elim image [
  | inl same ↦ subst (WinsLateByCapture board) same w
  | inr i ↦ subst (WinsLateByCapture board) i.image (wins_late-symmetry board few i.map i.back i.symmetry s h w)
]
