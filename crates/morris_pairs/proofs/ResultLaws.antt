-- The results of a position and those of an image of it give the same code, where the table states
-- the same codes for their quiet results.
use Rattle.std.proofs.Common.{◌≡◌, ℕ, zero, suc, ◌≤◌, Bool, true, Option, Some, None, is_none, get_or, refl, sym, ap, subst, ◌∙◌, inl, inr}
use Rattle.std.proofs.lemmas.Bool.{cases_Bool, false≢true}
use Rattle.std.proofs.lemmas.List.Folds.{list_all-map}
use Rattle.std.specs.List.{Contains, list_all, list_any}
use Rattle.morris_board.specs.Boards.{Shape, is_board}
use Rattle.morris_board.specs.Positions.{Sides, IsPosition}
use Rattle.morris_board.specs.Symmetries.{image_of, image_sides, inverse_of, IsSymmetry, HasSymmetries}
use Rattle.morris_board.proofs.PointsLaws.{same_test}
use Rattle.morris_board.proofs.ImageLaws.{IsOneToOne, one_to_one, IsPosition-image, count_of-image, image_sides-undone}
use Rattle.morris_moves.specs.declared.game_move.Move.{Move}
use Rattle.morris_moves.specs.Rules.{moves_of, left_of, result_of}
use Rattle.morris_moves.specs.Images.{HaveOneValue}
use Rattle.morris_moves.proofs.ListLaws.{all_contained, contained_all, any_contained, contained_any}
use Rattle.morris_moves.proofs.LegalLaws.{listed_is_legal}
use Rattle.morris_moves.proofs.SymmetryLaws.{image_move, legal_goes, IsSeen, listed_goes, seen_from, HaveOneValue-image}
use Rattle.morris_index.specs.Classes.{symmetry_of}
use Rattle.morris_index.specs.ClassPairs.{class_index_of}
use Rattle.morris_index.specs.ByOpponent.{IsInTransversal}
use Rattle.morris_index.specs.Pairs.{is_of}
use Rattle.morris_wave.specs.Values.{is_lost_exit, is_won_exit}
use Rattle.morris_pairs.specs.Agreement.{code_from, stated_code, result_codes}
use Rattle.morris_pairs.specs.Codes.{code_to}
use Rattle.morris_pairs.specs.Entries.{entry_index}
use Rattle.morris_pairs.specs.EntryLaws.{canonical_form-classes}
use Rattle.morris_pairs.specs.FilterLaws.{list_any-map}
use Rattle.morris_pairs.specs.NetLaws.{points_few, quiet-stays, result-position}
use Rattle.morris_pairs.specs.PairNets.{is_quiet}
use Rattle.morris_pairs.specs.Tables.{Table}
use Rattle.morris_pairs.specs.declared.layout.Layout.TheVariants.{Classes}
use Rattle.morris_pairs.proofs.AgreementLaws.{same_from_rule, stated-quiet, stated-capture}
use Rattle.morris_pairs.proofs.LateLaws.{takes-image}

-- positions of one value have one code
code_to-value : (board : Shape) (s t : Sides) → HaveOneValue board s t → (n : ℕ) → code_to n board s ≡ code_to n board t
unfolding code_to
code_to-value board s t v zero = rw (v.lost zero, v.won zero) refl
code_to-value board s t v (suc n) = rw (v.lost n, v.won n, v.lost (suc n), v.won (suc n), code_to-value board s t v n) refl

module _ (board : Shape) (few : board.points ≤ 24) (f back : ℕ → ℕ) (y : IsSymmetry board f back) (t : Table) (s : Sides) (h : IsPosition board s)
    (same : (m : Move) → Contains (moves_of board s) m → is_quiet m ≡ true
    → entry_index board board.points t.layout t.pair (image_sides f (result_of s m)) ≡ entry_index board board.points t.layout t.pair (result_of s m)) where
  -- the table states for the image of a result what it states for the result
  stated-image : (m : Move) → Contains (moves_of board s) m → stated_code board t (image_sides f s) (image_move f m) ≡ stated_code board t s m
  stated-image m listed =
      let goes : result_of (image_sides f s) (image_move f m) ≡ image_sides f (result_of s m) =
      (legal_goes board few f back y s h.stones m (listed_is_legal board s few h.stones m listed)).1 in
      let value : HaveOneValue board (result_of s m) (image_sides f (result_of s m)) =
      HaveOneValue-image board few f back y (result_of s m) (result-position board few s h m listed) in
      elim (cases_Bool (is_quiet m)) [
        | inl quiet ↦
            stated-quiet board t (image_sides f s) (image_move f m) (takes-image f m.taken ∙ quiet)
            ∙ ap (λ r. get_or t.codes (entry_index board board.points t.layout t.pair r) 0) goes
            ∙ ap (λ k. get_or t.codes k 0) (same m listed quiet)
            ∙ sym (stated-quiet board t s m quiet)
        | inr takes ↦
            stated-capture board t (image_sides f s) (image_move f m) (takes-image f m.taken ∙ takes)
            ∙ ap (code_to 65534 board) goes
            ∙ sym (code_to-value board (result_of s m) (image_sides f (result_of s m)) value 65534)
            ∙ sym (stated-capture board t s m takes)
      ]

  module _ (p : ℕ → Bool) where
    abbrev here : Move → Bool
    here m = p (stated_code board t s m)

    abbrev there : Move → Bool
    there m = p (stated_code board t (image_sides f s) m)

    goes_there : (m : Move) → Contains (moves_of board s) m → here m ≡ true → there (image_move f m) ≡ true
    goes_there m listed passes = ap p (stated-image m listed) ∙ passes

    comes_here : (m : Move) → Contains (moves_of board s) m → there (image_move f m) ≡ true → here m ≡ true
    comes_here m listed passes = ap p (sym (stated-image m listed)) ∙ passes

    all-image : list_all p (result_codes board t (image_sides f s)) ≡ list_all p (result_codes board t s)
    unfolding result_codes
    all-image =
        list_all-map p (stated_code board t (image_sides f s)) (moves_of board (image_sides f s))
        ∙ same_test (list_all there (moves_of board (image_sides f s))) (list_all here (moves_of board s))
        (λ all. contained_all here (moves_of board s) (λ m listed.
        comes_here m listed (all_contained there (moves_of board (image_sides f s)) all (image_move f m) (listed_goes board few f back y s h.stones m listed))))
        (λ all. contained_all there (moves_of board (image_sides f s)) (λ m listed.
        let r : IsSeen board f s m = seen_from board few f back y s h.stones m listed in
        subst (λ x. there x ≡ true) r.image (goes_there r.seen r.listed (all_contained here (moves_of board s) all r.seen r.listed))))
        ∙ sym (list_all-map p (stated_code board t s) (moves_of board s))

    any-image : list_any p (result_codes board t (image_sides f s)) ≡ list_any p (result_codes board t s)
    unfolding result_codes
    any-image =
        list_any-map p (stated_code board t (image_sides f s)) (moves_of board (image_sides f s))
        ∙ same_test (list_any there (moves_of board (image_sides f s))) (list_any here (moves_of board s))
        (λ some.
        let one = any_contained there (moves_of board (image_sides f s)) some in
        let r : IsSeen board f s one.0 = seen_from board few f back y s h.stones one.0 one.1 in
        contained_any here (moves_of board s) r.seen r.listed (comes_here r.seen r.listed (subst (λ x. there x ≡ true) (sym r.image) one.2)))
        (λ some.
        let one = any_contained here (moves_of board s) some in
        contained_any there (moves_of board (image_sides f s)) (image_move f one.0) (listed_goes board few f back y s h.stones one.0 one.1) (goes_there one.0 one.1 one.2))
        ∙ sym (list_any-map p (stated_code board t s) (moves_of board s))

  code-image : code_from (result_codes board t (image_sides f s)) ≡ code_from (result_codes board t s)
  code-image = same_from_rule (result_codes board t (image_sides f s)) (result_codes board t s) (λ n. all-image (is_won_exit n)) (λ n. any-image (is_lost_exit n))

-- a quiet move takes no stone
left_whole : (other : ℕ) (o : Option ℕ) → is_none o ≡ true → left_of other o ≡ other
left_whole other None none = refl
left_whole other (Some t) none = absurd (false≢true none)

own_after : (s : Sides) (m : Move) → is_quiet m ≡ true → (result_of s m).own ≡ s.other
unfolding result_of
own_after s m quiet = left_whole s.other m.taken quiet

-- Where the inverse of a symmetry is the canonicalizing one of the image of the opponent's stones,
-- which are in canonical form themselves, a position and its image have one code by their results.
pub same_code_after : (board : Shape) → is_board board ≡ true → HasSymmetries board → (t : Table) → t.layout ≡ Classes
    → (s : Sides) → IsPosition board s → is_of t.pair s ≡ true → (k : ℕ) → IsInTransversal board s k
    → code_from (result_codes board t (image_sides (board.image k) s)) ≡ code_from (result_codes board t s)
same_code_after board lawful y t classes s h of k canonical_form =
    let few : board.points ≤ 24 = points_few board lawful in
    code-image board few (board.image k) (board.image (inverse_of k)) (y.symmetry k canonical_form.within) t s h (λ m listed quiet.
    let f : ℕ → ℕ = board.image k in
    let one : IsOneToOne board.points f (board.image (inverse_of k)) = one_to_one board _ _ (y.symmetry k canonical_form.within) in
    let r : Sides = result_of s m in
    let there : IsPosition board r = result-position board few s h m listed in
    let belongs : is_of t.pair r ≡ true = quiet-stays board few s h m listed t.pair of quiet in
    let x : Sides = image_sides f r in
    let x_there : IsPosition board x = IsPosition-image board few f (board.image (inverse_of k)) one r there in
    let x_of : is_of t.pair x ≡ true = rw (
      count_of-image board.points few f (board.image (inverse_of k)) one r.own there.stones.own_within,
      count_of-image board.points few f (board.image (inverse_of k)) one r.other there.stones.other_within,
    ) belongs in
    let back : image_sides (board.image (symmetry_of board x.own)) x ≡ r =
    ap (λ j. image_sides (board.image j) x) (ap (λ o. symmetry_of board (image_of f o)) (own_after s m quiet) ∙ canonical_form.back)
    ∙ image_sides-undone board few f (board.image (inverse_of k)) one r there.stones in
    let index : class_index_of board board.points t.pair x ≡ class_index_of board board.points t.pair r =
    sym ((canonical_form-classes board few y t.pair).there x x_there x_of) ∙ ap (class_index_of board board.points t.pair) back in
    rw classes index)
