-- How far the files can be opened, and the places that are passed before that.
use Rattle.std.proofs.Common.{◌≡◌, ℕ, ◌+◌, ◌-◌, ◌^◌, ◌<◌, ◌≤◌, true, false, sym, ap, subst, ◌∙◌, inl, inr, arith, Some, None}
use Rattle.std.specs.List.{slice_get}
use Rattle.std.proofs.lemmas.Bool.{cases_lt}
use Rattle.std.proofs.lemmas.Option.{slice_get_within}
use Rattle.morris_board.specs.Boards.{Shape}
use Rattle.morris_index.specs.Pairs.{all_pairs}
use Rattle.morris_folder_commands.specs.From.{fits}
use Rattle.morris_folder_commands.specs.FromSteps.{EndsAt, StopsAt, place_is}
use Rattle.morris_folder_commands.proofs.FromLaws.{length-all_pairs}

module _ (board : Shape) (end old new : ℕ) (ends : EndsAt board end old new) where
  -- whoever read the headers knows how far the files can be opened, and left room for a failure
  pub stops : StopsAt board end old new
  stops = elim ends [ inl all ↦ inl all | inr one ↦ inr (one.0, one.1, omega (arith, one.2)) ]

  pub room : old < 2 ^ 64 - 1 → new < 2 ^ 64 - 1
  room low = elim ends [ inl all ↦ omega (arith, low, all.1) | inr one ↦ one.3 ]

module _ (board : Shape) (place end old new : ℕ) (ends : StopsAt board end old new) where
  -- whoever comes past all places came to no file that wasn't opened
  pub all_opened : place ≤ end → 28 ≤ place → new ≡ old
  all_opened ahead past = elim ends [
    | inl all ↦ all.1
    | inr one ↦ absurd (omega (arith, ahead, past, slice_get_within all_pairs end one.0 one.1.0, length-all_pairs))
  ]

  -- whoever comes to that of such a file comes after a call that failed
  pub one_unopened : place ≡ end → place < 28 → old < new
  one_unopened here low = elim ends [
    | inl all ↦ absurd (omega (arith, here, low, all.0))
    | inr one ↦ omega (arith, one.2)
  ]

  pub risen : old ≤ new
  risen = elim ends [ inl all ↦ omega (arith, all.1) | inr one ↦ omega (arith, one.2) ]

  -- a place without a pair of the board isn't that of such a file
  pub passes : place_is board place None → place < 28 → place ≤ end → place + 1 ≤ end
  passes none low ahead = elim ends [
    | inl all ↦ omega (arith, low, all.0)
    | inr one ↦ elim (cases_lt place end) [
      | inl before ↦ omega (arith, before)
      | inr after ↦
          let here : place ≡ end = omega (arith, ahead, after) in
          let two : slice_get all_pairs place ≡ Some one.0 = ap (slice_get all_pairs) here ∙ one.1.0 in
          let same : none.0 ≡ one.0 = cc in
          let bad : false ≡ true = sym none.2 ∙ ap (fits board) same ∙ one.1.1 in
          cc
    ]
  ]

-- a later count of failures that is the same
pub stops_later : (board : Shape) (end old new later : ℕ) → StopsAt board end old new → later ≡ new → StopsAt board end old later
stops_later board end old new later stops same = subst (StopsAt board end old) (sym same) stops
