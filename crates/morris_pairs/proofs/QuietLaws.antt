-- How many of the moves of a position are quiet, stone by stone.
use Rattle.std.proofs.Common.{◌≡◌, ℕ, ◌+◌, cond, List, [], ◌∷◌, ◌++◌, map, length, filter, refl, sym, ap, ◌∙◌, inl, inr, Some, length-append}
use Rattle.std.proofs.lemmas.Bool.{cases_Bool}
use Rattle.std.proofs.lemmas.List.{flat_map_more}
use Rattle.std.proofs.lemmas.List.Elements.{filter-append}
use Rattle.std.specs.List.{flat_map}
use Rattle.morris_board.specs.Sets.{members}
use Rattle.morris_board.specs.Boards.{Shape}
use Rattle.morris_board.specs.Positions.{Sides}
use Rattle.morris_moves.specs.Rules.{closes, takable_stones, reach, move, moves_to, moves_from, moves_of}
use Rattle.morris_pairs.specs.PairNets.{is_quiet}

module _ (b : Shape) (s : Sides) where
  none_quiet : (u v : ℕ) (ts : List ℕ) → filter is_quiet (map (λ t. move u v (Some t)) ts) ≡ []
  none_quiet u v [] = refl
  none_quiet u v (t ∷ ts) = none_quiet u v ts

  quiet_to : (u v : ℕ) → length (filter is_quiet (moves_to b s u v)) ≡ cond (closes b s.own u v) 0 1
  unfolding moves_to
  quiet_to u v = elim (cases_Bool (closes b s.own u v)) [
    | inl y ↦ rw y (ap length (none_quiet u v (members (takable_stones b s.other))))
    | inr n ↦ rw n refl
  ]

  abbrev pub quiet_among : ℕ → List ℕ → ℕ
  quiet_among u vs = length (filter is_quiet (flat_map (moves_to b s u) vs))

  pub quiet_more : (u v : ℕ) (vs : List ℕ) → quiet_among u (vs ++ v ∷ []) ≡ quiet_among u vs + cond (closes b s.own u v) 0 1
  quiet_more u v vs =
      ap (λ ms. length (filter is_quiet ms)) (sym (flat_map_more (moves_to b s u) [] vs v))
      ∙ (ap length (filter-append is_quiet (flat_map (moves_to b s u) vs) (moves_to b s u v))
      ∙ (length-append (filter is_quiet (flat_map (moves_to b s u) vs)) (filter is_quiet (moves_to b s u v))
      ∙ ap (λ k. quiet_among u vs + k) (quiet_to u v)))

  pub quiet_all : (u : ℕ) → quiet_among u (members (reach b s u)) ≡ length (filter is_quiet (moves_from b s u))
  unfolding moves_from
  quiet_all u = refl

  abbrev pub quiet_of : List ℕ → ℕ
  quiet_of us = length (filter is_quiet (flat_map (moves_from b s) us))

  pub quiet_of_all : quiet_of (members s.own) ≡ length (filter is_quiet (moves_of b s))
  unfolding moves_of
  quiet_of_all = refl
