-- A shelf with the table of a position's pair has those of the pairs of all its results.
use Rattle.std.proofs.Common.{◌≡◌, ℕ, ◌≤◌, true, Option, Some, None, is_some, refl, sym, subst, ◌∙◌, inl, inr, arith}
use Rattle.std.specs.List.{Contains}
use Rattle.std.proofs.lemmas.Bool.{cases_Bool, cases_eq, ne_eqb}
use Rattle.std.proofs.lemmas.Option.{none-some}
use Rattle.std.proofs.lemmas.List.Elements.{Contains-push}
use Rattle.morris_board.specs.Sets.{count_of}
use Rattle.morris_board.specs.Boards.{Shape}
use Rattle.morris_board.specs.Positions.{Sides, IsPosition}
use Rattle.morris_moves.specs.declared.game_move.Move.{Move}
use Rattle.morris_moves.specs.Rules.{moves_of, result_of}
use Rattle.morris_moves.specs.Values.{IsLostIn}
use Rattle.morris_index.specs.Pairs.{Counts, IsPair, pair_of, sort_counts, is_of, below_of}
use Rattle.morris_index.proofs.BelowLaws.{below_of-last, below_of-needed}
use Rattle.morris_index.proofs.ResultLaws.{pair_of-is_of}
use Rattle.morris_pairs.specs.Shelves.{Stored, table_on, HasAllBelow}
use Rattle.morris_pairs.specs.PairNets.{is_quiet}
use Rattle.morris_pairs.specs.NetLaws.{quiet-stays, capture-leads}
use Rattle.morris_pairs.proofs.CodeLaws.{code_of_stuck, no_moves}
use Rattle.morris_pairs.proofs.GraphLaws.{IsPair-needed}
use Rattle.morris_probe.specs.Probing.{missing_table, without_table}

-- ---- a player with two stones

two_stones : (s : Sides) → pair_of s ≡ None → count_of s.own ≡ 2
two_stones s e = elim (cases_eq (count_of s.own) 2) [
  | inl two ↦ two
  | inr other ↦ absurd (none-some (sort_counts (count_of s.own) (count_of s.other)) (sym e ∙ rw (ne_eqb (count_of s.own) 2 other) refl))
]

-- has lost
pub lost_with_two : (board : Shape) (s : Sides) → pair_of s ≡ None → IsLostIn board s 0
lost_with_two board s e = let two : count_of s.own ≡ 2 = two_stones s e in code_of_stuck board s (omega arith)

-- and has no move
pub no_moves_with_two : (board : Shape) (s : Sides) (m : Move) → pair_of s ≡ None → Contains (moves_of board s) m → ⊥
no_moves_with_two board s m e listed = let two : count_of s.own ≡ 2 = two_stones s e in no_moves board s (omega arith) m listed

-- ---- the tables of the results

without_none : (shelf : Stored) (o : Option Counts) → o ≡ None → without_table shelf o ≡ None
without_none shelf o e = rw e refl

without_there : (shelf : Stored) (o : Option Counts) (c : Counts) → o ≡ Some c → is_some (table_on shelf c) ≡ true → without_table shelf o ≡ None
without_there shelf o c e there = rw (e, there) refl

below_itself : (n : ℕ) (c : Counts) → IsPair n c → Contains (below_of c) c
below_itself n c pair =
    let last = below_of-last n c pair in
    subst (λ cs. Contains cs c) (sym last.1) (Contains-push last.0 c)

module _ (board : Shape) (few : board.points ≤ 24) (shelf : Stored) (c : Counts) (pair : IsPair board.points c) (all : HasAllBelow shelf c) where
  below_there : (s : Sides) (d : Counts) → IsPair board.points d → is_of d s ≡ true → Contains (below_of c) d → missing_table shelf s ≡ None
  below_there s d lawful of below =
      without_there shelf (pair_of s) d (pair_of-is_of board.points d s lawful of) (all d below)

  -- a result is of the same pair or of one that it needs, or its player to move has two stones
  pub results_there : (s : Sides) → IsPosition board s → is_of c s ≡ true → (m : Move) → Contains (moves_of board s) m → missing_table shelf (result_of s m) ≡ None
  results_there s h of m listed = elim (cases_Bool (is_quiet m)) [
    | inl quiet ↦
        below_there (result_of s m) c pair (quiet-stays board few s h m listed c of quiet) (below_itself board.points c pair)
    | inr takes ↦ elim (capture-leads board few s h m listed c pair of takes) [
      | inl two ↦ without_none shelf (pair_of (result_of s m)) (rw two refl)
      | inr there ↦
          below_there (result_of s m) there.0 (IsPair-needed board.points c there.0 pair there.1) there.2
          (below_of-needed board.points c c there.0 pair (below_itself board.points c pair) there.1)
    ]
  ]
