-- Where there is a legal move, and each result has a value, there is a best move.
use Rattle.std.proofs.Common.{◌≡◌, ◌⊎◌, ℕ, zero, suc, ◌+◌, ◌<◌, Bool, true, false, List, [], ◌∷◌, ◌++◌, length, refl, subst, inl, inr, arith}
use Rattle.std.specs.List.{Contains, list_all}
use Rattle.std.proofs.lemmas.Bool.{cases_Bool, both_ways, false_from_ne_true}
use Rattle.std.proofs.lemmas.List.Elements.{Contains-push_cases}
use Rattle.morris_board.specs.Boards.{Shape}
use Rattle.morris_board.specs.Positions.{Sides}
use Rattle.morris_moves.specs.declared.game_move.Move.{Move}
use Rattle.morris_moves.specs.Rules.{moves_of, result_of}
use Rattle.morris_moves.specs.Values.{is_lost, is_won, IsLostIn, IsWonIn, IsDraw}
use Rattle.morris_moves.proofs.ListLaws.{all_contained, contained_all, any_contained, contained_any, Contains-head, Contains-tail, Contains-cons_cases}
use Rattle.morris_moves.proofs.ValueLaws.{won_longer, never_both}
use Rattle.morris_pairs.specs.declared.value.Value.{Value}
use Rattle.morris_pairs.specs.declared.value.Value.TheVariants.{Draw, Won, Lost}
use Rattle.morris_pairs.specs.Codes.{IsValue}
use Rattle.morris_probe.specs.Best.{LeadsOn}
use Rattle.morris_probe.proofs.BestLaws.{AreBestOf}

-- the results of these moves have values
abbrev pub HasValues : Shape → Sides → List Move → Type 0
HasValues board s ms = (m : Move) → Contains ms m → (w : Value) × IsValue board (result_of s m) w

pub values_more : (board : Shape) (s : Sides) (ms : List Move) (m : Move) (w : Value) → HasValues board s ms → IsValue board (result_of s m) w
    → HasValues board s (ms ++ m ∷ [])
values_more board s ms m w known here x c = elim (Contains-push_cases ms m x c) [
  | inl earlier ↦ known x earlier
  | inr is ↦ (w, subst (λ y. IsValue board (result_of s y) w) is here)
]

-- where a test doesn't hold of all, it fails at some element
fails_at : {X : Type 0} (p : X → Bool) (xs : List X) → list_all p xs ≡ false → (x : X) × Contains xs x × (p x ≡ false)
fails_at p [] h = absurd (both_ways true h refl)
fails_at p (x ∷ xs) h = elim (cases_Bool (p x)) [
  | inl holds ↦ let later = fails_at p xs (rw holds at h) in (later.0, Contains-tail x xs later.0 later.1, later.2)
  | inr fails ↦ (x, Contains-head x xs, fails)
]

module _ (board : Shape) (s : Sides) where
  -- a result that is lost makes the position won
  won_through : (n : ℕ) (m : Move) → Contains (moves_of board s) m → is_lost n board (result_of s m) ≡ true → is_won (suc n) board s ≡ true
  unfolding is_won
  won_through n m listed lost = contained_any (λ x. is_lost n board (result_of s x)) (moves_of board s) m listed lost

  -- a win in n + 1 plies has a result that is lost in n
  best_of_won : (n : ℕ) → IsWonIn board s (suc n) → (m : Move) × Contains (moves_of board s) m × IsLostIn board (result_of s m) n
  unfolding is_won
  best_of_won n h =
      let r = any_contained (λ x. is_lost n board (result_of s x)) (moves_of board s) h.won in (
        r.0,
        r.1,
        record {
          lost = r.2;
          least = λ k low. record {
            not_lost = false_from_ne_true _ (λ lost. both_ways (is_won (suc k) board s) (h.least (suc k) (omega arith)).not_won (won_through k r.0 r.1 lost));
            not_won = false_from_ne_true _ (λ won. never_both board (result_of s r.0) n k r.2 won);
          };
        },
      )

  -- a loss in n + 1 plies has a result that is won in n
  best_of_lost : (n : ℕ) → IsLostIn board s (suc n) → (m : Move) × Contains (moves_of board s) m × IsWonIn board (result_of s m) n
  unfolding is_lost is_won
  best_of_lost zero h = absurd (both_ways (list_all (λ m. false) (moves_of board s)) (h.least 0 (omega arith)).not_lost h.lost)
  best_of_lost (suc k) h =
      let r = fails_at (λ x. is_won k board (result_of s x)) (moves_of board s) (h.least (suc k) (omega arith)).not_lost in
      let won : is_won (suc k) board (result_of s r.0) ≡ true =
      all_contained (λ x. is_won (suc k) board (result_of s x)) (moves_of board s) h.lost r.0 r.1 in (
        r.0,
        r.1,
        record {
          won = won;
          least = λ j low. record {
            not_lost = false_from_ne_true _ (λ lost. never_both board (result_of s r.0) j (suc k) lost won);
            not_won = false_from_ne_true _ (λ early. both_ways (is_won k board (result_of s r.0)) r.2 (won_longer board (result_of s r.0) j k (omega arith) early));
          };
        },
      )

  module _ (draw : IsDraw board s) where
    -- some of these moves leads to a draw, or all their results are won within some number of plies
    abbrev DrawnOrWon : List Move → Type 0
    DrawnOrWon ms =
        ((m : Move) × Contains ms m × IsDraw board (result_of s m))
        ⊎ ((n : ℕ) × ((m : Move) → Contains ms m → is_won n board (result_of s m) ≡ true))

    one_more : (x : Move) (xs : List Move) → Contains (moves_of board s) x → (n : ℕ)
        → ((m : Move) → Contains xs m → is_won n board (result_of s m) ≡ true) → (v : Value) → IsValue board (result_of s x) v → DrawnOrWon (x ∷ xs)
    one_more x xs listed n rest Draw h = inl (x, Contains-head x xs, h)
    one_more x xs listed n rest (Won d) h =
        inr (
          n + d,
          (λ m c. elim (Contains-cons_cases x xs m c) [
            | inl e ↦ subst (λ y. is_won (n + d) board (result_of s y) ≡ true) e (won_longer board (result_of s x) d (n + d) (omega arith) h.won)
            | inr later ↦ won_longer board (result_of s m) n (n + d) (omega arith) (rest m later)
          ]),
        )
    one_more x xs listed n rest (Lost d) h = absurd (both_ways (is_won (suc d) board s) (draw.never (suc d)).not_won (won_through d x listed h.lost))

    drawn_or_won : HasValues board s (moves_of board s) → (ms : List Move)
        → ((m : Move) → Contains ms m → Contains (moves_of board s) m) → DrawnOrWon ms
    drawn_or_won known [] listed = inr (0, (λ m c. absurd (omega (arith, c.1))))
    drawn_or_won known (x ∷ xs) listed = elim (drawn_or_won known xs (λ m c. listed m (Contains-tail x xs m c))) [
      | inl found ↦ inl (found.0, Contains-tail x xs found.0 found.1, found.2)
      | inr rest ↦
          let here = listed x (Contains-head x xs) in
          let value = known x here in
          one_more x xs here rest.0 rest.1 value.0 value.1
    ]

    best_of_draw : HasValues board s (moves_of board s)
        → (m : Move) × Contains (moves_of board s) m × IsDraw board (result_of s m)
    unfolding is_lost
    best_of_draw known = elim (drawn_or_won known (moves_of board s) (λ m c. c)) [
      | inl found ↦ found
      | inr won ↦
          absurd (both_ways (is_lost (suc won.0) board s) (draw.never (suc won.0)).not_lost
          (contained_all (λ x. is_won won.0 board (result_of s x)) (moves_of board s) won.1))
    ]

  pub some_best : (v : Value) → IsValue board s v
      → HasValues board s (moves_of board s)
      → (m : Move) → Contains (moves_of board s) m → (b : Move) × Contains (moves_of board s) b × LeadsOn board s v b
  unfolding is_lost is_won
  some_best Draw h known m listed = let r = best_of_draw h known in (r.0, r.1, (Draw, refl, r.2))
  some_best (Won zero) h known m listed = absurd (both_ways false refl h.won)
  some_best (Won (suc n)) h known m listed = let r = best_of_won n h in (r.0, r.1, (Lost n, refl, r.2))
  some_best (Lost zero) h known m listed = absurd (both_ways false refl (all_contained (λ x. false) (moves_of board s) h.lost m listed))
  some_best (Lost (suc n)) h known m listed = let r = best_of_lost n h in (r.0, r.1, (Won n, refl, r.2))

  -- so the list of the best isn't empty
  pub some_listed : (v : Value) (best : List Move) → IsValue board s v → HasValues board s (moves_of board s) → AreBestOf board s v (moves_of board s) best
      → (m : Move) → Contains (moves_of board s) m → 0 < length best
  some_listed v best h known all m listed =
      let r = some_best v h known m listed in
      let c = (all.each r.0).1 (r.1, r.2) in
      omega (arith, c.1)
