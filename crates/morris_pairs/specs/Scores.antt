-- The score of a result for the player whose move leads there: the sooner the opponent has lost,
-- the higher; then that of a draw; then that of what is won for the opponent, the later the higher.
use Rattle.std.specs.Prelude.{ℕ, ◌+◌, ◌-◌, ◌≤◌, max, List, [], ◌∷◌, Option, Some, None, ◌==◌, nat_lt, if◌then◌else◌}
use Rattle.morris_wave.specs.declared.graph.Exits.{Exits}
use Rattle.morris_wave.specs.Exits.{is_odd}

-- the score of a result of this code: an odd code is lost for the opponent, and 0 is a draw
unfoldable pub score : ℕ → ℕ
score code = if is_odd code then 300001 - code else (if code == 0 then 131072 else code)

-- the best score of these results, 0 where there is none
unfoldable pub score_of : Exits → ℕ
score_of e = elim e.least_lost [
  | Some depth ↦ 300000 - depth
  | None ↦ if e.drawn then 131072 else elim e.greatest_won [ Some depth ↦ depth + 1 | None ↦ 0 ]
]

-- the code of a position whose best result has this score
unfoldable pub code_of_score : ℕ → ℕ
code_of_score best =
    if nat_lt 131072 best then 300002 - best else (if best == 131072 then 0 else (if best == 0 then 1 else best + 1))

-- the best of a score and those of results of these codes
unfoldable pub best_of : ℕ → List ℕ → ℕ
best_of best [] = best
best_of best (code ∷ codes) = best_of (max best (score code)) codes

-- a depth, if there is one, is one of 16 bits
abbrev pub is_short : Option ℕ → Type 0
is_short None = Unit {0}
is_short (Some depth) = depth ≤ 65535

-- all depths are
pub record IsShort (e : Exits) : Type 0 where
  pub lost : is_short e.least_lost
  pub won : is_short e.greatest_won
