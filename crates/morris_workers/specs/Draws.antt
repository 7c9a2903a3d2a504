-- The rule of the tickets' counter, a table of one word, and what each step on it does to a view.
-- The word is the number that the next draw finds. It goes on past the limit, since each seat may
-- find once that no number is left.
use Rattle.std.specs.Prelude.{◌≡◌, ℕ, ◌+◌, ◌-◌, ◌<◌, ◌≤◌, ◌==◌, ◌||◌, min, if◌then◌else◌, true, false, [], ◌∷◌, ◌++◌, length, slice_index, nat_lt}
use Rattle.std.specs.List.{sum_by}
use mathlib.Core.Option.{some}
use lib.ListN.{get_elem?}
use Rattle.atomic_table.specs.Table.{State, Me}
use Rattle.morris_wave.specs.Nets.{times}
use Rattle.morris_workers.specs.declared.draws.Plan.{Plan}
use Rattle.morris_workers.specs.declared.draws.View.{View}

-- 1 for a seat that will draw no more: it found no number left, or was joined to another
abbrev pub done : View → ℕ
done v = if v.ended || (v.stands == 0) then 1 else 0

-- the rule: what holds of the word and of all views between any two steps
pub record IsTicketRule (p : Plan) (s : State (Unit {0}) View) : Type 0 where
  pub one_word : length s.words ≡ 1
  pub small_limit : p.limit ≤ 1000000
  pub few_seats : p.seats ≤ 64
  -- each number below the word and the limit stands once, in one seat's list, and no other number
  -- stands in any
  pub once : (x : ℕ) → sum_by (λ v. times x v.drawn) s.views ≡ (if nat_lt x (min (slice_index s.words 0) p.limit) then 1 else 0)
  -- the lengths of all lists add up to the lesser of the word and the limit
  pub lengths : sum_by (λ v. length v.drawn) s.views ≡ min (slice_index s.words 0) p.limit
  -- a seat that found no number left did so at the limit or past it
  pub ended : (seat : ℕ) (v : View) → get_elem? s.views seat ≡ some v → v.ended ≡ true → p.limit ≤ slice_index s.words 0
  -- the word is past the limit by no more than the seats that will draw no more
  pub passed : slice_index s.words 0 ≤ p.limit + sum_by done s.views
  -- the views and the splits left are the seats that were asked for
  pub seats : sum_by (λ v. 1 + v.splits) s.views ≡ p.seats
  -- a view stands for one seat, and for each that was joined to it one more
  pub stands : sum_by (λ v. v.stands) s.views ≡ length s.views
  -- a seat that was joined to another has an empty list, and each other one has the limit
  pub spent : (seat : ℕ) (v : View) → get_elem? s.views seat ≡ some v → v.stands ≡ 0 → v.drawn ≡ []
  pub limits : (seat : ℕ) (v : View) → get_elem? s.views seat ≡ some v → 0 < v.stands → v.limit ≡ p.limit

-- the first seat, from which the others are split
abbrev pub first_view : Plan → View
first_view p = record { limit = p.limit; drawn = []; splits = p.seats - 1; ended = false; stands = 1 }

-- a seat from which one was split, and the new seat
abbrev pub dealer : View → View
dealer v = record { limit = v.limit; drawn = v.drawn; splits = v.splits - 1; ended = v.ended; stands = v.stands }

abbrev pub newcomer : View → View
newcomer v = record { limit = v.limit; drawn = []; splits = 0; ended = false; stands = 1 }

-- a seat after a draw that found n: below the limit n is its next number, and else it has ended
abbrev pub with_number : View → ℕ → View
with_number v n = record { limit = v.limit; drawn = v.drawn ++ n ∷ []; splits = v.splits; ended = v.ended; stands = v.stands }

abbrev pub ended_view : View → View
ended_view v = record { limit = v.limit; drawn = v.drawn; splits = v.splits; ended = true; stands = v.stands }

abbrev pub drawing : View → ℕ → View
drawing v n = if nat_lt n v.limit then with_number v n else ended_view v

-- what is known after a draw that found n
pub record Drew (before : Me (Unit {0}) View) (n : ℕ) (after : Me (Unit {0}) View) : Type 0 where
  pub view : after.0 ≡ drawing before.0 n
  pub slots : after.1 ≡ before.1
  pub few : length after.0.drawn ≤ before.0.limit

-- a seat to which another was joined, and what is left of the other
abbrev pub join_views : View → View → View
join_views v w = record { limit = v.limit; drawn = v.drawn ++ w.drawn; splits = v.splits + w.splits; ended = v.ended || w.ended; stands = v.stands + w.stands }

abbrev pub spent_view : View
spent_view = record { limit = 0; drawn = []; splits = 0; ended = false; stands = 0 }

-- what the counter says at its end of a seat with the view v: of the numbers below the limit
-- `handed` were drawn, by as many seats as were made
pub record Counted (limit seats : ℕ) (v : View) (handed : ℕ) : Type 0 where
  pub most : handed ≤ limit
  pub few : length v.drawn ≤ handed
  pub once : (x : ℕ) → times x v.drawn ≤ 1
  pub below : (x : ℕ) → 0 < times x v.drawn → x < handed
  pub back : v.stands ≡ seats → handed ≡ length v.drawn
  pub whole : handed ≡ length v.drawn → (x : ℕ) → x < handed → times x v.drawn ≡ 1
  pub ended : v.ended ≡ true → handed ≡ limit
