-- The blocks of several workers, each of the numbers that it drew, in the order of their numbers.
use Rattle.std.proofs.Common.{◌≡◌, ℕ, zero, suc, ◌+◌, ◌-◌, ◌<◌, ◌≤◌, true, cond, eqb, Result, Ok, Err, Vec, Global, List, [], ◌∷◌, ◌++◌, length, get_or, take, drop, sym, ap, ap₂, subst, ◌∙◌, ⊎_elim, arith}
use Rattle.std.specs.List.{All, list_any}
use Rattle.std.specs.List.Sorted.{IsPermutation, IsNonDecreasing, IsNonDecreasingBy}
use Rattle.std.proofs.lemmas.Bool.{cases_lt}
use Rattle.std.proofs.lemmas.Grind.{flat_map-append}
use Rattle.std.proofs.lemmas.List.{get_or-take, get_or-drop, get_or-map, length-take-le, length-drop, length-map, map-append, append-nil}
use Rattle.std.proofs.lemmas.List.Concat.{flat_map-cons}
use Rattle.std.proofs.lemmas.List.Elements.{All-nil, All-cons, All-push}
use Rattle.std.proofs.lemmas.List.Folds.{list_any_at}
use Rattle.std.proofs.lemmas.List.Sorted.{IsPermutation-map, length_permutation, All-permutation, sum_by-IsPermutation}
use Rattle.std.proofs.lemmas.List.Sums.{sum_by-take-drop}
use Rattle.std.proofs.lemmas.Result.{IfErr-at_err}
use Rattle.morris_wave.specs.Blocks.{BlockState}
use Rattle.morris_wave.specs.Nets.{Net, times}
use Rattle.morris_wave.proofs.Ranks.{times_some}
use Rattle.morris_workers.specs.Making.{AreNumbered, AreDrawn, AreAllDrawn, AreBoth, IsMakingFault, block_numbers}
use Rattle.morris_workers.specs.Tickets.{IsSeatOf, numbers_of, all_numbers, has_ended}
use Rattle.morris_workers.specs.declared.fault.SolveFault.{SolveFault}
use Rattle.morris_workers.specs.declared.tickets.Tickets.{Tickets}
use Rattle.morris_workers.specs.declared.tickets.TicketSeat.{TicketSeat}

-- one more seat, with the blocks of its numbers
pub one_more : (seats : List TicketSeat) (seat : TicketSeat) (blocks more : List BlockState) → block_numbers blocks ≡ all_numbers seats → block_numbers more ≡ numbers_of seat
    → block_numbers (blocks ++ more) ≡ all_numbers (seats ++ seat ∷ [])
one_more seats seat blocks more before is =
    let one : all_numbers (seat ∷ []) ≡ numbers_of seat = flat_map-cons numbers_of seat [] ∙ append-nil (numbers_of seat) in
    map-append (λ (s : BlockState). s.number) blocks more ∙ (ap₂ (λ (xs ys : List ℕ). xs ++ ys) before (is ∙ sym one) ∙ sym (flat_map-append numbers_of seats (seat ∷ [])))

-- the blocks of a seat that is the only one
pub alone : (t : Tickets) (g : Net) (seats : List TicketSeat) (last : TicketSeat) (mine : Result (Vec BlockState Global) SolveFault) → length seats ≡ 0 → AreDrawn t g last mine → AreAllDrawn t g (seats ++ last ∷ []) mine
alone t g (seat ∷ seats) last mine none drawn = absurd (omega arith)
alone t g [] last (Ok made) none drawn = record {
  of = All-cons (IsSeatOf t) last [] drawn.of (All-nil (IsSeatOf t));
  numbers = drawn.numbers ∙ sym (flat_map-cons numbers_of last [] ∙ append-nil (numbers_of last));
  ended = All-cons (λ s. has_ended s ≡ true) last [] drawn.ended (All-nil (λ s. has_ended s ≡ true));
  fault = tt;
}
alone t g [] last (Err fault) none drawn = record {
  of = All-cons (IsSeatOf t) last [] drawn.of (All-nil (IsSeatOf t));
  numbers = tt;
  ended = tt;
  fault = drawn.fault;
}

-- the blocks of some seats and those of one more, put together
pub with_last : (t : Tickets) (g : Net) (seats : List TicketSeat) (last : TicketSeat) (others mine all : Result (Vec BlockState Global) SolveFault)
    → AreBoth others mine all → AreAllDrawn t g seats others → AreDrawn t g last mine → AreAllDrawn t g (seats ++ last ∷ []) all
with_last t g seats last (Ok before) (Ok more) (Ok made) both drawn is = record {
  of = All-push (IsSeatOf t) seats last drawn.of is.of;
  numbers = ap block_numbers both ∙ one_more seats last before.items more.items drawn.numbers is.numbers;
  ended = All-push (λ s. has_ended s ≡ true) seats last drawn.ended is.ended;
  fault = tt;
}
with_last t g seats last (Ok before) (Err e) (Ok made) both drawn is = absurd both
with_last t g seats last (Err e) mine (Ok made) both drawn is = absurd both
with_last t g seats last others mine (Err fault) both drawn is = record {
  of = All-push (IsSeatOf t) seats last drawn.of is.of;
  numbers = tt;
  ended = tt;
  fault = ⊎_elim
      (λ e. subst (IsMakingFault g) (sym e) tt)
      (λ either. ⊎_elim (λ e. IfErr-at_err (IsMakingFault g) e drawn.fault) (λ e. IfErr-at_err (IsMakingFault g) e is.fault) either)
      both;
}

-- where each seat has ended, some seat has
pub some_ended : (seats : List TicketSeat) → 1 ≤ length seats → All (λ seat. has_ended seat ≡ true) seats → list_any has_ended seats ≡ true
some_ended [] some ended = absurd (omega arith)
some_ended (seat ∷ seats) some ended = list_any_at has_ended (seat ∷ seats) 0 seat some (ended 0 seat some)

module _ (xs : List ℕ) (order : IsNonDecreasing xs) (once : (x : ℕ) → times x xs ≤ 1) where
  -- neighbours differ
  next : (k : ℕ) → k + 1 < length xs → get_or xs k 0 < get_or xs (k + 1) 0
  next k inside =
      ⊎_elim
      (λ less. less)
      (λ not_less.
      let x = get_or xs k 0 in
      let same : get_or xs (k + 1) 0 ≡ x = let le = order k (k + 1) 0 (omega arith) inside in omega (arith, le, not_less) in
      let front : 0 < times x (take (k + 1) xs) = times_some x (take (k + 1) xs) k (omega (arith, length-take-le (k + 1) xs (omega arith))) (get_or-take (k + 1) xs k 0 (omega arith)) in
      let at : k + 1 + 0 ≡ k + 1 = omega arith in
      let back : 0 < times x (drop (k + 1) xs) = times_some x (drop (k + 1) xs) 0 (omega (arith, length-drop (k + 1) xs)) (get_or-drop (k + 1) xs 0 0 ∙ (ap (λ p. get_or xs p 0) at ∙ same)) in
      absurd (omega (arith, front, back, once x, sum_by-take-drop (λ y. cond {A = ℕ} (eqb y x) 1 0) xs (k + 1))))
      (cases_lt (get_or xs k 0) (get_or xs (k + 1) 0))

  rises : (j k : ℕ) → k + j < length xs → get_or xs k 0 + j ≤ get_or xs (k + j) 0
  rises zero k inside = let at : k ≡ k + 0 = omega arith in omega (arith, ap (λ p. get_or xs p 0) at)
  rises (suc j) k inside =
      let at : k + j + 1 ≡ k + suc j = omega arith in
      omega (arith, rises j k (omega arith), next (k + j) (omega arith), ap (λ p. get_or xs p 0) at)

  -- each number stands at its own place
  own_place : All (λ x. x < length xs) xs → (k : ℕ) → k < length xs → get_or xs k 0 ≡ k
  own_place below k inside =
      let left = length xs - (k + 1) in
      let here : 0 + k ≡ k = omega arith in
      let end : k + left ≡ length xs - 1 = omega arith in
      omega (
        arith,
        rises k 0 (omega arith),
        rises left k (omega arith),
        below (length xs - 1) 0 (omega arith),
        ap (λ p. get_or xs p 0) here,
        ap (λ p. get_or xs p 0) end,
      )

-- Blocks whose numbers are those below their count, each once, stand in the order of their numbers
-- once they are sorted.
pub in_order : (blocks sorted : List BlockState) (numbers : List ℕ) → block_numbers blocks ≡ numbers → IsPermutation blocks sorted → IsNonDecreasingBy (λ s. s.number) sorted
    → ((x : ℕ) → times x numbers ≤ 1) → All (λ x. x < length numbers) numbers → AreNumbered 0 sorted
in_order blocks sorted numbers are moved order once below k d inside =
    let number = λ (s : BlockState). s.number in
    let xs = block_numbers sorted in
    let also : IsPermutation numbers xs = subst (λ ys. IsPermutation ys xs) are (IsPermutation-map number blocks sorted moved) in
    let count : length xs ≡ length numbers = length_permutation numbers xs also in
    let same : length xs ≡ length sorted = length-map sorted number in
    let read = λ (i e : ℕ) (l : i < length sorted). get_or-map number sorted i d e l in
    let up : IsNonDecreasing xs = λ i j e le l. omega (arith, order i j d le (omega (arith, l, same)), read i e (omega (arith, l, le, same)), read j e (omega (arith, l, same))) in
    let one : (x : ℕ) → times x xs ≤ 1 = λ x. omega (arith, once x, sum_by-IsPermutation (λ y. cond {A = ℕ} (eqb y x) 1 0) numbers xs also) in
    let low : All (λ x. x < length xs) xs = subst (λ n. All (λ x. x < n) xs) (sym count) (All-permutation (λ x. x < length numbers) numbers xs also below) in
    omega (arith, own_place xs up one low k (omega (arith, inside, same)), read k 0 inside)
