-- The waves of a whole graph as one range.
use Rattle.std.proofs.Common.{◌≡◌, ℕ, suc, ◌+◌, ◌-◌, ◌<◌, ◌≤◌, Bool, true, false, ◌&&◌, cond, eqb, List, length, get_or, take, drop, refl, sym, ap, ◌∙◌, subst, arith, zero-add, length-take, length-drop}
use Rattle.std.specs.List.{list_any, count_by}
use Rattle.std.proofs.lemmas.Bool.{cond-true, cond-false, eqb-true, eq-eqb, lt-ltb, false_from_ne_true, true_from_ne_false}
use Rattle.std.proofs.lemmas.Bool.Decides.{nat_tests}
use Rattle.std.proofs.lemmas.List.{get_or-take, get_or-drop}
use Rattle.std.proofs.lemmas.List.Sums.{sum_by-take-le, get_or-le-sum_by}
use Rattle.morris_wave.specs.Nets.{Net, IsNet, times}
use Rattle.morris_wave.specs.Exits.{is_odd}
use Rattle.morris_wave.specs.Values.{code_within, HasCode, IsTooDeep}
use Rattle.morris_wave.specs.Waves.{is_fresh}
use Rattle.morris_wave.specs.Solving.{ListsFresh, among, every, none}
use Rattle.morris_wave.specs.NodeRanges.{NodeRangeHolds, Ranked, Takes, left_of}
use Rattle.morris_wave.proofs.Tests.{at_most_one, count_same, some_counted}
use Rattle.morris_wave.proofs.Marking.{among_more, times_more}
use Rattle.morris_wave.proofs.Parts.{new_depth, known_won_covered, known_lost_covered}
use Rattle.morris_wave.proofs.Ranks.{node_range_inside, node_range_once}
use Rattle.morris_wave.proofs.Settling.{IsQuiet, quiet_codes, not_too_deep}
use Rattle.morris_wave.proofs.Stretches.{take_enough, take_few, take_holds, holds_same, holds_alike, fresh_once, codes_within, no_depth, due_by}

-- the nodes of the wave's range of the list are the fresh ones
module _ {g : Net} (law : IsNet g) {n : ℕ} {a : ℕ → Bool} {codes counters : List ℕ} {due : List (List ℕ)} {last_due : ℕ} (h : NodeRangeHolds g n a 0 codes counters due last_due)
    (len : length codes ≡ g.size) where
  pub fresh_listed : {all : Bool} → (decided : List ℕ) (before here : ℕ) → Ranked all 0 n codes decided before here → ListsFresh g n (take (here - before) (drop before decided))
  fresh_listed decided before here r = record {
    inside = λ p d l. let w = node_range_inside 0 n before here codes decided r p d l in omega (arith, w.1, len);
    once = λ k l. fresh_once law h (take (here - before) (drop before decided)) (node_range_once 0 n before here codes decided r) k (omega arith) (omega (arith, l, len));
  }

pub fresh_length : (old : List ℕ) (before here : ℕ) → here ≤ length old → length (take (here - before) (drop before old)) ≡ here - before
fresh_length old before here le = omega (arith, le, length-take (here - before) (drop before old), length-drop before old)

-- a node of that range, whatever was put after it meanwhile
pub fresh_at : (old new : List ℕ) (before here place : ℕ) → here ≤ length old → take here new ≡ take here old → before ≤ place → place < here
    → (place - before < length (take (here - before) (drop before old))) × (get_or new place 0 ≡ get_or (take (here - before) (drop before old)) (place - before) 0)
fresh_at old new before here place le same low high =
    let back : before + (place - before) ≡ place = omega (arith, low) in (
      omega (arith, fresh_length old before here le, low, high),
      sym (get_or-take here new place 0 high)
          ∙ (ap (λ xs. get_or xs place 0) same
          ∙ (get_or-take here old place 0 high
          ∙ sym (get_or-take (here - before) (drop before old) (place - before) 0 (omega (arith, low, high))
          ∙ (get_or-drop before old (place - before) 0 ∙ ap (λ p. get_or old p 0) back)))),
    )

-- One fresh node more, whose predecessors are `nodes`.
module _ {g : Net} {n : ℕ} {fresh : List ℕ} (listed : ListsFresh g n fresh) (i node : ℕ) (inside : i < length fresh) (is : node ≡ get_or fresh i 0) where
  pub node_in : node < g.size
  node_in = subst (λ x. x < g.size) (sym is) (listed.inside i 0 inside)

  at_node : cond {A = ℕ} (eqb node node) 1 0 ≡ 1
  at_node = cond-true {A = ℕ} (eqb node node) 1 0 (eq-eqb node node refl)

  -- it wasn't there before
  not_before : among (take i fresh) node ≡ false
  not_before = grind (arith, nat_tests, some_counted (λ x. eqb x node) (take i fresh), times_more fresh i node inside is node, sum_by-take-le (λ x. cond {A = ℕ} (eqb x node) 1 0) fresh (i + 1), listed.once node node_in, at_most_one (is_fresh g n node), at_node)

  is_new : is_fresh g n node ≡ true
  is_new =
      let le = get_or-le-sum_by (λ x. cond {A = ℕ} (eqb x node) 1 0) fresh i 0 inside in
      let one : cond {A = ℕ} (eqb (get_or fresh i 0) node) 1 0 ≡ 1 = subst (λ x. cond {A = ℕ} (eqb x node) 1 0 ≡ 1) is at_node in
      let once = listed.once node node_in in
      true_from_ne_false (is_fresh g n node) (λ e. absurd (omega (arith, le, one, once, cond-false {A = ℕ} (is_fresh g n node) 1 0 e)))

  apart_from : (j : ℕ) → eqb node j ≡ true → among (take i fresh) j ≡ false
  apart_from j e = subst (λ x. among (take i fresh) x ≡ false) (eqb-true node j e) not_before

  module _ (nodes : List ℕ) (behind : (k : ℕ) → k < g.size → times k nodes ≡ times node (g.quiet k)) where
    counted : (k : ℕ) → k < g.size → times k nodes ≡ count_by (λ j. eqb node j && is_fresh g n j) (g.quiet k)
    counted k l = behind k l ∙ count_same (λ y. eqb y node) (λ j. eqb node j && is_fresh g n j) (g.quiet k) (λ p d h. at (get_or (g.quiet k) p d))
      where
        at : (y : ℕ) → eqb y node ≡ (eqb node y && is_fresh g n y)
        at y = grind (arith, nat_tests, is_new)

    module _ (law : IsNet g) {first : ℕ} {codes counters : List ℕ} {due : List (List ℕ)} {last_due : ℕ} (h : NodeRangeHolds g n (among (take i fresh)) first codes counters due last_due) where
      taken : (k : ℕ) → k < length codes → times (first + k) nodes ≡ count_by (λ j. eqb node j && is_fresh g n j) (g.quiet (first + k))
      taken k l = counted (first + k) (omega (arith, l, h.in_graph))

      pub spread_enough : is_odd n ≡ false → (k : ℕ) → k < length codes → times (first + k) nodes ≤ left_of (get_or counters k 0)
      spread_enough even k l = take_enough law h (λ j. eqb node j) nodes taken apart_from even k l

      pub spread_few : is_odd n ≡ false → (k : ℕ) → k < length codes → length (g.quiet (first + k)) < 255 → times (first + k) nodes ≤ get_or counters k 0
      spread_few even k l few = take_few law h (λ j. eqb node j) nodes taken apart_from even k l few

      pub spread_more : (codes' counters' : List ℕ) → length codes' ≡ length codes → length counters' ≡ length counters → ((k : ℕ) → k < length counters' → get_or counters' k 0 < 65536)
          → Takes n first nodes codes codes' counters counters' → NodeRangeHolds g n (among (take (i + 1) fresh)) first codes' counters' due last_due
      spread_more codes' counters' codes_len counters_len small takes =
          holds_alike law (take_holds law h (λ j. eqb node j) nodes taken apart_from codes' counters' codes_len counters_len small takes) (among (take (i + 1) fresh))
          (λ j l. sym (among_more fresh i node inside is j))

module _ {g : Net} (law : IsNet g) {n first : ℕ} {codes counters : List ℕ} {due : List (List ℕ)} {last_due : ℕ} where
  -- before the first of them
  pub spread_none : (fresh : List ℕ) (i : ℕ) → i ≡ 0 → NodeRangeHolds g n none first codes counters due last_due → NodeRangeHolds g n (among (take i fresh)) first codes counters due last_due
  spread_none fresh i is h = subst (λ x. NodeRangeHolds g n (among (take x fresh)) first codes counters due last_due) (sym is) h

  -- when all fresh nodes are done, the wave is complete
  pub spread_all : (fresh : List ℕ) → ListsFresh g n fresh → NodeRangeHolds g n (among fresh) first codes counters due last_due → NodeRangeHolds g n every first codes counters due last_due
  spread_all fresh listed h =
      holds_same law h every
      (λ j l. known_won_covered g n (among fresh) j (has j l)) (λ j l. known_lost_covered g n (among fresh) j (has j l))
    where
      has : (j : ℕ) → j < g.size → is_fresh g n j ≡ true → among fresh j ≡ true
      has j l e = sym (some_counted (λ x. eqb x j) fresh) ∙ lt-ltb 0 (times j fresh) (omega (arith, listed.once j l, cond-true {A = ℕ} (is_fresh g n j) 1 0 e))

-- a complete wave that found nothing more, when all exits are due: its entries are the codes
module _ {g : Net} (law : IsNet g) {n : ℕ} {codes counters : List ℕ} {due : List (List ℕ)} {last_due : ℕ} (h : NodeRangeHolds g n every 0 codes counters due last_due) (len : length codes ≡ g.size)
    (le : last_due ≤ n) (nothing : list_any (λ c. eqb c (n + 1)) codes ≡ false) where
  quiet : IsQuiet g n
  quiet = record {
    no_new = λ i l. false_from_ne_true (is_fresh g (suc n) i) (λ e.
        no_depth law h nothing i (omega arith) (omega (arith, l, len)) (new_depth g n i e));
    due = λ i l. omega (arith, due_by law h i (omega arith) (omega (arith, l, len)), le);
  }

  pub finished : (i : ℕ) → i < g.size → HasCode g i (get_or codes i 0)
  finished i l =
      subst (HasCode g i) (sym (codes_within law h i (omega (arith, l, len)) ∙ ap (code_within g (suc n)) (zero-add i))) (quiet_codes g law n quiet i l)

  pub finished_shallow : n ≤ 65534 → IsTooDeep g → ⊥
  finished_shallow small = not_too_deep g law n quiet small
