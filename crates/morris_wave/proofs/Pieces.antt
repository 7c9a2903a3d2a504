-- The pieces of a block's fresh nodes.
use Rattle.std.proofs.Common.{◌≡◌, ℕ, ◌+◌, ◌<◌, ◌≤◌, ◌&&◌, cond, eqb, List, length, get_or, take, drop, refl, sym, ap, ◌∙◌, ⊎_elim, arith}
use Rattle.std.specs.List.{All}
use Rattle.std.proofs.lemmas.Bool.{cases_eq, eq-eqb}
use Rattle.std.proofs.lemmas.Bool.Decides.{nat_tests}
use Rattle.std.proofs.lemmas.List.{get_or-take, get_or-drop, get_or_default, length-take, length-drop, drop_more}
use Rattle.std.proofs.lemmas.List.Elements.{All-take, All-drop}
use Rattle.std.proofs.lemmas.List.Sorted.{IsNonDecreasingBy-take, IsNonDecreasingBy-drop}
use Rattle.std.proofs.lemmas.List.Sums.{sum_by-take-drop, get_or-le-sum_by}
use Rattle.morris_wave.specs.Nets.{Net, times}
use Rattle.morris_wave.specs.Waves.{is_fresh}
use Rattle.morris_wave.specs.Blocks.{IsIn}
use Rattle.morris_wave.specs.Batches.{is_from_to, FreshState, FreshHolds, rest_of, piece_of}
use Rattle.morris_wave.proofs.Tests.{at_most_one, count_yes}
use Rattle.morris_wave.proofs.Batching.{not_there}

module _ (g : Net) (f : FreshState) (h : FreshHolds g f) (place : ℕ) (some : 0 < place) (l : place < length f.nodes) where
  abbrev rest : List ℕ
  rest = take place f.nodes

  abbrev piece : List ℕ
  piece = drop place f.nodes

  abbrev at : ℕ
  at = get_or f.nodes place 0

  at_low : f.low ≤ at
  at_low = (h.between place 0 l).0

  at_high : at < f.high
  at_high = (h.between place 0 l).1

  in_both : (i : ℕ) → times i f.nodes ≡ times i rest + times i piece
  in_both i = sym (sum_by-take-drop (λ x. cond {A = ℕ} (eqb x i) 1 0) f.nodes place)

  rest_below : All (λ i. i ≤ at) rest
  rest_below p d q =
      let long = length-take place f.nodes in
      omega (arith, get_or-take place f.nodes p d (omega arith), h.ascending p place d (omega arith) l, get_or_default f.nodes place d 0 l)

  piece_above : All (λ i. at ≤ i) piece
  piece_above p d q =
      let long = length-drop place f.nodes in
      omega (arith, get_or-drop place f.nodes p d, h.ascending place (place + p) d (omega arith) (omega arith), get_or_default f.nodes place d 0 l)

  absent_above : (i : ℕ) → i < at → times i piece ≡ 0
  absent_above i m = not_there i piece (λ p d q e. omega (arith, piece_above p d q, e, m))

  -- the node at the place stands in the piece, and it stands there alone
  at_once : times at rest ≡ 0
  at_once =
      omega (
        arith,
        in_both at,
        h.once at (h.inside place 0 l),
        at_most_one (is_from_to f.low f.high at && is_fresh g f.wave at),
        ap (times at) (drop_more f.nodes place 0 l),
        count_yes (λ x. eqb x at) at (drop (place + 1) f.nodes) (eq-eqb at at refl),
      )

  absent_below : (i : ℕ) → at ≤ i → times i rest ≡ 0
  absent_below i m =
      ⊎_elim
      (λ e. ap (λ x. times x rest) e ∙ at_once)
      (λ e. not_there i rest (λ p d q same. e (omega (arith, rest_below p d q, same, m))))
      (cases_eq i at)

  -- no node of the rest is the one at the place
  rest_less : All (λ i. i < at) rest
  rest_less p d q =
      ⊎_elim
      (λ e. omega (arith, at_once, get_or-le-sum_by (λ x. cond {A = ℕ} (eqb x at) 1 0) rest p d q, ap (λ t. cond {A = ℕ} t 1 0) (eq-eqb (get_or rest p d) at e)))
      (λ e. omega (arith, rest_below p d q, e))
      (cases_eq (get_or rest p d) at)

  rest_once : (i : ℕ) → IsIn f.cut f.source i → times i rest ≡ cond {A = ℕ} (is_from_to f.low at i && is_fresh g f.wave i) 1 0
  rest_once i inside = grind (arith, nat_tests, h.once i inside, in_both i, absent_above i, absent_below i, at_high)

  piece_once : (i : ℕ) → IsIn f.cut f.source i → times i piece ≡ cond {A = ℕ} (is_from_to at f.high i && is_fresh g f.wave i) 1 0
  piece_once i inside = grind (arith, nat_tests, h.once i inside, in_both i, absent_above i, absent_below i, at_low)

  pub rest_holds : FreshHolds g (rest_of f place)
  rest_holds = record {
    cut = h.cut;
    size = h.size;
    source = h.source;
    wave = h.wave;
    order = at_low;
    some = λ _. omega (arith, (h.between 0 0 (omega (arith, l))).0, rest_less 0 0 (omega (arith, length-take place f.nodes, some, l)), get_or-take place f.nodes 0 0 some);
    inside = All-take (IsIn f.cut f.source) place f.nodes h.inside;
    between = λ p d q. ((All-take (λ i. (f.low ≤ i) × (i < f.high)) place f.nodes h.between p d q).0, rest_less p d q);
    once = rest_once;
    ascending = IsNonDecreasingBy-take (λ x. x) place f.nodes h.ascending;
  }

  pub piece_holds : FreshHolds g (piece_of f place)
  piece_holds = record {
    cut = h.cut;
    size = h.size;
    source = h.source;
    wave = h.wave;
    order = omega (arith, at_high);
    some = λ _. at_high;
    inside = All-drop (IsIn f.cut f.source) place f.nodes h.inside;
    between = λ p d q. (piece_above p d q, (All-drop (λ i. (f.low ≤ i) × (i < f.high)) place f.nodes h.between p d q).1);
    once = piece_once;
    ascending = IsNonDecreasingBy-drop (λ x. x) place f.nodes h.ascending;
  }
