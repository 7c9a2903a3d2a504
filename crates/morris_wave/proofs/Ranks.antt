-- The list of the decided nodes.
use Rattle.std.proofs.Common.{◌≡◌, ◌≢◌, ℕ, suc, ◌+◌, ◌-◌, ◌<◌, ◌≤◌, Bool, true, false, ◌&&◌, cond, eqb, ltb, List, [], ◌∷◌, ◌++◌, length, get_or, set, take, drop, refl, sym, ap, ap₂, ◌∙◌, subst, ⊎_elim, arith, ◌↔◌, replicate, length-take, length-drop, length-append, length-set, get_or-set_same, get_or-set_other}
use Rattle.std.specs.List.{All, count_by, list_any}
use Rattle.std.proofs.lemmas.Bool.{cases_eq, cases_lt, cases_Bool, cond-true, cond-false, eq-eqb, ne_eqb, eqb-true, lt-ltb, le-ltb, false_from_ne_true, both_ways, and_parts, and_from, ltb-true, false≢true}
use Rattle.std.proofs.lemmas.Bool.Decides.{nat_tests}
use Rattle.std.proofs.lemmas.List.{take_more, get_or_append_left, get_or_push, get_or_default, get_or-take, get_or-drop, drop-take, get_or-replicate, length-replicate}
use Rattle.std.proofs.lemmas.List.Sums.{get_or-le-sum_by, sum_by-append, sum_by-take-drop}
use Rattle.std.proofs.lemmas.List.Folds.{Any-from_list_any, list_any_at}
use Rattle.std.proofs.lemmas.List.Elements.{All-drop}
use Rattle.std.proofs.lemmas.List.Sorted.{IsNonDecreasingBy-push, IsNonDecreasingBy-drop}
use Rattle.morris_wave.specs.Nets.{times}
use Rattle.morris_wave.specs.Exits.{is_odd, is_won_code}
use Rattle.morris_wave.specs.NodeRanges.{Ranked, code_of}
use Rattle.morris_wave.proofs.Tests.{count-cons}

pub times-append : (i : ℕ) (xs ys : List ℕ) → times i (xs ++ ys) ≡ times i xs + times i ys
times-append i xs ys = sum_by-append (λ y. cond {A = ℕ} (eqb y i) 1 0) xs ys

-- what stands nowhere in a list stands there 0 times
pub times_none : (i : ℕ) (xs : List ℕ) → ((p : ℕ) → p < length xs → get_or xs p 0 ≢ i) → times i xs ≡ 0
times_none i [] h = refl
times_none i (x ∷ xs) h =
    let a = count-cons (λ y. eqb y i) x xs in
    let b : cond {A = ℕ} (eqb x i) 1 0 ≡ 0 = cond-false {A = ℕ} (eqb x i) 1 0 (ne_eqb x i (h 0 (omega arith))) in
    omega (arith, a, b, times_none i xs (λ p l. h (suc p) (omega (arith, l))))

-- and what stands at a place, at least once
pub times_some : (i : ℕ) (xs : List ℕ) (p : ℕ) → p < length xs → get_or xs p 0 ≡ i → 0 < times i xs
times_some i xs p l e =
    let le = get_or-le-sum_by (λ x. cond {A = ℕ} (eqb x i) 1 0) xs p 0 l in
    let one : cond {A = ℕ} (eqb (get_or xs p 0) i) 1 0 ≡ 1 = cond-true {A = ℕ} (eqb (get_or xs p 0) i) 1 0 (eq-eqb (get_or xs p 0) i e) in
    omega (arith, le, one)

-- a code of a list stands somewhere in it
pub some_code : (cs : List ℕ) (n : ℕ) → list_any (λ c. eqb c n) cs ≡ true → (k : ℕ) × ((k < length cs) × (eqb (get_or cs k 0) n ≡ true))
some_code cs n e =
    let w = Any-from_list_any (λ c. eqb c n) cs e in
    (w.0, (w.2, ap (λ c. eqb c n) (get_or_default cs w.0 0 w.1 w.2 ∙ w.3) ∙ w.4))

module _ {all : Bool} (first wave before here : ℕ) (codes decided : List ℕ) (h : Ranked all first wave codes decided before here) where
  -- a decided node has a code
  pub ranked_code : (p : ℕ) → p < length decided → 0 < code_of first codes (get_or decided p 0)
  ranked_code p l =
      let i = get_or decided p 0 in
      let at = h.inside p 0 l in
      let back : i ≡ first + (i - first) = omega (arith, at.0) in
      let many : 0 < times (first + (i - first)) decided = times_some (first + (i - first)) decided p l back in
      ⊎_elim
      (λ z.
      let once = h.once (i - first) (omega (arith, at.0, at.1)) (λ _ pos. absurd (omega (arith, z, pos))) in
      absurd (omega (arith, many, once, cond-true {A = ℕ} (eqb (get_or codes (i - first) 0) 0) 0 1 (eq-eqb (get_or codes (i - first) 0) 0 z))))
      (λ z. omega (arith, z))
      (cases_eq (get_or codes (i - first) 0) 0)

  -- an open node gets the code of this wave
  module _ (place : ℕ) (inside : place < length codes) (open_yet : get_or codes place 0 ≡ 0) where
    same_code : (p : ℕ) → p < length decided → code_of first (set codes place (wave + 1)) (get_or decided p 0) ≡ code_of first codes (get_or decided p 0)
    same_code p l =
        let i = get_or decided p 0 in
        let pos = ranked_code p l in
        get_or-set_other codes place (i - first) (wave + 1) 0 (λ e. absurd (omega (arith, pos, open_yet, ap (λ x. get_or codes x 0) e)))

    new_code : code_of first (set codes place (wave + 1)) (first + place) ≡ wave + 1
    new_code =
        let e : place ≡ first + place - first = omega arith in
        subst (λ x. get_or (set codes place (wave + 1)) x 0 ≡ wave + 1) e (get_or-set_same codes place (wave + 1) 0 inside)

    old_at : (p : ℕ) → p < length decided → get_or (decided ++ (first + place) ∷ []) p 0 ≡ get_or decided p 0
    old_at p l = get_or_append_left decided ((first + place) ∷ []) 0 p l

    new_at : get_or (decided ++ (first + place) ∷ []) (length decided) 0 ≡ first + place
    new_at = get_or_push decided (first + place) 0 (length decided) refl

    len : length (decided ++ (first + place) ∷ []) ≡ length decided + 1
    len = length-append decided ((first + place) ∷ [])

    at : (p : ℕ) → p < length decided → code_of first (set codes place (wave + 1)) (get_or (decided ++ (first + place) ∷ []) p 0) ≡ code_of first codes (get_or decided p 0)
    at p l = ap (code_of first (set codes place (wave + 1))) (old_at p l) ∙ same_code p l

    at_most : (p : ℕ) → p < length decided → code_of first codes (get_or decided p 0) ≤ wave + 1
    at_most p l =
        ⊎_elim
        (λ a. omega (arith, h.early p a))
        (λ a. ⊎_elim (λ b. omega (arith, h.last p a b)) (λ b. omega (arith, h.this p b l)) (cases_lt p here))
        (cases_lt p before)

    pub ranked_more : Ranked all first wave (set codes place (wave + 1)) (decided ++ (first + place) ∷ []) before here
    ranked_more = record {
      inside = λ p d l.
          ⊎_elim
          (λ a. let w = h.inside p d a in
          let e : get_or (decided ++ (first + place) ∷ []) p d ≡ get_or decided p d = get_or_append_left decided ((first + place) ∷ []) d p a in
          (omega (arith, e, w.0), omega (arith, e, w.1, length-set codes place (wave + 1))))
          (λ a. let e : get_or (decided ++ (first + place) ∷ []) p d ≡ first + place = get_or_push decided (first + place) d p (omega (arith, a, l, len)) in
          (omega (arith, e), omega (arith, e, inside, length-set codes place (wave + 1))))
          (cases_lt p (length decided));
      once = λ k l node_range.
          grind (
            arith,
            nat_tests,
            times-append (first + k) decided ((first + place) ∷ []),
            count-cons (λ y. eqb y (first + k)) (first + place) [],
            length-set codes place (wave + 1),
            get_or-set_same codes place (wave + 1) 0 inside,
            get_or-set_other codes place k (wave + 1) 0,
            h.once k,
            node_range,
          );
      order =
          IsNonDecreasingBy-push (code_of first (set codes place (wave + 1))) decided (first + place)
          (λ i j d le l.
          let ei : get_or decided i d ≡ get_or decided i 0 = get_or_default decided i d 0 (omega (arith, le, l)) in
          let ej : get_or decided j d ≡ get_or decided j 0 = get_or_default decided j d 0 l in
          let ci = ap (code_of first (set codes place (wave + 1))) ei ∙ same_code i (omega (arith, le, l)) in
          let cj = ap (code_of first (set codes place (wave + 1))) ej ∙ same_code j l in
          omega (arith, ci, cj, h.order i j 0 le l))
          (λ d some.
          let p = length decided - 1 in
          let within : p < length decided = omega (arith, some) in
          let e : get_or decided p d ≡ get_or decided p 0 = get_or_default decided p d 0 within in
          let c = ap (code_of first (set codes place (wave + 1))) e ∙ same_code p within in
          omega (arith, c, at_most p within, new_code));
      starts = h.starts;
      within = omega (arith, h.within, len);
      early = λ p l. omega (arith, at p (omega (arith, l, h.starts, h.within)), h.early p l);
      last = λ p a b. at p (omega (arith, b, h.within)) ∙ h.last p a b;
      this = λ p a l.
          ⊎_elim
          (λ b. at p b ∙ h.this p a b)
          (λ b. let e : p ≡ length decided = omega (arith, b, l, len) in
          subst (λ x. code_of first (set codes place (wave + 1)) (get_or (decided ++ (first + place) ∷ []) x 0) ≡ wave + 1) (sym e)
          (ap (code_of first (set codes place (wave + 1))) new_at ∙ new_code))
          (cases_lt p (length decided));
    }

  -- the next wave
  pub ranked_next : Ranked all first (wave + 1) codes decided here (length decided)
  ranked_next = record {
    inside = h.inside;
    once = λ k l node_range. h.once k l (λ some pos. let le = node_range some pos in omega (arith, le));
    order = h.order;
    starts = h.within;
    within = omega arith;
    early = λ p l. ⊎_elim (λ a. omega (arith, h.early p a)) (λ a. omega (arith, h.last p a l)) (cases_lt p before);
    last = λ p a b. h.this p a b;
    this = λ p a l. absurd (omega (arith, a, l));
  }

  -- nodes of codes below the wave are let go, unless all are retained
  module _ (gone : ℕ) (le : gone ≤ before) (whole : all ≡ true → gone ≡ 0) where
    later : (p : ℕ) → get_or (drop gone decided) p 0 ≡ get_or decided (gone + p) 0
    later p = get_or-drop gone decided p 0

    left : length (drop gone decided) ≡ length decided - gone
    left = length-drop gone decided

    -- what was let go has a code below the wave
    gone_early : (k : ℕ) → wave ≤ get_or codes k 0 → times (first + k) (take gone decided) ≡ 0
    gone_early k late =
        times_none (first + k) (take gone decided)
        (λ p l z.
        let q : p < gone = omega (arith, l, length-take gone decided) in
        let at : get_or decided p 0 ≡ first + k = sym (get_or-take gone decided p 0 q) ∙ z in
        let less : get_or decided p 0 - first ≡ k = omega (arith, at) in
        let c : code_of first codes (get_or decided p 0) ≡ get_or codes k 0 = ap (λ x. get_or codes x 0) less in
        omega (arith, h.early p (omega (arith, q, le)), c, late))

    pub ranked_drop : Ranked all first wave codes (drop gone decided) (before - gone) (here - gone)
    ranked_drop = record {
      inside = All-drop (λ i. (first ≤ i) × (i < first + length codes)) gone decided h.inside;
      once = λ k l node_range.
          let parts : times (first + k) (take gone decided) + times (first + k) (drop gone decided) ≡ times (first + k) decided = sum_by-take-drop (λ x. cond {A = ℕ} (eqb x (first + k)) 1 0) decided gone in
          let old = h.once k l node_range in
          let none : times (first + k) (take gone decided) ≡ 0 =
          ⊎_elim
          (λ (e : get_or codes k 0 ≡ 0). omega (arith, parts, old, cond-true {A = ℕ} (eqb (get_or codes k 0) 0) 0 1 (eq-eqb (get_or codes k 0) 0 e)))
          (λ (ne : get_or codes k 0 ≡ 0 → ⊥).
          ⊎_elim
          (λ (t : all ≡ true). ap (λ n. times (first + k) (take n decided)) (whole t))
          (λ (f : all ≡ false). gone_early k (node_range f (omega (arith, ne))))
          (cases_Bool all))
          (cases_eq (get_or codes k 0) 0) in
          omega (arith, parts, old, none);
      order = IsNonDecreasingBy-drop (code_of first codes) gone decided h.order;
      starts = omega (arith, h.starts);
      within = omega (arith, h.within, left);
      early = λ p l. let e = ap (code_of first codes) (later p) in omega (arith, e, h.early (gone + p) (omega (arith, l)));
      last = λ p a b. ap (code_of first codes) (later p) ∙ h.last (gone + p) (omega (arith, a)) (omega (arith, b));
      this = λ p a l. ap (code_of first codes) (later p) ∙ h.this (gone + p) (omega (arith, a)) (omega (arith, l, left));
    }

  -- the wave's range of the list has each node of its code once, and no other
  pub node_range_once : (k : ℕ) → k < length codes → times (first + k) (take (here - before) (drop before decided)) ≡ cond {A = ℕ} (ltb 0 wave && eqb (get_or codes k 0) wave) 1 0
  node_range_once k l =
      let upper : times (first + k) (take here decided) + times (first + k) (drop here decided) ≡ times (first + k) decided = sum_by-take-drop (λ x. cond {A = ℕ} (eqb x (first + k)) 1 0) decided here in
      let lower : times (first + k) (take before (take here decided)) + times (first + k) (drop before (take here decided)) ≡ times (first + k) (take here decided) =
      sum_by-take-drop (λ x. cond {A = ℕ} (eqb x (first + k)) 1 0) (take here decided) before in
      let whole : before + (here - before) ≡ here = omega (arith, h.starts) in
      let mid : drop before (take here decided) ≡ take (here - before) (drop before decided) =
      ap (λ n. drop before (take n decided)) (sym whole) ∙ drop-take before (here - before) decided in
      let same : times (first + k) (drop before (take here decided)) ≡ times (first + k) (take (here - before) (drop before decided)) = ap (times (first + k)) mid in
      ⊎_elim
      (λ e. let w = and_parts (ltb 0 wave) (eqb (get_or codes k 0) wave) e in
      let is : get_or codes k 0 ≡ wave = eqb-true (get_or codes k 0) wave w.1 in
      let pos : 0 < wave = ltb-true 0 wave w.0 in
      let one : times (first + k) decided ≡ 1 = h.once k l (λ _ _. omega (arith, is)) ∙ cond-false {A = ℕ} (eqb (get_or codes k 0) 0) 0 1 (ne_eqb (get_or codes k 0) 0 (λ z. omega (arith, z, is, pos))) in
      let none_before : times (first + k) (take before (take here decided)) ≡ 0 =
      times_none (first + k) (take before (take here decided))
      (λ p lp z. let q : p < before = omega (arith, lp, length-take before (take here decided)) in
      let at : get_or (take before (take here decided)) p 0 ≡ get_or decided p 0 = get_or-take before (take here decided) p 0 q ∙ get_or-take here decided p 0 (omega (arith, q, h.starts)) in
      let c = here_code k (get_or decided p 0) (sym at ∙ z) in
      omega (arith, h.early p q, c, is)) in
      let none_after : times (first + k) (drop here decided) ≡ 0 =
      times_none (first + k) (drop here decided)
      (λ p lp z. let at : get_or (drop here decided) p 0 ≡ get_or decided (here + p) 0 = get_or-drop here decided p 0 in
      let c = here_code k (get_or decided (here + p) 0) (sym at ∙ z) in
      let q : here + p < length decided = omega (arith, lp, length-drop here decided) in
      omega (arith, h.this (here + p) (omega arith) q, c, is)) in
      omega (arith, upper, lower, same, one, none_before, none_after, cond-true {A = ℕ} (ltb 0 wave && eqb (get_or codes k 0) wave) 1 0 e))
      (λ e. let none_here : times (first + k) (take (here - before) (drop before decided)) ≡ 0 =
      times_none (first + k) (take (here - before) (drop before decided))
      (λ p lp z. let q : p < here - before = omega (arith, lp, length-take (here - before) (drop before decided)) in
      let at : get_or (take (here - before) (drop before decided)) p 0 ≡ get_or decided (before + p) 0 = get_or-take (here - before) (drop before decided) p 0 q ∙ get_or-drop before decided p 0 in
      let c = here_code k (get_or decided (before + p) 0) (sym at ∙ z) in
      let is = h.last (before + p) (omega arith) (omega (arith, q)) in
      let pos = ranked_code (before + p) (omega (arith, q, h.within)) in
      both_ways (ltb 0 wave && eqb (get_or codes k 0) wave) e
      (and_from (ltb 0 wave) (eqb (get_or codes k 0) wave) (lt-ltb 0 wave (omega (arith, is, pos))) (eq-eqb (get_or codes k 0) wave (omega (arith, c, is))))) in
      omega (arith, none_here, cond-false {A = ℕ} (ltb 0 wave && eqb (get_or codes k 0) wave) 1 0 e))
      (cases_Bool (ltb 0 wave && eqb (get_or codes k 0) wave))
    where
      here_code : (j i : ℕ) → i ≡ first + j → code_of first codes i ≡ get_or codes j 0
      here_code j i e = let less : i - first ≡ j = omega (arith, e) in ap (λ x. get_or codes x 0) less

  pub node_range_inside : All (λ i. (first ≤ i) × (i < first + length codes)) (take (here - before) (drop before decided))
  node_range_inside p d l =
      let q : p < here - before = omega (arith, l, length-take (here - before) (drop before decided)) in
      let at : get_or (take (here - before) (drop before decided)) p d ≡ get_or decided (before + p) d = get_or-take (here - before) (drop before decided) p d q ∙ get_or-drop before decided p d in
      let w = h.inside (before + p) d (omega (arith, q, h.within)) in
      (omega (arith, at, w.0), omega (arith, at, w.1))

  -- some node got the code of this wave exactly where the range after that isn't empty
  pub some_this : ltb here (length decided) ≡ list_any (λ c. eqb c (wave + 1)) codes
  some_this =
      ⊎_elim
      (λ (l : here < length decided).
      let i = get_or decided here 0 in
      let w = h.inside here 0 l in
      lt-ltb here (length decided) l
      ∙ sym (list_any_at (λ c. eqb c (wave + 1)) codes (i - first) 0 (omega (arith, w.0, w.1)) (eq-eqb (get_or codes (i - first) 0) (wave + 1) (h.this here (omega arith) l))))
      (λ (ge : length decided ≤ here).
      le-ltb here (length decided) ge
      ∙ sym (false_from_ne_true (list_any (λ c. eqb c (wave + 1)) codes) (λ e.
      let w = some_code codes (wave + 1) e in
      let is : get_or codes w.0 0 ≡ wave + 1 = eqb-true (get_or codes w.0 0) (wave + 1) w.1.1 in
      let one : times (first + w.0) decided ≡ 1 = h.once w.0 w.1.0 (λ _ _. omega (arith, is)) ∙ cond-false {A = ℕ} (eqb (get_or codes w.0 0) 0) 0 1 (ne_eqb (get_or codes w.0 0) 0 (λ z. omega (arith, z, is))) in
      let nowhere : times (first + w.0) decided ≡ 0 =
      times_none (first + w.0) decided
      (λ p l z. let less : get_or decided p 0 - first ≡ w.0 = omega (arith, z) in
      let c : code_of first codes (get_or decided p 0) ≡ wave + 1 = ap (λ x. get_or codes x 0) less ∙ is in
      ⊎_elim (λ a. omega (arith, h.early p a, c)) (λ a. omega (arith, h.last p a (omega (arith, l, ge)), c)) (cases_lt p before)) in
      omega (arith, one, nowhere))))
      (cases_lt here (length decided))

-- each decided node once where all are retained, by any test that says which codes aren't 0
pub ranked_once : (first wave before here : ℕ) (codes decided : List ℕ) → Ranked true first wave codes decided before here → (k : ℕ) → k < length codes → (test : Bool)
    → (get_or codes k 0 ≡ 0) ↔ (test ≡ false) → times (first + k) decided ≡ cond {A = ℕ} test 1 0
ranked_once first wave before here codes decided h k l test e =
    grind (arith, nat_tests, h.once k l (λ f _. absurd (false≢true (sym f))), e.0, e.1)

-- before the first wave nothing is decided
pub ranked_none : (first count : ℕ) (codes : List ℕ) → codes ≡ replicate count 0 → (all : Bool) → Ranked all first 0 codes [] 0 0
ranked_none first count codes is all = record {
  inside = λ p d l. absurd (omega (arith, l));
  once = λ k l _. sym (cond-true {A = ℕ} (eqb (get_or codes k 0) 0) 0 1 (eq-eqb (get_or codes k 0) 0 (ap (λ xs. get_or xs k 0) is ∙ get_or-replicate count k 0 0 (omega (arith, l, ap length is, length-replicate {A = ℕ} count 0)))));
  order = λ i j d le l. absurd (omega (arith, l));
  starts = omega arith;
  within = omega arith;
  early = λ p l. absurd (omega (arith, l));
  last = λ p a b. absurd (omega (arith, b));
  this = λ p a l. absurd (omega (arith, l));
}

-- each code is won, lost or 0
pub three_kinds : (cs : List ℕ) → count_by is_won_code cs + count_by is_odd cs + count_by (λ c. eqb c 0) cs ≡ length cs
three_kinds [] = refl
three_kinds (c ∷ cs) =
    let e = count-cons is_won_code c cs in
    let f = count-cons is_odd c cs in
    let h = count-cons (λ x. eqb x 0) c cs in
    omega (arith, e, f, h, three_kinds cs, one_kind c)
  where
    one_kind : (x : ℕ) → cond {A = ℕ} (is_won_code x) 1 0 + cond {A = ℕ} (is_odd x) 1 0 + cond {A = ℕ} (eqb x 0) 1 0 ≡ 1
    one_kind x = grind (arith, nat_tests)

-- while an entry is open not all nodes are listed
pub room_left : (codes : List ℕ) (place : ℕ) → place < length codes → get_or codes place 0 ≡ 0 → count_by is_won_code codes + count_by is_odd codes < length codes
room_left codes place inside open_yet =
    let all = three_kinds codes in
    let le = get_or-le-sum_by (λ x. cond {A = ℕ} (eqb x 0) 1 0) codes place 0 inside in
    let one : cond {A = ℕ} (eqb (get_or codes place 0) 0) 1 0 ≡ 1 = cond-true {A = ℕ} (eqb (get_or codes place 0) 0) 1 0 (eq-eqb (get_or codes place 0) 0 open_yet) in
    omega (arith, all, le, one)

-- a wave's range of the list, node after node
pub node_range_none : (before : ℕ) (decided : List ℕ) → [] ≡ take (before - before) (drop before decided)
node_range_none before decided = let z : 0 ≡ before - before = omega arith in ap (λ n. take n (drop before decided)) z

pub node_range_more : (before place : ℕ) (decided nodes : List ℕ) (node : ℕ) → before ≤ place → place < length decided → nodes ≡ take (place - before) (drop before decided) → node ≡ get_or decided place 0
    → nodes ++ node ∷ [] ≡ take (place + 1 - before) (drop before decided)
node_range_more before place decided nodes node low high so_far is =
    let there : before + (place - before) ≡ place = omega (arith, low) in
    let next : place - before + 1 ≡ place + 1 - before = omega (arith, low) in
    let at : node ≡ get_or (drop before decided) (place - before) 0 = is ∙ (ap (λ p. get_or decided p 0) (sym there) ∙ sym (get_or-drop before decided (place - before) 0)) in
    ap₂ (λ xs x. xs ++ x ∷ []) so_far at
    ∙ (sym (take_more (drop before decided) (place - before) 0 (omega (arith, low, high, length-drop before decided)))
    ∙ ap (λ n. take n (drop before decided)) next)
