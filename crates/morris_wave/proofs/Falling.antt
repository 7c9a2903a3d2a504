-- Counters of 16 bits that fall, and the nodes that are spent.
use Rattle.std.proofs.Common.{◌≡◌, ℕ, ◌+◌, ◌-◌, ◌%◌, ◌<◌, ◌≤◌, Bool, true, false, ◌&&◌, ◌||◌, cond, eqb, List, length, get_or, set, take, refl, sym, ap, ◌∙◌, subst, ⊎_elim, arith, get_or-set_other, get_or-set_same, length-set}
use Rattle.std.proofs.lemmas.Bool.{cond-true, cond-false, eq-eqb, ne_eqb, cases_eq, cases_lt}
use Rattle.std.proofs.lemmas.Bool.Decides.{nat_tests}
use Rattle.std.proofs.lemmas.List.Sums.{sum_by-take-le}
use Rattle.morris_wave.specs.Nets.{times}
use Rattle.morris_wave.specs.Solving.{Marks, among}
use Rattle.morris_wave.specs.NodeRanges.{LowersBy, left_of}
use Rattle.morris_wave.proofs.ExitTests.{and_true}
use Rattle.morris_wave.proofs.Tests.{some_counted}
use Rattle.morris_wave.proofs.Marking.{marks_twice, among_more, times_more}

-- One number more of a list, which stands for a place: that of k is `e k`.
module _ (e : ℕ → ℕ) (nodes : List ℕ) (i node place : ℕ) (inside : i < length nodes) (is : node ≡ get_or nodes i 0) (old mid : List ℕ)
    (at_place : (k : ℕ) → k < length old → eqb place k ≡ eqb node (e k)) (len : length mid ≡ length old) (h : LowersBy e old mid (take i nodes)) (l : place < length old) where
  times_here : times (e place) (take (i + 1) nodes) ≡ times (e place) (take i nodes) + 1
  times_here = times_more nodes i node inside is (e place) ∙ ap (λ n. times (e place) (take i nodes) + n) (cond-true {A = ℕ} (eqb node (e place)) 1 0 (sym (at_place place l) ∙ eq-eqb place place refl))

  pub lowers_more : LowersBy e old (set mid place ((get_or mid place 0 + 65535) % 65536)) (take (i + 1) nodes)
  lowers_more k kl =
      ⊎_elim
      (λ q. subst (λ x. (get_or (set mid place ((get_or mid place 0 + 65535) % 65536)) x 0 + times (e x) (take (i + 1) nodes)) % 65536 ≡ get_or old x 0) q here)
      (λ q. let other : get_or (set mid place ((get_or mid place 0 + 65535) % 65536)) k 0 ≡ get_or mid k 0 = get_or-set_other mid place k ((get_or mid place 0 + 65535) % 65536) 0 (λ z. q (sym z)) in
      let same_times : times (e k) (take (i + 1) nodes) ≡ times (e k) (take i nodes) + 0 =
      times_more nodes i node inside is (e k) ∙ ap (λ n. times (e k) (take i nodes) + n) (cond-false {A = ℕ} (eqb node (e k)) 1 0 (sym (at_place k kl) ∙ ne_eqb place k q)) in
      omega (arith, other, same_times, h k kl))
      (cases_eq place k)
    where
      here : (get_or (set mid place ((get_or mid place 0 + 65535) % 65536)) place 0 + times (e place) (take (i + 1) nodes)) % 65536 ≡ get_or old place 0
      here =
          let same : get_or (set mid place ((get_or mid place 0 + 65535) % 65536)) place 0 ≡ (get_or mid place 0 + 65535) % 65536 =
          get_or-set_same mid place ((get_or mid place 0 + 65535) % 65536) 0 (omega arith) in
          omega (arith, same, times_here, h place l)

  -- a counter that fell isn't spent before its last fall
  not_spent : times (e place) nodes ≤ left_of (get_or old place 0) → (among (take i nodes) (e place) && eqb (get_or mid place 0) 0) ≡ false
  not_spent enough =
      let le : times (e place) (take (i + 1) nodes) ≤ times (e place) nodes = sum_by-take-le (λ x. cond {A = ℕ} (eqb x (e place)) 1 0) nodes (i + 1) in
      grind (arith, nat_tests, some_counted (λ x. eqb x (e place)) (take i nodes), h place l, times_here)

  -- a counter that falls once more has a fall left
  pub falls_left : (left : ℕ → ℕ) → ((count : ℕ) → left count ≤ left_of count) → ((count : ℕ) → 0 < count → left count ≡ left_of count)
      → times (e place) nodes ≤ left (get_or old place 0) → 0 < left (get_or mid place 0)
  falls_left left less same enough =
      let le : times (e place) (take (i + 1) nodes) ≤ times (e place) nodes = sum_by-take-le (λ x. cond {A = ℕ} (eqb x (e place)) 1 0) nodes (i + 1) in
      ⊎_elim
      (λ (some : 0 < get_or mid place 0). omega (arith, same (get_or mid place 0) some))
      (λ (none : get_or mid place 0 ≤ 0).
      ⊎_elim
      (λ (some : 0 < get_or old place 0). absurd (omega (arith, none, some, h place l, le, times_here, enough, same (get_or old place 0) some)))
      (λ (nothing : get_or old place 0 ≤ 0).
      let alike : left (get_or old place 0) ≡ left (get_or mid place 0) = ap left (omega (arith, none, nothing)) in
      omega (arith, alike, le, times_here, enough))
      (cases_lt 0 (get_or old place 0)))
      (cases_lt 0 (get_or mid place 0))

  -- so each is closed as it is spent
  pub spent_more : (codes mcodes ncodes : List ℕ) (code now : ℕ) (ready : Bool) → 0 < code → length mcodes ≡ length codes → length codes ≡ length old
      → times (e place) nodes ≤ left_of (get_or old place 0)
      → ready ≡ eqb now 0
      → Marks codes mcodes (λ k. among (take i nodes) (e k) && eqb (get_or mid k 0) 0) code
      → Marks mcodes ncodes (λ k. eqb place k && ready) code
      → Marks codes ncodes (λ k. among (take (i + 1) nodes) (e k) && eqb (get_or (set mid place now) k 0) 0) code
  spent_more codes mcodes ncodes code now ready pos clen olen enough q a b =
      marks_twice codes mcodes ncodes (λ k. among (take i nodes) (e k) && eqb (get_or mid k 0) 0) (λ k. eqb place k && ready)
      (λ k. among (take (i + 1) nodes) (e k) && eqb (get_or (set mid place now) k 0) 0) code pos clen
      (λ k kl.
      grind (
        arith,
        nat_tests,
        among_more nodes i node inside is (e k),
        at_place k (omega (arith, kl, olen)),
        get_or-set_same mid place now 0 (omega arith),
        get_or-set_other mid place k now 0,
        not_spent enough,
        q,
      )) a b

-- one counter more that is small
pub small_set : (counters : List ℕ) (place now : ℕ) → ((k : ℕ) → k < length counters → get_or counters k 0 < 65536) → now < 65536
    → (k : ℕ) → k < length (set counters place now) → get_or (set counters place now) k 0 < 65536
small_set counters place now small fits k l =
    let len : length (set counters place now) ≡ length counters = length-set counters place now in
    ⊎_elim
    (λ e. subst (λ x. get_or (set counters place now) x 0 < 65536) e (omega (arith, fits, get_or-set_same counters place now 0 (omega (arith, e, l, len)))))
    (λ e. omega (arith, get_or-set_other counters place k now 0 (λ z. e (sym z)), small k (omega (arith, l, len))))
    (cases_eq place k)

-- the place of a node of a block
pub node_place : (first node : ℕ) → first ≤ node → (k : ℕ) → eqb (node - first) k ≡ eqb node (first + k)
node_place first node from k = grind (arith, nat_tests)

-- one node more that is marked whatever its counter
pub marked_more : (nodes : List ℕ) (i node : ℕ) → i < length nodes → node ≡ get_or nodes i 0 → (first place : ℕ) → ((k : ℕ) → eqb place k ≡ eqb node (first + k))
    → (codes mid new : List ℕ) (code : ℕ) → 0 < code → length mid ≡ length codes
    → Marks codes mid (λ k. among (take i nodes) (first + k)) code → Marks mid new (λ k. eqb place k && true) code → Marks codes new (λ k. among (take (i + 1) nodes) (first + k)) code
marked_more nodes i node inside is first place at_place codes mid new code pos len a b =
    marks_twice codes mid new (λ k. among (take i nodes) (first + k)) (λ k. eqb place k && true) (λ k. among (take (i + 1) nodes) (first + k)) code pos len
    (λ k l. among_more nodes i node inside is (first + k) ∙ ap (λ t. among (take i nodes) (first + k) || t) (sym (at_place k) ∙ and_true (eqb place k))) a b
