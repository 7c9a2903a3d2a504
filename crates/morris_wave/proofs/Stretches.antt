-- A range of nodes goes from wave to wave.
use Rattle.std.proofs.Common.{◌≡◌, ℕ, suc, ◌+◌, ◌-◌, ◌%◌, ◌<◌, ◌≤◌, ◌↔◌, Bool, true, false, not, ◌&&◌, ◌||◌, cond, eqb, ltb, List, [], length, get_or, set, refl, sym, ap, ap₂, ◌∙◌, subst, ⊎_elim, inl, ◌⊎◌, arith}
use Rattle.std.specs.List.{count_by, list_any}
use Rattle.std.specs.List.Sorted.{IsNonDecreasingBy}
use Rattle.std.proofs.lemmas.Bool.{and_from, both_ways, not_from_false, cases_Bool, lt-ltb}
use Rattle.std.proofs.lemmas.Bool.Decides.{nat_tests}
use Rattle.std.proofs.lemmas.List.Folds.{list_any_at}
use Rattle.std.proofs.lemmas.List.Sums.{count_by-le-length}
use Rattle.morris_wave.specs.Nets.{Net, IsNet, times}
use Rattle.morris_wave.specs.Lists.{list_at}
use Rattle.morris_wave.specs.Exits.{is_odd, exits_of, exits_won, last_due_of}
use Rattle.morris_wave.specs.Values.{is_decided, code_within, HasDepth, IsTooDeep}
use Rattle.morris_wave.specs.Waves.{known_won, known_lost, is_decided_at, entry_at, is_fresh, mark_code}
use Rattle.morris_wave.specs.Solving.{among, every, none}
use Rattle.morris_wave.specs.NodeRanges.{NodeRangeHolds, Ranked, code_of, Takes, ListsDue, due_wave, due_within, pending_at, waits, left_of}
use Rattle.morris_wave.proofs.Tests.{at_most_one, some_counted}
use Rattle.morris_wave.proofs.DueLists.{due_gone}
use Rattle.morris_wave.proofs.Known.{entry_open, entry_same, open_same}
use Rattle.morris_wave.proofs.Applying.{odd_entry}
use Rattle.morris_wave.proofs.Advancing.{entry_all}
use Rattle.morris_wave.proofs.Parts.{known_won_cong, known_lost_cong, new_depth, fresh_entry, fresh_code}
use Rattle.morris_wave.proofs.LateExits.{due_deep}
use Rattle.morris_wave.proofs.Steps.{waits-le, odd_pending, even_pending, even_closed, odd_pending_next, odd_entry_next, even_pending_next, even_entry_next}
use Rattle.morris_wave.proofs.Ranks.{ranked_once, some_code}

plus_one : (m : ℕ) → m + 1 ≡ suc m
plus_one m = omega arith

-- a counter is at most 65,536
pending-le : (g : Net) (law : IsNet g) (n : ℕ) (a : ℕ → Bool) (i : ℕ) → i < g.size → pending_at g n a i ≤ 65536
pending-le g law n a i l = omega (arith, law.few i l, count_by-le-length (λ j. not (known_won g n a j)) (g.quiet i), waits-le n (exits_won n (exits_of (g.exits i))))

-- and fits a byte where a node has few quiet results
few_pending : (g : Net) (n : ℕ) (a : ℕ → Bool) (i : ℕ) → length (g.quiet i) < 255 → pending_at g n a i ≤ 255
few_pending g n a i few = omega (arith, few, count_by-le-length (λ j. not (known_won g n a j)) (g.quiet i), waits-le n (exits_won n (exits_of (g.exits i))))

due_same : (wave n : ℕ) → n ≤ 65534 → 0 < n → eqb (due_within wave) n ≡ eqb wave n
due_same wave n le pos = grind (arith, nat_tests)

module _ {g : Net} (law : IsNet g) {n : ℕ} {a : ℕ → Bool} {first : ℕ} {codes counters : List ℕ} {due : List (List ℕ)} {last_due : ℕ} (h : NodeRangeHolds g n a first codes counters due last_due) where
  pub due_by : (i : ℕ) → first ≤ i → i < first + length codes → last_due_of (exits_of (g.exits i)) ≤ last_due
  due_by i low high =
      let here : first + (i - first) ≡ i = omega (arith, low) in
      subst (λ x. last_due_of (exits_of (g.exits x)) ≤ last_due) here (h.bound (i - first) (omega (arith, low, high)))

  -- an exit that comes due after the last wave shows that the graph is too deep
  pub late_deep : 65534 < last_due → IsTooDeep g
  late_deep late =
      let w = h.reached (omega (arith, late)) in
      due_deep g law (first + w.0) (omega (arith, w.1.0, h.in_graph)) (omega (arith, w.1.1, late))

  pub node_in : (k : ℕ) → k < length codes → first + k < g.size
  node_in k l = omega (arith, h.in_graph, l)

  -- the entry of a node of the range
  pub entry_is : (i : ℕ) → first ≤ i → i < first + length codes → code_of first codes i ≡ entry_at g n a i
  entry_is i low high =
      let here : first + (i - first) ≡ i = omega (arith, low) in
      h.codes_are (i - first) (omega (arith, low, high)) ∙ ap (entry_at g n a) here

  module _ (wave before here : ℕ) (decided : List ℕ) (r : Ranked true first wave codes decided before here) where
    pub decided_once : (i : ℕ) → first ≤ i → i < first + length codes → times i decided ≡ cond {A = ℕ} (is_decided_at g n a i) 1 0
    decided_once i low high =
        let at : first + (i - first) ≡ i = omega (arith, low) in
        let l : i - first < length codes = omega (arith, low, high) in
        subst (λ x. times x decided ≡ cond {A = ℕ} (is_decided_at g n a i) 1 0) at
        (ranked_once first wave before here codes decided r (i - first) l (is_decided_at g n a i)
        (subst (λ x. (x ≡ 0) ↔ (is_decided_at g n a i ≡ false)) (sym (entry_is i low high)) (entry_open g n a i)))

    pub decided_order : IsNonDecreasingBy (entry_at g n a) decided
    decided_order i j d le l =
        let p = r.inside i d (omega (arith, le, l)) in
        let q = r.inside j d l in
        omega (arith, r.order i j d le l, entry_is (get_or decided i d) p.0 p.1, entry_is (get_or decided j d) q.0 q.1)

  -- the fresh nodes are those whose entry is the wave
  pub fresh_once : (nodes : List ℕ) → ((k : ℕ) → k < length codes → times (first + k) nodes ≡ cond {A = ℕ} (ltb 0 n && eqb (get_or codes k 0) n) 1 0)
      → (i : ℕ) → first ≤ i → i < first + length codes → times i nodes ≡ cond {A = ℕ} (is_fresh g n i) 1 0
  fresh_once nodes once i low high =
      let at : first + (i - first) ≡ i = omega (arith, low) in
      let l : i - first < length codes = omega (arith, low, high) in
      subst (λ x. times x nodes ≡ cond {A = ℕ} (is_fresh g n x) 1 0) at
      (once (i - first) l
      ∙ ap (λ t. cond {A = ℕ} t 1 0)
      (ap (λ x. ltb 0 n && eqb x n) (entry_is i low high)
      ∙ (fresh_entry g n a i ∙ ap (is_fresh g n) (sym at))))

  -- the parts that are applied may be stated in other words
  pub holds_same : (b : ℕ → Bool) → ((j : ℕ) → j < g.size → known_won g n a j ≡ known_won g n b j) → ((j : ℕ) → j < g.size → known_lost g n a j ≡ known_lost g n b j)
      → NodeRangeHolds g n b first codes counters due last_due
  holds_same b won lost = record {
    in_graph = h.in_graph;
    counters_len = h.counters_len;
    codes_are = λ k l. h.codes_are k l ∙ entry_same g n a b (first + k)
        (λ p d e. won (get_or (g.quiet (first + k)) p d) (law.inside (first + k) (node_in k l) p d e))
        (λ p d e. lost (get_or (g.quiet (first + k)) p d) (law.inside (first + k) (node_in k l) p d e));
    counters_are = λ k l. h.counters_are k l ∙ ap (λ c. (c + waits n (exits_of (g.exits (first + k)))) % 65536)
        (open_same g n n a b (first + k) (λ p d e. won (get_or (g.quiet (first + k)) p d) (law.inside (first + k) (node_in k l) p d e)));
    due_are = h.due_are;
    bound = h.bound;
    reached = h.reached;
  }

  -- the parts alone count
  pub holds_alike : (b : ℕ → Bool) → ((j : ℕ) → j < g.size → a j ≡ b j) → NodeRangeHolds g n b first codes counters due last_due
  holds_alike b same = holds_same b (λ j l. known_won_cong g n a b j (same j l)) (λ j l. known_lost_cong g n a b j (same j l))

  -- the fresh nodes of `x` are applied too, to which these nodes lead
  module _ (x : ℕ → Bool) (nodes : List ℕ) (taken : (k : ℕ) → k < length codes → times (first + k) nodes ≡ count_by (λ j. x j && is_fresh g n j) (g.quiet (first + k)))
      (apart : (j : ℕ) → x j ≡ true → a j ≡ false) where
    falls : is_odd n ≡ false → (k : ℕ) → k < length codes
        → pending_at g n a (first + k) ≡ pending_at g n (λ j. a j || x j) (first + k) + times (first + k) nodes
    falls even k l = even_pending g n a x (first + k) (times (first + k) nodes) (taken k l) even apart

    -- no counter falls more often than it may
    pub take_enough : is_odd n ≡ false → (k : ℕ) → k < length codes → times (first + k) nodes ≤ left_of (get_or counters k 0)
    take_enough even k l = omega (arith, h.counters_are k l, falls even k l, pending-le g law n a (first + k) (node_in k l))

    -- nor one of 8 bits
    pub take_few : is_odd n ≡ false → (k : ℕ) → k < length codes → length (g.quiet (first + k)) < 255 → times (first + k) nodes ≤ get_or counters k 0
    take_few even k l few = omega (arith, h.counters_are k l, falls even k l, few_pending g n a (first + k) few)

    is_behind : (i : ℕ) → ltb 0 (times i nodes) ≡ among nodes i
    is_behind i = some_counted (λ y. eqb y i) nodes

    module _ (codes' counters' : List ℕ) (codes_len : length codes' ≡ length codes) (counters_len : length counters' ≡ length counters) (small : (k : ℕ) → k < length counters' → get_or counters' k 0 < 65536)
        (takes : Takes n first nodes codes codes' counters counters') where
      odd_code : is_odd n ≡ true → (k : ℕ) → k < length codes → get_or codes' k 0 ≡ entry_at g n (λ j. a j || x j) (first + k)
      odd_code odd k l =
          (takes.odd odd).0 k l
          ∙ (ap (mark_code (get_or codes k 0) (among nodes (first + k))) (plus_one n)
          ∙ (ap₂ (λ y t. mark_code y t (suc n)) (h.codes_are k l) (sym (is_behind (first + k)))
          ∙ sym (odd_entry g n a x (first + k) (times (first + k) nodes) (taken k l) odd)))

      odd_counter : is_odd n ≡ true → (k : ℕ) → k < length codes → get_or counters' k 0 ≡ pending_at g n (λ j. a j || x j) (first + k) % 65536
      odd_counter odd k l =
          ap (λ xs. get_or xs k 0) (takes.odd odd).1
          ∙ (h.counters_are k l
          ∙ ap (λ y. y % 65536) (sym (odd_pending g n a x (first + k) (times (first + k) nodes) (taken k l) odd)))

      even_counter : is_odd n ≡ false → (k : ℕ) → k < length codes → get_or counters' k 0 ≡ pending_at g n (λ j. a j || x j) (first + k) % 65536
      even_counter even k l =
          omega (arith, (takes.even even).0 k (omega (arith, h.counters_len, l)), h.counters_are k l, falls even k l, small k (omega (arith, counters_len, h.counters_len, l)))

      -- a counter that fell in this wave reads 0 where no result is left
      spent : is_odd n ≡ false → (k : ℕ) → k < length codes
          → (among nodes (first + k) && eqb (get_or counters' k 0) 0)
          ≡ (ltb 0 (times (first + k) nodes) && eqb (pending_at g n (λ j. a j || x j) (first + k)) 0)
      spent even k l = grind (arith, nat_tests, is_behind (first + k), even_counter even k l, falls even k l, pending-le g law n a (first + k) (node_in k l))

      even_code : is_odd n ≡ false → (k : ℕ) → k < length codes → get_or codes' k 0 ≡ entry_at g n (λ j. a j || x j) (first + k)
      even_code even k l =
          (takes.even even).1 k l
          ∙ (ap (mark_code (get_or codes k 0) (among nodes (first + k) && eqb (get_or counters' k 0) 0)) (plus_one n)
          ∙ (ap₂ (λ y t. mark_code y t (suc n)) (h.codes_are k l) (spent even k l)
          ∙ sym (even_closed g n a x (first + k) (times (first + k) nodes) (taken k l) even apart)))

      pub take_holds : NodeRangeHolds g n (λ j. a j || x j) first codes' counters' due last_due
      take_holds = record {
        in_graph = omega (arith, codes_len, h.in_graph);
        counters_len = counters_len ∙ (h.counters_len ∙ sym codes_len);
        codes_are = λ k l. let within : k < length codes = omega (arith, codes_len, l) in ⊎_elim (λ odd. odd_code odd k within) (λ even. even_code even k within) (cases_Bool (is_odd n));
        counters_are = λ k l. let within : k < length codes = omega (arith, codes_len, l) in ⊎_elim (λ odd. odd_counter odd k within) (λ even. even_counter even k within) (cases_Bool (is_odd n));
        due_are = subst (ListsDueOf due) (sym codes_len) h.due_are;
        bound = λ k l. h.bound k (omega (arith, codes_len, l));
        reached = λ some. let w = h.reached some in (w.0, (omega (arith, w.1.0, codes_len), w.1.1));
      }
        where
          ListsDueOf : List (List ℕ) → ℕ → Type 0
          ListsDueOf xs count = ListsDue (λ k. due_within (due_wave (exits_of (g.exits (first + k))))) (n + 1) first count xs

-- from a complete wave to the next
module _ {g : Net} (law : IsNet g) {n first : ℕ} {codes counters : List ℕ} {due : List (List ℕ)} {last_due : ℕ} (h : NodeRangeHolds g n every first codes counters due last_due)
    (last : n < 65534) where
  often_due : (k : ℕ) → k < length codes → times (first + k) (list_at due (n + 1)) ≡ cond {A = ℕ} (eqb (due_wave (exits_of (g.exits (first + k)))) (suc n)) 1 0
  often_due k l =
      h.due_are.once (n + 1) k (omega arith) l
      ∙ ap (λ (t : Bool). cond {A = ℕ} t 1 0)
      (ap (λ t. t && eqb (due_within (due_wave (exits_of (g.exits (first + k))))) (n + 1)) (lt-ltb 0 (n + 1) (omega arith))
      ∙ (due_same (due_wave (exits_of (g.exits (first + k)))) (n + 1) (omega (arith, last)) (omega arith)
      ∙ ap (eqb (due_wave (exits_of (g.exits (first + k))))) (plus_one n)))

  is_due : (k : ℕ) → k < length codes → among (list_at due (n + 1)) (first + k) ≡ eqb (due_wave (exits_of (g.exits (first + k)))) (suc n)
  is_due k l =
      sym (some_counted (λ x. eqb x (first + k)) (list_at due (n + 1)))
      ∙ (ap (ltb 0) (often_due k l) ∙ some_if (eqb (due_wave (exits_of (g.exits (first + k)))) (suc n)))
    where
      some_if : (t : Bool) → ltb 0 (cond {A = ℕ} t 1 0) ≡ t
      some_if t = grind (arith, nat_tests)

  -- no counter falls more often than it may as exits come due
  due_once : (k : ℕ) → k < length codes → times (first + k) (list_at due (n + 1)) ≤ 1
  due_once k l = omega (arith, often_due k l, at_most_one (eqb (due_wave (exits_of (g.exits (first + k)))) (suc n)))

  pub due_enough : (k : ℕ) → k < length codes → times (first + k) (list_at due (n + 1)) ≤ left_of (get_or counters k 0)
  due_enough k l = omega (arith, due_once k l)

  pub due_few : is_odd (n + 1) ≡ false → (k : ℕ) → k < length codes → length (g.quiet (first + k)) < 255 → times (first + k) (list_at due (n + 1)) ≤ get_or counters k 0
  due_few even k l few =
      omega (arith, often_due k l, even_pending_next g n (first + k) (ap is_odd (sym (plus_one n)) ∙ even), h.counters_are k l, few_pending g n every (first + k) few)

  module _ (codes' counters' : List ℕ) (codes_len : length codes' ≡ length codes) (counters_len : length counters' ≡ length counters) (small : (k : ℕ) → k < length counters' → get_or counters' k 0 < 65536)
      (comes : Takes (n + 1) first (list_at due (n + 1)) codes codes' counters counters') where
    odd_suc : (b : Bool) → is_odd (n + 1) ≡ b → is_odd (suc n) ≡ b
    odd_suc b e = ap is_odd (sym (plus_one n)) ∙ e

    new_code : (k : ℕ) → k < length codes → get_or codes' k 0 ≡ entry_at g (suc n) none (first + k)
    new_code k l =
        ⊎_elim
        (λ odd. ((comes.odd odd).0 k l)
        ∙ (ap₂ (λ x t. mark_code x t (n + 1 + 1)) (h.codes_are k l) (is_due k l)
        ∙ (ap (mark_code (entry_at g n every (first + k)) (eqb (due_wave (exits_of (g.exits (first + k)))) (suc n))) (twice n)
        ∙ sym (odd_entry_next g n (first + k) (odd_suc true odd)))))
        (λ even. ((comes.even even).1 k l)
        ∙ (ap₂ (λ x t. mark_code x t (n + 1 + 1)) (h.codes_are k l) (closes even)
        ∙ (ap (mark_code (entry_at g n every (first + k)) (eqb (due_wave (exits_of (g.exits (first + k)))) (suc n) && eqb (pending_at g (suc n) none (first + k)) 0)) (twice n)
        ∙ sym (even_entry_next g n (first + k) (odd_suc false even)))))
        (cases_Bool (is_odd (n + 1)))
      where
        twice : (m : ℕ) → m + 1 + 1 ≡ suc (suc m)
        twice m = omega arith

        closes : is_odd (n + 1) ≡ false → (among (list_at due (n + 1)) (first + k) && eqb (get_or counters' k 0) 0)
            ≡ (eqb (due_wave (exits_of (g.exits (first + k)))) (suc n) && eqb (pending_at g (suc n) none (first + k)) 0)
        closes even =
            grind (
              arith,
              nat_tests,
              is_due k l,
              often_due k l,
              even_pending_next g n (first + k) (odd_suc false even),
              (comes.even even).0 k (omega (arith, h.counters_len, l)),
              h.counters_are k l,
              small k (omega (arith, counters_len, h.counters_len, l)),
              pending-le g law n every (first + k) (omega (arith, h.in_graph, l)),
            )

    new_counter : (k : ℕ) → k < length codes → get_or counters' k 0 ≡ pending_at g (suc n) none (first + k) % 65536
    new_counter k l =
        ⊎_elim
        (λ odd. ap (λ xs. get_or xs k 0) (comes.odd odd).1 ∙ (h.counters_are k l ∙ ap (λ x. x % 65536) (sym (odd_pending_next g n (first + k) (odd_suc true odd)))))
        (λ even. omega (
          arith,
          even_pending_next g n (first + k) (odd_suc false even),
          often_due k l,
          (comes.even even).0 k (omega (arith, h.counters_len, l)),
          h.counters_are k l,
          small k (omega (arith, counters_len, h.counters_len, l)),
        ))
        (cases_Bool (is_odd (n + 1)))

    -- the list of the wave is let go once it was taken in
    pub next_holds : NodeRangeHolds g (n + 1) none first codes' counters' (set due (n + 1) []) last_due
    next_holds = record {
      in_graph = omega (arith, codes_len, h.in_graph);
      counters_len = counters_len ∙ (h.counters_len ∙ sym codes_len);
      codes_are = λ k l. new_code k (omega (arith, codes_len, l)) ∙ ap (λ m. entry_at g m none (first + k)) (sym (plus_one n));
      counters_are = λ k l. new_counter k (omega (arith, codes_len, l)) ∙ ap (λ x. x % 65536) (ap (λ m. pending_at g m none (first + k)) (sym (plus_one n)));
      due_are = subst ListsDueOf (sym codes_len) (due_gone due (n + 1) (λ k. due_within (due_wave (exits_of (g.exits (first + k))))) first (length codes) h.due_are);
      bound = λ k l. h.bound k (omega (arith, codes_len, l));
      reached = λ some. let w = h.reached some in (w.0, (omega (arith, w.1.0, codes_len), w.1.1));
    }
      where
        ListsDueOf : ℕ → Type 0
        ListsDueOf count = ListsDue (λ k. due_within (due_wave (exits_of (g.exits (first + k))))) (n + 1 + 1) first count (set due (n + 1) [])

-- before the first wave nothing is known, whatever is applied
none_won : (g : Net) (a b : ℕ → Bool) (j : ℕ) → known_won g 0 a j ≡ known_won g 0 b j
unfolding known_won
none_won g a b j = refl

none_lost : (g : Net) (a b : ℕ → Bool) (j : ℕ) → known_lost g 0 a j ≡ known_lost g 0 b j
unfolding known_lost
none_lost g a b j = refl

module _ {g : Net} (law : IsNet g) {a : ℕ → Bool} (b : ℕ → Bool) {first : ℕ} {codes counters : List ℕ} {due : List (List ℕ)} {last_due : ℕ} (h : NodeRangeHolds g 0 a first codes counters due last_due) where
  pub first_holds : NodeRangeHolds g 0 b first codes counters due last_due
  first_holds = holds_same law h b (λ j l. none_won g a b j) (λ j l. none_lost g a b j)

-- what a complete wave found
module _ {g : Net} (law : IsNet g) {n first : ℕ} {codes counters : List ℕ} {due : List (List ℕ)} {last_due : ℕ} (h : NodeRangeHolds g n every first codes counters due last_due) where
  depth_new : (i : ℕ) → HasDepth g i n → is_fresh g (suc n) i ≡ true
  unfolding is_fresh
  depth_new i d = and_from (not (is_decided g n i)) (is_decided g (suc n) i) (not_from_false (is_decided g n i) d.not_before) d.reached

  pub codes_within : (k : ℕ) → k < length codes → get_or codes k 0 ≡ code_within g (suc n) (first + k)
  codes_within k l = h.codes_are k l ∙ entry_all g n (first + k)

  -- the code of a node is the next number where it has the depth of the wave
  code_new : (k : ℕ) → k < length codes → eqb (get_or codes k 0) (n + 1) ≡ is_fresh g (suc n) (first + k)
  code_new k l = ap₂ eqb (codes_within k l) (plus_one n) ∙ fresh_code g n (first + k)

  -- a node that got its code at this wave
  pub new_node : list_any (λ c. eqb c (n + 1)) codes ≡ true → (k : ℕ) × ((k < length codes) × HasDepth g (first + k) n)
  new_node e =
      let w = some_code codes (n + 1) e in
      (w.0, (w.1.0, new_depth g n (first + w.0) (sym (code_new w.0 w.1.0) ∙ w.1.1)))

  -- where there is none, no node has the depth of the wave
  pub no_depth : list_any (λ c. eqb c (n + 1)) codes ≡ false → (i : ℕ) → first ≤ i → i < first + length codes → HasDepth g i n → ⊥
  no_depth none_yet i low high d =
      let here : first + (i - first) ≡ i = omega (arith, low) in
      let place : i - first < length codes = omega (arith, low, high) in
      both_ways (list_any (λ c. eqb c (n + 1)) codes) none_yet
      (list_any_at (λ c. eqb c (n + 1)) codes (i - first) 0 place
      (code_new (i - first) place ∙ (ap (is_fresh g (suc n)) here ∙ depth_new i d)))

  -- at the last wave an exit that isn't due, or a node that got its code, shows that the graph is
  -- too deep
  pub last_deep : n ≡ 65534 → (n < last_due) ⊎ (list_any (λ c. eqb c (n + 1)) codes ≡ true) → IsTooDeep g
  last_deep is why =
      ⊎_elim
      (λ late. late_deep law h (omega (arith, late, is)))
      (λ e. let w = new_node e in (first + w.0, omega (arith, w.1.0, h.in_graph), inl (n, omega (arith, is), w.1.1)))
      why
