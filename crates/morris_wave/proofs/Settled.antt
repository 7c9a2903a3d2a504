-- What a block's tallies, list and entries say of its nodes.
use Rattle.std.proofs.Common.{◌≡◌, ℕ, ◌+◌, ◌-◌, ◌<◌, ◌≤◌, Bool, true, false, ◌↔◌, not, ◌&&◌, cond, eqb, ltb, List, length, get_or, refl, sym, ap, ap₂, ◌∙◌, subst, ◌⊎◌, arith}
use Rattle.std.specs.List.{All, list_any}
use Rattle.std.specs.List.Sorted.{IsPermutation, IsNonDecreasingBy}
use Rattle.std.proofs.lemmas.Bool.{lt-ltb, le-ltb, not-true, not_from_false, false_from_ne_true}
use Rattle.std.proofs.lemmas.List.{same_lists, get_or_default}
use Rattle.std.proofs.lemmas.List.Sorted.{All-permutation, sum_by-IsPermutation}
use Rattle.std.proofs.lemmas.List.FromFn.{get_or-map-range_with_len, length-map-range_with_len}
use Rattle.morris_wave.specs.Nets.{Net, IsNet, times}
use Rattle.morris_wave.specs.Values.{HasCode, IsTooDeep}
use Rattle.morris_wave.specs.Waves.{entry_at, is_decided_at, is_fresh}
use Rattle.morris_wave.specs.NodeRanges.{Ranked}
use Rattle.morris_wave.specs.Blocks.{IsIn, BlockState, BlockHolds, is_complete, in_applied, first_node, count_of, entries_of, IsLastDue, IsSettled}
use Rattle.morris_wave.specs.Batches.{is_from_to}
pub use Rattle.morris_wave.proofs.Ranks.{three_kinds}
use Rattle.morris_wave.proofs.Known.{entry_code, entry_open}
use Rattle.morris_wave.proofs.Stretches.{entry_is, decided_once, decided_order, fresh_once, new_node, no_depth, due_by, last_deep}
use Rattle.morris_wave.proofs.Blocking.{first_of-le, inside_low, inside_high, node_inside, complete_holds}

module _ {g : Net} (law : IsNet g) {s : BlockState} {first : ℕ} {codes counters : List ℕ} {due : List (List ℕ)} {last_due most : ℕ} (h : BlockHolds g s first codes counters due last_due most) where
  low : (i : ℕ) → IsIn s.cut s.number i → first ≤ i
  low i inside = inside_low law h i inside

  high : (i : ℕ) → IsIn s.cut s.number i → i < first + length codes
  high i inside = inside_high law h i inside

  pub codes_entries : codes ≡ entries_of g s
  codes_entries =
      same_lists codes (entries_of g s) (h.count_is ∙ sym (length-map-range_with_len (entry_at g s.wave (in_applied s)) (first_node s) (count_of s)))
      (λ k d l. let within : k < count_of s = omega (arith, h.count_is, l) in
      get_or_default codes k d 0 l
      ∙ (h.node_range.codes_are k l
      ∙ (ap (λ f. entry_at g s.wave (in_applied s) (f + k)) h.first_is
      ∙ sym (get_or-map-range_with_len (entry_at g s.wave (in_applied s)) (first_node s) (count_of s) k (first_node s + k) d within refl))))

  module _ (i : ℕ) (inside : IsIn s.cut s.number i) (code : ℕ) (at : code ≡ get_or codes (i - first) 0) where
    entry_read : code ≡ entry_at g s.wave (in_applied s) i
    entry_read = at ∙ entry_is law h.node_range i (low i inside) (high i inside)

    pub code_value : code ≡ entry_at g s.wave (in_applied s) i
    code_value = entry_read

    -- an entry that is there is the code of its node
    pub code_exact : 0 < code → HasCode g i code
    code_exact some = subst (λ x. HasCode g i x) (sym entry_read) (entry_code g s.wave (in_applied s) i (omega (arith, entry_read, some)))

    -- and one is there exactly where the node is decided
    pub code_open : (code ≡ 0) ↔ (is_decided_at g s.wave (in_applied s) i ≡ false)
    code_open = subst (λ x. (x ≡ 0) ↔ (is_decided_at g s.wave (in_applied s) i ≡ false)) (sym entry_read) (entry_open g s.wave (in_applied s) i)

  -- the list of the decided nodes
  module _ {wave before here : ℕ} {decided nodes : List ℕ} (same : nodes ≡ decided) (r : Ranked true first wave codes decided before here) where
    pub list_inside : All (IsIn s.cut s.number) nodes
    list_inside = subst (λ xs. All (IsIn s.cut s.number) xs) (sym same) (λ p d l. let w = r.inside p d l in node_inside law h (get_or decided p d) w.0 w.1)

    pub list_once : (i : ℕ) → IsIn s.cut s.number i → times i nodes ≡ cond {A = ℕ} (is_decided_at g s.wave (in_applied s) i) 1 0
    list_once i inside = ap (times i) same ∙ decided_once law h.node_range wave before here decided r i (low i inside) (high i inside)

    pub list_order : IsNonDecreasingBy (entry_at g s.wave (in_applied s)) nodes
    list_order = subst (λ xs. IsNonDecreasingBy (entry_at g s.wave (in_applied s)) xs) (sym same) (decided_order law h.node_range wave before here decided r)

  -- the fresh nodes, as they are found and in ascending order
  module _ {found nodes : List ℕ} (same : IsPermutation found nodes) where
    pub fresh_inside : All (λ i. (first ≤ i) × (i < first + length codes)) found → All (IsIn s.cut s.number) nodes
    fresh_inside all =
        All-permutation (IsIn s.cut s.number) found nodes same
        (λ p d l. let w = all p d l in node_inside law h (get_or found p d) w.0 w.1)

    pub fresh_between : All (λ i. (first ≤ i) × (i < first + length codes)) found → All (λ i. (0 ≤ i) × (i < s.cut.size)) nodes
    fresh_between all p d l = let w = fresh_inside all p d l in (omega arith, omega (arith, w.1, first_of-le s.cut h.cut (s.number + 1) (omega (arith, h.number))))

    pub fresh_nodes : ((k : ℕ) → k < length codes → times (first + k) found ≡ cond {A = ℕ} (ltb 0 s.wave && eqb (get_or codes k 0) s.wave) 1 0)
        → (i : ℕ) → IsIn s.cut s.number i → times i nodes ≡ cond {A = ℕ} (is_fresh g s.wave i) 1 0
    fresh_nodes once i inside =
        sum_by-IsPermutation (λ x. cond {A = ℕ} (eqb x i) 1 0) found nodes same
        ∙ fresh_once law h.node_range found once i (low i inside) (high i inside)

    pub fresh_from_to : ((k : ℕ) → k < length codes → times (first + k) found ≡ cond {A = ℕ} (ltb 0 s.wave && eqb (get_or codes k 0) s.wave) 1 0)
        → (i : ℕ) → IsIn s.cut s.number i → times i nodes ≡ cond {A = ℕ} (is_from_to 0 s.cut.size i && is_fresh g s.wave i) 1 0
    fresh_from_to once i inside =
        fresh_nodes once i inside
        ∙ sym
        (ap₂ (λ p q. cond {A = ℕ} ((not p && q) && is_fresh g s.wave i) 1 0) (le-ltb i 0 (omega arith))
        (lt-ltb i s.cut.size (omega (arith, inside.1, first_of-le s.cut h.cut (s.number + 1) (omega (arith, h.number))))))

  -- the last exit that comes due
  pub last_due_is : IsLastDue g s last_due
  last_due_is = record {
    bound = λ i inside. due_by law h.node_range i (low i inside) (high i inside);
    reached = λ some. let w = h.node_range.reached some in
        (first + w.0, (node_inside law h (first + w.0) (omega arith) (omega (arith, w.1.0)), w.1.1));
  }

  module _ (complete : is_complete s ≡ true) where
    -- what the three tests say together
    pub settled_iff : last_due ≤ s.wave → (found : Bool) → found ≡ list_any (λ c. eqb c (s.wave + 1)) codes → (not found ≡ true) ↔ IsSettled g s
    settled_iff le found is = (
      (λ e. record {
        complete = complete;
        due = λ i inside. omega (arith, last_due_is.bound i inside, le);
        quiet = λ i inside. no_depth law (complete_holds law h complete)
            (sym is ∙ not-true found e) i (low i inside) (high i inside);
      }),
      (λ t. not_from_false found (false_from_ne_true found (λ f.
          let w = new_node law (complete_holds law h complete) (sym is ∙ f) in
          t.quiet (first + w.0) (node_inside law h (first + w.0) (omega arith) (omega (arith, w.1.0))) w.1.1))),
    )

    -- at the last wave an unsettled block shows that the graph is too deep
    pub unsettled_deep : s.wave ≡ 65534 → (s.wave < last_due) ⊎ (list_any (λ c. eqb c (s.wave + 1)) codes ≡ true) → IsTooDeep g
    unsettled_deep is why = last_deep law (complete_holds law h complete) is why
