-- Gathering the blocks of a graph.
use Rattle.std.proofs.Common.{◌≡◌, ℕ, suc, ◌+◌, ◌-◌, ◌*◌, ◌/◌, ◌<◌, ◌≤◌, Bool, true, false, ◌&&◌, ◌||◌, cond, eqb, List, [], ◌∷◌, ◌++◌, Option, Some, None, is_some, length, get_or, set, take, drop, replicate, refl, sym, ap, ap₂, ◌∙◌, subst, ⊎_elim, arith, get_or-set_same, get_or-set_other, length-set, take_all, Vec}
use Rattle.std.specs.List.{All, count_by}
use Rattle.std.specs.declared.alloc.Global.{Global}
use Rattle.std.proofs.Math.Nat.{mul-div_cancel, div-mul-le_self, zero-div}
use Rattle.std.proofs.lemmas.Bool.{and_parts, or_cases, cases_Bool, cases_eq, cases_lt, eq-eqb, eqb-true, ltb-true, ne_eqb, or_left, or_right, both_ways, false_from_ne_true}
use Rattle.std.proofs.lemmas.Nat.{le-div}
use Rattle.std.proofs.lemmas.List.{drop_more, drop_all, take_more, get_or-replicate, length-replicate, get_or_past, get_or_append_left, get_or-append_right, length-append, length-take-le, get_or_default}
use Rattle.std.proofs.lemmas.List.Folds.{list_any_more, list_any-append}
use Rattle.std.proofs.lemmas.List.Elements.{All-head, All-tail, All-nil, All-cons}
use Rattle.morris_wave.specs.Nets.{Net, IsNet}
use Rattle.morris_wave.specs.Values.{code_within, HasDepth, HasCode, IsTooDeep}
use Rattle.morris_wave.specs.Waves.{is_fresh}
use Rattle.morris_wave.specs.Blocks.{Parts, IsCut, IsIn, first_of, block_of, BlockState, BlockHolds, is_complete, first_node, count_of, IsSettled}
use Rattle.morris_wave.specs.Answering.{is_same_cut}
use Rattle.morris_wave.specs.declared.gathering.GatherFault.{GatherFault}
use Rattle.morris_wave.specs.declared.gathering.GatherFault.TheVariants.{Memory}
use Rattle.morris_wave.specs.Gathering.{has_number, complaint, first_fault, first_complaint, HasAll, IsFaultAfter, IsGatherFault, ComesOnce, Fits, ArePlaces, AreKnown, IsGathered}
use Rattle.morris_wave.proofs.Tests.{count_yes, count_no, some_counted}
use Rattle.morris_wave.proofs.ExitTests.{or_false}
use Rattle.morris_wave.proofs.Parts.{new_depth}
use Rattle.morris_wave.proofs.Stretches.{codes_within}
use Rattle.morris_wave.proofs.Blocking.{complete_holds, same_parts, block_of-lt}
use Rattle.morris_wave.proofs.Cutting.{is_in_block}
use Rattle.morris_wave.proofs.Settling.{IsQuiet, quiet_codes, not_too_deep}

-- a walk, a block on
module _ (level wave : ℕ) (cut : Parts) where
  pub walk_more : (blocks : List BlockState) (k : ℕ) (s : BlockState) → k < length blocks → s ≡ get_or blocks k s
      → first_complaint level wave cut (take k blocks) (drop k blocks)
      ≡ first_fault (complaint level wave cut k (has_number (take k blocks) s.number) s) (first_complaint level wave cut (take (k + 1) blocks) (drop (k + 1) blocks))
  unfolding first_complaint
  walk_more blocks k s inside is =
      let rest : drop k blocks ≡ s ∷ drop (k + 1) blocks = drop_more blocks k s inside ∙ ap (λ x. x ∷ drop (k + 1) blocks) (sym is) in
      let more : take (k + 1) blocks ≡ take k blocks ++ s ∷ [] = take_more blocks k s inside ∙ ap (λ x. take k blocks ++ x ∷ []) (sym is) in
      let place : length (take k blocks) ≡ k = length-take-le k blocks (omega arith) in
      ap (first_complaint level wave cut (take k blocks)) rest
      ∙ ap₂ (λ p xs. first_fault (complaint level wave cut p (has_number (take k blocks) s.number) s) (first_complaint level wave cut xs (drop (k + 1) blocks))) place (sym more)

  pub walk_step : (blocks : List BlockState) (k : ℕ) (s : BlockState) (came : Bool) (found : Option GatherFault) → k < length blocks → s ≡ get_or blocks k s → came ≡ has_number (take k blocks) s.number
      → complaint level wave cut k came s ≡ found
      → first_complaint level wave cut (take k blocks) (drop k blocks) ≡ first_fault found (first_complaint level wave cut (take (k + 1) blocks) (drop (k + 1) blocks))
  walk_step blocks k s came found inside is e f =
      walk_more blocks k s inside is
      ∙ ap (λ o. first_fault o (first_complaint level wave cut (take (k + 1) blocks) (drop (k + 1) blocks))) (ap (λ t. complaint level wave cut k t s) (sym e) ∙ f)

  three_tests : (p q r : Bool) (f d m : GatherFault) → cond {A = Option GatherFault} p (cond {A = Option GatherFault} q (Some d) (cond {A = Option GatherFault} r None (Some m))) (Some f) ≡ None
      → (p ≡ true) × (q ≡ false) × (r ≡ true)
  three_tests p q r f d m h = grind arith

  fits : (place : ℕ) (came : Bool) (s : BlockState) → complaint level wave cut place came s ≡ None → Fits level wave cut s
  fits place came s h =
      let tests = three_tests (eqb s.level level && is_same_cut s.cut cut) came (eqb s.wave wave && is_complete s) _ _ _ h in
      let same = and_parts (eqb s.level level) (is_same_cut s.cut cut) tests.0 in
      let done = and_parts (eqb s.wave wave) (is_complete s) tests.2 in
      record {
        level_is = eqb-true s.level level same.0;
        cut_is = same_parts s.cut cut same.1;
        wave_is = eqb-true s.wave wave done.0;
        complete = done.1;
      }

  no_fault : (now later : Option GatherFault) → first_fault now later ≡ None → (now ≡ None) × (later ≡ None)
  no_fault None later h = (refl, h)
  no_fault (Some f) later h = absurd (cc)

  pub all_fit : (before blocks : List BlockState) → first_complaint level wave cut before blocks ≡ None → All (Fits level wave cut) blocks
  unfolding first_complaint
  all_fit before [] h = All-nil (Fits level wave cut)
  all_fit before (s ∷ rest) h =
      let w = no_fault (complaint level wave cut (length before) (has_number before s.number) s) (first_complaint level wave cut (before ++ s ∷ []) rest) h in
      All-cons (Fits level wave cut) s rest (fits (length before) (has_number before s.number) s w.0) (all_fit (before ++ s ∷ []) rest w.1)

  new_number : (place : ℕ) (came : Bool) (s : BlockState) → complaint level wave cut place came s ≡ None → came ≡ false
  new_number place came s h = (three_tests (eqb s.level level && is_same_cut s.cut cut) came (eqb s.wave wave && is_complete s) _ _ _ h).1

  -- no number comes a second time
  counts : (before blocks : List BlockState) → first_complaint level wave cut before blocks ≡ None → (k : ℕ)
      → (has_number before k ≡ true → count_by (λ t. eqb t.number k) blocks ≡ 0) × (count_by (λ t. eqb t.number k) blocks ≤ 1)
  unfolding first_complaint
  counts before [] h k = (λ e. refl, omega arith)
  counts before (s ∷ rest) h k =
      let test : BlockState → Bool = λ t. eqb t.number k in
      let w = no_fault (complaint level wave cut (length before) (has_number before s.number) s) (first_complaint level wave cut (before ++ s ∷ []) rest) h in
      let new : has_number before s.number ≡ false = new_number (length before) (has_number before s.number) s w.0 in
      let later = counts (before ++ s ∷ []) rest w.1 k in
      let with_it : has_number (before ++ s ∷ []) k ≡ (has_number before k || (eqb s.number k || false)) = list_any-append test before (s ∷ []) in
      ⊎_elim
      (λ e. let here = with_it ∙ or_right (has_number before k) (eqb s.number k || false) (or_left (eqb s.number k) false e) in (
        λ f. absurd (both_ways (has_number before k) (subst (λ x. has_number before x ≡ false) (eqb-true s.number k e) new) f),
        omega (arith, count_yes test s rest e, later.0 here),
      ))
      (λ e. (
        λ f. count_no test s rest e ∙ later.0 (with_it ∙ or_left (has_number before k) (eqb s.number k || false) f),
        omega (arith, count_no test s rest e, later.1),
      ))
      (cases_Bool (eqb s.number k))

  pub comes_once : (blocks : List BlockState) → first_complaint level wave cut [] blocks ≡ None → HasAll cut blocks → ComesOnce cut blocks
  comes_once blocks h all k l =
      let test : BlockState → Bool = λ t. eqb t.number k in
      omega (arith, (counts [] blocks h k).1, ltb-true 0 (count_by test blocks) (some_counted test blocks ∙ all k l))

  pub walk_all : (blocks : List BlockState) (k : ℕ) → length blocks ≤ k → first_complaint level wave cut (take k blocks) (drop k blocks) ≡ None
  unfolding first_complaint
  walk_all blocks k l = ap (first_complaint level wave cut (take k blocks)) (drop_all k blocks l)

-- the places of the first k blocks
pub record PlacesTo (blocks : List BlockState) (k : ℕ) (places : List (Option ℕ)) : Type 0 where
  pub len : length places ≡ 1024
  pub came : (m : ℕ) → m < 1024 → is_some (get_or places m None) ≡ has_number (take k blocks) m
  pub at : (m p : ℕ) → get_or places m None ≡ Some p → (p < k) × ((d : BlockState) → (get_or blocks p d).number ≡ m)

abbrev pub nowhere : List (Option ℕ)
nowhere = replicate 1024 None

nowhere-len : length nowhere ≡ 1024
nowhere-len = length-replicate {A = Option ℕ} 1024 None

none_there : (m : ℕ) → get_or nowhere m None ≡ None
none_there m =
    ⊎_elim
    (λ l. get_or-replicate {A = Option ℕ} 1024 m None None l)
    (λ l. get_or_past {X = Option ℕ} nowhere m None (omega (arith, nowhere-len)))
    (cases_lt m 1024)

pub no_places : (blocks : List BlockState) → PlacesTo blocks 0 nowhere
no_places blocks = record {
  len = nowhere-len;
  came = λ m l. ap is_some (none_there m);
  at = λ m p e. absurd (differ p (get_or nowhere m None) (none_there m) e);
}
  where
    differ : (p : ℕ) (o : Option ℕ) → o ≡ None → o ≡ Some p → ⊥
    differ p o h q = cc

pub place_more : (blocks : List BlockState) (k : ℕ) (s : BlockState) (places : List (Option ℕ)) → k < length blocks → s ≡ get_or blocks k s → s.number < 1024
    → PlacesTo blocks k places → PlacesTo blocks (k + 1) (set places s.number (Some k))
place_more blocks k s places inside is small h = record {
  len = length-set places s.number (Some k) ∙ h.len;
  came = λ m l. ⊎_elim (λ e. here m e) (λ e. other m l e) (cases_eq s.number m);
  at = λ m p q. ⊎_elim (λ e. at_here m p e q) (λ e. at_other m p e q) (cases_eq s.number m);
}
  where
    more : (m : ℕ) → has_number (take (k + 1) blocks) m ≡ (has_number (take k blocks) m || eqb s.number m)
    more m = list_any_more (λ t. eqb t.number m) blocks k s inside ∙ ap (λ t. has_number (take k blocks) m || eqb t.number m) (sym is)

    written : (m : ℕ) → s.number ≡ m → get_or (set places s.number (Some k)) m None ≡ Some k
    written m e = subst (λ x. get_or (set places s.number (Some k)) x None ≡ Some k) e (get_or-set_same places s.number (Some k) None (omega (arith, h.len)))

    node_range : (m : ℕ) → (s.number ≡ m → ⊥) → get_or (set places s.number (Some k)) m None ≡ get_or places m None
    node_range m e = get_or-set_other places s.number m (Some k) None (λ z. e (sym z))

    here : (m : ℕ) → s.number ≡ m → is_some (get_or (set places s.number (Some k)) m None) ≡ has_number (take (k + 1) blocks) m
    here m e = ap is_some (written m e) ∙ sym (more m ∙ or_right (has_number (take k blocks) m) (eqb s.number m) (eq-eqb s.number m e))

    other : (m : ℕ) → m < 1024 → (s.number ≡ m → ⊥) → is_some (get_or (set places s.number (Some k)) m None) ≡ has_number (take (k + 1) blocks) m
    other m l e = ap is_some (node_range m e) ∙ (h.came m l ∙ (or_false (has_number (take k blocks) m) ∙ sym (more m ∙ ap (λ t. has_number (take k blocks) m || t) (ne_eqb s.number m e))))

    same_some : (a b : ℕ) → Some a ≡ Some b → a ≡ b
    same_some a b q = cc

    at_here : (m p : ℕ) → s.number ≡ m → get_or (set places s.number (Some k)) m None ≡ Some p → (p < k + 1) × ((d : BlockState) → (get_or blocks p d).number ≡ m)
    at_here m p e q =
        let j : k ≡ p = same_some k p (sym (written m e) ∙ q) in
        (omega arith, λ d. subst (λ x. (get_or blocks x d).number ≡ m) j (ap (λ t. t.number) (get_or_default blocks k d s inside ∙ sym is) ∙ e))

    at_other : (m p : ℕ) → (s.number ≡ m → ⊥) → get_or (set places s.number (Some k)) m None ≡ Some p → (p < k + 1) × ((d : BlockState) → (get_or blocks p d).number ≡ m)
    at_other m p e q = let w = h.at m p (sym (node_range m e) ∙ q) in (omega (arith, w.0), w.1)

pub all_places : (blocks : List BlockState) (k : ℕ) (places : List (Option ℕ)) → k ≡ length blocks → PlacesTo blocks k places → ArePlaces blocks places
all_places blocks k places e h = record {
  len = h.len;
  came = λ m l. h.came m l ∙ ap (λ xs. has_number xs m) (take_all k blocks (omega arith));
  at = λ m p q. let w = h.at m p q in (omega (arith, w.0), w.1);
}

-- the entries of a complete block
module _ {g : Net} (law : IsNet g) {s : BlockState} {first : ℕ} {codes counters : List ℕ} {due : List (List ℕ)} {last_due most : ℕ} (h : BlockHolds g s first codes counters due last_due most) where
  pub entries_are : is_complete s ≡ true → (k : ℕ) → k < count_of s → get_or codes k 0 ≡ code_within g (s.wave + 1) (first_node s + k)
  entries_are complete k l =
      codes_within law (complete_holds law h complete) k (omega (arith, h.count_is, l))
      ∙ (ap (λ n. code_within g n (first + k)) (omega arith) ∙ ap (λ f. code_within g (s.wave + 1) (f + k)) h.first_is)

-- the last block ends with the last node
pub first_last : (c : Parts) → 1 ≤ c.blocks → first_of c c.blocks ≡ c.size
first_last c some = mul-div_cancel c.size (omega arith)

first_of-mono : (c : Parts) (k : ℕ) → 1 ≤ c.blocks → first_of c k ≤ first_of c (k + 1)
first_of-mono c k some = le-div ((c.size * k) / c.blocks) (c.size * (k + 1)) c.blocks (omega arith) (omega (arith, div-mul-le_self (c.size * k) c.blocks))

-- the entries of one block more
pub order_more : (c : Parts) (value : ℕ → ℕ) (k : ℕ) (codes entries : List ℕ) → length codes ≡ first_of c k → first_of c k ≤ first_of c (k + 1) → length entries ≡ first_of c (k + 1) - first_of c k
    → ((i : ℕ) → i < first_of c k → get_or codes i 0 ≡ value i)
    → ((i : ℕ) → i < first_of c (k + 1) - first_of c k → get_or entries i 0 ≡ value (first_of c k + i))
    → (i : ℕ) → i < first_of c (k + 1) → get_or (codes ++ entries) i 0 ≡ value i
order_more c value k codes entries len order more old new i l =
    ⊎_elim
    (λ h. get_or_append_left codes entries 0 i (omega arith) ∙ old i h)
    (λ h. get_or-append_right codes entries (first_of c k) i 0 len h
    ∙ (new (i - first_of c k) (omega arith) ∙ ap value (omega arith)))
    (cases_lt i (first_of c k))

pub block_more : (g : Net) (level wave : ℕ) (cut : Parts) (k : ℕ) (s : BlockState) (codes entries : List ℕ) → 1 ≤ cut.blocks → Fits level wave cut s → s.number ≡ k
    → length codes ≡ first_of cut k → ((i : ℕ) → i < first_of cut k → get_or codes i 0 ≡ code_within g (wave + 1) i)
    → length entries ≡ count_of s → ((j : ℕ) → j < count_of s → get_or entries j 0 ≡ code_within g (s.wave + 1) (first_node s + j))
    → (length (codes ++ entries) ≡ first_of cut (k + 1)) × ((i : ℕ) → i < first_of cut (k + 1) → get_or (codes ++ entries) i 0 ≡ code_within g (wave + 1) i)
block_more g level wave cut k s codes entries some fit number len old entries_len new =
    let count : count_of s ≡ first_of cut (k + 1) - first_of cut k = ap₂ (λ c n. first_of c (n + 1) - first_of c n) fit.cut_is number in
    let start : first_node s ≡ first_of cut k = ap₂ first_of fit.cut_is number in
    let order = first_of-mono cut k some in (
      omega (arith, length-append codes entries, len, entries_len, count, order),
      order_more cut (code_within g (wave + 1)) k codes entries len order (entries_len ∙ count) old
          (λ j l. new j (omega (arith, count)) ∙ ap₂ (λ w f. code_within g (w + 1) (f + j)) fit.wave_is start),
    )

-- the codes of the first k blocks, as far as they are known at a wave
pub record KnownTo (g : Net) (wave : ℕ) (cut : Parts) (k : ℕ) (codes : List ℕ) : Type 0 where
  pub is_cut : 0 < k → IsCut cut
  pub size : 0 < k → g.size ≡ cut.size
  pub early : 0 < k → wave ≤ 65534
  pub len : length codes ≡ first_of cut k
  pub each : (i : ℕ) → i < first_of cut k → get_or codes i 0 ≡ code_within g (wave + 1) i

start : (cut : Parts) → first_of cut 0 ≡ 0
start cut = ap (λ (x : ℕ). x / cut.blocks) (omega arith) ∙ zero-div cut.blocks

-- of no block
pub known_none : (g : Net) (wave : ℕ) (cut : Parts) (codes : List ℕ) → codes ≡ [] → KnownTo g wave cut 0 codes
known_none g wave cut codes none = record {
  is_cut = λ l. absurd (omega (arith, l));
  size = λ l. absurd (omega (arith, l));
  early = λ l. absurd (omega (arith, l));
  len = ap length none ∙ sym (start cut);
  each = λ i l. absurd (omega (arith, l, start cut));
}

-- and of one block more
pub known_more : (net : ℕ → Net) (level wave : ℕ) (cut : Parts) (k : ℕ) (s : BlockState) (codes entries : List ℕ) → 1 ≤ cut.blocks → Fits level wave cut s → s.number ≡ k → KnownTo (net level) wave cut k codes
    → IsCut s.cut → (net s.level).size ≡ s.cut.size → s.wave ≤ 65534 → length entries ≡ count_of s
    → (is_complete s ≡ true → (j : ℕ) → j < count_of s → get_or entries j 0 ≡ code_within (net s.level) (s.wave + 1) (first_node s + j)) → KnownTo (net level) wave cut (k + 1) (codes ++ entries)
known_more net level wave cut k s codes entries some fit number known is_cut size early len new =
    let here = subst (λ (l : ℕ). (j : ℕ) → j < count_of s → get_or entries j 0 ≡ code_within (net l) (s.wave + 1) (first_node s + j)) fit.level_is (new fit.complete) in
    let more = block_more (net level) level wave cut k s codes entries some fit number known.len known.each len here in
    record {
      is_cut = λ _. subst (λ (c : Parts). IsCut c) fit.cut_is is_cut;
      size = λ _. subst (λ (l : ℕ). (net l).size ≡ cut.size) fit.level_is (size ∙ ap (λ (c : Parts). c.size) fit.cut_is);
      early = λ _. omega (arith, early, fit.wave_is);
      len = more.0;
      each = more.1;
    }

-- those of all blocks are the codes of all nodes
pub known_all : (g : Net) (wave : ℕ) (cut : Parts) (k : ℕ) (codes : Vec ℕ Global) → 1 ≤ cut.blocks → k ≡ cut.blocks → KnownTo g wave cut k codes.items → AreKnown g wave cut codes
known_all g wave cut k codes some last known =
    let most : 0 < k = omega (arith, some, last) in
    let end : first_of cut k ≡ cut.size = ap (first_of cut) last ∙ first_last cut some in
    record { is_cut = known.is_cut most; size = known.size most; early = known.early most; len = omega (arith, codes.ok.0, known.len, end); each = λ i l. known.each i (omega (arith, end, l)) }

-- each node is in a block that came
module _ (g : Net) (level wave : ℕ) (cut : Parts) (law : IsCut cut) where
  one_of : (blocks : List BlockState) (k : ℕ) → has_number blocks k ≡ true → All (Fits level wave cut) blocks → All (IsSettled g) blocks
      → (s : BlockState) × (Fits level wave cut s × IsSettled g s × (s.number ≡ k))
  one_of [] k h fit settled = absurd (no h)
    where
      no : false ≡ true → ⊥
      no e = cc
  one_of (s ∷ rest) k h fit settled =
      ⊎_elim
      (λ e. (s, (All-head (Fits level wave cut) s rest fit, All-head (IsSettled g) s rest settled, eqb-true s.number k e)))
      (λ e. one_of rest k e (All-tail (Fits level wave cut) s rest fit) (All-tail (IsSettled g) s rest settled))
      (or_cases (eqb s.number k) (has_number rest k) h)

  pub all_quiet : (blocks : List BlockState) → g.size ≡ cut.size → HasAll cut blocks → All (Fits level wave cut) blocks → All (IsSettled g) blocks → IsQuiet g wave
  all_quiet blocks size all fit settled = record {
    no_new = λ i l. false_from_ne_true (is_fresh g (suc wave) i) (λ e. let w = of i l in w.1.1.quiet i (in_it i l w.0 w.1.0 w.1.2) (subst (λ n. HasDepth g i n) (sym w.1.0.wave_is) (new_depth g wave i e)));
    due = λ i l. let w = of i l in omega (arith, w.1.1.due i (in_it i l w.0 w.1.0 w.1.2), w.1.0.wave_is);
  }
    where
      of : (i : ℕ) → i < g.size → (s : BlockState) × (Fits level wave cut s × IsSettled g s × (s.number ≡ block_of cut i))
      of i l = one_of blocks (block_of cut i) (all (block_of cut i) (block_of-lt cut law i (omega (arith, size)))) fit settled

      in_it : (i : ℕ) → i < g.size → (s : BlockState) → Fits level wave cut s → s.number ≡ block_of cut i → IsIn s.cut s.number i
      in_it i l s f e =
          subst (λ c. IsIn c s.number i) (sym f.cut_is)
          (subst (λ k. IsIn cut k i) (sym e) (is_in_block cut law i (omega (arith, size))))

  module _ (net_law : IsNet g) (blocks : List BlockState) (size : g.size ≡ cut.size) (all : HasAll cut blocks) (fit : All (Fits level wave cut) blocks) (settled : All (IsSettled g) blocks) where
    pub settled_codes : (i : ℕ) → i < cut.size → HasCode g i (code_within g (wave + 1) i)
    settled_codes i l =
        subst (λ n. HasCode g i (code_within g n i)) (sym (plus_one wave)) (quiet_codes g net_law wave (all_quiet blocks size all fit settled) i (omega (arith, size)))
      where
        plus_one : (m : ℕ) → m + 1 ≡ suc m
        plus_one m = omega arith

    pub settled_deep : wave ≤ 65534 → IsTooDeep g → ⊥
    settled_deep le = not_too_deep g net_law wave (all_quiet blocks size all fit settled) le

-- each block of the cut came where each number has a place
pub all_there : (cut : Parts) (blocks : List BlockState) (places : List (Option ℕ)) → ArePlaces blocks places → cut.blocks ≤ 1024
    → ((k : ℕ) → k < cut.blocks → is_some (get_or places k None) ≡ true) → HasAll cut blocks
all_there cut blocks places h few all k l = sym (h.came k (omega arith)) ∙ all k l

-- what is gathered where nothing speaks against the blocks and none is absent
pub gathered : (g : Net) (law : IsNet g) (level wave : ℕ) (cut : Parts) (blocks : List BlockState) (codes : Vec ℕ Global) → first_complaint level wave cut [] blocks ≡ None → HasAll cut blocks → AreKnown g wave cut codes
    → IsGathered g level wave cut blocks codes
gathered g law level wave cut blocks codes walked all known =
    let fit = all_fit level wave cut [] blocks walked in
    record {
      fit = fit;
      walked = walked;
      all = all;
      once = comes_once level wave cut blocks walked all;
      known = known;
      settled = λ settled i l. subst (λ (x : ℕ). HasCode g i x) (sym (known.each i l)) (settled_codes g level wave cut known.is_cut law blocks known.size all fit settled i l);
      deep = λ settled. settled_deep g level wave cut known.is_cut law blocks known.size all fit settled known.early;
    }

-- want of memory after a walk that found nothing, through blocks of which none lacks
pub late_memory : (level wave : ℕ) (cut : Parts) (blocks : List BlockState) → first_complaint level wave cut [] blocks ≡ None → HasAll cut blocks → IsGatherFault level wave cut blocks Memory
late_memory level wave cut blocks walked all = subst (λ (found : Option GatherFault). IsFaultAfter found cut blocks Memory) (sym walked) all
