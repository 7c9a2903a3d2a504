-- Once no node has the depth of the wave and all exits are due, no later wave decides anything.
use Rattle.std.proofs.Common.{◌≡◌, ℕ, zero, suc, ◌+◌, ◌<◌, ◌≤◌, true, false, not, ◌&&◌, ◌||◌, Option, Some, None, is_none, refl, sym, ap, ap₂, ◌∙◌, subst, ⊎_elim, arith, add-suc, add-zero}
use Rattle.std.proofs.lemmas.Bool.{cases_Bool, both_ways, false_from_ne_true, lt-ltb}
use Rattle.morris_wave.specs.Nets.{Net, IsNet}
use Rattle.morris_wave.specs.Exits.{exits_of, exits_lost, exits_won, some_below, none_from, due_of, last_due_of}
use Rattle.morris_wave.specs.Values.{is_lost_before, is_won_before, is_decided, code_within, HasDepth, HasCode, IsTooDeep}
use Rattle.morris_wave.specs.Waves.{is_fresh}
use Rattle.morris_wave.specs.declared.graph.Exits.{Exits}
use Rattle.morris_wave.proofs.Tests.{any_same, all_same}
use Rattle.morris_wave.proofs.Depths.{lost_more, won_more, apart, decided_more, decided_by_then, code_is, code_open}
use Rattle.morris_wave.proofs.ExitTests.{some_exit_lost, each_exit_won}

same_below : (n m : ℕ) (o : Option ℕ) → due_of o ≤ n → n ≤ m → some_below m o ≡ some_below n o
same_below n m None due le = refl
same_below n m (Some d) due le = lt-ltb d m (omega arith) ∙ sym (lt-ltb d n (omega arith))

same_from : (n m : ℕ) (o : Option ℕ) → due_of o ≤ n → n ≤ m → none_from m o ≡ none_from n o
same_from n m None due le = refl
same_from n m (Some d) due le = lt-ltb d m (omega arith) ∙ sym (lt-ltb d n (omega arith))

pub exits_lost_same : (n m : ℕ) (e : Exits) → last_due_of e ≤ n → n ≤ m → exits_lost m e ≡ exits_lost n e
exits_lost_same n m e due le = same_below n m e.least_lost (omega arith) le

pub exits_won_same : (n m : ℕ) (e : Exits) → last_due_of e ≤ n → n ≤ m → exits_won m e ≡ exits_won n e
exits_won_same n m e due le = ap (λ x. is_none e.least_lost && (not e.drawn && x)) (same_from n m e.greatest_won (omega arith) le)

-- no new node: lost and won stay for one ply
module _ (g : Net) (n i : ℕ) (quiet : is_fresh g (suc n) i ≡ false) where
  decided_still : is_decided g (suc n) i ≡ true → is_decided g n i ≡ true
  unfolding is_fresh
  decided_still h = grind arith

  lost_still : is_lost_before g (suc n) i ≡ is_lost_before g n i
  lost_still = grind (arith, apart g (suc n) i, lost_more g n i, won_more g n i, decided_still)

  won_still : is_won_before g (suc n) i ≡ is_won_before g n i
  won_still = grind (arith, apart g (suc n) i, lost_more g n i, won_more g n i, decided_still)

-- no node of depth n is left and every exit is due by n
pub record IsQuiet (g : Net) (n : ℕ) : Type 0 where
  pub no_new : (i : ℕ) → i < g.size → is_fresh g (suc n) i ≡ false
  pub due : (i : ℕ) → i < g.size → last_due_of (exits_of (g.exits i)) ≤ n

module _ (g : Net) (law : IsNet g) (n : ℕ) (q : IsQuiet g n) where
  mutual
    unfolding is_lost_before is_won_before

    lost_stays : (m i : ℕ) → i < g.size → is_lost_before g (n + m) i ≡ is_lost_before g n i
    lost_stays zero i l = ap (λ x. is_lost_before g x i) (add-zero n)
    lost_stays (suc m) i l =
        ap (λ x. is_lost_before g x i) (add-suc n m)
        ∙ (ap₂ (λ p r. p && r)
        (all_same (is_won_before g (n + m)) (is_won_before g n) (g.quiet i) (λ k d h. won_stays m _ (law.inside i l k d h)))
        (each_exit_won (n + m) (g.exits i) ∙ (exits_won_same n (n + m) (exits_of (g.exits i)) (q.due i l) (omega arith) ∙ sym (each_exit_won n (g.exits i))))
        ∙ lost_still g n i (q.no_new i l))

    won_stays : (m i : ℕ) → i < g.size → is_won_before g (n + m) i ≡ is_won_before g n i
    won_stays zero i l = ap (λ x. is_won_before g x i) (add-zero n)
    won_stays (suc m) i l =
        ap (λ x. is_won_before g x i) (add-suc n m)
        ∙ (ap₂ (λ p r. p || r)
        (any_same (is_lost_before g (n + m)) (is_lost_before g n) (g.quiet i) (λ k d h. lost_stays m _ (law.inside i l k d h)))
        (some_exit_lost (n + m) (g.exits i) ∙ (exits_lost_same n (n + m) (exits_of (g.exits i)) (q.due i l) (omega arith) ∙ sym (some_exit_lost n (g.exits i))))
        ∙ won_still g n i (q.no_new i l))

  decided_stays : (m i : ℕ) → i < g.size → is_decided g (n + m) i ≡ is_decided g n i
  decided_stays m i l = ap₂ (λ p r. p || r) (lost_stays m i l) (won_stays m i l)

  decided_ever : (m i : ℕ) → i < g.size → is_decided g m i ≡ true → is_decided g n i ≡ true
  decided_ever m i l h = sym (decided_stays m i l) ∙ decided_by_then g m (n + m) i (omega arith) h

  -- the codes within the wave are the codes
  pub quiet_codes : (i : ℕ) → i < g.size → HasCode g i (code_within g (suc n) i)
  quiet_codes i l =
      ⊎_elim
      (λ e. (code_is g (suc n) i e).2)
      (λ e. let never : (m : ℕ) → is_decided g m i ≡ false = λ m. false_from_ne_true (is_decided g m i) (λ h. both_ways (is_decided g (suc n) i) e (decided_more g n i (decided_ever m i l h))) in
      subst (HasCode g i) (sym (code_open g (suc n) i e)) never)
      (cases_Bool (is_decided g (suc n) i))

  -- no node has a depth of n or more
  pub no_deeper : (i depth : ℕ) → i < g.size → n ≤ depth → HasDepth g i depth → ⊥
  no_deeper i depth l le h = both_ways (is_decided g depth i) h.not_before (decided_by_then g n depth i le (decided_ever (suc depth) i l h.reached))

  pub not_too_deep : n ≤ 65534 → IsTooDeep g → ⊥
  not_too_deep le (i, l, why) =
      ⊎_elim
      (λ d. no_deeper i d.0 l (omega (arith, d.1)) d.2)
      (λ e. ⊎_elim
      (λ x. absurd (omega (arith, q.due i l, ap due_of x)))
      (λ x. absurd (omega (arith, q.due i l, ap due_of x)))
      e)
      why
