-- Loops that mark entries and lower counters.
use Rattle.std.proofs.Common.{◌≡◌, ℕ, ◌+◌, ◌<◌, Bool, false, ◌||◌, cond, eqb, List, length, get_or, take, sym, ap, ◌∙◌, arith}
use Rattle.std.proofs.lemmas.Bool.Decides.{nat_tests}
use Rattle.std.proofs.lemmas.List.Folds.{list_any_more}
use Rattle.std.proofs.lemmas.List.Sums.{sum_by_more}
use Rattle.morris_wave.specs.Nets.{times}
use Rattle.morris_wave.specs.Waves.{mark_code}
use Rattle.morris_wave.specs.Solving.{Marks, among}

pub marked_none : (old code : ℕ) → mark_code old false code ≡ old
marked_none old code = grind (arith, nat_tests)

-- marking twice is marking where one of the tests holds
pub marked_twice : (old code : ℕ) (p q : Bool) → 0 < code → mark_code (mark_code old p code) q code ≡ mark_code old (p || q) code
marked_twice old code p q pos = grind (arith, nat_tests)

pub marks_twice : (old mid new : List ℕ) (p q r : ℕ → Bool) (code : ℕ) → 0 < code → length mid ≡ length old
    → ((k : ℕ) → k < length old → r k ≡ (p k || q k)) → Marks old mid p code → Marks mid new q code → Marks old new r code
marks_twice old mid new p q r code pos len h a b k l =
    b k (omega arith)
    ∙ (ap (λ x. mark_code x (q k) code) (a k l)
    ∙ (marked_twice (get_or old k 0) code (p k) (q k) pos ∙ ap (λ t. mark_code (get_or old k 0) t code) (sym (h k l))))

-- one node more of a list
module _ (nodes : List ℕ) (i node : ℕ) (inside : i < length nodes) (is : node ≡ get_or nodes i 0) where
  pub among_more : (k : ℕ) → among (take (i + 1) nodes) k ≡ (among (take i nodes) k || eqb node k)
  among_more k = list_any_more (λ x. eqb x k) nodes i 0 inside ∙ ap (λ x. among (take i nodes) k || eqb x k) (sym is)

  pub times_more : (k : ℕ) → times k (take (i + 1) nodes) ≡ times k (take i nodes) + cond {A = ℕ} (eqb node k) 1 0
  times_more k =
      sum_by_more (λ x. cond {A = ℕ} (eqb x k) 1 0) nodes i 0 inside
      ∙ ap (λ x. times k (take i nodes) + cond {A = ℕ} (eqb x k) 1 0) (sym is)
