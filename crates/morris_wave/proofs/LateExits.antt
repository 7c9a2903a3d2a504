-- An exit that comes due after the last wave makes a graph too deep.
use Rattle.std.proofs.Common.{refl, ◌≡◌, ℕ, suc, ◌-◌, ◌<◌, ◌≤◌, Bool, true, leb, List, [], ◌∷◌, Option, Some, None, ap, ⊎_elim, inl, inr, arith}
use Rattle.std.specs.List.{All, list_all}
use Rattle.std.proofs.lemmas.Bool.{cases_lt, cases_Bool, and_from, le-leb, leb-true}
use Rattle.std.proofs.lemmas.List.Elements.{All-head, All-tail}
use Rattle.morris_wave.specs.Nets.{Net, IsNet}
use Rattle.morris_wave.specs.Exits.{is_odd, is_won_code, minimum, maximum, depths, exits_of, due_of, last_due_of}
use Rattle.morris_wave.specs.Values.{IsTooDeep}
use Rattle.morris_wave.proofs.ExitsDue.{pick, all_least, all_greatest}

-- due a wave after its depth
due-is : (n : ℕ) (o : Option ℕ) → due_of o ≡ suc n → o ≡ Some n
due-is n None e = absurd (omega arith)
due-is n (Some x) e = let same : x ≡ n = omega arith in ap Some same

-- codes up to a number come due by it
depths-low : (m : ℕ) (p : ℕ → Bool) (cs : List ℕ) → All (λ c. c ≤ suc m) cs → list_all (λ d. leb d m) (depths p cs) ≡ true
depths-low m p [] all = refl
depths-low m p (c ∷ cs) all =
    let head : c ≤ suc m = All-head (λ x. x ≤ suc m) c cs all in
    let rest = depths-low m p cs (All-tail (λ x. x ≤ suc m) c cs all) in
    elim (cases_Bool (p c)) [
      | inl passes ↦ rw passes (and_from (leb (c - 1) m) (list_all (λ d. leb d m) (depths p cs)) (le-leb (c - 1) m (omega arith)) rest)
      | inr fails ↦ rw fails rest
    ]

due-low : (m : ℕ) (o : Option ℕ) → pick (λ d. leb d m) o ≡ true → due_of o ≤ suc m
due-low m None h = omega arith
due-low m (Some d) h = omega (arith, leb-true d m h)

pub due_deep : (g : Net) → IsNet g → (i : ℕ) → i < g.size → 65535 ≤ last_due_of (exits_of (g.exits i)) → IsTooDeep g
due_deep g law i inside late =
    let lost = depths is_odd (g.exits i) in
    let won = depths is_won_code (g.exits i) in
    let low = due-low 65534 (minimum lost) (all_least (λ d. leb d 65534) lost (depths-low 65534 is_odd (g.exits i) (law.codes i inside))) in
    let high = due-low 65534 (maximum won) (all_greatest (λ d. leb d 65534) won (depths-low 65534 is_won_code (g.exits i) (law.codes i inside))) in (
      i,
      inside,
      inr (⊎_elim
          (λ h. inr (due-is 65534 (maximum won) (omega (arith, late, high))))
          (λ h. inl (due-is 65534 (minimum lost) (omega (arith, h, low))))
          (cases_lt (due_of (minimum lost)) 65535)),
    )
