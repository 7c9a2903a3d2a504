-- The summary of two lists of codes together, and of a list and one code more.
use Rattle.std.proofs.Common.{◌≡◌, ℕ, ◌-◌, min, max, Bool, ◌||◌, eqb, List, [], ◌∷◌, ◌++◌, Option, Some, None, map, refl, sym, ap, ◌∙◌, arith}
use Rattle.std.specs.List.{filter}
use Rattle.std.proofs.lemmas.List.{map-append}
use Rattle.std.proofs.lemmas.List.Elements.{filter-append}
use Rattle.std.proofs.lemmas.List.Folds.{list_any-append}
use Rattle.std.proofs.lemmas.Bool.Decides.{nat_tests}
use Rattle.morris_wave.specs.declared.graph.Exits.{Exits}
use Rattle.morris_wave.specs.Exits.{is_odd, is_won_code, minimum, maximum, depths, exits_of}
use Rattle.morris_wave.specs.Summaries.{least_of, greatest_of, add_code}

-- ---- the least and the greatest of two lists together, from those of each

least-append : (before after : List ℕ) → minimum (before ++ after) ≡ least_of (minimum before) (minimum after)
least-append [] after = alone (minimum after)
  where
    alone : (o : Option ℕ) → o ≡ least_of None o
    alone None = refl
    alone (Some y) = refl
least-append (x ∷ xs) after = ap (λ o. Some (elim o [ None ↦ x | Some z ↦ min x z ])) (least-append xs after) ∙ at (minimum xs) (minimum after)
  where
    at : (o r : Option ℕ) → Some (elim (least_of o r) [ None ↦ x | Some z ↦ min x z ]) ≡ least_of (Some (elim o [ None ↦ x | Some z ↦ min x z ])) r
    at o None = refl
    at None (Some y) = refl
    at (Some z) (Some y) = let e : min x (min z y) ≡ min (min x z) y = omega arith in ap (λ n. Some n) e

greatest-append : (before after : List ℕ) → maximum (before ++ after) ≡ greatest_of (maximum before) (maximum after)
greatest-append [] after = alone (maximum after)
  where
    alone : (o : Option ℕ) → o ≡ greatest_of None o
    alone None = refl
    alone (Some y) = refl
greatest-append (x ∷ xs) after = ap (λ o. Some (elim o [ None ↦ x | Some z ↦ max x z ])) (greatest-append xs after) ∙ at (maximum xs) (maximum after)
  where
    at : (o r : Option ℕ) → Some (elim (greatest_of o r) [ None ↦ x | Some z ↦ max x z ]) ≡ greatest_of (Some (elim o [ None ↦ x | Some z ↦ max x z ])) r
    at o None = refl
    at None (Some y) = refl
    at (Some z) (Some y) = let e : max x (max z y) ≡ max (max x z) y = omega arith in ap (λ n. Some n) e

depths-append : (p : ℕ → Bool) (before after : List ℕ) → depths p (before ++ after) ≡ depths p before ++ depths p after
depths-append p before after = ap (map (λ c. c - 1)) (filter-append p before after) ∙ map-append (λ c. c - 1) (filter p before) (filter p after)

-- ---- the summary

abbrev summed : Option ℕ → Option ℕ → Bool → Exits
summed lost won drawn = record { least_lost = lost; greatest_won = won; drawn = drawn }

same_summary : (a b c d : Option ℕ) (x y : Bool) → a ≡ b → c ≡ d → x ≡ y → summed a c x ≡ summed b d y
same_summary a b c d x y e f g = rw (e, f, g) refl

-- what is known of two lists together, from what is known of each
abbrev both : Exits → Exits → Exits
both one other = summed (least_of one.least_lost other.least_lost) (greatest_of one.greatest_won other.greatest_won) (one.drawn || other.drawn)

exits_of-append : (before after : List ℕ) → exits_of (before ++ after) ≡ both (exits_of before) (exits_of after)
exits_of-append before after = same_summary _ _ _ _ _ _
    (ap minimum (depths-append is_odd before after) ∙ least-append (depths is_odd before) (depths is_odd after))
    (ap maximum (depths-append is_won_code before after) ∙ greatest-append (depths is_won_code before) (depths is_won_code after))
    (list_any-append (λ c. eqb c 0) before after)

pub exits_of-joined : (before after : List ℕ) (one other : Exits) → one ≡ exits_of before → other ≡ exits_of after
    → (lost won : Option ℕ) (drawn : Bool)
    → lost ≡ least_of one.least_lost other.least_lost
    → won ≡ greatest_of one.greatest_won other.greatest_won
    → drawn ≡ (one.drawn || other.drawn)
    → summed lost won drawn ≡ exits_of (before ++ after)
exits_of-joined before after one other is other_is lost won drawn e f g = rw (e, f, g, is, other_is) (sym (exits_of-append before after))

-- the summary of one code is added
both-one : (e : Exits) (code : ℕ) → both e (exits_of (code ∷ [])) ≡ add_code e code
unfolding add_code
both-one e code = grind (arith, nat_tests)

pub exits_of-more : (codes : List ℕ) (code : ℕ) → exits_of (codes ++ code ∷ []) ≡ add_code (exits_of codes) code
exits_of-more codes code = exits_of-append codes (code ∷ []) ∙ both-one (exits_of codes) code
