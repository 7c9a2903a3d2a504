-- Laws of files in memory: which of them is that of a pair.
use Rattle.std.proofs.Common.{◌≡◌, ℕ, ◌+◌, ◌<◌, ◌≤◌, true, false, List, [], ◌∷◌, length, get_or, drop, Option, Some, None, refl, ap, subst, ◌∙◌, inl, inr}
use Rattle.std.proofs.lemmas.Bool.{cases_Bool}
use Rattle.std.proofs.lemmas.List.{drop_all, drop_more}
use Rattle.std.specs.List.{Contains}
use Rattle.morris_moves.proofs.ListLaws.{Contains-head, Contains-tail}
use Rattle.morris_index.specs.Pairs.{Counts}
use Rattle.morris_lookup.specs.Views.{contents, names_pair, file_of_pair}
use Rattle.morris_lookup.specs.declared.views.View.{View}

module _ (c : Counts) (files : List View) (i : ℕ) where
  module _ (d : View) (low : i < length files) where
    pub first-here : names_pair c (get_or files i d).bytes.now ≡ true → file_of_pair (contents (drop i files)) c ≡ Some (get_or files i d).bytes.now
    unfolding file_of_pair
    first-here y = ap (λ views. file_of_pair (contents views) c) (drop_more files i d low) ∙ rw y refl

    pub first-later : names_pair c (get_or files i d).bytes.now ≡ false → file_of_pair (contents (drop i files)) c ≡ file_of_pair (contents (drop (i + 1) files)) c
    unfolding file_of_pair
    first-later n = ap (λ views. file_of_pair (contents views) c) (drop_more files i d low) ∙ rw n refl

  pub none-left : length files ≤ i → file_of_pair (contents (drop i files)) c ≡ None
  unfolding file_of_pair
  none-left le = ap (λ views. file_of_pair (contents views) c) (drop_all i files le)

-- ---- the file that is found

module _ (c : Counts) where
  never : (bytes : List ℕ) → ◌≡◌ {A = Option (List ℕ)} None (Some bytes) → ⊥
  never bytes h = cc

  pub found : (files : List (List ℕ)) (bytes : List ℕ) → file_of_pair files c ≡ Some bytes → (names_pair c bytes ≡ true) × Contains files bytes
  unfolding file_of_pair
  found [] bytes e = absurd (never bytes e)
  found (file ∷ files) bytes e = elim (cases_Bool (names_pair c file)) [
    | inl y ↦
        let same : file ≡ bytes = the_same file bytes (rw y at e) in
        (subst (λ b. names_pair c b ≡ true) same y, subst (Contains (file ∷ files)) same (Contains-head file files))
    | inr n ↦ let later = found files bytes (rw n at e) in (later.0, Contains-tail file files bytes later.1)
  ]
    where
      the_same : (file bytes : List ℕ) → Some file ≡ Some bytes → file ≡ bytes
      the_same file bytes h = cc
