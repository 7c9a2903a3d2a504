-- Laws of sets of open files: the places of pairs, and what a set says of a position.
use Rattle.std.proofs.Common.{◌≡◌, ◌≢◌, ℕ, zero, suc, true, false, [], ◌∷◌, ◌++◌, length, get_or, set, Option, Some, None, refl, sym, ap, ap₂, ◌∙◌, subst, inl, inr, arith, length-set, get_or-set_other, get_or-set_same}
use Rattle.std.specs.Prelude.{IfSome}
use Rattle.std.proofs.lemmas.Bool.{cases_Bool}
use Rattle.std.proofs.lemmas.List.{get_or_default}
use Rattle.morris_board.specs.Boards.{Shape}
use Rattle.morris_index.specs.Pairs.{Counts, counts}
use Rattle.morris_pairs.specs.Shelves.{has_place, place_of}
use Rattle.morris_pairs.proofs.ShelfLaws.{HasNumbers, numbers, place_of-lt, cases_pair}
use Rattle.morris_lookup.specs.Opening.{OpenFile, IsOpen}
use Rattle.morris_lookup.specs.FileSets.{Files, file_for, AreFiles}

-- ---- the places

-- two pairs have two places
same_place : (c d : Counts) → has_place c ≡ true → has_place d ≡ true → place_of c ≡ place_of d → c ≡ d
same_place c d h k e =
    let n : HasNumbers c = numbers c h in
    let m : HasNumbers d = numbers d k in
    ap₂ counts (omega (arith, e, n.0, n.2, n.3, m.0, m.2, m.3)) (omega (arith, e, n.0, n.2, n.3, m.0, m.2, m.3))

file_at : (files : Files) (c : Counts) → has_place c ≡ true → file_for files c ≡ get_or files (place_of c) None
unfolding file_for
file_at files c h = rw h refl

file_nowhere : (files : Files) (c : Counts) → has_place c ≡ false → file_for files c ≡ None
unfolding file_for
file_nowhere files c h = rw h refl

-- what is read at the place of a pair
pub file_read : (files : Files) (c : Counts) (place : ℕ) (found : Option OpenFile) → length files ≡ 49 → has_place c ≡ true → place ≡ place_of c
    → found ≡ get_or files place found → found ≡ file_for files c
file_read files c place found len h e is =
    is ∙ get_or_default files place found None (omega (arith, place_of-lt c h)) ∙ ap (λ k. get_or files k None) e ∙ sym (file_at files c h)

-- ---- no files

module _ (files : Files) (empty : (k : ℕ) → get_or files k None ≡ None) where
  pub none-nothing : (c : Counts) → file_for files c ≡ None
  none-nothing c = elim (cases_Bool (has_place c)) [
    | inl h ↦ file_at files c h ∙ empty (place_of c)
    | inr h ↦ file_nowhere files c h
  ]

  pub none-lawful : (board : Shape) → length files ≡ 49 → AreFiles board files
  none-lawful board len = record {
    places = len;
    right = λ c. rw (none-nothing c) tt;
  }

pub none-push : (files : Files) → ((k : ℕ) → get_or files k None ≡ None) → (k : ℕ) → get_or (files ++ None ∷ []) k None ≡ None
none-push [] h zero = refl
none-push [] h (suc k) = refl
none-push (o ∷ files) h zero = h 0
none-push (o ∷ files) h (suc k) = none-push files (λ i. h (suc i)) k

-- ---- one file more

module _ (files : Files) (file : OpenFile) (len : length files ≡ 49) (h : has_place file.pair ≡ true) where
  abbrev put : Files
  put = set files (place_of file.pair) (Some file)

  pub put-this : file_for put file.pair ≡ Some file
  put-this = file_at put file.pair h ∙ get_or-set_same files (place_of file.pair) (Some file) None (omega (arith, place_of-lt file.pair h))

  pub put-other : (c : Counts) → c ≢ file.pair → file_for put c ≡ file_for files c
  put-other c other = elim (cases_Bool (has_place c)) [
    | inl k ↦
        file_at put c k
        ∙ get_or-set_other files (place_of file.pair) (place_of c) (Some file) None (λ e. other (same_place c file.pair k h e))
        ∙ sym (file_at files c k)
    | inr k ↦ file_nowhere put c k ∙ sym (file_nowhere files c k)
  ]

  pub put-lawful : (board : Shape) → AreFiles board files → IsOpen board file → AreFiles board put
  put-lawful board lawful right = record {
    places = length-set _ _ _ ∙ len;
    right = λ c. elim (cases_pair c file.pair) [
      | inl e ↦ subst (λ p. IfSome (file_for put p) (λ u. (u.pair ≡ p) × IsOpen board u)) (sym e) (rw put-this (refl, right))
      | inr other ↦ rw (put-other c other) (lawful.right c)
    ];
  }
