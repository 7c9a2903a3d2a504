-- The lines of a list: which are those of files, and which are retained.
use Rattle.std.proofs.Common.{◌≡◌, ℕ, ◌+◌, ◌-◌, ◌<◌, ◌≤◌, refl, Bool, true, false, not, ◌&&◌, ◌||◌, List, ◌++◌, length, take, drop, get_or, codes, Some, sym, ap, ◌∙◌, arith, length-drop}
use Rattle.std.specs.List.{list_all, list_any, slice_get}
use Rattle.std.specs.Str.{bytes_eq}
use Rattle.std.proofs.Math.Bool.{and-false}
use Rattle.std.proofs.lemmas.Bool.{and_left}
use Rattle.std.proofs.lemmas.List.{at_drop_all, take_all}
use Rattle.std.proofs.lemmas.List.Folds.{list_any_at, list_any_more}
use Rattle.std.proofs.lemmas.Option.{slice_get_within, get_or_from_slice_get}
use Rattle.morris_index.specs.Pairs.{Counts, all_pairs, is_below}
use Rattle.morris_files.specs.Names.{name_of}
use Rattle.morris_files.specs.Digests.{is_digit, is_retained, is_retained_of, is_line_of}

module _ (board line : List ℕ) where
  module _ (c : Counts) where
    -- a line that is too short for a digest is that of no file
    pub is_line_of-short : length line < 64 → false ≡ is_line_of board line c
    unfolding is_line_of
    is_line_of-short short =
        sym (
        ap (λ same. list_all is_digit (take 64 line) && same) (at_drop_all (λ rest. bytes_eq rest (codes "  " ++ name_of board c)) line 64 (omega arith))
        ∙ and-false (list_all is_digit (take 64 line)))

    -- and so is one with another byte in front
    pub is_line_of-other : false ≡ list_all is_digit (take 64 line) → false ≡ is_line_of board line c
    unfolding is_line_of
    is_line_of-other other = sym (and_left _ _ (sym other))

    -- what follows a digest decides
    pub is_line_of-end : list_all is_digit (take 64 line) ≡ true
        → bytes_eq (take (length line - 64) (drop 64 line)) (codes "  " ++ name_of board c) ≡ is_line_of board line c
    unfolding is_line_of
    is_line_of-end digits =
        ap (λ rest. bytes_eq rest (codes "  " ++ name_of board c)) (take_all (length line - 64) (drop 64 line) (omega (arith, length-drop 64 line)))
        ∙ sym (ap (λ b. b && bytes_eq (drop 64 line) (codes "  " ++ name_of board c)) digits)

  module _ (replaced : Counts) where
    module _ (c : Counts) where
      -- the line of a file that is replaced isn't retained, and that of another one is
      pub is_retained_of-replaced : is_below replaced c ≡ true → is_retained_of board replaced line c ≡ false
      is_retained_of-replaced below = ap (λ b. not b && is_line_of board line c) below

      pub is_retained_of-other : is_below replaced c ≡ false → (same : Bool) → is_line_of board line c ≡ same → is_retained_of board replaced line c ≡ same
      is_retained_of-other apart same e = ap (λ b. not b && is_line_of board line c) apart ∙ e

    module _ (place : ℕ) (c : Counts) (is : slice_get all_pairs place ≡ Some c) where
      within : place < length all_pairs
      within = slice_get_within all_pairs place c is

      here : get_or all_pairs place c ≡ c
      here = get_or_from_slice_get all_pairs place c c is

      -- one pair more
      pub any-more : list_any (is_retained_of board replaced line) (take place all_pairs) ≡ false → is_retained_of board replaced line c ≡ false → list_any (is_retained_of board replaced line) (take (place + 1) all_pairs) ≡ false
      any-more before now = list_any_more (is_retained_of board replaced line) all_pairs place c within ∙ ap (λ b. b || is_retained_of board replaced line (get_or all_pairs place c)) before ∙ ap (is_retained_of board replaced line) here ∙ now

      -- one pair settles it
      pub is_retained-here : is_retained_of board replaced line c ≡ true → true ≡ is_retained board replaced line
      unfolding is_retained
      is_retained-here now = sym (list_any_at (is_retained_of board replaced line) all_pairs place c within (ap (is_retained_of board replaced line) here ∙ now))

    length-all_pairs : length all_pairs ≡ 28
    unfolding all_pairs
    length-all_pairs = refl

    -- no pair does
    pub is_retained-none : (place : ℕ) → 28 ≤ place → list_any (is_retained_of board replaced line) (take place all_pairs) ≡ false → false ≡ is_retained board replaced line
    unfolding is_retained
    is_retained-none place all none = sym (ap (list_any (is_retained_of board replaced line)) (sym (take_all place all_pairs (omega (arith, length-all_pairs)))) ∙ none)
