-- How the lines of bytes go on with the bytes after them, and what the first bytes of a line settle
-- of its text.
use Rattle.std.proofs.Common.{◌≡◌, ℕ, ◌-◌, ◌≤◌, ◌<◌, Bool, true, false, List, [], ◌∷◌, ◌++◌, map, take, length, refl, sym, ap, ◌∙◌, inl, inr, arith, length-append, append-nil, filter}
use Rattle.std.specs.Prelude.{nat_eq, not, slice_index}
use Rattle.std.proofs.lemmas.Bool.{cases_lt}
use Rattle.std.proofs.lemmas.List.Elements.{filter-append}
use Rattle.std.proofs.lemmas.List.{take-take, take-append-le, take_all, length-take, map-append}
use Rattle.morris_queries.specs.InputLines.{begun_after, is_passed_over, text_in, strings_ended, strings_of, whole_lines}

-- ---- bytes after bytes

pub whole_lines-append : (begun xs ys : List ℕ) → whole_lines begun (xs ++ ys) ≡ whole_lines begun xs ++ whole_lines (begun_after begun xs) ys
unfolding whole_lines begun_after
whole_lines-append begun [] ys = refl
whole_lines-append begun (x ∷ xs) ys = go (nat_eq x 10) refl (whole_lines-append [] xs ys) (whole_lines-append (begun ++ x ∷ []) xs ys)
  where
    go : (b : Bool) → nat_eq x 10 ≡ b → whole_lines [] (xs ++ ys) ≡ whole_lines [] xs ++ whole_lines (begun_after [] xs) ys
        → whole_lines (begun ++ x ∷ []) (xs ++ ys) ≡ whole_lines (begun ++ x ∷ []) xs ++ whole_lines (begun_after (begun ++ x ∷ []) xs) ys
        → whole_lines begun (x ∷ xs ++ ys) ≡ whole_lines begun (x ∷ xs) ++ whole_lines (begun_after begun (x ∷ xs)) ys
    go true e ended other = rw e (ap (λ ls. begun ∷ ls) ended)
    go false e ended other = rw e other

pub begun_after-append : (begun xs ys : List ℕ) → begun_after begun (xs ++ ys) ≡ begun_after (begun_after begun xs) ys
unfolding begun_after
begun_after-append begun [] ys = refl
begun_after-append begun (x ∷ xs) ys = go (nat_eq x 10) refl (begun_after-append [] xs ys) (begun_after-append (begun ++ x ∷ []) xs ys)
  where
    go : (b : Bool) → nat_eq x 10 ≡ b → begun_after [] (xs ++ ys) ≡ begun_after (begun_after [] xs) ys
        → begun_after (begun ++ x ∷ []) (xs ++ ys) ≡ begun_after (begun_after (begun ++ x ∷ []) xs) ys
        → begun_after begun (x ∷ xs ++ ys) ≡ begun_after (begun_after begun (x ∷ xs)) ys
    go true e ended other = rw e ended
    go false e ended other = rw e other

-- the texts of the lines that end within bytes stay the first ones
strings_of-append : (xs ys : List (List ℕ)) → strings_of (xs ++ ys) ≡ strings_of xs ++ strings_of ys
strings_of-append xs ys =
    ap (filter (λ text. not (is_passed_over text))) (map-append text_in xs ys)
    ∙ filter-append (λ text. not (is_passed_over text)) (map text_in xs) (map text_in ys)

pub strings_ended-append : (xs ys : List ℕ) → strings_ended (xs ++ ys) ≡ strings_ended xs ++ strings_of (whole_lines (begun_after [] xs) ys)
strings_ended-append xs ys = ap strings_of (whole_lines-append [] xs ys) ∙ strings_of-append (whole_lines [] xs) _

-- a line feed ends the line that was begun, which is answered
pub strings_ended-feed : (xs : List ℕ) → is_passed_over (text_in (begun_after [] xs)) ≡ false
    → strings_ended (xs ++ 10 ∷ []) ≡ strings_ended xs ++ text_in (begun_after [] xs) ∷ []
unfolding whole_lines
strings_ended-feed xs asked =
    let one : strings_of (begun_after [] xs ∷ []) ≡ text_in (begun_after [] xs) ∷ [] = rw asked refl in
    strings_ended-append xs (10 ∷ []) ∙ ap (λ ts. strings_ended xs ++ ts) one

-- or passed over
pub strings_ended-passed : (xs : List ℕ) → is_passed_over (text_in (begun_after [] xs)) ≡ true → strings_ended (xs ++ 10 ∷ []) ≡ strings_ended xs
unfolding whole_lines
strings_ended-passed xs passed =
    let none : strings_of (begun_after [] xs ∷ []) ≡ [] = rw passed refl in
    strings_ended-append xs (10 ∷ []) ∙ (ap (λ ts. strings_ended xs ++ ts) none ∙ append-nil (strings_ended xs))

pub begun_after-feed : (xs : List ℕ) → begun_after [] (xs ++ 10 ∷ []) ≡ []
unfolding begun_after
begun_after-feed xs = begun_after-append [] xs (10 ∷ [])

-- any other byte belongs to it
pub strings_ended-byte : (xs : List ℕ) (b : ℕ) → nat_eq b 10 ≡ false → strings_ended (xs ++ b ∷ []) ≡ strings_ended xs
unfolding whole_lines
strings_ended-byte xs b other =
    let none : whole_lines (begun_after [] xs) (b ∷ []) ≡ [] = rw other refl in
    strings_ended-append xs (b ∷ []) ∙ (ap (λ ls. strings_ended xs ++ strings_of ls) none ∙ append-nil (strings_ended xs))

pub begun_after-byte : (xs : List ℕ) (b : ℕ) → nat_eq b 10 ≡ false → begun_after [] (xs ++ b ∷ []) ≡ begun_after [] xs ++ b ∷ []
unfolding begun_after
begun_after-byte xs b other =
    let one : begun_after (begun_after [] xs) (b ∷ []) ≡ begun_after [] xs ++ b ∷ [] = rw other refl in
    begun_after-append [] xs (b ∷ []) ∙ one

-- ---- the first bytes of a line

-- another byte of the line is retained where there is room
pub unchanged-short : (line : List ℕ) (b : ℕ) → length (take 26 line) < 26 → take 26 line ++ b ∷ [] ≡ take 26 (line ++ b ∷ [])
unchanged-short line b low =
    let short : length line < 26 = omega (arith, low, length-take 26 line) in
    let both : length (line ++ b ∷ []) ≤ 26 = omega (arith, short, length-append line (b ∷ [])) in
    ap (λ l. l ++ b ∷ []) (take_all 26 line (omega (arith, short))) ∙ sym (take_all 26 (line ++ b ∷ []) both)

-- and where there is none, the first bytes stay
pub unchanged-full : (line : List ℕ) (b : ℕ) → length (take 26 line) ≡ 26 → take 26 line ≡ take 26 (line ++ b ∷ [])
unchanged-full line b full =
    let long : 26 ≤ length line = omega (arith, full, length-take 26 line) in
    sym (take-append-le 26 line (b ∷ []) long)

-- a line that is long enough settles no less without its last byte
text_in-long : (line : List ℕ) → 26 ≤ length line → take 25 (text_in line) ≡ take 25 line
text_in-long line long = go (nat_eq (slice_index line (length line - 1)) 13) refl
  where
    go : (b : Bool) → nat_eq (slice_index line (length line - 1)) 13 ≡ b → take 25 (text_in line) ≡ take 25 line
    go true e = rw e (take-take 25 (length line - 1) line (omega (arith, long)))
    go false e = rw e refl

-- the first bytes of a line settle the first bytes of its text
pub text_in-start : (line : List ℕ) → take 25 (text_in (take 26 line)) ≡ take 25 (text_in line)
text_in-start line = elim (cases_lt 26 (length line)) [
  | inr short ↦ ap (λ l. take 25 (text_in l)) (take_all 26 line short)
  | inl long ↦
      let unchanged : 26 ≤ length (take 26 line) = omega (arith, long, length-take 26 line) in
      text_in-long (take 26 line) unchanged ∙ (take-take 25 26 line (omega arith) ∙ sym (text_in-long line (omega (arith, long))))
]

-- and so whether it is passed over
pub passed_over-start : (line : List ℕ) → is_passed_over (text_in (take 26 line)) ≡ is_passed_over (text_in line)
passed_over-start line = first (text_in (take 26 line)) ∙ (ap is_passed_over (text_in-start line) ∙ sym (first (text_in line)))
  where
    first : (text : List ℕ) → is_passed_over text ≡ is_passed_over (take 25 text)
    first [] = refl
    first (b ∷ text) = refl
