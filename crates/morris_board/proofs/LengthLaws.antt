-- How long the parts of a text are at most.
use Rattle.std.proofs.Common.{◌≡◌, ℕ, zero, suc, ◌+◌, ◌*◌, ◌/◌, ◌%◌, ◌≤◌, ◌==◌, Bool, true, false, List, [], ◌∷◌, if◌then◌else◌, length, refl, arith, length-append, mul-suc}
use Rattle.std.specs.List.{flat_map}
use Rattle.std.specs.Fmt.{decimal, digit_glyph, digits, digits_onto}

-- a choice of two texts
pub by_test : (b : Bool) (k : ℕ) (one more : List ℕ) → length one ≤ k → length more ≤ k → length (if b then one else more) ≤ k
by_test true k one more low high = low
by_test false k one more low high = high

-- the same, where one of them is as long as the choice says
pub by_choice : (b : Bool) (k : ℕ) (one more : List ℕ) → (b ≡ true → length one ≤ k) → length more ≤ k → length (if b then one else more) ≤ k
by_choice true k one more low high = low refl
by_choice false k one more low high = high

onto_few : (k base : ℕ) (upper : Bool) (n : ℕ) (acc : List ℕ) → length (digits_onto k base upper n acc) ≤ k + length acc
onto_few zero base upper n acc = omega arith
onto_few (suc k) base upper n acc =
    let more : List ℕ = digit_glyph upper (n % base) ∷ acc in
    by_test (n / base == 0) (suc k + length acc) more (digits_onto k base upper (n / base) more) (omega arith)
    (omega (arith, onto_few k base upper (n / base) more))

-- a number is printed in at most 64 digits
pub decimal_few : (n : ℕ) → length (decimal n) ≤ 64
unfolding digits
decimal_few n = onto_few 64 10 false n []

-- the texts of a list's members, of which none is longer than k
pub flat_map_few : {X : Type 0} (f : X → List ℕ) (k : ℕ) → ((x : X) → length (f x) ≤ k) → (xs : List X) → length (flat_map f xs) ≤ k * length xs
flat_map_few f k each [] = omega arith
flat_map_few f k each (x ∷ xs) =
    omega (arith, length-append (f x) (flat_map f xs), each x, flat_map_few f k each xs, mul-suc k (length xs))
