-- Numbers of 16 bits whose bytes stand in two lists.
use Rattle.std.proofs.Common.{◌≡◌, ℕ, zero, suc, ◌+◌, ◌*◌, ◌<◌, List, [], ◌∷◌, length, get_or, set, replicate, refl, ap, ap₂, arith}
use Rattle.morris_wave.specs.Bytes.{of_bytes}

-- without high bytes these are the low ones
pub low_alone : (lows : List ℕ) → of_bytes lows [] ≡ lows
unfolding of_bytes
low_alone [] = refl
low_alone (low ∷ lows) = ap (λ (xs : List ℕ). low ∷ xs) (low_alone lows)

-- nor do high bytes of 0 change anything
pub high_zeros : (lows : List ℕ) (n : ℕ) → of_bytes lows (replicate n 0) ≡ of_bytes lows []
unfolding of_bytes
high_zeros [] n = refl
high_zeros (low ∷ lows) zero = refl
high_zeros (low ∷ lows) (suc n) =
    let none : low + 0 * 256 ≡ low = omega arith in
    ap₂ (λ (x : ℕ) (xs : List ℕ). x ∷ xs) none (high_zeros lows n)

-- there are as many numbers as low bytes
pub length-of_bytes : (lows highs : List ℕ) → length (of_bytes lows highs) ≡ length lows
unfolding of_bytes
length-of_bytes [] highs = refl
length-of_bytes (low ∷ lows) [] = ap suc (length-of_bytes lows [])
length-of_bytes (low ∷ lows) (high ∷ highs) = ap suc (length-of_bytes lows highs)

-- the number at a place
pub read : (lows highs : List ℕ) (k : ℕ) → k < length lows → get_or (of_bytes lows highs) k 0 ≡ get_or lows k 0 + get_or highs k 0 * 256
unfolding of_bytes
read [] highs k less = absurd (omega (arith, less))
read (low ∷ lows) [] zero less = omega arith
read (low ∷ lows) [] (suc k) less = read lows [] k (omega (arith, less))
read (low ∷ lows) (high ∷ highs) zero less = refl
read (low ∷ lows) (high ∷ highs) (suc k) less = read lows highs k (omega (arith, less))

-- a number is written by its two bytes
pub write : (lows highs : List ℕ) (k low' high' : ℕ) → k < length lows → length highs ≡ length lows
    → of_bytes (set lows k low') (set highs k high') ≡ set (of_bytes lows highs) k (low' + high' * 256)
unfolding of_bytes
write [] highs k low' high' less same = absurd (omega (arith, less))
write (low ∷ lows) [] k low' high' less same = absurd (omega (arith, same))
write (low ∷ lows) (high ∷ highs) zero low' high' less same = refl
write (low ∷ lows) (high ∷ highs) (suc k) low' high' less same =
    ap (λ (xs : List ℕ). (low + high * 256) ∷ xs) (write lows highs k low' high' (omega (arith, less)) (omega (arith, same)))
