-- Each node of a graph is in one block of a cut.
use Rattle.std.proofs.Common.{◌≡◌, ℕ, ◌+◌, ◌-◌, ◌*◌, ◌/◌, ◌<◌, ◌≤◌, ap, ⊎_elim, arith}
use Rattle.std.proofs.Math.Nat.{div-lt_iff_lt-mul, mul-le-mul_right}
use Rattle.std.proofs.lemmas.Bool.{cases_lt}
use Rattle.std.proofs.lemmas.Nat.{le-div}
use Rattle.morris_wave.specs.Blocks.{Parts, IsCut, first_of, block_of, IsIn}

-- a quotient is below a number exactly where the dividend is below the product
below : (x k y : ℕ) → 0 < k → x < y * k → x / k < y
below x k y pos l = (div-lt_iff_lt-mul {k = k} {x = x} {y = y} pos).1 l

under : (x k y : ℕ) → 0 < k → x / k < y → x < y * k
under x k y pos l = (div-lt_iff_lt-mul {k = k} {x = x} {y = y} pos).0 l

from : (x k y : ℕ) → 0 < k → y ≤ x / k → y * k ≤ x
from x k y pos l = ⊎_elim (λ h. absurd (omega (arith, below x k y pos h))) (λ h. h) (cases_lt x (y * k))

-- a quotient by its two bounds
quotient_is : (x k q : ℕ) → 0 < k → k * q ≤ x → x < k * q + k → q ≡ x / k
quotient_is x k q pos low high =
    let upper : x / k < q + 1 = below x k (q + 1) pos (omega (arith, high)) in
    let lower : q ≤ x / k = le-div q x k pos (omega (arith, low)) in
    omega (arith, upper, lower)

-- The high half of a product is the quotient exactly, where the factor is just below the blocks by
-- the size in parts of w, and the size has a square of at most w.
pub high_half_is : (i size blocks factor w low q : ℕ) → i < size → size * size ≤ w → factor * size < blocks * w → blocks * w ≤ factor * size + size
    → low < w → low + q * w ≡ (i + 1) * factor → q ≡ ((i + 1) * blocks - 1) / size
high_half_is i size blocks factor w low q inside square below_it above_it half is =
    let scaled : size * (low + q * w) ≡ size * ((i + 1) * factor) = ap (λ (n : ℕ). size * n) is in
    let less : (factor * size + 1) * (i + 1) ≤ (blocks * w) * (i + 1) = mul-le-mul_right (i + 1) (omega (arith, below_it)) in
    let most : (blocks * w) * (i + 1) ≤ (factor * size + size) * (i + 1) = mul-le-mul_right (i + 1) above_it in
    let rest : (low + 1) * size ≤ w * size = mul-le-mul_right size (omega (arith, half)) in
    let short : (i + 1) * size ≤ size * size = mul-le-mul_right size (omega (arith, inside)) in
    let upper : size * q < (i + 1) * blocks =
    ⊎_elim
    (λ h. h)
    (λ h. let more : ((i + 1) * blocks) * w ≤ (size * q) * w = mul-le-mul_right w h in absurd (omega (arith, scaled, less, more)))
    (cases_lt (size * q) ((i + 1) * blocks)) in
    let lower : (i + 1) * blocks ≤ size * q + size =
    ⊎_elim
    (λ h. let more : (size * q + size + 1) * w ≤ ((i + 1) * blocks) * w = mul-le-mul_right w (omega (arith, h)) in
    absurd (omega (arith, scaled, most, rest, short, more, square, inside)))
    (λ h. h)
    (cases_lt (size * q + size) ((i + 1) * blocks)) in
    quotient_is ((i + 1) * blocks - 1) size q (omega (arith, inside)) (omega (arith, upper)) (omega (arith, upper, lower))

module _ (c : Parts) (law : IsCut c) (i : ℕ) (inside : i < c.size) where
  some : 1 ≤ (i + 1) * c.blocks
  some = from_one (i + 1) c.blocks (omega arith) law.some
    where
      from_one : (a b : ℕ) → 1 ≤ a → 1 ≤ b → 1 ≤ a * b
      from_one a b p q = grind arith

  pub block_is : (k : ℕ) → IsIn c k i → block_of c i ≡ k
  block_is k (low, high) =
      let least : c.size * k < (i + 1) * c.blocks = under (c.size * k) c.blocks (i + 1) (omega (arith, law.some)) (omega (arith, low)) in
      let most : (i + 1) * c.blocks ≤ c.size * (k + 1) = from (c.size * (k + 1)) c.blocks (i + 1) (omega (arith, law.some)) (omega (arith, high)) in
      let upper : block_of c i < k + 1 = below ((i + 1) * c.blocks - 1) c.size (k + 1) (omega arith) (omega (arith, most, some)) in
      let lower : k ≤ block_of c i = le-div k ((i + 1) * c.blocks - 1) c.size (omega arith) (omega (arith, least, some)) in
      omega (arith, upper, lower)

  pub is_in_block : IsIn c (block_of c i) i
  is_in_block =
      let b = block_of c i in
      let upper : (i + 1) * c.blocks - 1 < (b + 1) * c.size = under ((i + 1) * c.blocks - 1) c.size (b + 1) (omega arith) (omega arith) in
      let lower : b * c.size ≤ (i + 1) * c.blocks - 1 = from ((i + 1) * c.blocks - 1) c.size b (omega arith) (omega arith) in
      let low : first_of c b < i + 1 = below (c.size * b) c.blocks (i + 1) (omega (arith, law.some)) (omega (arith, lower, some)) in
      let high : i + 1 ≤ first_of c (b + 1) = le-div (i + 1) (c.size * (b + 1)) c.blocks (omega (arith, law.some)) (omega (arith, upper, some)) in
      (omega (arith, low), omega (arith, high))
