-- Counters of 8 and of 16 bits.
use Rattle.std.proofs.Common.{◌≡◌, ℕ, ◌<◌, ◌≤◌, eqb, get_or, refl, ⊎_elim, arith}
use Rattle.std.proofs.lemmas.Bool.{cases_eq, cond-false, ne_eqb}
use Rattle.std.proofs.lemmas.Bool.Decides.{nat_tests}
use Rattle.morris_wave.specs.NodeRanges.{left_of}
use Rattle.morris_wave.specs.Counts.{FallsLike, left_of_byte, left_at, counts_of, most_of}
use Rattle.morris_wave.specs.declared.counters.Counters.{Counters}
use Rattle.morris_wave.specs.declared.counters.Counters.TheVariants.{Bytes, Words}

byte_less : (count : ℕ) → left_of_byte count ≤ left_of count
byte_less count = grind (arith, nat_tests)

byte_same : (count : ℕ) → 0 < count → left_of_byte count ≡ left_of count
byte_same count some = grind (arith, nat_tests)

pub bytes_fall : FallsLike left_of_byte
bytes_fall = record { less = byte_less; same = byte_same }

pub words_fall : FallsLike left_of
words_fall = record { less = λ count. omega arith; same = λ count some. refl }

-- counters fall as often as they may, where those that are for few results fall no further than to
-- 0
pub left_enough : (c : Counters) (k t : ℕ) → t ≤ left_of (get_or (counts_of c) k 0) → (most_of c ≤ 255 → t ≤ get_or (counts_of c) k 0) → t ≤ left_at c k
left_enough (Bytes list) k t wide narrow =
    ⊎_elim
    (λ e. omega (arith, narrow (omega arith), e))
    (λ e. omega (arith, cond-false {A = ℕ} (eqb (get_or list.items k 0) 0) 0 (left_of (get_or list.items k 0)) (ne_eqb (get_or list.items k 0) 0 e), wide))
    (cases_eq (get_or list.items k 0) 0)
left_enough (Words list) k t wide narrow = wide
