-- The bytes of a code are those that it was made of.
use Rattle.std.proofs.Common.{◌≡◌, ℕ, zero, suc, ◌+◌, ◌*◌, ◌<◌, ◌≤◌, List, [], ◌∷◌, ◌++◌, length, take, get_or, refl, sym, ap, ◌∙◌, arith, append_assoc}
use Rattle.std.specs.Int.{w16, to_be_bytes, from_be_bytes}
use Rattle.std.proofs.lemmas.List.{take_more}
use Rattle.std.proofs.lemmas.Nat.{be_bytes_2}
use Rattle.morris_pairs.specs.TableFiles.{code_bytes}
use Rattle.morris_pairs.proofs.FileLaws.{code_bytes-more}
use Rattle.morris_pairs.proofs.reading.push_codes.Goals as goal

both_bytes : (high low : ℕ) → high < 256 → low < 256 → (i : ℕ) → get_or (high ∷ low ∷ []) i 0 < 256
both_bytes high low h l zero = h
both_bytes high low h l (suc zero) = l
both_bytes high low h l (suc (suc i)) = omega arith

code_of_two : (high low code : ℕ) → high < 256 → low < 256 → code ≡ from_be_bytes w16 (high ∷ low ∷ []) → to_be_bytes w16 code ≡ high ∷ low ∷ []
code_of_two high low code h l e = be_bytes_2 (high ∷ low ∷ []) code refl (both_bytes high low h l) e

two_more : (bytes : List ℕ) (i : ℕ) → 2 * i + 1 < length bytes
    → take (2 * i) bytes ++ (get_or bytes (2 * i) 0 ∷ get_or bytes (2 * i + 1) 0 ∷ []) ≡ take (2 * (i + 1)) bytes
two_more bytes i room =
    let places : 2 * i + 1 + 1 ≡ 2 * (i + 1) = omega arith in
    sym (append_assoc (take (2 * i) bytes) (get_or bytes (2 * i) 0 ∷ []) (get_or bytes (2 * i + 1) 0 ∷ []))
    ∙ ap (λ front. front ++ get_or bytes (2 * i + 1) 0 ∷ []) (sym (take_more bytes (2 * i) 0 (omega arith)))
    ∙ sym (take_more bytes (2 * i + 1) 0 room)
    ∙ ap (λ n. take n bytes) places

added : (items before bytes : List ℕ) (i code : ℕ) → 2 * i + 1 < length bytes → get_or bytes (2 * i) 0 < 256 → get_or bytes (2 * i + 1) 0 < 256
    → code ≡ from_be_bytes w16 (get_or bytes (2 * i) 0 ∷ get_or bytes (2 * i + 1) 0 ∷ []) → code_bytes items ≡ before ++ take (2 * i) bytes
    → code_bytes (items ++ code ∷ []) ≡ before ++ take (2 * (i + 1)) bytes
added items before bytes i code room h l e sofar =
    code_bytes-more items code
    ∙ ap (λ more. code_bytes items ++ more) (code_of_two (get_or bytes (2 * i) 0) (get_or bytes (2 * i + 1) 0) code h l e)
    ∙ ap (λ front. front ++ (get_or bytes (2 * i) 0 ∷ get_or bytes (2 * i + 1) 0 ∷ [])) sofar
    ∙ append_assoc before (take (2 * i) bytes) (get_or bytes (2 * i) 0 ∷ get_or bytes (2 * i + 1) 0 ∷ [])
    ∙ ap (λ rest. before ++ rest) (two_more bytes i room)

small_push : (items : List ℕ) (code : ℕ) → code ≤ 65535 → ((i : ℕ) → get_or items i 0 ≤ 65535) → (i : ℕ) → get_or (items ++ code ∷ []) i 0 ≤ 65535
small_push [] code few all zero = few
small_push [] code few all (suc i) = all i
small_push (x ∷ items) code few all zero = all zero
small_push (x ∷ items) code few all (suc i) = small_push items code few (λ j. all (suc j)) i

pub loop-i-preserved : goal.loop-i-preserved
loop-i-preserved c =
    let bytes = c.args.bytes.now in
    let i = c.loop-i.i in
    record {
      added =
          ap code_bytes c.push_reserved.ensures.items
          ∙ added c.loop-i.codes.items (code_bytes c.args.codes.now.items) bytes i c.from_be_bytes.result (omega arith) (omega (arith, c.type_inv.bytes (2 * i)))
          (omega (arith, c.type_inv.bytes (2 * i + 1))) c.from_be_bytes.ensures c.loop-i.invariant.added;
      small = λ all j.
          rw c.push_reserved.ensures.items
          (small_push c.loop-i.codes.items c.from_be_bytes.result (omega (arith, c.from_be_bytes.type_inv)) (c.loop-i.invariant.small all) j);
      len = omega arith;
      capacity = c.push_reserved.ensures.capacity ∙ c.loop-i.invariant.capacity;
    }
