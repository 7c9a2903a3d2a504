-- Two bytes more are those of the next code.
use Rattle.std.proofs.Common.{◌≡◌, ℕ, ◌+◌, ◌*◌, ◌<◌, List, [], ◌∷◌, ◌++◌, length, take, drop, get_or, sym, ap, ◌∙◌, refl, arith, append_assoc, length-drop}
use Rattle.std.proofs.Math.ListN.{set}
use Rattle.std.specs.Int.{w16, to_be_bytes}
use Rattle.std.proofs.lemmas.List.{take_more, take_more_set, length-set, get_or-drop}
use Rattle.morris_pairs.specs.TableFiles.{code_bytes}
use Rattle.morris_pairs.proofs.FileLaws.{code_bytes-more}
use Rattle.morris_pairs.proofs.writing.copy_codes.Goals as goal

-- two bytes written after k
two_more : (chunk : List ℕ) (k high low : ℕ) → k + 1 < length chunk → take (k + 1 + 1) (set (set chunk k high) (k + 1) low) ≡ take k chunk ++ (high ∷ low ∷ [])
two_more chunk k high low room =
    take_more_set (set chunk k high) (k + 1) low (omega (arith, length-set chunk k high))
    ∙ ap (λ front. front ++ low ∷ []) (take_more_set chunk k high (omega arith))
    ∙ append_assoc (take k chunk) (high ∷ []) (low ∷ [])

code_more : (chunk codes bytes : List ℕ) (first i code : ℕ) → 2 * i + 1 < length chunk → i < length (drop first codes)
    → take (2 * i) chunk ≡ code_bytes (take i (drop first codes)) → bytes ≡ to_be_bytes w16 code → code ≡ get_or codes (first + i) 0
    → take (2 * (i + 1)) (set (set chunk (2 * i) (get_or bytes 0 0)) (2 * i + 1) (get_or bytes 1 0)) ≡ code_bytes (take (i + 1) (drop first codes))
code_more chunk codes bytes first i code room inside filled bytes_are code_is =
    let rest = drop first codes in
    let places : 2 * (i + 1) ≡ 2 * i + 1 + 1 = omega arith in
    let two : get_or bytes 0 0 ∷ get_or bytes 1 0 ∷ [] ≡ to_be_bytes w16 code = ap (λ (b : List ℕ). get_or b 0 0 ∷ get_or b 1 0 ∷ []) bytes_are in
    let next : take i rest ++ code ∷ [] ≡ take (i + 1) rest =
    ap (λ n. take i rest ++ n ∷ []) (code_is ∙ sym (get_or-drop first codes i 0)) ∙ sym (take_more rest i 0 inside) in
    ap (λ n. take n (set (set chunk (2 * i) (get_or bytes 0 0)) (2 * i + 1) (get_or bytes 1 0))) places
    ∙ two_more chunk (2 * i) (get_or bytes 0 0) (get_or bytes 1 0) room
    ∙ ap (λ more. take (2 * i) chunk ++ more) two
    ∙ ap (λ front. front ++ to_be_bytes w16 code) filled
    ∙ sym (code_bytes-more (take i rest) code)
    ∙ ap code_bytes next

pub loop-i-init : goal.loop-i-init
unfolding code_bytes
loop-i-init g c = refl

pub loop-i-preserved : goal.loop-i-preserved
loop-i-preserved g c =
    let codes = c.args.table.now.codes in
    code_more c.loop-i.chunk codes c.to_be_bytes.result c.args.first c.loop-i.i c.code.result (omega arith) (omega (arith, length-drop c.args.first codes))
    c.loop-i.invariant c.to_be_bytes.ensures c.code.ensures
