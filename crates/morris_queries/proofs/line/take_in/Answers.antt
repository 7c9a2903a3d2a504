use Rattle.std.proofs.Common.{◌≡◌, ◌<◌, ◌∙◌, ◌∷◌, ◌++◌, [], ap, arith, length, take}
use Rattle.morris_queries.proofs.LineLaws.{unchanged-full, unchanged-short}
use Rattle.morris_queries.proofs.line.take_in.Goals as goal

pub returns-then-not-is_full : goal.returns-then-not-is_full
returns-then-not-is_full c = λ begun is.
    let here = ap length is in
    let short : length (take 26 begun) < 26 = grind (arith, here, c.is_full.ensures.value, c.is_full.ensures.fits, c.if-not-is_full.true) in
    c.push.ensures.items ∙ (ap (λ l. l ++ c.args.byte ∷ []) is ∙ unchanged-short begun c.args.byte short)

pub returns-else-not-is_full : goal.returns-else-not-is_full
returns-else-not-is_full c = λ begun is.
    let here = ap length is in
    let full : length (take 26 begun) ≡ 26 = grind (arith, here, c.is_full.ensures.value, c.if-not-is_full.false) in
    is ∙ unchanged-full begun c.args.byte full
