use Rattle.std.proofs.Common.{◌≡◌, length, vec_len, sym, ap, ◌∙◌, arith}
use Rattle.std.proofs.lemmas.Bool.{eqb-true}
use Rattle.std.proofs.lemmas.List.{nil_from_length}
use Rattle.morris_wave.specs.Bytes.{of_bytes}
use Rattle.morris_wave.proofs.TwoBytes.{high_zeros}
use Rattle.morris_wave.proofs.codes.widen.Goals as goal

pub returns-then-is_empty-clause-same : goal.returns-then-is_empty-clause-same
returns-then-is_empty-clause-same c = λ lows.
    let high = c.args.high.now in
    let none : length high.items ≡ 0 = omega (arith, eqb-true (vec_len high) 0 (sym c.if-is_empty.ensures), high.ok.0) in
    ap (of_bytes lows) c.fill.ensures.filled ∙ (high_zeros lows c.args.count ∙ ap (of_bytes lows) (sym (nil_from_length high.items none)))
