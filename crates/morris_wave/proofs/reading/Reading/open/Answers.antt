use Rattle.std.proofs.Common.{ℕ, length, get_or, ap, ◌∙◌, arith}
use Rattle.std.proofs.lemmas.List.{get_or-replicate, length-replicate}
use Rattle.morris_wave.proofs.reading.Reading.open.Goals as goal

pub returns-clause-read : goal.returns-clause-read
returns-clause-read g c = λ net.
    let codes = c.in_ok-entries.ensures.codes in
    let waves = c.in_ok-waves.ensures.items_if_clones_equal (λ y e. e) in
    let count = c.args.count in
    record {
      few = λ k l. absurd (omega (arith, l));
      codes_are = λ k l. absurd (omega (arith, l));
      counters_are = λ k l. absurd (omega (arith, l));
      waves_are = λ k l. absurd (omega (arith, l));
      bound = λ k l. absurd (omega (arith, l));
      reached = λ some. absurd (omega (arith, some));
      open_yet = λ k _ l. ap (λ xs. get_or xs k 0) codes ∙ get_or-replicate count k 0 0 (omega (arith, l, ap length codes, length-replicate {A = ℕ} count 0));
      unwritten = λ k _ l. ap (λ xs. get_or xs k 0) waves ∙ get_or-replicate count k 0 0 (omega (arith, l, ap length codes, length-replicate {A = ℕ} count 0));
    }
