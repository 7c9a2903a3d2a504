use Rattle.std.proofs.Common.{ap, ◌∙◌}
use Rattle.morris_wave.specs.Bytes.{of_bytes}
use Rattle.morris_wave.proofs.TwoBytes.{low_alone}
use Rattle.morris_wave.proofs.codes.Codes.make_zeros.Goals as goal

pub returns : goal.returns
returns c =
    let low = c.in_ok-low.low.items in
    ap (of_bytes low) c.in_ok-high.ensures.items ∙ (low_alone low ∙ c.in_ok-low.ensures.items_if_clones_equal (λ y e. e))
