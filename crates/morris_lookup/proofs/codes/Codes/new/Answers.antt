use Rattle.morris_pairs.specs.Entries.{entry_count}
use Rattle.morris_lookup.proofs.PieceLaws.{none_read}
use Rattle.morris_lookup.proofs.codes.Codes.new.Goals as goal

pub invariant_of-result : goal.invariant_of-result
invariant_of-result g c =
    let file = c.args.file.now in
    let none = none_read (entry_count g.B.Geometry.shape g.B.Geometry.POINTS file.layout file.pair) file.held c.in_ok-chunk.chunk.items in
    (c.in_ok-chunk.ensures.len, none.0, none.1, none.2, none.3)
