use Rattle.std.proofs.Common.{◌≡◌, drop, length, ◌∙◌, arith}
use Rattle.morris_index.specs.ClassPairs.{class_half_size}
use Rattle.morris_index.specs.Pairs.{Counts}
use Rattle.morris_pairs.proofs.ReorderLaws.{code-in_chunk}
use Rattle.morris_pairs.proofs.row_graph.RowGraph.second_half_codes.Goals as goal

pub returns-clause-each : goal.returns-clause-each
returns-clause-each g c = λ k low.
    let d : Counts = c.args.self.now in
    let left = c.for_each_chunk_mut.new.s in
    let len : length left ≡ c.in_ok-second_half.second_half.len = c.for_each_chunk_mut.auto.s ∙ c.deref_mut.ensures.len in
    let w = (c.for_each_chunk_mut.ensures.by_index k 0 (omega (arith, low, c.deref_mut.ensures.len))).1 in
    code-in_chunk g.B.Geometry.shape g.B.Geometry.POINTS d c.args.codes.now w.after_call.now left (drop (length left) c.in_ok-second_half.second_half.items)
    (class_half_size g.B.Geometry.shape g.B.Geometry.POINTS d.greater d.lesser) w.start w.offset (length w.argument.now) c.in_ok-second_half.second_half.len k
    w.call w.offset_in_chunk w.start_plus_offset low (omega (arith, low, len)) w.new_element
