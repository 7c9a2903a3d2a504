use Rattle.std.proofs.Common.{◌≡◌, ℕ, ◌+◌, ◌-◌, ◌≤◌, length, get_or, subst, ◌∙◌, arith}
use borrow.Rule.Slice.PartMut.{put_mid, same_len_mid}
use Rattle.morris_board.specs.Boards.{Shape}
use Rattle.morris_index.specs.ClassPairs.{class_half_size}
use Rattle.morris_index.specs.Pairs.{Counts}
use Rattle.morris_pairs.specs.RowGraphs.{IsRowGraph, IsEntryCode}
use Rattle.morris_pairs.proofs.PartLaws.{part_each, part_len}
use Rattle.morris_pairs.proofs.RowNodeLaws.{split_is}
use Rattle.morris_pairs.proofs.row_graph.RowGraph.fill.Goals as goal

pub loop-done-preserved : goal.loop-done-preserved
loop-done-preserved g c =
    let here = subst (λ d. IsRowGraph g.B.Geometry.shape g.B.Geometry.POINTS d c.self.inside.classes c.self.inside.sets c.self.inside.moves) c.self.view_is c.self.invariant in
    let b : Shape = g.B.Geometry.shape in
    let n : ℕ = g.B.Geometry.POINTS in
    let d : Counts = c.args.self.now in
    let inv = c.loop-done.invariant in
    let done : ℕ = c.loop-done.done in
    let part = c.loop-done.part in
    let more = c.fill_row-done.new.part in
    let first : ℕ = class_half_size b n d.greater d.lesser + c.args.start in
    let split : c.first_half.result ≡ class_half_size b n d.greater d.lesser =
    split_is b g.met.B.Geometry.is_lawful g.met.B.Geometry.has_symmetries n g.met.B.Geometry.few g.met.B.Geometry.point_count d here.lawful here.two
    c.self.inside.classes here.pair c.first_half.result c.first_half.ensures.value in
    let rest : length more ≡ length part - done = part_len part more done inv.within c.fill_row-done.auto.part in
    let many : c.fill_row-done.result ≤ length more = omega (arith, c.fill_row-done.ensures.many, c.fill_row-done.auto.part) in
    let same : length (put_mid done (length part - done) part more) ≡ length part = same_len_mid done (length part - done) part more c.fill_row-done.auto.part in
    let entry : (v : ℕ) → c.row_from-entries.result.first + v ≡ first + (done + v) = λ v. omega (arith, split, c.row_from-entries.ensures.first) in
    record {
      within = omega (arith, same, rest, many, inv.within);
      len = same ∙ inv.len;
      each = part_each 0 (λ k code. IsEntryCode b n d c.args.codes.now (first + k) code) part more done c.fill_row-done.result _ inv.within many inv.each
          (λ v low. subst (λ i. IsEntryCode b n d c.args.codes.now i (get_or more v 0)) (entry v) (c.fill_row-done.ensures.each v low));
    }

pub loop-done-smaller : goal.loop-done-smaller
loop-done-smaller g c =
    let part = c.loop-done.part in
    let more = c.fill_row-done.new.part in
    let done : ℕ = c.loop-done.done in
    let same : length (put_mid done (length part - done) part more) ≡ length part = same_len_mid done (length part - done) part more c.fill_row-done.auto.part in
    let rest : length more ≡ length part - done = part_len part more done c.loop-done.invariant.within c.fill_row-done.auto.part in
    omega (arith, same, rest, c.fill_row-done.ensures.many, c.fill_row-done.auto.part, c.row_from-entries.ensures.some, c.loop-done-test.true)
