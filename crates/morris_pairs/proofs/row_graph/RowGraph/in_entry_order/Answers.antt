use Rattle.std.proofs.Common.{◌≡◌, ℕ, ◌<◌, ◌≤◌, ◌++◌, length, take, get_or, sym, subst, ◌∙◌, arith}
use Rattle.morris_board.specs.Boards.{Shape}
use Rattle.morris_index.specs.ClassPairs.{class_half_size}
use Rattle.morris_index.specs.Pairs.{Counts, IsPair}
use Rattle.morris_wave.specs.Values.{HasCode}
use Rattle.morris_pairs.specs.Graphs.{HasValuesIn}
use Rattle.morris_pairs.specs.Orders.{Classes, Rows}
use Rattle.morris_pairs.specs.PairNets.{level_in, net_at}
use Rattle.morris_pairs.specs.RowGraphs.{IsRowGraph}
use Rattle.morris_pairs.proofs.GraphLaws.{size_at}
use Rattle.morris_pairs.proofs.ReorderLaws.{entry_codes}
use Rattle.morris_pairs.proofs.RowNodeLaws.{size-two_halves, split_is}
use Rattle.morris_pairs.proofs.row_graph.RowGraph.in_entry_order.Goals as goal

pub returns-clause-len : goal.returns-clause-len
returns-clause-len g c =
    let here = subst (λ d. IsRowGraph g.B.Geometry.shape g.B.Geometry.POINTS d c.self.inside.classes c.self.inside.sets c.self.inside.moves) c.self.view_is c.self.invariant in
    let b : Shape = g.B.Geometry.shape in
    let n : ℕ = g.B.Geometry.POINTS in
    let lawful = g.met.B.Geometry.is_lawful in
    let few = g.met.B.Geometry.few in
    let points = g.met.B.Geometry.point_count in
    let y = g.met.B.Geometry.has_symmetries in
    let d : Counts = c.args.self.now in
    let pair : IsPair b.points d = subst (λ m. IsPair m d) (sym points) here.lawful in
    let split : c.first_half.result ≡ class_half_size b n d.greater d.lesser =
    split_is b lawful y n few points d here.lawful here.two c.self.inside.classes here.pair c.first_half.result c.first_half.ensures.value in
    omega (
      arith,
      split,
      c.requires.len,
      c.requires.rest,
      size-two_halves b n few points y d here.lawful here.two,
      size_at b lawful y n points Rows d pair,
      size_at b lawful y n points Classes d pair,
      c.truncate.ensures.len,
      c.in_ok-reserve_exact.ensures.len,
      c.in_ok-extend_from_slice.ensures.len,
    )

pub returns-clause-codes : goal.returns-clause-codes
returns-clause-codes g c =
    let here = subst (λ d. IsRowGraph g.B.Geometry.shape g.B.Geometry.POINTS d c.self.inside.classes c.self.inside.sets c.self.inside.moves) c.self.view_is c.self.invariant in
    let b : Shape = g.B.Geometry.shape in
    let n : ℕ = g.B.Geometry.POINTS in
    let lawful = g.met.B.Geometry.is_lawful in
    let few = g.met.B.Geometry.few in
    let points = g.met.B.Geometry.point_count in
    let y = g.met.B.Geometry.has_symmetries in
    let d : Counts = c.args.self.now in
    let pair : IsPair b.points d = subst (λ m. IsPair m d) (sym points) here.lawful in
    let nodes = c.args.codes.items in
    let split : c.first_half.result ≡ class_half_size b n d.greater d.lesser =
    split_is b lawful y n few points d here.lawful here.two c.self.inside.classes here.pair c.first_half.result c.first_half.ensures.value in
    let fits : c.first_half.result ≤ length nodes =
    omega (arith, split, sym c.args.codes.ok.0 ∙ c.requires.len, size_at b lawful y n points Rows d pair, size-two_halves b n few points y d here.lawful here.two) in
    let cache : c.reserve_exact.new.self.items ≡ take c.first_half.result nodes =
    subst (λ xs. c.reserve_exact.new.self.items ≡ xs) c.truncate.ensures.items c.in_ok-reserve_exact.ensures.items in
    let made : c.extend_from_slice.new.self.items ≡ take c.first_half.result nodes ++ c.args.second_half.now =
    subst (λ xs. c.extend_from_slice.new.self.items ≡ xs ++ c.args.second_half.now) cache c.in_ok-extend_from_slice.ensures.items in
    subst (λ xs. (i : ℕ) → i < (net_at b (level_in Classes d)).size → HasCode (net_at b (level_in Classes d)) i (get_or xs i 0)) (sym made)
    (entry_codes b lawful y n few points d here.lawful here.two nodes c.args.second_half.now c.first_half.result split fits (length c.args.second_half.now)
    (omega (arith, split, c.requires.rest)) c.requires.second_half (subst (HasValuesIn b Rows) c.self.view_is (c.values.ensures.values Rows))
    (subst (HasValuesIn b Classes) c.self.view_is (c.values.ensures.values Classes)) c.requires.codes)
