use Rattle.std.proofs.Common.{◌≡◌, ℕ, ◌+◌, get_or, ap, ◌∙◌, arith}
use Rattle.morris_board.specs.Boards.{Shape}
use Rattle.morris_board.specs.Sets.{count_of}
use Rattle.morris_board.specs.Positions.{Sides}
use Rattle.morris_index.specs.ClassPairs.{class_half_size}
use Rattle.morris_index.specs.EntryRows.{InRow}
use Rattle.morris_index.specs.ByOpponent.{swap_sides}
use Rattle.morris_index.specs.Pairs.{Counts}
use Rattle.morris_pairs.specs.Orders.{row_index_of}
use Rattle.morris_pairs.proofs.RowBackLaws.{before_more, row_of, row_node_swapped, second_low}
use Rattle.morris_pairs.proofs.row_predecessors.add_second_half_predecessors.Goals as goal

pub first_half_row-entries-requires-clause-inside : goal.first_half_row-entries-requires-clause-inside
first_half_row-entries-requires-clause-inside g c =
    omega (
      arith,
      c.first_half.ensures.value,
      second_low g.B.Geometry.shape g.B.Geometry.POINTS g.met.B.Geometry.few g.met.B.Geometry.point_count g.met.B.Geometry.has_symmetries c.args.classes.now
          c.pair.ensures.lawful c.requires.two (get_or c.args.nodes.now c.args.done 0) c.requires.low,
    )

pub list_unmoves-requires-clause-stones : goal.list_unmoves-requires-clause-stones
list_unmoves-requires-clause-stones g c = rw c.own.ensures.value c.own.ensures.within

pub list_unmoves-requires-clause-count : goal.list_unmoves-requires-clause-count
list_unmoves-requires-clause-count g c = ap count_of c.own.ensures.value ∙ c.first_half_row-entries.ensures.greater

pub add_predecessors_by_unmoves-requires-clause-counts : goal.add_predecessors_by_unmoves-requires-clause-counts
add_predecessors_by_unmoves-requires-clause-counts g c =
    row_of g.B.Geometry.shape g.B.Geometry.POINTS g.met.B.Geometry.few g.met.B.Geometry.point_count g.met.B.Geometry.has_symmetries c.args.classes.now
    c.first_half_row-entries.ensures.lawful c.requires.two c.first_half_row-entries.result c.first_half_row-entries.ensures.pair c.first_half_row-entries.ensures.greater
    c.in-Some.place c.position.result c.position.ensures.counts c.position.ensures.own c.position.ensures.index

pub add_predecessors_by_unmoves-requires-clause-to_first_half : goal.add_predecessors_by_unmoves-requires-clause-to_first_half
add_predecessors_by_unmoves-requires-clause-to_first_half g c = ap count_of c.position.ensures.own ∙ c.first_half_row-entries.ensures.greater

pub add_predecessors_by_unmoves-requires-clause-own : goal.add_predecessors_by_unmoves-requires-clause-own
add_predecessors_by_unmoves-requires-clause-own g c = rw c.position.ensures.own c.own.ensures.least

pub add_predecessors_by_unmoves-requires-clause-unmoves : goal.add_predecessors_by_unmoves-requires-clause-unmoves
add_predecessors_by_unmoves-requires-clause-unmoves g c = rw (c.deref.ensures.value, c.position.ensures.own, ← c.own.ensures.value) c.in_ok-list_unmoves.ensures

pub loop-at-preserved : goal.loop-at-preserved
loop-at-preserved g c =
    let b : Shape = g.B.Geometry.shape in
    let n : ℕ = g.B.Geometry.POINTS in
    let of : Counts = c.args.classes.now in
    let row : InRow = c.first_half_row-entries.result in
    let s : Sides = c.position.result in
    let node : row_index_of b n of (swap_sides s) ≡ class_half_size b n of.greater of.lesser + (row.first + c.in-Some.place) =
    row_node_swapped b n g.met.B.Geometry.few g.met.B.Geometry.point_count g.met.B.Geometry.has_symmetries of
    c.first_half_row-entries.ensures.lawful c.requires.two row c.first_half_row-entries.ensures.pair c.first_half_row-entries.ensures.greater
    c.in-Some.place s c.position.ensures.counts c.position.ensures.own c.position.ensures.index in
    record {
      before = before_more b n of c.args.nodes.now c.loop-at.at (omega arith) (swap_sides s) c.loop-at.out.items c.add_predecessors_by_unmoves.new.out.items c.loop-at.invariant.before
          c.in_ok-add_predecessors_by_unmoves-in-Some.ensures (node ∙ omega (arith, c.requires.half, c.first_half.ensures.value, c.first_half_row-entries.ensures.first, c.in-Some.ensures.1));
    }
