use Rattle.std.proofs.Common.{◌≡◌, ℕ, ◌+◌, sym, ap, ◌∙◌, arith}
use Rattle.morris_board.specs.Boards.{Shape}
use Rattle.morris_board.specs.Sets.{count_of}
use Rattle.morris_board.specs.Positions.{Sides}
use Rattle.morris_index.specs.EntryRows.{InRow}
use Rattle.morris_index.specs.Pairs.{Counts}
use Rattle.morris_pairs.specs.Orders.{row_index_of}
use Rattle.morris_pairs.proofs.RowBackLaws.{before_more, row_of, row_node}
use Rattle.morris_pairs.proofs.RowStepLaws.{are_here}
use Rattle.morris_pairs.proofs.row_predecessors.add_first_half_predecessors.Goals as goal

pub standing-standing-requires-clause-within : goal.standing-standing-requires-clause-within
standing-standing-requires-clause-within g c = rw c.own.ensures.value c.own.ensures.within

pub standing-standing-requires-clause-counts : goal.standing-standing-requires-clause-counts
standing-standing-requires-clause-counts g c =
    rw (c.own.ensures.value, c.lesser.ensures.value, c.pair.ensures.value)
    (are_here c.args.classes.now (count_of c.first_half_row-entries.result.own) c.first_half_row-entries.ensures.greater)

pub add_in_row-requires-clause-counts : goal.add_in_row-requires-clause-counts
add_in_row-requires-clause-counts g c =
    row_of g.B.Geometry.shape g.B.Geometry.POINTS g.met.B.Geometry.few g.met.B.Geometry.point_count g.met.B.Geometry.has_symmetries c.args.classes.now
    c.first_half_row-entries.ensures.lawful c.requires.two c.first_half_row-entries.result c.first_half_row-entries.ensures.pair c.first_half_row-entries.ensures.greater
    c.in-Some.place c.position.result c.position.ensures.counts c.position.ensures.own c.position.ensures.index

pub add_in_row-requires-clause-to_first_half : goal.add_in_row-requires-clause-to_first_half
add_in_row-requires-clause-to_first_half g c = ap count_of c.position.ensures.own ∙ c.first_half_row-entries.ensures.greater

pub add_in_row-requires-clause-own : goal.add_in_row-requires-clause-own
add_in_row-requires-clause-own g c = rw c.position.ensures.own c.own.ensures.least

pub add_in_row-requires-clause-of : goal.add_in_row-requires-clause-of
add_in_row-requires-clause-of g c = c.standing-standing.ensures.own ∙ c.own.ensures.value ∙ sym c.position.ensures.own

pub loop-at-preserved : goal.loop-at-preserved
loop-at-preserved g c =
    let b : Shape = g.B.Geometry.shape in
    let n : ℕ = g.B.Geometry.POINTS in
    let of : Counts = c.args.classes.now in
    let row : InRow = c.first_half_row-entries.result in
    let s : Sides = c.position.result in
    let node : row_index_of b n of s ≡ row.first + c.in-Some.place =
    row_node b n g.met.B.Geometry.few g.met.B.Geometry.point_count g.met.B.Geometry.has_symmetries of
    c.first_half_row-entries.ensures.lawful c.requires.two row c.first_half_row-entries.ensures.pair c.first_half_row-entries.ensures.greater
    c.in-Some.place s c.position.ensures.counts c.position.ensures.own c.position.ensures.index in
    record {
      before = before_more b n of c.args.nodes.now c.loop-at.at (omega arith) s c.loop-at.out.items c.add_in_row.new.out.items c.loop-at.invariant.before
          c.in_ok-add_in_row-in-Some.ensures (node ∙ omega (arith, c.first_half_row-entries.ensures.first, c.in-Some.ensures.1));
    }
