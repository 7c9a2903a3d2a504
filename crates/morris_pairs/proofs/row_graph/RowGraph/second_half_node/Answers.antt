use Rattle.std.proofs.Common.{◌≡◌, ◌<◌, ◌^◌, true, sym, ap, ap₂, subst, ◌∙◌, arith}
use Rattle.morris_board.specs.Sets.{count_of}
use Rattle.morris_board.specs.Positions.{sides, IsPosition}
use Rattle.morris_index.specs.ClassPairs.{class_half_size, class_index_of}
use Rattle.morris_index.specs.ByOpponent.{swap_sides}
use Rattle.morris_index.specs.Pairs.{IsPair, is_of}
use Rattle.morris_index.specs.Standings.{are_of, IsCanonicalStanding}
use Rattle.morris_index.proofs.FacingLaws.{turned_of, turned_position}
use Rattle.morris_pairs.specs.Orders.{Rows}
use Rattle.morris_pairs.specs.RowGraphs.{IsRowGraph}
use Rattle.morris_pairs.proofs.GraphLaws.{size_at}
use Rattle.morris_pairs.proofs.RowNodeLaws.{split_is, second_half_swapped, first_index-lt, index-second_half, row-below}
use Rattle.morris_pairs.proofs.row_graph.RowGraph.second_half_node.Given as given
use Rattle.morris_pairs.proofs.row_graph.RowGraph.second_half_node.Goals as goal
use Rattle.morris_pairs.proofs.row_graph.RowGraph.second_half_node.Goals.{After-standing-standing, After-entry_at}

here : (g : given.Over) (c : After-standing-standing g) → IsRowGraph g.B.Geometry.shape g.B.Geometry.POINTS c.args.self.now c.self.inside.classes c.self.inside.sets c.self.inside.moves
here g c = subst (λ d. IsRowGraph g.B.Geometry.shape g.B.Geometry.POINTS d c.self.inside.classes c.self.inside.sets c.self.inside.moves) c.self.view_is c.self.invariant

-- where the other half begins, and the position there
split : (g : given.Over) (c : After-entry_at g) → IsRowGraph g.B.Geometry.shape g.B.Geometry.POINTS c.args.self.now c.self.inside.classes c.self.inside.sets c.self.inside.moves
    → c.first_half.result ≡ class_half_size g.B.Geometry.shape g.B.Geometry.POINTS c.args.self.now.greater c.args.self.now.lesser
split g c is =
    split_is g.B.Geometry.shape g.met.B.Geometry.is_lawful g.met.B.Geometry.has_symmetries g.B.Geometry.POINTS g.met.B.Geometry.few g.met.B.Geometry.point_count
    c.args.self.now is.lawful is.two c.self.inside.classes is.pair c.first_half.result c.first_half.ensures.value

index : (g : given.Over) (c : After-entry_at g) → IsRowGraph g.B.Geometry.shape g.B.Geometry.POINTS c.args.self.now c.self.inside.classes c.self.inside.sets c.self.inside.moves
    → c.entry_at.result ≡ class_index_of g.B.Geometry.shape g.B.Geometry.POINTS c.args.self.now (swap_sides c.args.position.now)
index g c is =
    c.entry_at.ensures.value
    ∙ ap₂ (λ k t. class_index_of g.B.Geometry.shape g.B.Geometry.POINTS k t) is.pair
    (ap₂ sides (c.standing-standing.ensures.own ∙ c.other.ensures.points) c.own-own.ensures.points)

pub standing-standing-requires-clause-within : goal.standing-standing-requires-clause-within
standing-standing-requires-clause-within g c =
    rw c.other.ensures.points (subst (λ n. c.args.position.now.other < 2 ^ n) g.met.B.Geometry.point_count c.own-own.ensures.lawful.stones.other_within)

pub standing-standing-requires-clause-counts : goal.standing-standing-requires-clause-counts
standing-standing-requires-clause-counts g c =
    let is = subst (λ d. IsRowGraph g.B.Geometry.shape g.B.Geometry.POINTS d c.self.inside.classes c.self.inside.sets c.self.inside.moves) c.self.view_is c.self.invariant in
    ap₂ (λ x k. are_of c.self.inside.classes (count_of x) k) c.other.ensures.points (c.count.ensures.value ∙ ap count_of c.own-own.ensures.points)
    ∙ turned_of c.self.inside.classes c.args.position.now (subst (λ d. is_of d c.args.position.now ≡ true) (sym is.pair) c.requires.counts)

pub entry_at-requires-clause-stands : goal.entry_at-requires-clause-stands
entry_at-requires-clause-stands g c =
    subst (λ k. IsCanonicalStanding g.B.Geometry.shape g.B.Geometry.POINTS c.self.inside.classes k c.standing-standing.result) c.count.ensures.value c.standing-standing.ensures.stands

pub entry_at-requires-clause-lawful : goal.entry_at-requires-clause-lawful
entry_at-requires-clause-lawful g c =
    let is = here g (goal.at.entry_at-requires-clause-lawful g c).After-standing-standing in
    subst (IsPosition g.B.Geometry.shape) (sym (ap₂ sides (c.standing-standing.ensures.own ∙ c.other.ensures.points) c.own-own.ensures.points))
    (turned_position g.B.Geometry.shape g.B.Geometry.POINTS g.met.B.Geometry.few g.met.B.Geometry.point_count g.met.B.Geometry.has_symmetries c.args.self.now is.lawful
    c.args.position.now c.own-own.ensures.lawful c.requires.counts)

pub overflow_add-result : goal.overflow_add-result
overflow_add-result g c =
    let at = goal.at.overflow_add-result g c in
    let is = here g at.After-standing-standing in
    let b = g.B.Geometry.shape in
    let n = g.B.Geometry.POINTS in
    let few = g.met.B.Geometry.few in
    let points = g.met.B.Geometry.point_count in
    let y = g.met.B.Geometry.has_symmetries in
    let p = c.args.position.now in
    let low : class_index_of b n c.args.self.now (swap_sides p) < class_half_size b n c.args.self.now.greater c.args.self.now.lesser =
    first_index-lt b n few points y c.args.self.now is.lawful is.two (swap_sides p) (turned_of c.args.self.now p c.requires.counts)
    (second_half_swapped b n few points y c.args.self.now is.lawful is.two p c.requires.counts c.requires.second_half)
    (turned_position b n few points y c.args.self.now is.lawful p c.own-own.ensures.lawful c.requires.counts) in
    omega (arith, low, index g at.After-entry_at is, split g at.After-entry_at is, c.first_half.ensures.few)

pub returns-clause-value : goal.returns-clause-value
returns-clause-value g c =
    let at = goal.at.returns-clause-value g c in
    let is = here g at.After-standing-standing in
    omega (
      arith,
      index g at.After-entry_at is,
      split g at.After-entry_at is,
      index-second_half g.B.Geometry.shape g.B.Geometry.POINTS g.met.B.Geometry.few g.met.B.Geometry.point_count g.met.B.Geometry.has_symmetries
          c.args.self.now is.lawful is.two c.args.position.now c.requires.counts c.requires.second_half,
    )

pub returns-clause-below : goal.returns-clause-below
returns-clause-below g c =
    let is = here g (goal.at.returns-clause-below g c).After-standing-standing in
    rw (
      size_at g.B.Geometry.shape g.met.B.Geometry.is_lawful g.met.B.Geometry.has_symmetries g.B.Geometry.POINTS g.met.B.Geometry.point_count Rows c.args.self.now
          (subst (λ m. IsPair m c.args.self.now) (sym g.met.B.Geometry.point_count) is.lawful),
      returns-clause-value g c,
    )
    (row-below g.B.Geometry.shape g.B.Geometry.POINTS g.met.B.Geometry.few g.met.B.Geometry.point_count g.met.B.Geometry.has_symmetries
    c.args.self.now is.lawful is.two c.args.position.now c.requires.counts c.own-own.ensures.lawful)
