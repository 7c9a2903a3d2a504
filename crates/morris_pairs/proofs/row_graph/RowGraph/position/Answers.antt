use Rattle.std.proofs.Common.{◌≡◌, ℕ, ◌-◌, ◌<◌, ◌+◌, true, sym, ap, subst, ◌∙◌, arith}
use Rattle.morris_board.specs.Boards.{Shape}
use Rattle.morris_board.specs.Positions.{Sides}
use Rattle.morris_index.specs.ByOpponent.{swap_sides}
use Rattle.morris_index.specs.Pairs.{is_of}
use Rattle.morris_index.proofs.FacingLaws.{turned_of}
use Rattle.morris_pairs.specs.Orders.{Rows, row_index_of, own_in}
use Rattle.morris_pairs.specs.RowGraphs.{IsRowGraph}
use Rattle.morris_pairs.proofs.RowNodeLaws.{node_low, first_half_here, node_first, node_second, own-to_first_half, own-swap_sides}
use Rattle.morris_pairs.proofs.row_graph.RowGraph.position.Goals as goal

pub position-requires-else-node-split : goal.position-requires-else-node-split
position-requires-else-node-split g c =
    let here = subst (λ d. IsRowGraph g.B.Geometry.shape g.B.Geometry.POINTS d c.self.inside.classes c.self.inside.sets c.self.inside.moves) c.self.view_is c.self.invariant in
    omega (
      arith,
      c.first_half-split.ensures.within,
      node_low g.B.Geometry.shape g.met.B.Geometry.is_lawful g.met.B.Geometry.has_symmetries g.B.Geometry.POINTS g.met.B.Geometry.few g.met.B.Geometry.point_count
          c.args.self.now here.lawful here.two c.self.inside.classes here.pair c.first_half-split.result c.first_half-split.ensures.value c.args.node c.requires,
    )

-- the first half

pub returns-then-node-split-clause-node : goal.returns-then-node-split-clause-node
returns-then-node-split-clause-node g c =
    let here = subst (λ d. IsRowGraph g.B.Geometry.shape g.B.Geometry.POINTS d c.self.inside.classes c.self.inside.sets c.self.inside.moves) c.self.view_is c.self.invariant in
    node_first g.B.Geometry.shape g.met.B.Geometry.is_lawful g.met.B.Geometry.has_symmetries g.B.Geometry.POINTS g.met.B.Geometry.few g.met.B.Geometry.point_count
    c.args.self.now here.lawful here.two c.self.inside.classes here.pair c.first_half-split.result c.first_half-split.ensures.value
    c.args.node c.if-node-split.true c.position.result c.position.ensures.counts c.position.ensures.index

pub returns-then-node-split-clause-counts : goal.returns-then-node-split-clause-counts
returns-then-node-split-clause-counts g c =
    subst (λ d. is_of d c.position.result ≡ true) (c.self.invariant.pair ∙ c.self.view_is) c.position.ensures.counts

pub returns-then-node-split-clause-own : goal.returns-then-node-split-clause-own
returns-then-node-split-clause-own g c =
    let here = subst (λ d. IsRowGraph g.B.Geometry.shape g.B.Geometry.POINTS d c.self.inside.classes c.self.inside.sets c.self.inside.moves) c.self.view_is c.self.invariant in
    let s : Sides = c.position.result in
    let of : is_of c.args.self.now s ≡ true = subst (λ d. is_of d s ≡ true) here.pair c.position.ensures.counts in
    own-to_first_half g.B.Geometry.shape g.B.Geometry.POINTS g.met.B.Geometry.few g.met.B.Geometry.point_count g.met.B.Geometry.has_symmetries c.args.self.now here.lawful here.two s of
    (first_half_here g.B.Geometry.shape g.met.B.Geometry.is_lawful g.met.B.Geometry.has_symmetries g.B.Geometry.POINTS g.met.B.Geometry.few g.met.B.Geometry.point_count
    c.args.self.now here.lawful here.two c.self.inside.classes here.pair c.first_half-split.result c.first_half-split.ensures.value
    c.args.node c.if-node-split.true s c.position.ensures.counts c.position.ensures.index)
    c.position.ensures.own

pub returns-then-node-split-clause-pair : goal.returns-then-node-split-clause-pair
returns-then-node-split-clause-pair g c =
    (subst (λ d. IsRowGraph g.B.Geometry.shape g.B.Geometry.POINTS d c.self.inside.classes c.self.inside.sets c.self.inside.moves) c.self.view_is c.self.invariant).lawful

-- the second

pub swap_sides-requires : goal.swap_sides-requires
swap_sides-requires g c =
    subst (λ d. is_of d c.position-else-node-split.result ≡ true) (c.self.invariant.pair ∙ c.self.view_is) c.position-else-node-split.ensures.counts

pub returns-else-node-split-clause-node : goal.returns-else-node-split-clause-node
returns-else-node-split-clause-node g c =
    let here = subst (λ d. IsRowGraph g.B.Geometry.shape g.B.Geometry.POINTS d c.self.inside.classes c.self.inside.sets c.self.inside.moves) c.self.view_is c.self.invariant in
    let b : Shape = g.B.Geometry.shape in
    let n : ℕ = g.B.Geometry.POINTS in
    let split : ℕ = c.first_half-split.result in
    let s : Sides = c.position-else-node-split.result in
    let low : c.args.node < split + split =
    node_low b g.met.B.Geometry.is_lawful g.met.B.Geometry.has_symmetries n g.met.B.Geometry.few g.met.B.Geometry.point_count
    c.args.self.now here.lawful here.two c.self.inside.classes here.pair split c.first_half-split.ensures.value c.args.node c.requires in
    let at : row_index_of b n c.args.self.now (swap_sides s) ≡ split + (c.args.node - split) =
    node_second b g.met.B.Geometry.is_lawful g.met.B.Geometry.has_symmetries n g.met.B.Geometry.few g.met.B.Geometry.point_count
    c.args.self.now here.lawful here.two c.self.inside.classes here.pair split c.first_half-split.ensures.value
    (c.args.node - split) (omega (arith, low)) s c.position-else-node-split.ensures.counts c.position-else-node-split.ensures.index in
    ap (row_index_of b n c.args.self.now) c.swap_sides.ensures.value ∙ at ∙ omega (arith, c.if-node-split.false)

pub returns-else-node-split-clause-counts : goal.returns-else-node-split-clause-counts
returns-else-node-split-clause-counts g c =
    let of : is_of c.args.self.now c.position-else-node-split.result ≡ true =
    subst (λ d. is_of d c.position-else-node-split.result ≡ true) (c.self.invariant.pair ∙ c.self.view_is) c.position-else-node-split.ensures.counts in
    subst (λ t. is_of c.args.self.now t ≡ true) (sym c.swap_sides.ensures.value) (turned_of c.args.self.now c.position-else-node-split.result of)

pub returns-else-node-split-clause-own : goal.returns-else-node-split-clause-own
returns-else-node-split-clause-own g c =
    let here = subst (λ d. IsRowGraph g.B.Geometry.shape g.B.Geometry.POINTS d c.self.inside.classes c.self.inside.sets c.self.inside.moves) c.self.view_is c.self.invariant in
    let b : Shape = g.B.Geometry.shape in
    let n : ℕ = g.B.Geometry.POINTS in
    let split : ℕ = c.first_half-split.result in
    let s : Sides = c.position-else-node-split.result in
    let low : c.args.node < split + split =
    node_low b g.met.B.Geometry.is_lawful g.met.B.Geometry.has_symmetries n g.met.B.Geometry.few g.met.B.Geometry.point_count
    c.args.self.now here.lawful here.two c.self.inside.classes here.pair split c.first_half-split.ensures.value c.args.node c.requires in
    let of : is_of c.args.self.now s ≡ true = subst (λ d. is_of d s ≡ true) here.pair c.position-else-node-split.ensures.counts in
    subst (λ t. own_in b Rows t ≡ true) (sym c.swap_sides.ensures.value)
    (own-swap_sides b n g.met.B.Geometry.few g.met.B.Geometry.point_count g.met.B.Geometry.has_symmetries c.args.self.now here.lawful here.two s of
    (first_half_here b g.met.B.Geometry.is_lawful g.met.B.Geometry.has_symmetries n g.met.B.Geometry.few g.met.B.Geometry.point_count
    c.args.self.now here.lawful here.two c.self.inside.classes here.pair split c.first_half-split.ensures.value
    (c.args.node - split) (omega (arith, low)) s c.position-else-node-split.ensures.counts c.position-else-node-split.ensures.index)
    c.position-else-node-split.ensures.own)

pub returns-else-node-split-clause-pair : goal.returns-else-node-split-clause-pair
returns-else-node-split-clause-pair g c =
    (subst (λ d. IsRowGraph g.B.Geometry.shape g.B.Geometry.POINTS d c.self.inside.classes c.self.inside.sets c.self.inside.moves) c.self.view_is c.self.invariant).lawful
