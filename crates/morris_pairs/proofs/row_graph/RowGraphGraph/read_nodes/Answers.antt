use Rattle.std.proofs.Common.{◌≡◌, ◌+◌, ◌-◌, ◌<◌, ◌≤◌, length, sym, ap, subst, ◌∙◌, arith}
use Rattle.std.proofs.lemmas.List.{length-set}
use Rattle.morris_index.specs.ClassPairs.{class_half_size, class_size_of}
use Rattle.morris_index.specs.Pairs.{Counts, IsPair}
use Rattle.morris_wave.specs.Exits.{exits_of}
use Rattle.morris_pairs.specs.Orders.{Classes, Rows}
use Rattle.morris_pairs.specs.PairNets.{level_in, net_at}
use Rattle.morris_pairs.specs.RowGraphs.{IsRowGraph}
use Rattle.morris_pairs.proofs.GraphLaws.{size_at}
use Rattle.morris_pairs.proofs.RowLaws.{each_more, exits_more}
use Rattle.morris_pairs.proofs.RowNodeLaws.{size-two_halves, split_is, size-split}
use Rattle.morris_pairs.proofs.TurnedLaws.{first_same}
use Rattle.morris_pairs.proofs.row_graph.RowGraphGraph.read_nodes.Given as given
use Rattle.morris_pairs.proofs.row_graph.RowGraphGraph.read_nodes.Goals as goal
use Rattle.morris_pairs.proofs.row_graph.RowGraphGraph.read_nodes.Goals.{After-first_half-split}

here : (g : given.Over) (c : After-first_half-split g)
    → IsRowGraph g.B.Geometry.shape g.B.Geometry.POINTS c.args.self.now c.self.inside.classes c.self.inside.sets c.self.inside.moves
here g c = subst (λ d. IsRowGraph g.B.Geometry.shape g.B.Geometry.POINTS d c.self.inside.classes c.self.inside.sets c.self.inside.moves) c.self.view_is c.self.invariant

pair : (g : given.Over) (c : After-first_half-split g) → IsPair g.B.Geometry.shape.points c.args.self.now
pair g c = subst (λ m. IsPair m c.args.self.now) (sym g.met.B.Geometry.point_count) (here g c).lawful

split : (g : given.Over) (c : After-first_half-split g)
    → c.first_half-split.result ≡ class_half_size g.B.Geometry.shape g.B.Geometry.POINTS c.args.self.now.greater c.args.self.now.lesser
split g c =
    split_is g.B.Geometry.shape g.met.B.Geometry.is_lawful g.met.B.Geometry.has_symmetries g.B.Geometry.POINTS g.met.B.Geometry.few g.met.B.Geometry.point_count
    c.args.self.now (here g c).lawful (here g c).two c.self.inside.classes (here g c).pair c.first_half-split.result c.first_half-split.ensures.value

-- where a range of nodes ends

pub overflow_add-end : goal.overflow_add-end
overflow_add-end g c =
    let is = here g (goal.at.overflow_add-end g c).After-first_half-split in
    let size = size-split g.B.Geometry.shape g.met.B.Geometry.is_lawful g.met.B.Geometry.has_symmetries g.B.Geometry.POINTS g.met.B.Geometry.few g.met.B.Geometry.point_count
    c.args.self.now is.lawful is.two c.self.inside.classes is.pair c.first_half-split.result c.first_half-split.ensures.value in
    omega (arith, size, c.requires.inside, c.first_half-split.ensures.few)

-- a range in the first half

pub read_rows-requires-clause-pair : goal.read_rows-requires-clause-pair
read_rows-requires-clause-pair g c = c.self.invariant.pair

pub read_rows-requires-clause-lawful : goal.read_rows-requires-clause-lawful
read_rows-requires-clause-lawful g c = c.self.invariant.lawful

pub read_rows-requires-clause-inside : goal.read_rows-requires-clause-inside
read_rows-requires-clause-inside g c =
    let within : c.first_half-split.result ≤ class_size_of g.B.Geometry.shape g.B.Geometry.POINTS c.self.inside.graph =
    subst (λ d. c.first_half-split.result ≤ class_size_of g.B.Geometry.shape g.B.Geometry.POINTS d) c.self.invariant.pair c.first_half-split.ensures.within in
    omega (arith, c.if-end-split.true, within)

pub returns-then-end-split-clause-counts : goal.returns-then-end-split-clause-counts
returns-then-end-split-clause-counts g c = λ k low.
    let at = (goal.at.returns-then-end-split-clause-counts g c).After-first_half-split in
    c.read_rows.ensures.counts k low
    ∙ ap (λ (e : Counts). length ((net_at g.B.Geometry.shape (level_in Classes e)).quiet (c.args.first + k))) c.self.view_is
    ∙ (first_same g.B.Geometry.shape g.met.B.Geometry.is_lawful g.met.B.Geometry.has_symmetries c.args.self.now (pair g at) (here g at).two
    g.B.Geometry.POINTS g.met.B.Geometry.point_count (c.args.first + k) (omega (arith, c.if-end-split.true, split g at, low))).0

pub returns-then-end-split-clause-exits : goal.returns-then-end-split-clause-exits
returns-then-end-split-clause-exits g c = λ k low.
    let at = (goal.at.returns-then-end-split-clause-exits g c).After-first_half-split in
    c.read_rows.ensures.exits k low
    ∙ ap (λ (e : Counts). exits_of ((net_at g.B.Geometry.shape (level_in Classes e)).exits (c.args.first + k))) c.self.view_is
    ∙ (first_same g.B.Geometry.shape g.met.B.Geometry.is_lawful g.met.B.Geometry.has_symmetries c.args.self.now (pair g at) (here g at).two
    g.B.Geometry.POINTS g.met.B.Geometry.point_count (c.args.first + k) (omega (arith, c.if-end-split.true, split g at, low, c.requires.room))).1

-- a range in the second half

pub read_swapped-requires-clause-inside : goal.read_swapped-requires-clause-inside
read_swapped-requires-clause-inside g c =
    let at = (goal.at.read_swapped-requires-clause-inside g c).After-first_half-split in
    omega (
      arith,
      c.if-split-first.true,
      split g at,
      c.requires.inside,
      size_at g.B.Geometry.shape g.met.B.Geometry.is_lawful g.met.B.Geometry.has_symmetries g.B.Geometry.POINTS g.met.B.Geometry.point_count Rows c.args.self.now (pair g at),
      size-two_halves g.B.Geometry.shape g.B.Geometry.POINTS g.met.B.Geometry.few g.met.B.Geometry.point_count g.met.B.Geometry.has_symmetries c.args.self.now
          (here g at).lawful (here g at).two,
    )

pub returns-then-split-first-clause-counts : goal.returns-then-split-first-clause-counts
returns-then-split-first-clause-counts g c = λ k low.
    let place : class_half_size g.B.Geometry.shape g.B.Geometry.POINTS c.args.self.now.greater c.args.self.now.lesser + (c.args.first - c.first_half-split.result + k) ≡ c.args.first + k =
    omega (arith, split g (goal.at.returns-then-split-first-clause-counts g c).After-first_half-split, c.if-split-first.true) in
    c.read_swapped.ensures.counts k low ∙ ap (λ i. length ((net_at g.B.Geometry.shape (level_in Rows c.args.self.now)).quiet i)) place

pub returns-then-split-first-clause-exits : goal.returns-then-split-first-clause-exits
returns-then-split-first-clause-exits g c = λ k low.
    let place : class_half_size g.B.Geometry.shape g.B.Geometry.POINTS c.args.self.now.greater c.args.self.now.lesser + (c.args.first - c.first_half-split.result + k) ≡ c.args.first + k =
    omega (arith, split g (goal.at.returns-then-split-first-clause-exits g c).After-first_half-split, c.if-split-first.true) in
    c.read_swapped.ensures.exits k low ∙ ap (λ i. exits_of ((net_at g.B.Geometry.shape (level_in Rows c.args.self.now)).exits i)) place

-- a range in both

pub loop-place-preserved : goal.loop-place-preserved
loop-place-preserved g c =
    let inv = c.loop-place.invariant in
    let net = net_at g.B.Geometry.shape (level_in Rows c.args.self.now) in
    let inside : c.loop-place.place < length c.loop-place.counts = omega (arith, c.loop-place-test.true, inv.counts_len) in
    let room : c.loop-place.place < length c.loop-place.exits = omega (arith, inside, c.requires.room, inv.counts_len, inv.exits_len) in
    record {
      counts_len = length-set c.loop-place.counts c.loop-place.place c.quiet_count.result ∙ inv.counts_len;
      exits_len = length-set c.loop-place.exits c.loop-place.place c.exits.result ∙ inv.exits_len;
      quiet = each_more (λ k. length (net.quiet (c.args.first + k))) c.loop-place.counts c.loop-place.place c.quiet_count.result inside c.quiet_count.ensures inv.quiet;
      outside = exits_more (λ k. exits_of (net.exits (c.args.first + k))) c.loop-place.exits c.loop-place.place c.exits.result room c.exits.ensures inv.outside;
    }
