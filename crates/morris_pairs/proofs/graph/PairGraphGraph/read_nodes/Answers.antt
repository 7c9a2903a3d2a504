use Rattle.std.proofs.Common.{◌≡◌, ◌+◌, ◌<◌, ◌≤◌, ◌^◌, true, length, refl, sym, ap, subst, ◌∙◌, arith}
use Rattle.std.proofs.lemmas.Bool.{eqb-false}
use Rattle.std.proofs.lemmas.List.{length-set}
use Rattle.morris_index.specs.Pairs.{IsPair, is_of, index_of, size_of}
use Rattle.morris_wave.specs.Exits.{exits_of}
use Rattle.morris_pairs.specs.declared.layout.Layout.TheVariants.{Full}
use Rattle.morris_pairs.specs.Orders.{order_of}
use Rattle.morris_pairs.specs.PairNets.{level_of, net_at}
use Rattle.morris_pairs.proofs.RowLaws.{each_more, exits_more}
use Rattle.morris_pairs.proofs.GraphLaws.{exits_same, quiet_count_at, size_at}
use Rattle.morris_pairs.proofs.graph.PairGraphGraph.read_nodes.Given as given
use Rattle.morris_pairs.proofs.graph.PairGraphGraph.read_nodes.Goals as goal
use Rattle.morris_pairs.proofs.graph.PairGraphGraph.read_nodes.Goals.{After-size, then-place-counts, else-place-counts}

-- the nodes that are read are among those of the pair
inside : (g : given.Over) (c : After-size g) → c.args.first + length c.args.counts.now ≤ size_of g.B.Geometry.POINTS c.self.inside.pair
inside g c =
    subst (λ k. c.args.first + length c.args.counts.now ≤ k)
    (size_at g.B.Geometry.shape g.met.B.Geometry.is_lawful g.met.B.Geometry.has_symmetries g.B.Geometry.POINTS g.met.B.Geometry.point_count (order_of Full) c.self.inside.pair c.self.invariant.lawful)
    (rw (← c.self.view_is) at c.requires.inside)

pub position-position-requires : goal.position-position-requires
position-position-requires g c =
    omega (
      arith,
      inside g (goal.at.position-position-requires g c).After-size,
      eqb-false (length c.args.counts.now) 0 (sym c.is_empty.ensures ∙ c.if-is_empty.false),
    )

-- .. which are few
few : (g : given.Over) (c : After-size g) → size_of g.B.Geometry.POINTS c.self.inside.pair ≤ 2 ^ 40
few g c = subst (λ k. k ≤ 2 ^ 40) c.size.ensures.value c.size.ensures.few

pub overflow_add-first : goal.overflow_add-first
overflow_add-first g c =
    let at = (goal.at.overflow_add-first g c).After-size in
    omega (arith, inside g at, few g at, c.loop-place-test.true, c.loop-place.invariant.counts_len)

pub overflow_add-first-then-place-counts : goal.overflow_add-first-then-place-counts
overflow_add-first-then-place-counts g c =
    let at = (goal.at.overflow_add-first-then-place-counts g c).After-size in
    omega (arith, inside g at, few g at, c.loop-place-test.true, c.loop-place.invariant.counts_len)

pub next_position-position-requires-clause-counts : goal.next_position-position-requires-clause-counts
next_position-position-requires-clause-counts g c = subst (λ d. is_of d c.loop-place.position ≡ true) (sym c.self.view_is) c.loop-place.invariant.counts

pub next_position-position-requires-clause-before : goal.next_position-position-requires-clause-before
next_position-position-requires-clause-before g c =
    ap (λ k. k + 1) (subst (λ d. index_of g.B.Geometry.POINTS d c.loop-place.position ≡ c.args.first + c.loop-place.place) (sym c.self.view_is) (c.loop-place.invariant.at (omega arith)))

pub next_position-position-requires-clause-inside : goal.next_position-position-requires-clause-inside
next_position-position-requires-clause-inside g c =
    let low : c.args.first + c.loop-place.place + 1 < size_of g.B.Geometry.POINTS c.self.inside.pair =
    omega (
      arith,
      inside g (goal.at.next_position-position-requires-clause-inside g c).After-size,
      c.if-place-counts.true,
      c.loop-place.invariant.counts_len,
      length-set c.loop-place.counts c.loop-place.place c.quiet_moves.result,
    ) in
    low

pub loop-place-init : goal.loop-place-init
loop-place-init g c = record {
  counts_len = refl;
  exits_len = refl;
  quiet = λ k low. absurd (omega (arith, low));
  outside = λ k low. absurd (omega (arith, low));
  at = λ _. ap (λ d. index_of g.B.Geometry.POINTS d c.position-position.result) (sym c.self.view_is) ∙ c.position-position.ensures.index ∙ omega arith;
  counts = subst (λ d. is_of d c.position-position.result ≡ true) c.self.view_is c.position-position.ensures.counts;
  lawful = c.position-position.ensures.lawful;
  row = c.of-row.ensures.row;
  own = c.of-row.ensures.own ∙ c.own.ensures.points;
}

pub loop-place-preserved : goal.loop-place-preserved
loop-place-preserved g c =
    let inv = c.loop-place.invariant in
    let pair = c.args.self.now in
    let net = net_at g.B.Geometry.shape (level_of Full pair) in
    let lawful_here : IsPair g.B.Geometry.shape.points pair = subst (IsPair g.B.Geometry.shape.points) c.self.view_is c.self.invariant.lawful in
    let quiet_here : c.quiet_moves.result ≡ length (net.quiet (c.args.first + c.loop-place.place)) =
    c.quiet_moves.ensures
    ∙ quiet_count_at g.B.Geometry.shape g.met.B.Geometry.is_lawful g.met.B.Geometry.has_symmetries g.B.Geometry.POINTS g.met.B.Geometry.point_count (order_of Full) pair lawful_here
    c.loop-place.position inv.lawful inv.counts refl (c.args.first + c.loop-place.place) (inv.at (omega arith)) in
    let exits_here : c.exits_by_row.result ≡ exits_of (net.exits (c.args.first + c.loop-place.place)) =
    c.exits_by_row.ensures
    ∙ exits_same g.B.Geometry.shape g.met.B.Geometry.is_lawful g.met.B.Geometry.has_symmetries g.B.Geometry.POINTS g.met.B.Geometry.point_count (order_of Full) pair lawful_here
    c.loop-place.position inv.lawful inv.counts refl (c.args.first + c.loop-place.place) (inv.at (omega arith)) in
    let counts_len = length-set c.loop-place.counts c.loop-place.place c.quiet_moves.result ∙ inv.counts_len in
    let exits_len = length-set c.loop-place.exits c.loop-place.place c.exits_by_row.result ∙ inv.exits_len in
    let quiet = each_more (λ k. length (net.quiet (c.args.first + k))) c.loop-place.counts c.loop-place.place c.quiet_moves.result (omega arith) quiet_here inv.quiet in
    let outside = exits_more (λ k. exits_of (net.exits (c.args.first + k))) c.loop-place.exits c.loop-place.place c.exits_by_row.result (omega (arith, c.requires.room, inv.counts_len, inv.exits_len)) exits_here inv.outside in
    elim c.if-place-counts.branch [
      | then-place-counts w ↦ rw (w.position-is, w.row-is) (record {
        counts_len = counts_len;
        exits_len = exits_len;
        quiet = quiet;
        outside = outside;
        at = λ _. ap (λ d. index_of g.B.Geometry.POINTS d w.next_position-position.result) (sym c.self.view_is) ∙ w.next_position-position.ensures.index ∙ omega arith;
        counts = subst (λ d. is_of d w.next_position-position.result ≡ true) c.self.view_is w.next_position-position.ensures.counts;
        lawful = w.next_position-position.ensures.lawful;
        row = w.follow.ensures.row;
        own = w.follow.ensures.own;
      })
      | else-place-counts w ↦ rw (w.position-is, w.row-is) (record {
        counts_len = counts_len;
        exits_len = exits_len;
        quiet = quiet;
        outside = outside;
        at = λ h. absurd (omega (arith, h, w.if-place-counts.false, length-set c.loop-place.counts c.loop-place.place c.quiet_moves.result));
        counts = inv.counts;
        lawful = inv.lawful;
        row = inv.row;
        own = inv.own;
      })
    ]
