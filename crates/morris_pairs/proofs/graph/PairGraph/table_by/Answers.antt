use Rattle.std.proofs.Common.{◌≡◌, length, refl, subst, sym, ◌∙◌, rules}
use Rattle.std.specs.Option.{option_copied}
use Rattle.morris_index.specs.Pairs.{Counts}
use Rattle.morris_pairs.specs.Graphs.{IsPairGraph}
use Rattle.morris_pairs.specs.Numberings.{layout_of, pair_of}
use Rattle.morris_pairs.specs.Orders.{order_of}
use Rattle.morris_pairs.specs.PairNets.{level_of, net_at}
use Rattle.morris_pairs.proofs.GraphLaws.{size_at, exact_codes}
use Rattle.morris_pairs.proofs.graph.PairGraph.table_by.Goals as goal

pub new-requires : goal.new-requires
new-requires g c =
    let pair : Counts = pair_of c.args.numbering in
    let layout = layout_of c.args.numbering in
    let same : pair ≡ c.args.self.now = c.requires.pair in
    let len : length c.args.codes.items ≡ (net_at g.B.Geometry.shape (level_of layout pair)).size =
    subst (λ d. length c.args.codes.items ≡ (net_at g.B.Geometry.shape (level_of layout d)).size) (sym same) (sym c.args.codes.ok.0 ∙ c.requires.len) in
    let codes = rw (← same) at c.requires.codes in
    let lawful = g.met.B.Geometry.is_lawful in
    let graph : IsPairGraph g.B.Geometry.shape pair (option_copied c.self.inside.less_lesser) (option_copied c.self.inside.less_greater) =
    subst (λ d. IsPairGraph g.B.Geometry.shape d (option_copied c.self.inside.less_lesser) (option_copied c.self.inside.less_greater))
    (c.self.view_is ∙ sym same) c.self.invariant in
    record {
      lawful = graph.lawful;
      counted = len ∙ size_at g.B.Geometry.shape lawful g.met.B.Geometry.has_symmetries g.B.Geometry.shape.points refl (order_of layout) pair graph.lawful;
      small = λ i low. search rules;
      exact =
          exact_codes g.B.Geometry.shape lawful g.met.B.Geometry.has_symmetries (order_of layout) pair (option_copied c.self.inside.less_lesser) (option_copied c.self.inside.less_greater) graph
          c.args.codes.items len codes;
    }
