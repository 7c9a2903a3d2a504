use Rattle.std.proofs.Common.{◌≡◌, ℕ, ◌<◌, true, not, cond, eqb, Result, Ok, Err, ap, ◌∙◌, arith}
use Rattle.std.specs.List.{sum_by}
use Rattle.std.specs.Result.{OnOk, is_ok}
use Rattle.std.proofs.lemmas.Bool.{false≢true}
use Rattle.std.proofs.lemmas.List.{take_all}
use Rattle.std.proofs.lemmas.List.Sums.{sum_by-append, sum_by_more}
use Rattle.std.proofs.lemmas.List.Elements.{All-append}
use Rattle.morris_wave.specs.Nets.{times}
use Rattle.morris_wave.proofs.graph.Graph.back_from.Goals as goal

at_ok : {T E P : Type 0} (r : Result T E) → is_ok r ≡ true → OnOk r P → P
at_ok (Ok x) e h = h
at_ok (Err y) e h = absurd (false≢true e)

pub loop-node-preserved : goal.loop-node-preserved
loop-node-preserved g c =
    let net = g.Self.Name.Levels.net (g.Self.Graph.level c.args.self.now) in
    let nodes = c.args.nodes.now in
    let inv = c.loop-node.invariant in
    let old = c.loop-node.out.items in
    let more = c.back.new.out.items in
    let found : is_ok c.back.result ≡ true = c.is_err.ensures.negation ∙ ap not c.if-is_err.false in
    let put : is_ok c.append.result ≡ true = c.is_err-else-is_err.ensures.negation ∙ ap not c.if-is_err-2.false in
    let items = rw put at c.append.ensures.items in record {
      times = λ j l. omega (
        arith,
        ap (times j) items,
        sum_by-append (λ x. cond {A = ℕ} (eqb x j) 1 0) old more,
        inv.times j l,
        at_ok c.back.result found c.back.ensures.times j l,
        sum_by_more (λ i. times i (net.quiet j)) nodes c.loop-node.node-index 0 (omega arith),
      );
      inside = rw items (All-append (λ j. j < net.size) old more inv.inside (at_ok c.back.result found c.back.ensures.nodes));
    }

pub returns-clause-times : goal.returns-clause-times
returns-clause-times g c = λ j l.
    let net = g.Self.Name.Levels.net (g.Self.Graph.level c.args.self.now) in
    c.loop-node.invariant.times j l ∙ ap (sum_by (λ i. times i (net.quiet j))) (take_all c.loop-node.node-index c.args.nodes.now (omega arith))
