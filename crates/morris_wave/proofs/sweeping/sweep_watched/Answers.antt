use Rattle.std.proofs.Common.{◌≡◌, ℕ, ◌-◌, sym, subst, ◌∙◌, arith}
use Rattle.morris_wave.specs.Solving.{every}
use Rattle.morris_wave.specs.NodeRanges.{NodeRangeHolds}
use Rattle.morris_wave.specs.Counts.{counts_of, most_of, AreFew}
use Rattle.morris_wave.proofs.Plies.{ply_rules, code_rules}
use Rattle.morris_wave.proofs.sweeping.sweep_watched.Goals as goal

pub returns-in_err-whole-clause-plies : goal.returns-in_err-whole-clause-plies
returns-in_err-whole-clause-plies g c = ply_rules (g.G.Name.Levels.net (g.G.Graph.level c.args.graph.now))

pub returns-in_err-whole-clause-outcome : goal.returns-in_err-whole-clause-outcome
returns-in_err-whole-clause-outcome g c = code_rules (g.G.Name.Levels.net (g.G.Graph.level c.args.graph.now))

pub returns-in_err-whole-clause-watched : goal.returns-in_err-whole-clause-watched
returns-in_err-whole-clause-watched g c = g.met.W.Watch.stays c.args.watch.now

pub returns-clause-plies : goal.returns-clause-plies
returns-clause-plies g c = ply_rules (g.G.Name.Levels.net (g.G.Graph.level c.args.graph.now))

pub returns-clause-outcome : goal.returns-clause-outcome
returns-clause-outcome g c = code_rules (g.G.Name.Levels.net (g.G.Graph.level c.args.graph.now))

pub codes_of-requires-clause-start : goal.codes_of-requires-clause-start
codes_of-requires-clause-start g c = λ _ _.
    let net = g.G.Name.Levels.net (g.G.Graph.level c.args.graph.now) in
    let made = c.in_ok-whole.ensures in
    let whole = c.in_ok-whole.whole in
    let all : c.size.result - 0 ≡ net.size = omega (arith, c.size.ensures) in
    record {
      first = made.first;
      len = made.len ∙ all;
      few = subst (λ (n : ℕ). AreFew net 0 n (most_of whole.counters)) all made.few;
      holds = subst (λ (w : ℕ). NodeRangeHolds net w every 0 whole.entries.codes (counts_of whole.counters) whole.due whole.last_due) (sym made.wave) made.holds;
    }
