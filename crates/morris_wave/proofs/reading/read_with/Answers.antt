use Rattle.std.proofs.Common.{◌≡◌, ◌+◌, ◌-◌, ◌<◌, ◌≤◌, ℕ, List, length, slice_index, sym, ap, subst, ◌∙◌, arith}
use Rattle.morris_wave.specs.Nets.{times}
use Rattle.morris_wave.specs.Lists.{list_at}
use Rattle.morris_wave.specs.NodeRanges.{HasRead, ListsDue, NodeRangeHolds}
use Rattle.morris_wave.specs.Solving.{every}
use Rattle.morris_wave.specs.Counts.{AreFew}
use Rattle.morris_wave.proofs.Readings.{read_all, due_once}
use Rattle.morris_wave.proofs.reading.read_with.Given as given
use Rattle.morris_wave.proofs.reading.read_with.Goals as goal
use Rattle.morris_wave.proofs.reading.read_with.Goals.{After-into_counters}

-- what was read of all nodes
read : (g : given.Over) (c : After-into_counters g) → HasRead (g.G.Name.Levels.net (g.G.Graph.level c.args.graph.now)) g.C.CounterList.most c.args.first (length c.read_all.new.reading.entries.codes)
    c.read_all.new.reading.entries.codes (g.C.CounterList.counts c.read_all.new.reading.counters) c.read_all.new.reading.waves.items c.read_all.new.reading.last_due
read g c =
    let net = g.G.Name.Levels.net (g.G.Graph.level c.args.graph.now) in
    let most = g.C.CounterList.most in
    let r = c.read_all.new.reading in
    let codes = r.entries.codes in
    let before = c.in_ok-reading.reading in
    let len : length before.entries.codes ≡ length codes = omega (arith, c.read_all.ensures.frame.len) in
    subst (λ (n : ℕ). HasRead net most c.args.first n codes (g.C.CounterList.counts r.counters) r.waves.items r.last_due) len
    (subst (λ (f : ℕ). HasRead net most f (length before.entries.codes) codes (g.C.CounterList.counts r.counters) r.waves.items r.last_due) c.in_ok-reading.ensures.first
    (c.read_all.ensures.read c.if-not-read_all.false))

-- the lists of the nodes that come due
listed : (g : given.Over) (c : After-into_counters g)
    → ListsDue (λ k. slice_index c.read_all.new.reading.waves.items k) 0 c.args.first (length c.read_all.new.reading.waves.items) c.in_ok-due.due
listed g c = subst (λ (xs : List ℕ). ListsDue (λ k. slice_index xs k) 0 c.args.first (length xs) c.in_ok-due.due) c.deref.ensures.value c.in_ok-due.ensures

pub invariant_of-result : goal.invariant_of-result
invariant_of-result g c =
    let at = (goal.at.invariant_of-result g c).After-into_counters in
    let r = c.read_all.new.reading in
    let due = listed g at in
    let many : length r.waves.items ≡ length r.entries.codes = omega (arith, r.waved, r.waves.ok.0) in
    let first : r.entries.first ≡ c.args.first = c.read_all.ensures.frame.first ∙ c.in_ok-reading.ensures.first in
    record {
      counted = ap length c.into_counters.ensures.counts ∙ r.counted;
      small =
          subst (λ (cs : List ℕ). (k : ℕ) → k < length cs → slice_index cs k < 65536) (sym c.into_counters.ensures.counts)
          (λ k l. omega (arith, (read g at).counters_are k (omega (arith, l, r.counted))));
      inside = λ n k d l. let w = due.inside n k d l in (omega (arith, w.0, first), omega (arith, w.1, first, many));
      once = λ n k l.
          subst (λ (f : ℕ). times (f + k) (list_at c.in_ok-due.due n) ≤ 1) (sym first)
          (due_once (λ j. slice_index r.waves.items j) c.args.first (length r.waves.items) c.in_ok-due.due due n k (omega (arith, l, many)));
      room = c.in_ok-piece.ensures.room;
    }

pub returns-clause-holds : goal.returns-clause-holds
returns-clause-holds g c =
    let at = (goal.at.returns-clause-holds g c).After-into_counters in
    let net = g.G.Name.Levels.net (g.G.Graph.level c.args.graph.now) in
    let r = c.read_all.new.reading in
    subst (λ (cs : List ℕ). NodeRangeHolds net 0 every c.args.first r.entries.codes cs c.in_ok-due.due r.last_due) (sym c.into_counters.ensures.counts)
    (read_all (read g at) c.in_ok-due.due
    (omega (arith, c.read_all.ensures.frame.len, c.in_ok-reading.ensures.len, c.requires.end, c.requires.order)) (omega (arith, r.counted)) (omega (arith, r.waved, r.waves.ok.0)) (listed g at))

pub returns-clause-few : goal.returns-clause-few
returns-clause-few g c =
    subst (λ (m : ℕ). AreFew (g.G.Name.Levels.net (g.G.Graph.level c.args.graph.now)) c.args.first (c.args.end - c.args.first) m) (sym c.into_counters.ensures.most)
    (λ k l. (read g (goal.at.returns-clause-few g c).After-into_counters).few k (omega (arith, l, c.read_all.ensures.frame.len, c.in_ok-reading.ensures.len)))

pub read_all-requires-clause-read : goal.read_all-requires-clause-read
read_all-requires-clause-read g c κs within =
    let net = g.G.Name.Levels.net (g.G.Graph.level c.args.graph.now) in
    let r = c.in_ok-reading.reading in
    subst (λ (f : ℕ). HasRead net g.C.CounterList.most f 0 r.entries.codes (g.C.CounterList.counts r.counters) r.waves.items r.last_due) (sym c.in_ok-reading.ensures.first) (c.in_ok-reading.ensures.read net)

pub returns-clause-first : goal.returns-clause-first
returns-clause-first g c = c.read_all.ensures.frame.first ∙ c.in_ok-reading.ensures.first

pub returns-clause-wave : goal.returns-clause-wave
returns-clause-wave g c = c.read_all.ensures.frame.wave ∙ c.in_ok-reading.ensures.wave

pub returns-clause-len : goal.returns-clause-len
returns-clause-len g c = omega (arith, c.read_all.ensures.frame.len, c.in_ok-reading.ensures.len)
