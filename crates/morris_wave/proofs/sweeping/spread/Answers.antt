use Rattle.std.proofs.Common.{◌≡◌, ◌<◌, ◌≤◌, ℕ, ◌+◌, ◌-◌, false, List, drop, length, refl, slice_index, sym, take, ap, subst, ◌∙◌, arith}
use Rattle.std.proofs.lemmas.List.{take_all}
use Rattle.morris_wave.specs.Nets.{times}
use Rattle.morris_wave.specs.Exits.{is_odd}
use Rattle.morris_wave.specs.Solving.{ListsFresh, among, every}
use Rattle.morris_wave.specs.NodeRanges.{NodeRangeHolds, Ranked, Takes}
use Rattle.morris_wave.specs.Counts.{counts_of, left_at, AreFew}
use Rattle.morris_wave.proofs.Widths.{left_enough}
use Rattle.morris_wave.proofs.Frames.{frame_same, frame_joins}
use Rattle.morris_wave.proofs.Wholes.{fresh_listed, fresh_at, fresh_length, spread_none, spread_enough, spread_few, spread_more, spread_all}
use Rattle.morris_wave.proofs.sweeping.spread.Given as given
use Rattle.morris_wave.proofs.sweeping.spread.Goals as goal
use Rattle.morris_wave.proofs.sweeping.spread.Goals.{Start}

-- the nodes whose predecessors are taken in
fresh_nodes : (g : given.Over) (c : Start g) → ListsFresh (g.G.Name.Levels.net (g.G.Graph.level c.args.graph.now)) c.args.whole.now.entries.wave
    (take (c.args.whole.now.entries.here - c.args.whole.now.entries.before) (drop c.args.whole.now.entries.before (g.L.NodeList.items c.args.whole.now.entries.decided)))
fresh_nodes g c =
    let e = c.args.whole.now.entries in
    fresh_listed (g.G.Name.Levels.lawful (g.G.Graph.level c.args.graph.now)) c.requires.start.holds (omega (arith, c.requires.start.len))
    (g.L.NodeList.items e.decided) e.before e.here (subst (λ (f : ℕ). Ranked g.L.NodeList.retains f e.wave e.codes (g.L.NodeList.items e.decided) e.before e.here) c.requires.start.first e.ranked)

pub loop-place-init : goal.loop-place-init
loop-place-init g c =
    let net = g.G.Name.Levels.net (g.G.Graph.level c.args.graph.now) in
    let law = g.G.Name.Levels.lawful (g.G.Graph.level c.args.graph.now) in
    let start = c.args.whole.now in
    let e = start.entries in (
      frame_same e,
      omega arith,
      spread_none law (take (e.here - e.before) (drop e.before (g.L.NodeList.items e.decided))) (e.before - e.before) (omega arith) c.requires.start.holds,
      refl,
    )

pub take_in-requires-clause-enough : goal.take_in-requires-clause-enough
take_in-requires-clause-enough g c =
    let net = g.G.Name.Levels.net (g.G.Graph.level c.args.graph.now) in
    let law = g.G.Name.Levels.lawful (g.G.Graph.level c.args.graph.now) in
    let inv = c.loop-place.invariant in
    let first0 : c.loop-place.whole.entries.first ≡ 0 = inv.0.first ∙ c.requires.start.first in
    let e = c.args.whole.now.entries in
    let now = c.loop-place.whole in
    let codes = now.entries.codes in
    let fresh = take (e.here - e.before) (drop e.before (g.L.NodeList.items e.decided)) in
    let i = c.loop-place.place - e.before in
    let listed = fresh_nodes g (goal.at.take_in-requires-clause-enough g c).Start in
    let node = c.node.result in
    let at = fresh_at (g.L.NodeList.items e.decided) (g.L.NodeList.items now.entries.decided) e.before e.here c.loop-place.place e.ranked.within inv.0.list inv.1 c.loop-place-test.true in
    let is : node ≡ slice_index fresh i = c.node.ensures ∙ at.1 in
    λ even k l.
    let even_here : is_odd e.wave ≡ false = ap is_odd (sym inv.0.wave) ∙ even in
    let place : k < length codes = omega (arith, l) in
    let size : length codes ≡ net.size = omega (arith, inv.0.len, c.requires.start.len) in
    subst (λ (f : ℕ). times (f + k) c.back.new.out.items ≤ left_at now.counters k) (sym first0)
    (left_enough now.counters k (times (0 + k) c.back.new.out.items)
    (spread_enough listed i node at.0 is c.back.new.out.items c.in_ok-back.ensures.times law inv.2 even_here k place)
    (λ le. spread_few listed i node at.0 is c.back.new.out.items c.in_ok-back.ensures.times law inv.2 even_here k place
    (omega (arith, c.requires.start.few k (omega (arith, place, size)), inv.3, le))))

pub loop-place-preserved : goal.loop-place-preserved
loop-place-preserved g c =
    let net = g.G.Name.Levels.net (g.G.Graph.level c.args.graph.now) in
    let law = g.G.Name.Levels.lawful (g.G.Graph.level c.args.graph.now) in
    let inv = c.loop-place.invariant in
    let first0 : c.loop-place.whole.entries.first ≡ 0 = inv.0.first ∙ c.requires.start.first in
    let e = c.args.whole.now.entries in
    let now = c.loop-place.whole in
    let codes = now.entries.codes in
    let fresh = take (e.here - e.before) (drop e.before (g.L.NodeList.items e.decided)) in
    let i = c.loop-place.place - e.before in
    let listed = fresh_nodes g (goal.at.loop-place-preserved g c).Start in
    let node = c.node.result in
    let at = fresh_at (g.L.NodeList.items e.decided) (g.L.NodeList.items now.entries.decided) e.before e.here c.loop-place.place e.ranked.within inv.0.list inv.1 c.loop-place-test.true in
    let is : node ≡ slice_index fresh i = c.node.ensures ∙ at.1 in
    let made = c.take_in.ensures in
    let new = c.take_in.new.self in
    let codes' = new.entries.codes in
    let takes : Takes e.wave 0 c.back.new.out.items codes codes' (counts_of now.counters) (counts_of new.counters) =
    subst (λ (w : ℕ). Takes w 0 c.back.new.out.items codes codes' (counts_of now.counters) (counts_of new.counters)) inv.0.wave
    (subst (λ (f : ℕ). Takes now.entries.wave f c.back.new.out.items codes codes' (counts_of now.counters) (counts_of new.counters)) first0 made.taken) in
    let more = spread_more listed i node at.0 is c.back.new.out.items c.in_ok-back.ensures.times law inv.2
    codes' (counts_of new.counters)
    (omega (arith, made.frame.len))
    (omega (arith, new.counted, now.counted, made.frame.len)) new.small takes in
    let next : i + 1 ≡ c.loop-place.place + 1 - e.before = omega (arith, inv.1) in (
      frame_joins e now.entries new.entries inv.0 made.frame,
      omega (arith, inv.1),
      subst (λ (p : ℕ). NodeRangeHolds net e.wave (among (take p fresh)) 0 codes' (counts_of new.counters) new.due new.last_due) next
          (rw (made.due, made.last_due) more),
      made.most ∙ inv.3,
    )

pub returns-clause-done : goal.returns-clause-done
returns-clause-done g c =
    let net = g.G.Name.Levels.net (g.G.Graph.level c.args.graph.now) in
    let law = g.G.Name.Levels.lawful (g.G.Graph.level c.args.graph.now) in
    let inv = c.loop-place.invariant in
    let first0 : c.loop-place.whole.entries.first ≡ 0 = inv.0.first ∙ c.requires.start.first in
    let e = c.args.whole.now.entries in
    let now = c.loop-place.whole in
    let codes = now.entries.codes in
    let fresh = take (e.here - e.before) (drop e.before (g.L.NodeList.items e.decided)) in
    let i = c.loop-place.place - e.before in
    let listed = fresh_nodes g (goal.at.returns-clause-done g c).Start in
    let whole : take i fresh ≡ fresh = take_all i fresh (omega (arith, fresh_length (g.L.NodeList.items e.decided) e.before e.here e.ranked.within, c.loop-place-test.false, inv.1)) in
    record {
      first = first0;
      len = inv.0.len ∙ c.requires.start.len;
      few = subst (λ (m : ℕ). AreFew net 0 net.size m) (sym inv.3) c.requires.start.few;
      holds =
          subst (λ (w : ℕ). NodeRangeHolds net w every 0 codes (counts_of now.counters) now.due now.last_due) (sym inv.0.wave)
          (spread_all law fresh listed
          (subst (λ (xs : List ℕ). NodeRangeHolds net e.wave (among xs) 0 codes (counts_of now.counters) now.due now.last_due) whole inv.2));
    }

pub take_in-requires-clause-inside : goal.take_in-requires-clause-inside
take_in-requires-clause-inside g c = λ p d l.
    let inv = c.loop-place.invariant in
    let first0 : c.loop-place.whole.entries.first ≡ 0 = inv.0.first ∙ c.requires.start.first in
    let node = c.in_ok-back.ensures.nodes p d l in
    (omega (arith, first0), omega (arith, node, first0, inv.0.len, c.requires.start.len))

pub back-requires : goal.back-requires
back-requires g c =
    let inv = c.loop-place.invariant in
    let first0 : c.loop-place.whole.entries.first ≡ 0 = inv.0.first ∙ c.requires.start.first in
    let entries = c.loop-place.whole.entries in
    let inside = entries.ranked.inside c.loop-place.place 0 (omega (arith, c.loop-place-test.true, inv.0.here, entries.ranked.within)) in
    omega (arith, inside.1, c.node.ensures, first0, inv.0.len, c.requires.start.len)
