use Rattle.std.proofs.Common.{◌≡◌, ℕ, ◌+◌, ◌<◌, ◌≤◌, length, sym, subst, ◌∙◌, arith}
use Rattle.morris_wave.specs.Lists.{list_at}
use Rattle.morris_wave.specs.NodeRanges.{Takes}
use Rattle.morris_wave.specs.Counts.{counts_of, left_at, AreFew}
use Rattle.morris_wave.specs.Nets.{times}
use Rattle.morris_wave.proofs.Widths.{left_enough}
use Rattle.morris_wave.proofs.Stretches.{next_holds, due_enough, due_few}
use Rattle.morris_wave.proofs.sweeping.run.Goals as goal

pub next_wave-requires-clause-enough : goal.next_wave-requires-clause-enough
next_wave-requires-clause-enough g c =
    let inv = c.loop-done.invariant in
    let net = g.G.Name.Levels.net (g.G.Graph.level c.args.graph.now) in
    let law = g.G.Name.Levels.lawful (g.G.Graph.level c.args.graph.now) in
    let old = c.loop-done.whole in
    let codes = old.entries.codes in
    let early : old.entries.wave < 65534 = omega (arith, inv.0, c.loop-done-test.true) in
    λ even k l.
    let place : k < length codes = omega (arith, l) in
    let size : length codes ≡ net.size = omega (arith, inv.1.len) in
    subst (λ (f : ℕ). times (f + k) (list_at old.due (old.entries.wave + 1)) ≤ left_at old.counters k) (sym inv.1.first)
    (left_enough old.counters k (times (0 + k) (list_at old.due (old.entries.wave + 1)))
    (due_enough law inv.1.holds early k place)
    (λ le. due_few law inv.1.holds early even k place
    (omega (arith, inv.1.few k (omega (arith, place, size)), le))))

pub spread-requires-clause-start : goal.spread-requires-clause-start
spread-requires-clause-start g c = λ _ _.
    let inv = c.loop-done.invariant in
    let net = g.G.Name.Levels.net (g.G.Graph.level c.args.graph.now) in
    let law = g.G.Name.Levels.lawful (g.G.Graph.level c.args.graph.now) in
    let old = c.loop-done.whole in
    let codes = old.entries.codes in
    let made = c.next_wave.ensures in
    let new = c.next_wave.new.self in
    let codes' = new.entries.codes in
    let holds = next_holds law inv.1.holds (omega (arith, inv.0, c.loop-done-test.true))
    codes' (counts_of new.counters)
    (omega (arith, made.len))
    (omega (arith, new.counted, old.counted, made.len)) new.small
    (subst (λ (f : ℕ). Takes (old.entries.wave + 1) f (list_at old.due (old.entries.wave + 1)) codes codes' (counts_of old.counters) (counts_of new.counters)) inv.1.first made.comes) in
    record {
      first = made.first ∙ inv.1.first;
      len = made.len ∙ inv.1.len;
      few = subst (λ (m : ℕ). AreFew net 0 net.size m) (sym made.most) inv.1.few;
      holds = rw (made.wave, made.due, made.last_due) holds;
    }

pub loop-done-preserved : goal.loop-done-preserved
loop-done-preserved g c =
    let inv = c.loop-done.invariant in (
      omega (arith, c.spread.ensures.wave, c.next_wave.ensures.wave, inv.0),
      c.in_ok-spread.ensures.done,
      g.met.W.Watch.joins c.args.watch.now c.loop-done.watch c.wave.new.self inv.2 c.wave.ensures,
    )

pub returns-then-is_quiet-clause-done : goal.returns-then-is_quiet-clause-done
returns-then-is_quiet-clause-done g c = c.loop-done.invariant.1

pub returns-then-is_quiet-clause-quiet : goal.returns-then-is_quiet-clause-quiet
returns-then-is_quiet-clause-quiet g c = sym c.if-is_quiet.true ∙ c.is_quiet.ensures

pub returns-then-is_quiet-clause-watched : goal.returns-then-is_quiet-clause-watched
returns-then-is_quiet-clause-watched g c = c.loop-done.invariant.2

pub returns-in_err-spread-clause-watched : goal.returns-in_err-spread-clause-watched
returns-in_err-spread-clause-watched g c = g.met.W.Watch.joins c.args.watch.now c.loop-done.watch c.wave.new.self c.loop-done.invariant.2 c.wave.ensures

pub returns-clause-done : goal.returns-clause-done
returns-clause-done g c = c.loop-done.invariant.1

pub returns-clause-watched : goal.returns-clause-watched
returns-clause-watched g c = c.loop-done.invariant.2
