use Rattle.std.proofs.Common.{◌≡◌, ◌<◌, ℕ, ◌+◌, ◌&&◌, eqb, length, slice_index, sym, ap, subst, ◌∙◌, arith}
use Rattle.std.proofs.lemmas.Bool.{ltb-true}
use Rattle.morris_wave.specs.Exits.{exits_of, exits_won}
use Rattle.morris_wave.specs.Solving.{Marks, exits_at}
use Rattle.morris_wave.specs.NodeRanges.{HasRead}
use Rattle.morris_wave.proofs.Frames.{frame_joins}
use Rattle.morris_wave.proofs.Readings.{read_more}
use Rattle.morris_wave.proofs.reading.read_piece.Goals as goal

pub loop-place-preserved : goal.loop-place-preserved
loop-place-preserved g c =
    let net = g.G.Name.Levels.net (g.G.Graph.level c.args.graph.now) in
    let most = g.C.CounterList.most in
    let inv = c.loop-place.invariant in
    let old = c.loop-place.reading in
    let counters = g.C.CounterList.counts old.counters in
    let codes = old.entries.codes in
    let new = c.take.new.self in
    let codes' = new.entries.codes in
    let first = c.args.reading.now.entries.first in
    let place = c.args.from + c.loop-place.place in
    let quiet = slice_index c.read_nodes.new.counts c.loop-place.place in
    let e = exits_at c.read_nodes.new.exits c.loop-place.place in
    let here : c.loop-place.place < length c.args.counts.now = omega (arith, c.loop-place-test.true, c.read_nodes.auto.counts) in
    let within : place < length codes = omega (arith, here, c.requires.inside, inv.frame.len) in
    let there : first + c.args.from + c.loop-place.place ≡ first + place = omega arith in
    let few : quiet < most = ltb-true quiet most (sym c.has_room.ensures ∙ c.if-not-has_room.false) in
    let counted : quiet ≡ length (net.quiet (first + place)) = c.read_nodes.ensures.counts c.loop-place.place here ∙ ap (λ n. length (net.quiet n)) there in
    let is : e ≡ exits_of (net.exits (first + place)) = c.read_nodes.ensures.exits c.loop-place.place (omega (arith, here, c.requires.room)) ∙ ap (λ n. exits_of (net.exits n)) there in
    let marks = subst (λ (w : ℕ). Marks codes codes' (λ k. eqb place k && (eqb quiet 0 && exits_won 0 e)) (w + 1)) (inv.frame.wave ∙ c.requires.wave) c.take.ensures.codes in
    let more = read_more inv.read codes' quiet e within
    (omega (arith, c.take.ensures.frame.len)) (omega (arith, old.counted)) (omega (arith, old.waved, old.waves.ok.0)) few counted is marks in
    let after : place + 1 ≡ c.args.from + (c.loop-place.place + 1) = omega arith in
    record {
      frame = frame_joins c.args.reading.now.entries old.entries new.entries inv.frame c.take.ensures.frame;
      read = subst (λ (p : ℕ). HasRead net most first p codes' (g.C.CounterList.counts new.counters) new.waves.items new.last_due) after
          (rw (c.take.ensures.counters, c.take.ensures.waves, c.take.ensures.last) more);
    }

pub take-requires-clause-inside : goal.take-requires-clause-inside
take-requires-clause-inside g c =
    let here : c.loop-place.place < length c.args.counts.now = omega (arith, c.loop-place-test.true, c.read_nodes.auto.counts) in
    omega (arith, here, c.requires.inside, c.loop-place.invariant.frame.len)

pub take-requires-clause-few : goal.take-requires-clause-few
take-requires-clause-few g c =
    ltb-true (slice_index c.read_nodes.new.counts c.loop-place.place) g.C.CounterList.most (sym c.has_room.ensures ∙ c.if-not-has_room.false)

pub take-requires-clause-unwritten : goal.take-requires-clause-unwritten
take-requires-clause-unwritten g c =
    let here : c.loop-place.place < length c.args.counts.now = omega (arith, c.loop-place-test.true, c.read_nodes.auto.counts) in
    c.loop-place.invariant.read.unwritten (c.args.from + c.loop-place.place) (omega arith) (omega (arith, here, c.requires.inside, c.loop-place.invariant.frame.len))

pub returns-clause-read : goal.returns-clause-read
returns-clause-read g c = λ _.
    let net = g.G.Name.Levels.net (g.G.Graph.level c.args.graph.now) in
    let now = c.loop-place.reading in
    let all : c.args.from + c.loop-place.place ≡ c.args.from + length c.args.counts.now = omega (arith, c.loop-place-test.false, c.loop-place.auto.place-end, c.read_nodes.auto.counts) in
    subst (λ (p : ℕ). HasRead net g.C.CounterList.most c.args.reading.now.entries.first p now.entries.codes (g.C.CounterList.counts now.counters) now.waves.items now.last_due) all
    c.loop-place.invariant.read
