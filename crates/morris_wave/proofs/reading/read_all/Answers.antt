use Rattle.std.proofs.Common.{◌≡◌, ◌+◌, ◌*◌, ℕ, length, length-append, length-drop, min, take, subst, arith}
use Rattle.std.proofs.lemmas.List.{length-take}
use Rattle.morris_wave.specs.declared.graph.Exits.{Exits}
use Rattle.morris_wave.specs.NodeRanges.{HasRead}
use Rattle.morris_wave.proofs.Frames.{frame_joins}
use Rattle.morris_wave.proofs.reading.read_all.Goals as goal

pub loop-piece-preserved : goal.loop-piece-preserved
loop-piece-preserved g c =
    let inv = c.loop-piece.invariant in
    let made = c.read_piece.ensures in
    let new = c.read_piece.new.reading in
    let old = c.args.reading.now in
    let net = g.G.Name.Levels.net (g.G.Graph.level c.args.graph.now) in
    let most = g.C.CounterList.most in
    let codes = new.entries.codes in
    let counters = g.C.CounterList.counts new.counters in
    let here = c.loop-piece.piece * 16384 + length (take c.min-len.result c.loop-piece.counts) in
    let counts_taken = length-take c.min-len.result c.loop-piece.counts in
    let exits_taken = length-take c.min-len.result c.loop-piece.exits in
    let next : here ≡ min ((c.loop-piece.piece + 1) * 16384) (length old.entries.codes) =
    omega (arith, counts_taken, inv.counts_len, c.min-len.ensures, c.len-count.ensures, c.loop-piece-test.true, inv.frame.len, c.loop-piece.reading.waved) in
    record {
      frame = frame_joins old.entries c.loop-piece.reading.entries new.entries inv.frame made.frame;
      counts_len = omega (arith, length-append {A = ℕ}, length-drop {A = ℕ}, counts_taken, c.read_piece.auto.counts, inv.counts_len, c.min-len.ensures);
      exits_len = omega (arith, length-append {A = Exits}, length-drop {A = Exits}, exits_taken, c.read_piece.auto.exits, inv.exits_len, c.min-len.ensures);
      read = subst (λ (p : ℕ). HasRead net most old.entries.first p codes counters new.waves.items new.last_due) next
          (subst (λ (f : ℕ). HasRead net most f here codes counters new.waves.items new.last_due) inv.frame.first (made.read c.if-not-read_piece.false));
    }
