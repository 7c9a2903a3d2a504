use Rattle.std.proofs.Common.{◌≡◌, ℕ, ◌+◌, ◌-◌, ◌≤◌, length, ap, ◌∙◌, arith}
use borrow.Rule.Slice.PartMut.{put_mid, same_len_mid}
use Rattle.morris_wave.specs.Exits.{exits_of, no_exits}
use Rattle.morris_pairs.specs.declared.layout.Layout.TheVariants.{Classes}
use Rattle.morris_pairs.specs.PairNets.{level_of, net_at}
use Rattle.morris_pairs.proofs.PartLaws.{part_read, part_len}
use Rattle.morris_pairs.proofs.row_reading.read_rows.Goals as goal

pub loop-done-preserved : goal.loop-done-preserved
loop-done-preserved g c =
    let inv = c.loop-done.invariant in
    let net = net_at g.B.Geometry.shape (level_of Classes c.args.graph.now) in
    let many : c.read_row-done.result ≤ length c.read_row-done.new.counts = omega (arith, c.read_row-done.ensures.many, c.read_row-done.auto.counts) in
    let within_exits : c.loop-done.done ≤ length c.loop-done.exits = omega (arith, c.requires.room, inv.within, inv.counts_len, inv.exits_len) in
    let counts_part : length c.read_row-done.new.counts ≡ length c.loop-done.counts - c.loop-done.done =
    part_len c.loop-done.counts c.read_row-done.new.counts c.loop-done.done inv.within c.read_row-done.auto.counts in
    let exits_part : length c.read_row-done.new.exits ≡ length c.loop-done.exits - c.loop-done.done =
    part_len c.loop-done.exits c.read_row-done.new.exits c.loop-done.done within_exits c.read_row-done.auto.exits in
    let many_exits : c.read_row-done.result ≤ length c.read_row-done.new.exits =
    omega (arith, many, counts_part, exits_part, c.requires.room, inv.counts_len, inv.exits_len) in
    let counts_len : length (put_mid c.loop-done.done (length c.loop-done.counts - c.loop-done.done) c.loop-done.counts c.read_row-done.new.counts) ≡ length c.loop-done.counts =
    same_len_mid c.loop-done.done (length c.loop-done.counts - c.loop-done.done) c.loop-done.counts c.read_row-done.new.counts c.read_row-done.auto.counts in
    let entry : (v : ℕ) → c.row_from-entries.result.first + v ≡ c.args.first + (c.loop-done.done + v) = λ v. omega (arith, c.row_from-entries.ensures.first) in
    record {
      within = omega (arith, counts_len, counts_part, many, inv.within);
      counts_len = counts_len ∙ inv.counts_len;
      exits_len =
          same_len_mid c.loop-done.done (length c.loop-done.exits - c.loop-done.done) c.loop-done.exits c.read_row-done.new.exits c.read_row-done.auto.exits
          ∙ inv.exits_len;
      cache = c.read_row-done.ensures.cache;
      quiet = part_read 0 (λ k. length (net.quiet (c.args.first + k))) c.loop-done.counts c.read_row-done.new.counts c.loop-done.done c.read_row-done.result _
          inv.within many inv.quiet (λ v h. c.read_row-done.ensures.counts v h ∙ ap (λ i. length (net.quiet i)) (entry v));
      outside = part_read no_exits (λ k. exits_of (net.exits (c.args.first + k))) c.loop-done.exits c.read_row-done.new.exits c.loop-done.done c.read_row-done.result _
          within_exits many_exits inv.outside (λ v h. c.read_row-done.ensures.exits v h ∙ ap (λ i. exits_of (net.exits i)) (entry v));
    }

pub loop-done-smaller : goal.loop-done-smaller
loop-done-smaller g c =
    let counts_len : length (put_mid c.loop-done.done (length c.loop-done.counts - c.loop-done.done) c.loop-done.counts c.read_row-done.new.counts) ≡ length c.loop-done.counts =
    same_len_mid c.loop-done.done (length c.loop-done.counts - c.loop-done.done) c.loop-done.counts c.read_row-done.new.counts c.read_row-done.auto.counts in
    let counts_part : length c.read_row-done.new.counts ≡ length c.loop-done.counts - c.loop-done.done =
    part_len c.loop-done.counts c.read_row-done.new.counts c.loop-done.done c.loop-done.invariant.within c.read_row-done.auto.counts in
    omega (arith, counts_len, counts_part, c.read_row-done.ensures.many, c.read_row-done.auto.counts, c.row_from-entries.ensures.some, c.loop-done-test.true)
