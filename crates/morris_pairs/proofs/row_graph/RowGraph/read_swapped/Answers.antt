use Rattle.std.proofs.Common.{◌≡◌, ℕ, ◌+◌, ◌-◌, ◌<◌, ◌≤◌, length, sym, ap, subst, ◌∙◌, arith}
use borrow.Rule.Slice.PartMut.{put_mid, same_len_mid}
use Rattle.morris_wave.specs.Exits.{exits_of, no_exits}
use Rattle.morris_index.specs.ClassPairs.{class_half_size}
use Rattle.morris_index.specs.Pairs.{Counts}
use Rattle.morris_pairs.specs.Orders.{Rows}
use Rattle.morris_pairs.specs.PairNets.{level_in, net_at}
use Rattle.morris_pairs.proofs.PartLaws.{part_read, part_len}
use Rattle.morris_pairs.proofs.row_graph.RowGraph.read_swapped.Goals as goal

pub loop-done-preserved : goal.loop-done-preserved
loop-done-preserved g c =
    let inv = c.loop-done.invariant in
    let net = net_at g.B.Geometry.shape (level_in Rows c.args.self.now) in
    let half : ℕ = class_half_size g.B.Geometry.shape g.B.Geometry.POINTS c.args.self.now.greater c.args.self.now.lesser in
    let many : c.read_swapped_row-done.result ≤ length c.read_swapped_row-done.new.counts = omega (arith, c.read_swapped_row-done.ensures.many, c.read_swapped_row-done.auto.counts) in
    let within_exits : c.loop-done.done ≤ length c.loop-done.exits = omega (arith, c.requires.room, inv.within, inv.counts_len, inv.exits_len) in
    let counts_part : length c.read_swapped_row-done.new.counts ≡ length c.loop-done.counts - c.loop-done.done =
    part_len c.loop-done.counts c.read_swapped_row-done.new.counts c.loop-done.done inv.within c.read_swapped_row-done.auto.counts in
    let exits_part : length c.read_swapped_row-done.new.exits ≡ length c.loop-done.exits - c.loop-done.done =
    part_len c.loop-done.exits c.read_swapped_row-done.new.exits c.loop-done.done within_exits c.read_swapped_row-done.auto.exits in
    let many_exits : c.read_swapped_row-done.result ≤ length c.read_swapped_row-done.new.exits =
    omega (arith, many, counts_part, exits_part, c.requires.room, inv.counts_len, inv.exits_len) in
    let counts_len : length (put_mid c.loop-done.done (length c.loop-done.counts - c.loop-done.done) c.loop-done.counts c.read_swapped_row-done.new.counts) ≡ length c.loop-done.counts =
    same_len_mid c.loop-done.done (length c.loop-done.counts - c.loop-done.done) c.loop-done.counts c.read_swapped_row-done.new.counts c.read_swapped_row-done.auto.counts in
    let entry : (v : ℕ) → c.first_half_row-entries.result.first + v ≡ c.args.first + (c.loop-done.done + v) = λ v. omega (arith, c.first_half_row-entries.ensures.first) in
    record {
      within = omega (arith, counts_len, counts_part, many, inv.within);
      counts_len = counts_len ∙ inv.counts_len;
      exits_len =
          same_len_mid c.loop-done.done (length c.loop-done.exits - c.loop-done.done) c.loop-done.exits c.read_swapped_row-done.new.exits c.read_swapped_row-done.auto.exits
          ∙ inv.exits_len;
      cache = c.read_swapped_row-done.ensures.cache;
      quiet = part_read 0 (λ k. length (net.quiet (half + (c.args.first + k)))) c.loop-done.counts c.read_swapped_row-done.new.counts c.loop-done.done c.read_swapped_row-done.result _
          inv.within many inv.quiet (λ v h. c.read_swapped_row-done.ensures.counts v h ∙ ap (λ i. length (net.quiet (half + i))) (entry v));
      outside = part_read no_exits (λ k. exits_of (net.exits (half + (c.args.first + k)))) c.loop-done.exits c.read_swapped_row-done.new.exits c.loop-done.done c.read_swapped_row-done.result _
          within_exits many_exits inv.outside (λ v h. c.read_swapped_row-done.ensures.exits v h ∙ ap (λ i. exits_of (net.exits (half + i))) (entry v));
    }

pub loop-done-smaller : goal.loop-done-smaller
loop-done-smaller g c =
    let counts_len : length (put_mid c.loop-done.done (length c.loop-done.counts - c.loop-done.done) c.loop-done.counts c.read_swapped_row-done.new.counts) ≡ length c.loop-done.counts =
    same_len_mid c.loop-done.done (length c.loop-done.counts - c.loop-done.done) c.loop-done.counts c.read_swapped_row-done.new.counts c.read_swapped_row-done.auto.counts in
    let counts_part : length c.read_swapped_row-done.new.counts ≡ length c.loop-done.counts - c.loop-done.done =
    part_len c.loop-done.counts c.read_swapped_row-done.new.counts c.loop-done.done c.loop-done.invariant.within c.read_swapped_row-done.auto.counts in
    omega (arith, counts_len, counts_part, c.read_swapped_row-done.ensures.many, c.read_swapped_row-done.auto.counts, c.first_half_row-entries.ensures.some, c.loop-done-test.true)

pub first_half_row-entries-requires-clause-two : goal.first_half_row-entries-requires-clause-two
first_half_row-entries-requires-clause-two g c = subst (λ (d : Counts). d.lesser < d.greater) (sym c.self.invariant.pair) c.self.invariant.two

pub first_half_row-entries-requires-clause-inside : goal.first_half_row-entries-requires-clause-inside
first_half_row-entries-requires-clause-inside g c =
    let low : c.args.first + c.loop-done.done < class_half_size g.B.Geometry.shape g.B.Geometry.POINTS c.args.self.now.greater c.args.self.now.lesser =
    omega (arith, c.loop-done-test.true, c.loop-done.invariant.counts_len, c.requires.inside) in
    subst (λ (d : Counts). c.args.first + c.loop-done.done < class_half_size g.B.Geometry.shape g.B.Geometry.POINTS d.greater d.lesser)
    (sym (c.self.invariant.pair ∙ c.self.view_is)) low

pub read_swapped_row-done-requires-clause-pair : goal.read_swapped_row-done-requires-clause-pair
read_swapped_row-done-requires-clause-pair g c = c.first_half_row-entries.ensures.pair ∙ c.self.invariant.pair ∙ c.self.view_is

pub read_swapped_row-done-requires-clause-greater : goal.read_swapped_row-done-requires-clause-greater
read_swapped_row-done-requires-clause-greater g c =
    c.first_half_row-entries.ensures.greater ∙ ap (λ (d : Counts). d.greater) (c.self.invariant.pair ∙ c.self.view_is)
