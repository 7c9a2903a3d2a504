use Rattle.std.proofs.Common.{◌≡◌, ℕ, ◌<◌, true, not, cond, eqb, Result, Ok, Err, ap, ◌∙◌, arith}
use Rattle.std.specs.List.{sum_by}
use Rattle.std.specs.Result.{OnOk, is_ok}
use Rattle.std.proofs.lemmas.Bool.{false≢true}
use Rattle.std.proofs.lemmas.List.{take_all}
use Rattle.std.proofs.lemmas.List.Sums.{sum_by-append, sum_by_more}
use Rattle.std.proofs.lemmas.List.Elements.{All-append}
use Rattle.morris_wave.specs.Nets.{times}
use Rattle.morris_pairs.specs.Entries.{entry_count}
use Rattle.morris_pairs.specs.Numberings.{layout_of, pair_of}
use Rattle.morris_pairs.specs.PairNets.{pair_net}
use Rattle.morris_pairs.proofs.predecessors.list_predecessors_of_all.Goals as goal

at_ok : {T E P : Type 0} (r : Result T E) → is_ok r ≡ true → OnOk r P → P
at_ok (Ok x) e h = h
at_ok (Err y) e h = absurd (false≢true e)

pub loop-entry-preserved : goal.loop-entry-preserved
loop-entry-preserved g c =
    let of = pair_of c.args.numbering.now in
    let layout = layout_of c.args.numbering.now in
    let net = pair_net g.B.Geometry.shape layout of in
    let count = entry_count g.B.Geometry.shape g.B.Geometry.POINTS layout of in
    let entries = c.args.entries.now in
    let inv = c.loop-entry.invariant in
    let old = c.loop-entry.out.items in
    let done : is_ok c.add_predecessors.result ≡ true = c.is_err.ensures.negation ∙ ap not c.if-is_err.false in
    let more = at_ok c.add_predecessors.result done c.add_predecessors.ensures in
    record {
      times = λ j l. omega (
        arith,
        ap (times j) more.follow,
        sum_by-append (λ x. cond {A = ℕ} (eqb x j) 1 0) old more.added,
        inv.times j l,
        more.often j l,
        ap (λ i. times i (net.quiet j)) c.position-position.ensures.entry,
        sum_by_more (λ i. times i (net.quiet j)) entries c.loop-entry.entry-index 0 (omega arith),
      );
      inside = rw more.follow (All-append (λ j. j < count) old more.added inv.inside more.nodes);
    }

pub returns-clause-times : goal.returns-clause-times
returns-clause-times g c = λ j l.
    let net = pair_net g.B.Geometry.shape (layout_of c.args.numbering.now) (pair_of c.args.numbering.now) in
    c.loop-entry.invariant.times j l ∙ ap (sum_by (λ i. times i (net.quiet j))) (take_all c.loop-entry.entry-index c.args.entries.now (omega arith))
