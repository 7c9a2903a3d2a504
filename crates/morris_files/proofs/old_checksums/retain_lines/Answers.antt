-- The lines are those that the list is cut into at its line feeds.
use Rattle.std.proofs.Common.{◌==◌, sym, ap, ◌∙◌, rules, tests}
use Rattle.std.specs.List.{flat_map}
use Rattle.std.proofs.lemmas.Iterator.Consumers.{YieldsList-at, YieldsList-end}
use Rattle.std.proofs.lemmas.Iterator.Splits.{YieldsList-from_slice_split}
use Rattle.std.proofs.lemmas.List.Folds.{flat_map-map}
use Rattle.morris_index.specs.Pairs.{counts}
use Rattle.morris_files.specs.Digests.{retained_line, retained_of}
use Rattle.morris_files.proofs.old_checksums.retain_lines.Goals as goal

pub returns : goal.returns
unfolding retained_of
returns c =
    let keep = retained_line c.args.board.now (counts c.args.replaced.0 c.args.replaced.1) in
    let cut = c.split-line-items.ensures in
    let all =
    YieldsList-end (YieldsList-at c.into_iter-line-iterator.ensures.into_iter_gives
    (YieldsList-from_slice_split _ (λ byte. byte == 10) c.args.list.now cut.rest cut.done cut.closure (λ x r q k. search (rules, tests))))
    c.loop-line.yielded _ c.loop-line.yielded_by _ _ c.in-None.is c.next.ensures.steps in
    c.loop-line.invariant ∙ sym (flat_map-map keep (λ line. line.now) c.loop-line.yielded) ∙ ap (flat_map keep) all.0
