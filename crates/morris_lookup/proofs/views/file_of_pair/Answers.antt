use Rattle.std.proofs.Common.{refl, sym, ◌∙◌}
use Rattle.morris_lookup.proofs.FoundLaws.{first-here, first-later, none-left}
use Rattle.morris_lookup.proofs.views.file_of_pair.Goals as goal

pub loop-view-init : goal.loop-view-init
loop-view-init g c = refl

pub returns-then-names_pair : goal.returns-then-names_pair
returns-then-names_pair g c =
    sym (c.loop-view.invariant ∙ first-here c.args.pair c.args.files.now c.loop-view.view-index _ c.loop-view-test.true (sym c.names_pair.ensures ∙ c.if-names_pair.true))

pub loop-view-preserved : goal.loop-view-preserved
loop-view-preserved g c =
    c.loop-view.invariant ∙ first-later c.args.pair c.args.files.now c.loop-view.view-index _ c.loop-view-test.true (sym c.names_pair.ensures ∙ c.if-names_pair.false)

pub returns : goal.returns
returns g c = sym (c.loop-view.invariant ∙ none-left c.args.pair c.args.files.now c.loop-view.view-index c.loop-view-test.false)
