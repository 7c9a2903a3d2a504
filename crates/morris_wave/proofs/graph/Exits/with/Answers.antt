use Rattle.std.proofs.Common.{sym, ap, ◌∙◌}
use Rattle.morris_wave.specs.Summaries.{add_code}
use Rattle.morris_wave.proofs.Summaries.{exits_of-more}
use Rattle.morris_wave.proofs.graph.Exits.with.Goals as goal

pub returns-clause-more : goal.returns-clause-more
returns-clause-more c = λ codes is. c.one_more.ensures ∙ (ap (λ e. add_code e c.args.code) is ∙ sym (exits_of-more codes c.args.code))
