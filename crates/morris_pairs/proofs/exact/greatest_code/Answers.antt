use Rattle.std.proofs.Common.{ap, ◌∙◌, sym, unwrap_or}
use Rattle.std.proofs.lemmas.Iterator.Adapters.{option_map_id}
use Rattle.std.proofs.lemmas.Iterator.{YieldsList-from_slice}
use Rattle.std.proofs.lemmas.Iterator.Consumers.{max_from_yields_List, YieldsList-from_copied}
use Rattle.morris_pairs.proofs.TallyLaws.{greatest-reduce}
use Rattle.morris_pairs.proofs.exact.greatest_code.Goals as goal

pub returns : goal.returns
returns c =
    c.unwrap_or.ensures
    ∙ ap (λ o. unwrap_or o 0)
    (sym (option_map_id _) ∙ max_from_yields_List c.copied.result _ c.max.ensures.ran (YieldsList-from_copied (YieldsList-from_slice c.args.codes.now (cc))))
    ∙ greatest-reduce c.args.codes.now
