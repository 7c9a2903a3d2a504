use Rattle.std.proofs.Common.{◌∙◌, ap, sym, is_some}
use Rattle.clap.specs.Words.{found_of}
use Rattle.clap.proofs.WalkLemmas.{first_value-rows}
use Rattle.morris_words.proofs.ReadLaws.{mapped_there}
use Rattle.morris_words.proofs.arguments.optional.Goals as goal

pub returns : goal.returns
returns c =
    let read = c.get_str.ensures ∙ first_value-rows (found_of c.args.found.now) c.args.name.now in
    (sym read, c.requires ∙ (ap is_some (sym read) ∙ mapped_there (λ t. t.now) c.get_str.result))
