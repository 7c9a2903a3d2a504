use Rattle.std.proofs.Common.{◌≡◌, ◌∙◌, ap, sym, is_some, true, option_map}
use Rattle.clap.specs.Words.{found_of}
use Rattle.clap.proofs.CallerLemmas.{some_of_text}
use Rattle.clap.proofs.WalkLemmas.{first_value-rows}
use Rattle.morris_words.proofs.ReadLaws.{not_there}
use Rattle.morris_words.proofs.arguments.given.Goals as goal

pub unreachable-requires : goal.unreachable-requires
unreachable-requires c =
    let there : is_some c.get_str.result ≡ true =
    some_of_text _ c.get_str.result _ (c.get_str.ensures ∙ first_value-rows (found_of c.args.found.now) c.args.name.now) c.requires in
    not_there c.get_str.result c.in_default.is there

pub returns : goal.returns
returns c = sym (c.get_str.ensures ∙ first_value-rows (found_of c.args.found.now) c.args.name.now) ∙ ap (option_map (λ s. s.now)) c.in-Some.is
