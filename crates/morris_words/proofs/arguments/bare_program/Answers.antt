use Rattle.std.proofs.Common.{◌≡◌, ◌∙◌, ap, codes, true}
use Rattle.std.proofs.lemmas.Result.{IfOk-weaker}
use Rattle.clap.specs.Simple.{app_of_fields}
use Rattle.clap.specs.Words.{App, app_of, new_app}
use Rattle.morris_words.specs.Words.{program}
use Rattle.morris_words.proofs.arguments.bare_program.Goals as goal

abbrev with_version : App → App
with_version a = record a { top = record a.top { has_version = true } }

pub returns : goal.returns
returns c =
    let about : app_of c.about.result ≡ new_app (codes "morris") = ap app_of_fields c.about.ensures ∙ c.new.ensures.app in
    let version : app_of c.version.result ≡ with_version (new_app (codes "morris")) = ap app_of_fields c.version.ensures ∙ ap with_version about in
    let after : app_of c.after_help.result ≡ with_version (new_app (codes "morris")) = ap app_of_fields c.after_help.ensures ∙ version in
    let wants : app_of c.subcommand_required.result ≡ program =
    ap app_of_fields c.subcommand_required.ensures ∙ ap (λ (a : App). record a { top = record a.top { subcommand_required = true } }) after in
    IfOk-weaker c.bin_name.result _ _ (λ r h. ap app_of_fields h.0 ∙ wants) c.bin_name.ensures
