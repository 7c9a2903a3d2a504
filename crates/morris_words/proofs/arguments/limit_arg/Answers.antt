use Rattle.std.proofs.Common.{◌≡◌, ◌∙◌, Some, ap}
use Rattle.std.specs.Prelude.{pos}
use Rattle.clap.specs.declared.builder.value_parser.ValueParser.TheVariants as parser
use Rattle.morris_words.proofs.ArgLaws.{with_parser}
use Rattle.morris_words.proofs.arguments.limit_arg.Goals as goal

pub returns : goal.returns
returns c =
    let given = c.value_parser-2.ensures.given in
    let narrowed : c.range-numbers.result ≡ parser.Signed (pos 1) (pos 4294967295) = rw (c.value_parser.ensures, c.new.ensures.start, c.new.ensures.end) at c.range-numbers.ensures in
    let kept : c.value_parser-2.result.value_parser ≡ Some (parser.Signed (pos 1) (pos 4294967295)) = given.1 ∙ ap (λ q. Some q) (given.2 ∙ narrowed) in
    with_parser c.option_arg.result c.value_parser-2.result _ _ c.value_parser-2.ensures.others kept c.option_arg.ensures
