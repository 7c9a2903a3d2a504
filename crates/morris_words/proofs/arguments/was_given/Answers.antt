use Rattle.std.proofs.Common.{◌∙◌, Some, ap, sym}
use Rattle.clap.specs.Words.{found_of}
use Rattle.morris_words.proofs.GivenLaws.{given_by}
use Rattle.morris_words.proofs.arguments.was_given.Goals as goal

pub returns-in-Some-DefaultValue : goal.returns-in-Some-DefaultValue
returns-in-Some-DefaultValue c =
    let here = c.in-Some-DefaultValue in
    rw (sym here.ensures ∙ ap (λ source. Some source) here.field-0-is) at (given_by (found_of c.args.found.now) c.args.name.now)

pub returns-in-Some-CommandLine : goal.returns-in-Some-CommandLine
returns-in-Some-CommandLine c =
    let here = c.in-Some-CommandLine in
    rw (sym here.ensures ∙ ap (λ source. Some source) here.field-0-is) at (given_by (found_of c.args.found.now) c.args.name.now)

pub returns-in-None : goal.returns-in-None
returns-in-None c = c.contains_id.ensures ∙ (rw (sym c.in-None.ensures) at (given_by (found_of c.args.found.now) c.args.name.now))
