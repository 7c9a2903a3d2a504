use Rattle.std.proofs.Common.{arith, refl}
use Rattle.morris_words.proofs.arguments.look_request.Goals as goal

pub number-requires : goal.number-requires
number-requires c = (0, 6, omega arith, c.requires.1.1.0)

pub returns : goal.returns
returns c =
    let range = c.number.ensures.range 0 6 (omega arith) c.requires.1.1.0 in
    (refl, ((refl, c.given.ensures, c.given-2.ensures, c.number.ensures.value), refl), range.1)
