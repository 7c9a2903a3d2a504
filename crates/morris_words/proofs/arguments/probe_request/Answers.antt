use Rattle.std.proofs.Common.{refl}
use Rattle.morris_words.proofs.arguments.probe_request.Goals as goal

pub returns : goal.returns
returns c = (refl, ((refl, c.given.ensures, c.given-2.ensures), c.flag.ensures), tt)
