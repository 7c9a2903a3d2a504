use Rattle.std.proofs.Common.{◌*◌, ◌∙◌, sym, ap}
use Rattle.std.specs.Int.{w16, from_be_bytes}
use Rattle.morris_lookup.proofs.PieceLaws.{two_at}
use Rattle.morris_lookup.proofs.codes.code_in.Goals as goal

pub returns : goal.returns
returns c = c.from_be_bytes.ensures ∙ ap (from_be_bytes w16) (sym (two_at c.args.chunk.now (2 * c.args.place) c.requires))
