use Rattle.std.proofs.Common.{rules, ◌≡◌, [], ◌∷◌}
use Rattle.hex.specs.Hex.{encode_lower}
use Rattle.morris_board.proofs.PrinterLaws.{and_then}
use Rattle.morris_queries.proofs.print.put_escaped.Goals as goal

pub returns : goal.returns
returns g c =
    let digits : c.encode_to_slice.new.output ≡ encode_lower (c.args.byte ∷ []) = search rules in
    and_then c.put.ensures (rw digits at c.put_bytes.ensures)
