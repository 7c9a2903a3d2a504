use Rattle.std.proofs.Common.{rules}
use Rattle.hex.specs.Hex.{encode_lower}
use Rattle.morris_board.specs.Printers.{Takes}
use Rattle.morris_board.proofs.PrinterLaws.{and_then}
use Rattle.morris_folder_commands.proofs.print_filed.put_digest.Goals as goal

pub returns : goal.returns
returns g c =
    let all : Takes g.S.Sink.contents g.S.Sink.failures c.put.new.self c.put_bytes.new.self (encode_lower c.args.digest.now) = search rules in
    and_then (and_then c.put.ensures all) c.put-2.ensures
