use Rattle.std.proofs.Common.{arith}
use Rattle.morris_wave.specs.GapLists.{nodes_of}
use Rattle.morris_wave.proofs.Dealing.{put_is}
use Rattle.morris_wave.proofs.due.put_due.Goals as goal

pub returns-clause-put : goal.returns-clause-put
returns-clause-put c =
    put_is nodes_of c.args.lists.now.items c.args.wave c.args.node c.index_mut-list.result.now c.put.new.self (omega (arith, c.requires.wave, c.args.lists.now.ok.0)) c.index_mut-list.ensures.value
    c.in_ok-put.ensures.nodes
