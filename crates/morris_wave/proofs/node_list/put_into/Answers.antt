use Rattle.std.proofs.Common.{arith}
use Rattle.morris_wave.proofs.Dealing.{put_is}
use Rattle.morris_wave.proofs.node_list.put_into.Goals as goal

pub returns-clause-put : goal.returns-clause-put
returns-clause-put g c =
    put_is g.L.NodeList.items c.args.lists.now.items c.args.target c.args.node c.index_mut-list.result.now c.add.new.self (omega (arith, c.requires.target, c.args.lists.now.ok.0)) c.index_mut-list.ensures.value
    c.in_ok-add.ensures
