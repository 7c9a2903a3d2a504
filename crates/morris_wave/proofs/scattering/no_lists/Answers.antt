use Rattle.std.proofs.Common.{length, ap, arith}
use Rattle.std.proofs.lemmas.List.{length_push}
use Rattle.morris_wave.proofs.Dealing.{empty_more}
use Rattle.morris_wave.proofs.scattering.no_lists.Goals as goal

pub loop-preserved : goal.loop-preserved
loop-preserved g c =
    let inv = c.loop.invariant in
    let old = c.loop.lists.items in
    let pushed = c.in_ok-push.ensures.items in (
      omega (arith, ap length pushed, length_push old c.empty_list.result, inv.0),
      empty_more g.L.NodeList.items old _ c.empty_list.result pushed c.empty_list.ensures inv.1,
    )
