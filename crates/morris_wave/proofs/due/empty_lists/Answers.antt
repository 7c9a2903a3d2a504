use Rattle.std.proofs.Common.{◌≤◌, List, length, ap, sym, subst, arith}
use Rattle.std.specs.List.{All}
use Rattle.std.proofs.lemmas.List.{length_push}
use Rattle.std.proofs.lemmas.List.Elements.{All-push}
use Rattle.morris_wave.specs.declared.gaps.Gaps.{Gaps}
use Rattle.morris_wave.specs.GapLists.{nodes_of}
use Rattle.morris_wave.proofs.Dealing.{empty_more}
use Rattle.morris_wave.proofs.due.empty_lists.Goals as goal

pub loop-count-preserved : goal.loop-count-preserved
loop-count-preserved c =
    let inv = c.loop-count.invariant in
    let old = c.loop-count.lists.items in
    let list = c.in_ok-with_room.field-0 in
    let pushed = c.in_ok-push.ensures.items in (
      omega (arith, ap length pushed, length_push old list, inv.0),
      empty_more nodes_of old _ list pushed c.in_ok-with_room.ensures.empty inv.1,
      subst (λ (xs : List Gaps). All (λ list. list.next ≤ c.args.first) xs) (sym pushed)
          (All-push (λ (list : Gaps). list.next ≤ c.args.first) old list inv.2 (omega (arith, c.in_ok-with_room.ensures.next))),
    )
