use Rattle.std.proofs.Common.{List, subst}
use Rattle.std.specs.List.{All}
use Rattle.morris_index.specs.ByOpponent.{AreByOpponent}
use Rattle.morris_index.specs.Moves.{InPair}
use Rattle.morris_pairs.specs.OpponentGroups.{EntryAgrees}
use Rattle.morris_pairs.proofs.FaceLaws.{listed-agree}
use Rattle.morris_pairs.proofs.by_result.Lists.group_agrees.Goals as goal

pub returns : goal.returns
returns g c =
    let board = g.B.Geometry.shape in
    let n = g.B.Geometry.POINTS in
    let t = c.args.raw.now in
    let group : List InPair = c.list_by_opponent.new.out.items in
    let listed : AreByOpponent board n t.pair c.args.first c.args.end group =
    subst (λ p. AreByOpponent board n p c.args.first c.args.end group) c.requires.classes c.in_ok-list_by_opponent.ensures in
    λ yes. listed-agree board n g.met.B.Geometry.point_count t c.args.first c.args.end group listed
    (subst (λ (qs : List InPair). All (EntryAgrees board t) qs) c.deref-2.ensures.value (c.all_agree.ensures.agree yes))
