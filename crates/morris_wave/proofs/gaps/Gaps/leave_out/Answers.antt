use Rattle.std.proofs.Common.{sym, ap, ◌∙◌, arith}
use Rattle.morris_wave.specs.Gaps.{numbers_reported, next_reported}
use Rattle.morris_wave.proofs.GapLists.{put_far, after_far}
use Rattle.morris_wave.proofs.gaps.Gaps.leave_out.Goals as goal

pub invariant_of-self-2 : goal.invariant_of-self-2
invariant_of-self-2 c =
    let s = c.args.self.now in
    record {
      reported = after_far s.first s.next s.gaps.items s.reported ∙ ap (next_reported s.first) (sym c.in_ok-push.ensures.items);
      small = omega (arith, c.requires);
    }

pub returns-clause-nodes : goal.returns-clause-nodes
returns-clause-nodes c =
    let s = c.args.self.now in
    ap (numbers_reported s.first) c.in_ok-push.ensures.items ∙ put_far s.first s.next s.gaps.items s.reported
