-- Entry by entry, the members that the next position gives are added.
use Rattle.std.proofs.Common.{◌≡◌, ◌+◌, ◌++◌, sym, ap, subst, ◌∙◌, arith}
use Rattle.morris_index.specs.ByOpponent.{by_opponent, AreByOpponent}
use Rattle.morris_index.proofs.FacingLaws.{by_opponents-more}
use Rattle.morris_index.proofs.by_opponent.list_by_opponent.Goals as goal
use Rattle.morris_index.proofs.by_opponent.list_by_opponent.Goals.{then-entry-end, else-entry-end}

pub loop-entry-preserved : goal.loop-entry-preserved
loop-entry-preserved g c =
    let board = g.B.Geometry.shape in
    let before = c.loop-entry.invariant in
    let listed : AreByOpponent board g.B.Geometry.POINTS c.args.pair.now c.args.first (c.loop-entry.entry + 1) c.add.new.out.items =
    subst (AreByOpponent board g.B.Geometry.POINTS c.args.pair.now c.args.first (c.loop-entry.entry + 1))
    (sym (c.in_ok-add.ensures ∙ ap (λ k. c.loop-entry.out.items ++ by_opponent board k c.loop-entry.position) before.pair))
    (by_opponents-more board g.B.Geometry.POINTS g.met.B.Geometry.few g.met.B.Geometry.point_count g.met.B.Geometry.has_symmetries c.args.pair.now c.pair.ensures.lawful
    c.args.first c.loop-entry.entry c.loop-entry.out.items c.loop-entry.position before.lawful before.counts before.own (before.at c.loop-entry-test.true) before.listed) in
    elim c.if-entry-end.branch [
      | then-entry-end w ↦ record {
        at = λ h. rw w.position-is w.next_position-position.ensures.index;
        counts = rw w.position-is w.next_position-position.ensures.counts;
        lawful = rw w.position-is w.next_position-position.ensures.lawful;
        own = rw w.position-is w.next_position-position.ensures.own;
        pair = rw w.by_opponent-is (w.follow.ensures.pair ∙ before.pair);
        same = rw (w.position-is, w.by_opponent-is) (sym w.follow.ensures.own);
        listed = listed;
      }
      | else-entry-end w ↦ record {
        at = λ h. absurd (omega (arith, h, w.if-entry-end.false));
        counts = rw w.position-is before.counts;
        lawful = rw w.position-is before.lawful;
        own = rw w.position-is before.own;
        pair = rw w.by_opponent-is before.pair;
        same = rw (w.position-is, w.by_opponent-is) before.same;
        listed = listed;
      }
    ]

pub returns : goal.returns
returns g c =
    let end : c.loop-entry.entry ≡ c.args.end = omega (arith, c.loop-entry-test.false, c.if-first-end.false) in
    subst (λ k. AreByOpponent g.B.Geometry.shape g.B.Geometry.POINTS c.args.pair.now c.args.first k c.loop-entry.out.items) end c.loop-entry.invariant.listed
