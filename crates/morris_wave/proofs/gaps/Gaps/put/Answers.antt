use Rattle.std.proofs.Common.{◌≡◌, ◌<◌, ◌≤◌, ◌+◌, ◌-◌, ◌++◌, ◌∷◌, [], ℕ, List, sym, ap, ◌∙◌, arith}
use Rattle.morris_wave.specs.Gaps.{numbers_reported, next_reported}
use Rattle.morris_wave.proofs.GapLists.{put_near, after_near}
use Rattle.morris_wave.proofs.gaps.Gaps.put.Goals as goal

pub invariant_of-self-2 : goal.invariant_of-self-2
invariant_of-self-2 c =
    let s = c.loop.self in
    let gap = c.args.node - s.next in
    let near : (s.next ≤ c.args.node) × (gap < 65535) =
    (omega (arith, c.loop.invariant.1, c.loop.auto.counter-end, c.requires.next), omega (arith, c.loop.invariant.1, c.loop-test.false, c.loop.auto.counter-end, c.requires.next)) in
    let back : c.args.node + 1 ≡ s.next + gap + 1 = omega (arith, near.0) in
    record {
      reported = back ∙ after_near s.first s.next s.gaps.items s.reported gap (λ e. omega (arith, e, near.1)) ∙ ap (next_reported s.first) (sym c.in_ok-push.ensures.items);
      small = omega (arith, c.requires.small);
    }

pub returns-clause-nodes : goal.returns-clause-nodes
returns-clause-nodes c =
    let s = c.loop.self in
    let gap = c.args.node - s.next in
    let near : (s.next ≤ c.args.node) × (gap < 65535) =
    (omega (arith, c.loop.invariant.1, c.loop.auto.counter-end, c.requires.next), omega (arith, c.loop.invariant.1, c.loop-test.false, c.loop.auto.counter-end, c.requires.next)) in
    let back : s.next + gap ≡ c.args.node = omega (arith, near.0) in
    ap (numbers_reported s.first) c.in_ok-push.ensures.items
    ∙ put_near s.first s.next s.gaps.items s.reported gap (λ e. omega (arith, e, near.1))
    ∙ ap (λ (n : ℕ). numbers_reported s.first s.gaps.items ++ n ∷ []) back
    ∙ ap (λ (xs : List ℕ). xs ++ c.args.node ∷ []) c.loop.invariant.0
