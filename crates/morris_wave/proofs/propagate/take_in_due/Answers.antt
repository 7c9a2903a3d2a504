use Rattle.std.proofs.Common.{◌≡◌, ℕ, ◌+◌, ◌<◌, ◌≤◌, ◌++◌, false, List, length, sym, ap, subst, ◌∙◌, append_assoc, arith}
use Rattle.std.specs.List.{All}
use Rattle.std.specs.Slice.Iter.{chunks_rest}
use Rattle.morris_wave.specs.Nets.{times}
use Rattle.morris_wave.specs.Exits.{is_odd}
use Rattle.morris_wave.specs.Counts.{counts_of, left_at}
use Rattle.morris_wave.specs.NodeRanges.{Takes}
use Rattle.morris_wave.specs.Gaps.{numbers_reported, next_reported}
use Rattle.morris_wave.specs.GapLists.{nodes_of}
use Rattle.morris_wave.proofs.Tests.{All_before, All_after}
use Rattle.morris_wave.proofs.Ranks.{times-append}
use Rattle.morris_wave.proofs.Frames.{frame_joins}
use Rattle.morris_wave.proofs.GapLists.{reported-append, next-append, next-least}
use Rattle.morris_wave.proofs.Joining.{takes_joins, left_later}
use Rattle.morris_wave.proofs.propagate.take_in_due.Given as given
use Rattle.morris_wave.proofs.propagate.take_in_due.Goals as goal
use Rattle.morris_wave.proofs.propagate.take_in_due.Goals.{In-Some}

-- the nodes of the chunk, between those that were taken in and those that are left
parts : (g : given.Over) (c : In-Some g)
    → nodes_of c.args.due.now ≡ c.loop-gaps.invariant.9 ++ (numbers_reported c.loop-gaps.next c.in-Some.gaps.now ++ numbers_reported (next_reported c.loop-gaps.next c.in-Some.gaps.now) (chunks_rest c.next.new.self))
parts g c =
    let next = c.loop-gaps.next in
    let piece = c.in-Some.gaps.now in
    c.loop-gaps.invariant.10
    ∙ ap (λ (xs : List ℕ). c.loop-gaps.invariant.9 ++ xs) (ap (numbers_reported next) c.in-Some.ensures.steps.1.0 ∙ reported-append next piece (chunks_rest c.next.new.self))

-- none of them is in another part
once : (g : given.Over) (c : In-Some g) (k : ℕ) → k < length c.args.entries.now.codes
    → times (c.args.entries.now.first + k) (c.loop-gaps.invariant.9 ++ numbers_reported c.loop-gaps.next c.in-Some.gaps.now) ≤ times (c.args.entries.now.first + k) (nodes_of c.args.due.now)
once g c k l =
    let i = c.args.entries.now.first + k in
    let done = c.loop-gaps.invariant.9 in
    let piece = numbers_reported c.loop-gaps.next c.in-Some.gaps.now in
    let rest = numbers_reported (next_reported c.loop-gaps.next c.in-Some.gaps.now) (chunks_rest c.next.new.self) in
    omega (arith, ap (times i) (parts g c), times-append i done (piece ++ rest), times-append i piece rest, times-append i done piece)

-- and each is of the range
within : (g : given.Over) (c : In-Some g)
    → All (λ i. (c.args.entries.now.first ≤ i) × (i < c.args.entries.now.first + length c.args.entries.now.codes)) (numbers_reported c.loop-gaps.next c.in-Some.gaps.now)
within g c =
    let P : ℕ → Type 0 = λ i. (c.args.entries.now.first ≤ i) × (i < c.args.entries.now.first + length c.args.entries.now.codes) in
    let done = c.loop-gaps.invariant.9 in
    let piece = numbers_reported c.loop-gaps.next c.in-Some.gaps.now in
    let rest = numbers_reported (next_reported c.loop-gaps.next c.in-Some.gaps.now) (chunks_rest c.next.new.self) in
    All_before P piece rest (All_after P done (piece ++ rest) (subst (λ (xs : List ℕ). All P xs) (parts g c) c.requires.inside))

pub read_gaps-next-requires-clause-small : goal.read_gaps-next-requires-clause-small
read_gaps-next-requires-clause-small g c =
    omega (arith, next-least c.loop-gaps.next (chunks_rest c.loop-gaps.gaps-iterator), c.loop-gaps.invariant.8, c.args.due.now.small)

pub read_gaps-next-requires-clause-short : goal.read_gaps-next-requires-clause-short
read_gaps-next-requires-clause-short g c = λ k d l. omega (arith, (within g (goal.at.read_gaps-next-requires-clause-short g c).In-Some k d l).1, c.args.entries.now.short)

pub take_in-requires-clause-inside : goal.take_in-requires-clause-inside
take_in-requires-clause-inside g c =
    let frame = c.loop-gaps.invariant.3 in
    subst (λ (xs : List ℕ). All (λ i. (c.loop-gaps.entries.first ≤ i) × (i < c.loop-gaps.entries.first + length c.loop-gaps.entries.codes)) xs) (sym c.read_gaps-next.ensures.nodes)
    (λ k d l. let w = within g (goal.at.take_in-requires-clause-inside g c).In-Some k d l in (omega (arith, w.0, frame.first), omega (arith, w.1, frame.first, frame.len)))

pub take_in-requires-clause-enough : goal.take_in-requires-clause-enough
take_in-requires-clause-enough g c = λ even k l.
    let at = (goal.at.take_in-requires-clause-enough g c).In-Some in
    let inv = c.loop-gaps.invariant in
    let first = c.args.entries.now.first in
    let piece = numbers_reported c.loop-gaps.next c.in-Some.gaps.now in
    let before : is_odd c.args.entries.now.wave ≡ false = ap is_odd (sym inv.3.wave) ∙ even in
    let inside : k < length c.args.entries.now.codes = omega (arith, l, inv.4, c.requires.counters) in
    let counted : k < length (counts_of c.args.counters.now) = omega (arith, l, inv.4) in
    let few = once g at k inside in
    subst (λ (xs : List ℕ). times (c.loop-gaps.entries.first + k) xs ≤ left_at c.loop-gaps.counters k) (sym c.read_gaps-next.ensures.nodes)
    (subst (λ (f : ℕ). times (f + k) piece ≤ left_at c.loop-gaps.counters k) (sym inv.3.first)
    (left_later c.args.counters.now c.loop-gaps.counters (first + k) k inv.9 piece inv.5 ((inv.11.even before).0 k counted) (inv.6 k l)
    (omega (arith, few, c.requires.once k inside)) (omega (arith, few, c.requires.enough before k counted))))

pub loop-gaps-preserved : goal.loop-gaps-preserved
loop-gaps-preserved g c =
    let at = (goal.at.loop-gaps-preserved g c).In-Some in
    let inv = c.loop-gaps.invariant in
    let steps = c.in-Some.ensures.steps in
    let next = c.loop-gaps.next in
    let gaps = c.in-Some.gaps.now in
    let piece = numbers_reported next gaps in
    let rest = chunks_rest c.next.new.self in
    let made = c.take_in.ensures in
    let entries = c.args.entries.now in
    let read = c.read_gaps-next.ensures in (
      omega (arith, steps.0, inv.0),
      tt,
      steps.0 ∙ inv.2,
      frame_joins entries c.loop-gaps.entries c.take_in.new.entries inv.3 made.frame,
      made.counters_len ∙ inv.4,
      made.most ∙ inv.5,
      made.small,
      read.room,
      ap (λ (n : ℕ). next_reported n rest) read.next ∙ (sym (next-append next gaps rest) ∙ (ap (next_reported next) (sym steps.1.0) ∙ inv.8)),
      inv.9 ++ piece,
      parts g at
          ∙ (sym (append_assoc inv.9 piece (numbers_reported (next_reported next gaps) rest))
          ∙ ap (λ (n : ℕ). (inv.9 ++ piece) ++ numbers_reported n rest) (sym read.next)),
      takes_joins entries.wave entries.first inv.9 piece entries.codes c.loop-gaps.entries.codes c.take_in.new.entries.codes
          (counts_of c.args.counters.now) (counts_of c.loop-gaps.counters) (counts_of c.take_in.new.counters) inv.3.len inv.4 c.requires.counters
          (λ k l. omega (arith, once g at k l, c.requires.once k l)) (λ k l. made.small k (omega (arith, l, made.counters_len, inv.4, c.requires.counters))) inv.11
          (subst (λ (xs : List ℕ). Takes entries.wave entries.first xs c.loop-gaps.entries.codes c.take_in.new.entries.codes (counts_of c.loop-gaps.counters) (counts_of c.take_in.new.counters)) read.nodes
          (subst (λ (f : ℕ). Takes entries.wave f (g.L.NodeList.items c.read_gaps-next.new.nodes) c.loop-gaps.entries.codes c.take_in.new.entries.codes (counts_of c.loop-gaps.counters) (counts_of c.take_in.new.counters)) inv.3.first
          (subst (λ (w : ℕ). Takes w c.loop-gaps.entries.first (g.L.NodeList.items c.read_gaps-next.new.nodes) c.loop-gaps.entries.codes c.take_in.new.entries.codes (counts_of c.loop-gaps.counters) (counts_of c.take_in.new.counters)) inv.3.wave made.taken))),
    )
