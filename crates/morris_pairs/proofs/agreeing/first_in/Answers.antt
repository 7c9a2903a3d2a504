-- The entries so far agree, and the next position has the next entry.
use Rattle.std.proofs.Common.{◌≡◌, ℕ, ◌+◌, ◌<◌, ◌≤◌, true, sym, ap, subst, ◌∙◌, inl, inr, arith}
use Rattle.std.proofs.lemmas.Bool.{cases_eq, false≢true}
use Rattle.morris_index.specs.Pairs.{is_of}
use Rattle.morris_pairs.specs.Agreement.{Agrees}
use Rattle.morris_pairs.proofs.agreeing.first_in.Goals as goal
use Rattle.morris_pairs.proofs.agreeing.first_in.Goals.{then-index-end, else-index-end}

more : (P : ℕ → Type 0) (first i : ℕ) → ((k : ℕ) → first ≤ k → k < i → P k) → P i → (k : ℕ) → first ≤ k → k < i + 1 → P k
more P first i before here k from low = elim (cases_eq k i) [
  | inl e ↦ subst P (sym e) here
  | inr d ↦ before k from (omega (arith, d, low))
]

pub position-position-requires : goal.position-position-requires
position-position-requires g c =
    rw (c.numbering-numbering.ensures.layout, c.numbering-numbering.ensures.pair) (omega (arith, c.requires.inside, c.if-first-end.false))

pub loop-index-init : goal.loop-index-init
loop-index-init g c =
    let layout = c.numbering-numbering.ensures.layout in
    let pair = c.numbering-numbering.ensures.pair in
    let begin = c.position-position.ensures in
    record {
      at = λ _. rw (layout, pair) at begin.entry;
      counts = rw pair at begin.counts;
      lawful = begin.lawful;
      own = rw layout at begin.own;
      row = c.of-row.ensures.row;
      same = c.of-row.ensures.own ∙ c.own.ensures.points;
      agreed = λ k from low. absurd (omega (arith, from, low));
    }

pub exits_by_row-captures-requires-clause-counts : goal.exits_by_row-captures-requires-clause-counts
exits_by_row-captures-requires-clause-counts g c = subst (λ d. is_of d c.loop-index.position ≡ true) (sym c.requires.pair) c.loop-index.invariant.counts

pub next_position-position-requires-clause-counts : goal.next_position-position-requires-clause-counts
next_position-position-requires-clause-counts g c = rw c.numbering-numbering.ensures.pair c.loop-index.invariant.counts

pub next_position-position-requires-clause-own : goal.next_position-position-requires-clause-own
next_position-position-requires-clause-own g c = rw c.numbering-numbering.ensures.layout c.loop-index.invariant.own

pub next_position-position-requires-clause-before : goal.next_position-position-requires-clause-before
next_position-position-requires-clause-before g c =
    rw (c.numbering-numbering.ensures.layout, c.numbering-numbering.ensures.pair) (ap (λ k. k + 1) (c.loop-index.invariant.at c.loop-index-test.true))

pub next_position-position-requires-clause-inside : goal.next_position-position-requires-clause-inside
next_position-position-requires-clause-inside g c =
    rw (c.numbering-numbering.ensures.layout, c.numbering-numbering.ensures.pair) (omega (arith, c.requires.inside, c.if-index-end.true))

pub loop-index-preserved : goal.loop-index-preserved
loop-index-preserved g c =
    let inv = c.loop-index.invariant in
    let t = c.args.raw.now in
    let layout = c.numbering-numbering.ensures.layout in
    let pair = c.numbering-numbering.ensures.pair in
    let agreed : (k : ℕ) → c.args.first ≤ k → k < c.loop-index.index + 1 → Agrees g.B.Geometry.shape t k =
    more (Agrees g.B.Geometry.shape t) c.args.first c.loop-index.index inv.agreed (c.agrees.ensures.0 c.if-not-agrees.false) in
    elim c.if-index-end.branch [
      | then-index-end w ↦ rw (w.position-is, w.row-is) (record {
        at = λ _. rw (layout, pair) at w.next_position-position.ensures.entry;
        counts = rw pair at w.next_position-position.ensures.counts;
        lawful = w.next_position-position.ensures.lawful;
        own = rw layout at w.next_position-position.ensures.own;
        row = w.follow.ensures.row;
        same = w.follow.ensures.own;
        agreed = agreed;
      })
      | else-index-end w ↦ rw (w.position-is, w.row-is) (record {
        at = λ low. absurd (omega (arith, low, w.if-index-end.false));
        counts = inv.counts;
        lawful = inv.lawful;
        own = inv.own;
        row = inv.row;
        same = inv.same;
        agreed = agreed;
      })
    ]

pub returns-then-not-agrees : goal.returns-then-not-agrees
returns-then-not-agrees g c = record {
  inside = c.loop-index-test.true;
  from = c.loop-index.auto.index;
  differs = λ yes. false≢true (sym c.if-not-agrees.true ∙ c.agrees.ensures.1 yes);
  before = c.loop-index.invariant.agreed;
}

pub returns : goal.returns
returns g c = λ k from low. c.loop-index.invariant.agreed k from (omega (arith, low, c.loop-index-test.false))
