use Rattle.std.proofs.Common.{◌≡◌, ◌+◌, ◌∙◌, [], ◌∷◌, List, length, sym, ap, arith, Some}
use Rattle.std.specs.Iterator.{MakesProgress, item_count}
use Rattle.morris_index.specs.Pairs.{Counts, below_from}
use Rattle.morris_index.proofs.BelowLaws.{below-yes, below-no, below-end, below_lawful}
use Rattle.morris_index.proofs.below.BelowIterator.next.Goals as goal

progress : (s t : List Counts) (c : Counts) → s ≡ c ∷ t → MakesProgress (λ _. Unit {0}) (item_count (λ list. list)) s (Some c) t
progress s t c e = record {
  on = λ h. (tt, h, omega (arith, ap length e));
  keeps = tt;
  rests = λ h. tt;
}

pub from_counts-requires : goal.from_counts-requires
from_counts-requires g c =
    below_lawful c.loop-self.self-inside.place _ c.pair_at-greater.ensures g.B.Geometry.POINTS c.loop-self.self-inside.pair c.is_below.ensures.lawful
    (sym c.is_below.ensures.value ∙ c.if-is_below.true)

pub returns-then-is_below-clause-steps : goal.returns-then-is_below-clause-steps
returns-then-is_below-clause-steps g c =
    sym c.loop-self.invariant
    ∙ below-yes c.loop-self.self-inside.place _ c.pair_at-greater.ensures c.loop-self.self-inside.pair (sym c.is_below.ensures.value ∙ c.if-is_below.true)
    ∙ ap (λ x. x ∷ below_from c.loop-self.self-inside.pair (c.loop-self.self-inside.place + 1)) (sym c.from_counts.ensures)

pub returns-then-is_below-clause-goes : goal.returns-then-is_below-clause-goes
returns-then-is_below-clause-goes g c = progress _ _ _ (returns-then-is_below-clause-steps g c)

pub loop-self-preserved : goal.loop-self-preserved
loop-self-preserved g c =
    sym (below-no c.loop-self.self-inside.place _ c.pair_at-greater.ensures c.loop-self.self-inside.pair (sym c.is_below.ensures.value ∙ c.if-is_below.false))
    ∙ c.loop-self.invariant

pub returns-clause-steps : goal.returns-clause-steps
returns-clause-steps g c =
    let none : below_from c.loop-self.self-inside.pair c.loop-self.self-inside.place ≡ [] =
    below-end c.loop-self.self-inside.pair c.loop-self.self-inside.place (omega arith) in
    (sym c.loop-self.invariant ∙ none, none)
