use Rattle.std.proofs.Common.{◌≡◌, ◌<◌, ◌≤◌, ℕ, ◌+◌, List, length, slice_index_or, sym, ap, subst, ◌∙◌, arith}
use Rattle.std.specs.List.{All}
use Rattle.morris_wave.specs.Nets.{times}
use Rattle.morris_wave.specs.Lists.{list_at}
use Rattle.morris_wave.specs.Exits.{is_odd}
use Rattle.morris_wave.proofs.DueLists.{gone_keeps}
use Rattle.morris_wave.proofs.node_range.NodeRange.next_wave.Goals as goal

pub take_in_due-requires-clause-inside : goal.take_in_due-requires-clause-inside
take_in_due-requires-clause-inside g c =
    let s = c.args.self.now in
    let is = c.take-due.ensures.nodes in
    λ p d l.
    let w = subst (λ (xs : List ℕ). (p : ℕ) (d : ℕ) → p < length xs → (s.entries.first ≤ slice_index_or xs p d) × (slice_index_or xs p d < s.entries.first + length s.entries.codes)) (sym is) (s.inside c.next_wave.new.self.wave) p d l in
    (omega (arith, w.0, c.next_wave.ensures.first), omega (arith, w.1, c.next_wave.ensures.first, ap length c.next_wave.ensures.codes))

pub take_in_due-requires-clause-once : goal.take_in_due-requires-clause-once
take_in_due-requires-clause-once g c = λ k l.
    let s = c.args.self.now in
    rw (c.take-due.ensures.nodes, c.next_wave.ensures.first) (s.once c.next_wave.new.self.wave k (omega (arith, l, ap length c.next_wave.ensures.codes)))

pub take_in_due-requires-clause-enough : goal.take_in_due-requires-clause-enough
take_in_due-requires-clause-enough g c = λ even k l.
    let s = c.args.self.now in
    let wave : c.next_wave.new.self.wave ≡ s.entries.wave + 1 = c.next_wave.ensures.wave in
    let place : k < length s.entries.codes = omega (arith, l, s.counted) in
    rw (c.take-due.ensures.nodes, wave, c.next_wave.ensures.first) (c.requires.enough (ap is_odd (sym wave) ∙ even) k place)

pub invariant_of-self : goal.invariant_of-self
invariant_of-self g c =
    let s = c.args.self.now in
    let made = c.take_in_due.ensures in
    let new = c.take_in_due.new.entries in
    let first : new.first ≡ s.entries.first = made.frame.first ∙ c.next_wave.ensures.first in
    let len : length new.codes ≡ length s.entries.codes = made.frame.len ∙ ap length c.next_wave.ensures.codes in
    record {
      counted = omega (arith, made.counters_len, len, s.counted);
      small = made.small;
      inside = λ n.
          subst (λ (xs : List (List ℕ)). All (λ i. (new.first ≤ i) × (i < new.first + length new.codes)) (list_at xs n)) (sym c.take-due.ensures.gone)
          (gone_keeps s.due _ (λ xs. All (λ i. (new.first ≤ i) × (i < new.first + length new.codes)) xs)
          (λ p d l. absurd (omega (arith, l))) n
          (λ p d l. let w = s.inside n p d l in (omega (arith, w.0, first), omega (arith, w.1, first, len))));
      once = λ n k l.
          subst (λ (xs : List (List ℕ)). times (new.first + k) (list_at xs n) ≤ 1) (sym c.take-due.ensures.gone)
          (gone_keeps s.due _ (λ xs. times (new.first + k) xs ≤ 1) (omega arith) n
          (subst (λ (f : ℕ). times (f + k) (list_at s.due n) ≤ 1) (sym first) (s.once n k (omega (arith, l, len)))));
      room = made.room;
    }

pub take_in_due-requires-clause-counters : goal.take_in_due-requires-clause-counters
take_in_due-requires-clause-counters g c = omega (arith, ap length c.next_wave.ensures.codes, c.args.self.now.counted)

pub take_in_due-requires-clause-small : goal.take_in_due-requires-clause-small
take_in_due-requires-clause-small g c = c.args.self.now.small

pub returns-clause-len : goal.returns-clause-len
returns-clause-len g c = c.take_in_due.ensures.frame.len ∙ ap length c.next_wave.ensures.codes

pub returns-clause-first : goal.returns-clause-first
returns-clause-first g c = c.take_in_due.ensures.frame.first ∙ c.next_wave.ensures.first

pub returns-clause-wave : goal.returns-clause-wave
returns-clause-wave g c = c.take_in_due.ensures.frame.wave ∙ c.next_wave.ensures.wave
