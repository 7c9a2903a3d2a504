use Rattle.std.proofs.Common.{ℕ, ◌+◌, ◌≤◌, sym, subst, arith}
use Rattle.morris_wave.specs.Nets.{times}
use Rattle.morris_wave.specs.Lists.{list_at}
use Rattle.morris_wave.proofs.node_range.NodeRange.take_in.Goals as goal

pub invariant_of-self : goal.invariant_of-self
invariant_of-self g c =
    let s = c.args.self.now in
    let made = c.take_in.ensures in
    record {
      counted = omega (arith, made.counters_len, made.frame.len, s.counted);
      small = made.small;
      inside = λ n p d l. let w = s.inside n p d l in (omega (arith, w.0, made.frame.first), omega (arith, w.1, made.frame.first, made.frame.len));
      once = λ n k l. subst (λ (f : ℕ). times (f + k) (list_at s.due n) ≤ 1) (sym made.frame.first) (s.once n k (omega (arith, l, made.frame.len)));
      room = s.room;
    }

pub take_in-requires-clause-inside : goal.take_in-requires-clause-inside
take_in-requires-clause-inside g c = c.requires.inside

pub take_in-requires-clause-counters : goal.take_in-requires-clause-counters
take_in-requires-clause-counters g c = c.args.self.now.counted

pub take_in-requires-clause-small : goal.take_in-requires-clause-small
take_in-requires-clause-small g c = c.args.self.now.small

pub take_in-requires-clause-enough : goal.take_in-requires-clause-enough
take_in-requires-clause-enough g c = λ even k l. c.requires.enough even k (omega (arith, l, c.args.self.now.counted))

pub returns-clause-taken : goal.returns-clause-taken
returns-clause-taken g c = c.take_in.ensures.taken
