use Rattle.std.proofs.Common.{◌≡◌, ℕ, ◌+◌, ◌%◌, ◌<◌, ◌≤◌, false, length, slice_index, subst}
use Rattle.std.proofs.lemmas.Bool.{ne_eqb}
use Rattle.morris_wave.specs.Nets.{times}
use Rattle.morris_wave.specs.Exits.{is_odd}
use Rattle.morris_wave.specs.Counts.{counts_of, left_at}
use Rattle.morris_wave.specs.declared.counters.Counters.{Counters}
use Rattle.morris_wave.proofs.Widths.{bytes_fall, words_fall}
use Rattle.morris_wave.proofs.propagate.take_in.Goals as goal

pub lower_all-requires-clause-enough : goal.lower_all-requires-clause-enough
lower_all-requires-clause-enough g c =
    let first = c.args.entries.now.first in
    let even : is_odd c.args.entries.now.wave ≡ false = ne_eqb (c.args.entries.now.wave % 2) 1 c.if-entries-eq1.false in
    subst (λ (cs : Counters). (k : ℕ) → k < length (counts_of cs) → times (first + k) (g.B.NodeList.items c.args.nodes.now) ≤ left_at cs k) c.in-Bytes.is (c.requires.enough even)

pub lower_all-requires-clause-small : goal.lower_all-requires-clause-small
lower_all-requires-clause-small g c =
    subst (λ (cs : Counters). (k : ℕ) → k < length (counts_of cs) → slice_index (counts_of cs) k < 65536) c.in-Bytes.is c.requires.small

pub lower_all-requires-clause-falls : goal.lower_all-requires-clause-falls
lower_all-requires-clause-falls g c = bytes_fall

pub lower_all-requires-in-Words-clause-enough : goal.lower_all-requires-in-Words-clause-enough
lower_all-requires-in-Words-clause-enough g c =
    let first = c.args.entries.now.first in
    let even : is_odd c.args.entries.now.wave ≡ false = ne_eqb (c.args.entries.now.wave % 2) 1 c.if-entries-eq1.false in
    subst (λ (cs : Counters). (k : ℕ) → k < length (counts_of cs) → times (first + k) (g.B.NodeList.items c.args.nodes.now) ≤ left_at cs k) c.in-Words.is (c.requires.enough even)

pub lower_all-requires-in-Words-clause-small : goal.lower_all-requires-in-Words-clause-small
lower_all-requires-in-Words-clause-small g c =
    subst (λ (cs : Counters). (k : ℕ) → k < length (counts_of cs) → slice_index (counts_of cs) k < 65536) c.in-Words.is c.requires.small

pub lower_all-requires-in-Words-clause-falls : goal.lower_all-requires-in-Words-clause-falls
lower_all-requires-in-Words-clause-falls g c = words_fall

pub returns-in-Bytes-clause-small : goal.returns-in-Bytes-clause-small
returns-in-Bytes-clause-small g c = c.lower_all.ensures.small

pub returns-in-Words-clause-small : goal.returns-in-Words-clause-small
returns-in-Words-clause-small g c = c.lower_all-in-Words.ensures.small
