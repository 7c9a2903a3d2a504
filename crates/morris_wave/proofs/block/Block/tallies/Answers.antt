use Rattle.std.proofs.Common.{◌≡◌, ◌+◌, ◌-◌, ℕ, eqb, length, ap, ◌∙◌, arith}
use Rattle.std.specs.List.{count_by}
use Rattle.morris_wave.specs.Exits.{is_odd, is_won_code}
use Rattle.morris_wave.proofs.Settled.{codes_entries, three_kinds}
use Rattle.morris_wave.proofs.block.Block.tallies.Goals as goal

pub overflow_sub-result : goal.overflow_sub-result
overflow_sub-result g c =
    let entries = c.self.inside.node_range.entries in
    omega (arith, entries.won_counted, entries.lost_counted, three_kinds entries.codes, c.len.ensures)

pub returns : goal.returns
returns g c =
    let entries = c.self.inside.node_range.entries in
    let same = codes_entries (g.N.Levels.lawful c.self.inside.level) c.self.invariant in
    let all : entries.won + entries.lost + (c.len.result - (entries.won + entries.lost)) ≡ length entries.codes =
    omega (arith, entries.won_counted, entries.lost_counted, three_kinds entries.codes, c.len.ensures) in
    let undecided : c.len.result - (entries.won + entries.lost) ≡ count_by (λ (x : ℕ). eqb x 0) entries.codes =
    omega (arith, entries.won_counted, entries.lost_counted, three_kinds entries.codes, c.len.ensures) in
    rw (← c.self.view_is) (record {
      all = all ∙ c.self.invariant.count_is;
      won = entries.won_counted ∙ ap (count_by is_won_code) same;
      lost = entries.lost_counted ∙ ap (count_by is_odd) same;
      undecided = undecided ∙ ap (count_by (λ (x : ℕ). eqb x 0)) same;
    })
