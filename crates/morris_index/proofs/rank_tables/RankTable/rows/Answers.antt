use Rattle.std.proofs.Common.{◌+◌, ◌-◌, ◌*◌, ◌≤◌, ◌∙◌, ℕ, sym, ap, arith, length, get_or}
use Rattle.std.proofs.Math.ListN.{drop}
use Rattle.std.proofs.lemmas.List.{length-take-le, length-drop, get_or-take, get_or-drop}
use Rattle.morris_index.proofs.rank_tables.RankTable.rows.Goals as goal

pub slice_bounds-result-end : goal.slice_bounds-result-end
slice_bounds-result-end c = sym (length-take-le 4096 c.deref.result.now (omega (arith, c.deref.ensures.len, c.args.self.now.full.len)))

pub invariant_of-result : goal.invariant_of-result
invariant_of-result c =
    let table = c.args.self.now.full in
    let lower = c.deref.result.now in
    let upper = c.deref-2.result.now in
    let start : ℕ = (1 + c.from.result) * 4096 in
    let room : start + 4096 - start ≤ length (drop start upper) =
    omega (arith, length-drop start upper, c.deref-2.ensures.len, table.len, c.from.ensures, c.requires) in
    record {
      few = c.requires;
      lower_len = length-take-le 4096 lower (omega (arith, c.deref.ensures.len, table.len));
      upper_len = length-take-le (start + 4096 - start) (drop start upper) room ∙ omega arith;
      lower = λ points low few. get_or-take 4096 lower points 0 low ∙ ap (λ xs. get_or xs points 0) c.deref.ensures.value ∙ table.lower points low few;
      upper = λ points low few.
          get_or-take (start + 4096 - start) (drop start upper) points 0 (omega (arith, low))
          ∙ get_or-drop start upper points 0
          ∙ ap (λ xs. get_or xs (start + points) 0) c.deref-2.ensures.value
          ∙ ap (λ n. get_or c.args.self.now.sums.items ((1 + n) * 4096 + points) 0) c.from.ensures
          ∙ table.upper c.args.count points c.requires low few;
    }
