use Rattle.std.proofs.Common.{◌≡◌, ℕ, List, cond, length, replicate, sym, ap, subst, ◌∙◌, arith}
use Rattle.std.specs.List.{count_by}
use Rattle.std.proofs.lemmas.List.{length-replicate}
use Rattle.std.proofs.lemmas.List.Folds.{sum_by-replicate}
use Rattle.morris_wave.specs.Exits.{is_odd, is_won_code}
use Rattle.morris_wave.specs.NodeRanges.{Ranked}
use Rattle.morris_wave.proofs.Ranks.{ranked_none}
use Rattle.morris_wave.proofs.listed.Listed.open.Goals as goal

none_won : (count : ℕ) → count_by is_won_code (replicate count 0) ≡ 0
none_won count = omega (arith, sum_by-replicate (λ x. cond {A = ℕ} (is_won_code x) 1 0) count 0)

none_lost : (count : ℕ) → count_by is_odd (replicate count 0) ≡ 0
none_lost count = omega (arith, sum_by-replicate (λ x. cond {A = ℕ} (is_odd x) 1 0) count 0)

pub invariant_of-result : goal.invariant_of-result
invariant_of-result g c =
    let codes = c.in_ok-codes.codes in
    let empty = c.in_ok-decided.ensures.empty in
    let len : length codes ≡ c.args.count = ap length c.in_ok-codes.ensures ∙ length-replicate c.args.count 0 in
    record {
      ranked = subst (λ (xs : List ℕ). Ranked g.L.NodeList.retains c.args.first 0 codes xs 0 0) (sym empty) (ranked_none c.args.first c.args.count codes c.in_ok-codes.ensures g.L.NodeList.retains);
      room = omega (arith, len, c.in_ok-decided.ensures.room);
      ends = omega (arith, len, c.requires.small);
      short = omega (arith, len, c.requires.short);
      last = omega arith;
      won_counted = sym (ap (count_by is_won_code) c.in_ok-codes.ensures ∙ none_won c.args.count);
      lost_counted = sym (ap (count_by is_odd) c.in_ok-codes.ensures ∙ none_lost c.args.count);
      counted = omega (arith, ap length empty);
    }
