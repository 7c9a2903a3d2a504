use Rattle.std.proofs.Common.{◌≡◌, ℕ, true, false, List, get_or, refl, sym, ap, ◌∙◌, arith}
use Rattle.std.specs.Prelude.{if◌then◌else◌}
use Rattle.morris_pairs.specs.Codes.{value_in}
use Rattle.morris_queries.specs.declared.wanted.Kind.{Kind}
use Rattle.morris_queries.specs.Wanted.{is_of_kind}
use Rattle.morris_queries.proofs.FoundLaws.{sum_next}
use Rattle.morris_queries.proofs.find.sum_of.Goals as goal

abbrev share : Kind → List ℕ → ℕ → ℕ
share kind tallies code = if is_of_kind kind (value_in code) then get_or tallies code 0 else 0

pub loop-code-preserved : goal.loop-code-preserved
loop-code-preserved c =
    let kind = c.in-Some.kind in
    let code = c.loop-code.code in
    let of : is_of_kind kind (value_in code) ≡ true = ap (is_of_kind kind) (sym c.value_of_code.ensures) ∙ (sym c.has.ensures ∙ c.if-not-has.false) in
    let here : share kind c.args.tallies.now code ≡ get_or c.args.tallies.now code 0 = rw of refl in
    record {
      sum = omega (arith, c.loop-code.invariant.sum, sum_next (share kind c.args.tallies.now) code, here);
      small = omega (arith, c.loop-code.invariant.small, c.requires.small code);
    }

-- a code of another kind adds nothing
pub loop-code-preserved-then-not-has : goal.loop-code-preserved-then-not-has
loop-code-preserved-then-not-has c =
    let kind = c.in-Some.kind in
    let code = c.loop-code.code in
    let of : is_of_kind kind (value_in code) ≡ false = ap (is_of_kind kind) (sym c.value_of_code.ensures) ∙ (sym c.has.ensures ∙ c.if-not-has.true) in
    let here : share kind c.args.tallies.now code ≡ 0 = rw of refl in
    record {
      sum = omega (arith, c.loop-code.invariant.sum, sum_next (share kind c.args.tallies.now) code, here);
      small = omega (arith, c.loop-code.invariant.small);
    }
