-- An exit that comes due after the last wave shows that the graph is too deep.
use Rattle.std.proofs.Common.{◌≡◌, ℕ, List, [], ◌∷◌, ◌++◌, is_none, sym, ap, ap₂, ◌∙◌, subst, arith, rules}
use Rattle.std.proofs.lemmas.List.{map-append}
use Rattle.std.proofs.lemmas.Result.{err_from_is_err_and}
use Rattle.morris_wave.specs.Values.{IsTooDeep}
use Rattle.morris_wave.specs.Blocks.{BlockState}
use Rattle.morris_workers.specs.Making.{block_numbers}
use Rattle.morris_workers.proofs.making.make_drawn.Goals as goal

pub loop-number-preserved : goal.loop-number-preserved
loop-number-preserved g c =
    let items : c.push.new.self.items ≡ c.loop-number.made.items ++ c.in_ok-block.block ∷ [] = search rules in
    let number : c.in_ok-block.block.number ≡ c.in-Some.number = ap (λ (s : BlockState). s.number) c.in_ok-block.ensures in
    record {
      seat = c.draw.ensures.seat;
      ready = c.draw.ensures.ended ∙ ap is_none c.in-Some.is;
      numbers = ap block_numbers items
          ∙ (map-append (λ (s : BlockState). s.number) c.loop-number.made.items (c.in_ok-block.block ∷ [])
          ∙ (ap₂ (λ (xs : List ℕ) (n : ℕ). xs ++ n ∷ []) c.loop-number.invariant.numbers number ∙ sym c.in-Some.ensures.appended));
      reported = g.met.W.Watch.joins c.args.watch.now c.loop-number.watch c.entries.new.self c.loop-number.invariant.reported c.entries.ensures;
    }

pub returns-then-last_due-from-clause-drawn : goal.returns-then-last_due-from-clause-drawn
returns-then-last_due-from-clause-drawn g c =
    let deep = subst (λ l. IsTooDeep (g.G.Name.Levels.net l)) (ap (λ (s : BlockState). s.level) c.in_ok-block.ensures) (c.last_due.ensures.deep (omega (arith, c.from.ensures))) in
    record { of = c.draw.ensures.seat; numbers = tt; ended = tt; fault = deep }

pub returns-in_err-block-clause-drawn : goal.returns-in_err-block-clause-drawn
returns-in_err-block-clause-drawn g c =
    let failed = err_from_is_err_and c.from_residual.result c.from_residual.ensures.1 in
    rw (failed.1, failed.2) (record { of = c.draw.ensures.seat; numbers = tt; ended = tt; fault = tt })

pub returns-in_err-map_err-clause-drawn : goal.returns-in_err-map_err-clause-drawn
returns-in_err-map_err-clause-drawn g c =
    let failed = err_from_is_err_and c.from_residual-in_err-map_err.result c.from_residual-in_err-map_err.ensures.1 in
    rw (failed.1, failed.2) (record { of = c.draw.ensures.seat; numbers = tt; ended = tt; fault = tt })
