use Rattle.std.proofs.Common.{◌<◌, ℕ, List, length, slice_index_or, subst, ◌∙◌, arith}
use Rattle.std.specs.List.{All}
use Rattle.std.proofs.lemmas.Result.{err_from_is_err_and}
use Rattle.morris_wave.specs.Blocks.{BlockState, IsSettled}
use Rattle.morris_workers.proofs.Faults.{gather_tells}
use Rattle.morris_workers.proofs.solver.codes_of.Goals as goal

pub returns-in_err-gather_from-clause-fault : goal.returns-in_err-gather_from-clause-fault
returns-in_err-gather_from-clause-fault g c =
    let p = err_from_is_err_and c.from_residual.result c.from_residual.ensures.1 in
    let fit = subst (λ (bs : List BlockState). All (λ s. IsSettled (g.N.Levels.net s.level) s × (s.number < length bs)) bs) c.deref.ensures.value c.in_default.ensures.none in
    rw (p.1, p.2)
    (gather_tells (g.N.Levels.net c.args.level) c.args.level c.args.wave c.args.cut.now c.args.blocks.items c.in_err-gather_from.field-0.0 (omega (arith, c.requires, c.args.blocks.ok.0)) (λ k d l. (fit k d l).1)
    c.in_err-gather_from.ensures.fault)

pub returns-clause-codes : goal.returns-clause-codes
returns-clause-codes g c =
    let made = c.in_ok-gather_from.ensures.gathered in
    let fit = subst (λ (bs : List BlockState). All (λ s. IsSettled (g.N.Levels.net s.level) s × (s.number < length bs)) bs) c.deref.ensures.value c.in_default.ensures.none in
    let all : All (IsSettled (g.N.Levels.net c.args.level)) c.args.blocks.items =
    λ k d l. subst (λ (n : ℕ). IsSettled (g.N.Levels.net n) (slice_index_or c.args.blocks.items k d)) (made.fit k d l).level_is (fit k d l).0 in
    record {
      len = made.known.len ∙ c.requires.size;
      each = λ i l. made.settled all i (omega (arith, l, c.requires.size));
      not_too_deep = made.deep all;
    }
