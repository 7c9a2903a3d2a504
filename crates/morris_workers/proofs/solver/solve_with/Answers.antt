-- Once the numbers are in range, what a solver refuses is what one kind of lists or the other refuses.
use Rattle.std.proofs.Common.{IfErr, subst}
use Rattle.morris_wave.proofs.Plies.{ply_rules, code_rules}
use Rattle.morris_workers.specs.Ranges.{Tells}
use Rattle.morris_workers.proofs.Faults.{late_refusal}
use Rattle.morris_workers.proofs.solver.solve_with.Goals as goal

pub returns-in_err-check_numbers-clause-plies : goal.returns-in_err-check_numbers-clause-plies
returns-in_err-check_numbers-clause-plies g c = ply_rules _

pub returns-in_err-check_numbers-clause-outcome : goal.returns-in_err-check_numbers-clause-outcome
returns-in_err-check_numbers-clause-outcome g c = code_rules _

pub returns-then-size-short-clause-plies : goal.returns-then-size-short-clause-plies
returns-then-size-short-clause-plies g c = ply_rules _

pub returns-then-size-short-clause-outcome : goal.returns-then-size-short-clause-outcome
returns-then-size-short-clause-outcome g c = code_rules _

pub returns-then-size-short-clause-refused : goal.returns-then-size-short-clause-refused
returns-then-size-short-clause-refused g c =
    late_refusal (g.G.Name.Levels.net (g.G.Graph.level c.args.graph.now)) c.args.workers c.args.blocks c.solve_as.result c.in_ok-check_numbers.ensures
    (subst (λ n. IfErr c.solve_as.result (Tells (g.G.Name.Levels.net (g.G.Graph.level c.args.graph.now)) n)) c.cut_into-cut.ensures.parts c.solve_as.ensures.reported)

pub returns-else-size-short-clause-plies : goal.returns-else-size-short-clause-plies
returns-else-size-short-clause-plies g c = ply_rules _

pub returns-else-size-short-clause-outcome : goal.returns-else-size-short-clause-outcome
returns-else-size-short-clause-outcome g c = code_rules _

pub returns-else-size-short-clause-refused : goal.returns-else-size-short-clause-refused
returns-else-size-short-clause-refused g c =
    late_refusal (g.G.Name.Levels.net (g.G.Graph.level c.args.graph.now)) c.args.workers c.args.blocks c.solve_as-else-size-short.result c.in_ok-check_numbers.ensures
    (subst (λ n. IfErr c.solve_as-else-size-short.result (Tells (g.G.Name.Levels.net (g.G.Graph.level c.args.graph.now)) n)) c.cut_into-cut.ensures.parts c.solve_as-else-size-short.ensures.reported)
