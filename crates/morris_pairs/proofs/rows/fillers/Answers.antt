use Rattle.std.proofs.Common.{sym, ap, ◌∙◌, arith}
use Rattle.morris_board.specs.Sets.{is_subset}
use Rattle.morris_pairs.proofs.ComerLaws.{fillers-some, fillers-none}
use Rattle.morris_pairs.proofs.rows.fillers.Goals as goal

pub returns-then-is_subset : goal.returns-then-is_subset
returns-then-is_subset c = λ u.
    c.difference.ensures u
    ∙ fillers-some c.args.own c.args.to c.requires.free c.args.mill (omega arith)
    (ap (is_subset c.args.mill) (sym c.with.ensures) ∙ (sym c.is_subset.ensures ∙ c.if-is_subset.true)) u

pub returns-else-is_subset : goal.returns-else-is_subset
returns-else-is_subset c =
    fillers-none c.args.own c.args.to c.requires.free c.args.mill (omega arith)
    (ap (is_subset c.args.mill) (sym c.with.ensures) ∙ (sym c.is_subset.ensures ∙ c.if-is_subset.false))
