use Rattle.morris_index.specs.Numbering.{number_outside}
use Rattle.morris_index.proofs.Unranking.{IsUnranking}
use Rattle.morris_index.proofs.ranks.unrank.Given as goal

abbrev pub invariant-loop-left : goal.invariant-loop-left
invariant-loop-left l = IsUnranking (number_outside l.fn.outside l.fn.points) l.fn.count l.fn.rank l.left l.rest l.numbers

abbrev pub decreases-loop-left : goal.decreases-loop-left
decreases-loop-left l = l.left
