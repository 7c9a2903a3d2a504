use Rattle.std.proofs.Common.{◌≡◌}
use Rattle.morris_commands.specs.Deepest.{IsGreatestStated}
use Rattle.morris_commands.proofs.DeepLaws.{code_found}
use Rattle.morris_commands.proofs.deepest.deepest_entry.Given as goal

-- what was found among the entries so far, and its code
abbrev pub invariant-loop-entry : goal.invariant-loop-entry
invariant-loop-entry g l = record {
  found : IsGreatestStated l.outcome l.table.codes l.entry l.found;
  greatest : l.greatest ≡ code_found l.table.codes l.found;
}
