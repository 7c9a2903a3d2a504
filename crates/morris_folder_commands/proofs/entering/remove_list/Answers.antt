-- A list that isn't removed has a cause.
use Rattle.std.proofs.Common.{arith, inl}
use Rattle.morris_folder_commands.proofs.entering.remove_list.Goals as goal

pub returns-in-Err-clause-caused : goal.returns-in-Err-clause-caused
returns-in-Err-clause-caused g c = inl (omega (arith, c.in-Err.ensures.counted))

pub returns-clause-caused : goal.returns-clause-caused
returns-clause-caused g c = inl (omega (arith, c.in-Err-settle.ensures.counted, c.in-Ok-remove.ensures.counted))
