-- The pair is refused where the board has too few points for it, and never for its numbers.
use Rattle.std.proofs.Common.{Ok, Err}
use Rattle.morris_folder_commands.proofs.FromLaws.{made_place}
use Rattle.morris_folder_commands.proofs.places.pair_at.Goals as goal

pub returns-in-Ok-clause-pair : goal.returns-in-Ok-clause-pair
returns-in-Ok-clause-pair g c =
    made_place g.B.Geometry.shape _ c.args.place _ (Ok c.in-Ok.pair) g.met.B.Geometry.point_count c.pair_at-greater.ensures c.in-Ok.ensures

pub returns-in-Err-clause-pair : goal.returns-in-Err-clause-pair
returns-in-Err-clause-pair g c =
    made_place g.B.Geometry.shape _ c.args.place _ (Err c.in-Err.field-0) g.met.B.Geometry.point_count c.pair_at-greater.ensures c.in-Err.ensures
