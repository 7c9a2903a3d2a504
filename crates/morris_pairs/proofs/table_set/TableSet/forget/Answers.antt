use Rattle.morris_pairs.proofs.TableSetLaws.{forgotten, forgotten-tables}
use Rattle.morris_pairs.proofs.table_set.TableSet.forget.Goals as goal

pub invariant_of-self : goal.invariant_of-self
invariant_of-self g c = forgotten-tables _ c.args.place c.self.invariant.places c.requires g.B.Geometry.shape c.self.invariant

pub returns : goal.returns
returns g c = rw (← c.self.view_is) (forgotten _ c.args.place c.self.invariant.places c.requires)
