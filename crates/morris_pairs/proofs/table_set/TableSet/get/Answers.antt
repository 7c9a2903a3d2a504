use Rattle.std.proofs.Common.{◌≡◌, ◌∙◌}
use Rattle.morris_pairs.specs.Tables.{IsTable}
use Rattle.morris_pairs.specs.Shelves.{AreTables}
use Rattle.morris_pairs.proofs.ShelfLaws.{has_place-pair, table_read, from_copied}
use Rattle.morris_pairs.proofs.table_set.TableSet.get.Goals as goal

pub returns-clause-value : goal.returns-clause-value
returns-clause-value g c =
    rw (← c.self.view_is)
    (c.as_ref.ensures.value
    ∙ table_read _ c.args.pair c.place_of.result _ c.self.invariant.places (has_place-pair _ _ c.place_of.ensures.lawful) c.place_of.ensures.place c.index.ensures)

pub returns-clause-exact : goal.returns-clause-exact
returns-clause-exact g c =
    let lawful : AreTables g.B.Geometry.shape c.args.self.now = rw (← c.self.view_is) c.self.invariant in
    from_copied (λ t. (t.pair ≡ c.args.pair) × IsTable g.B.Geometry.shape t) c.as_ref.result _ (returns-clause-value g c) (lawful.tables c.args.pair)
