use Rattle.std.proofs.Common.{◌≡◌, ◌∙◌}
use Rattle.morris_pairs.proofs.ShelfLaws.{has_place-pair, from_copied}
use Rattle.morris_lookup.specs.Opening.{IsOpen}
use Rattle.morris_lookup.specs.FileSets.{AreFiles}
use Rattle.morris_lookup.proofs.FileSetLaws.{file_read}
use Rattle.morris_lookup.proofs.tables.Tables.get.Goals as goal

pub returns-clause-value : goal.returns-clause-value
returns-clause-value g c =
    rw (← c.self.view_is)
    (c.as_ref.ensures.value
    ∙ file_read _ c.args.pair c.place_of.result _ c.self.invariant.places (has_place-pair _ _ c.place_of.ensures.lawful) c.place_of.ensures.place c.index.ensures)

pub returns-clause-right : goal.returns-clause-right
returns-clause-right g c =
    let lawful : AreFiles g.B.Geometry.shape c.args.self.now = rw (← c.self.view_is) c.self.invariant in
    from_copied (λ file. (file.pair ≡ c.args.pair) × IsOpen g.B.Geometry.shape file) c.as_ref.result _ (returns-clause-value g c) (lawful.right c.args.pair)
