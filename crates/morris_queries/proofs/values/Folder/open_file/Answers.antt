use Rattle.std.proofs.Common.{ap, refl, ◌∙◌}
use Rattle.morris_files.specs.Names.{name_of}
use Rattle.morris_queries.proofs.FolderLaws.{stays_asked}
use Rattle.morris_queries.proofs.OpenLaws.{found_known, opened_named}
use Rattle.morris_queries.proofs.values.Folder.open_file.Goals as goal

pub returns-in-Ok-clause-stays : goal.returns-in-Ok-clause-stays
returns-in-Ok-clause-stays g c = stays_asked g.B.Geometry.shape g.L.Library.files c.args.self.now _ refl refl refl c.in-Ok.ensures.unchanged

pub returns-in-Ok-clause-opened : goal.returns-in-Ok-clause-opened
returns-in-Ok-clause-opened g c = λ name files of.
    opened_named g.B.Geometry.shape name files c.args.pair c.as_str.result.now c.open_found.result
    (c.as_str.ensures.value ∙ c.in_ok-name.ensures ∙ ap (λ n. name_of n c.args.pair) of.named)
    (c.open_found.ensures.opened (files c.as_str.result.now)
    (found_known _ g.L.Bytes.Storage.contents (g.L.Library.files c.args.self.now.library.now) files c.as_str.result.now c.in-Ok.found of.found c.in-Ok.ensures.opened))
