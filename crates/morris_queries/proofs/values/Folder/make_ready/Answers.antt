use Rattle.morris_queries.proofs.TellingLaws.{agreed}
use Rattle.std.proofs.Common.{refl, ap, ◌∙◌}
use Rattle.morris_queries.specs.Reports.{table_in}
use Rattle.morris_queries.proofs.FolderLaws.{stays_with}
use Rattle.morris_queries.proofs.values.Folder.make_ready.Goals as goal

pub returns-in_ok-file-clause-stays : goal.returns-in_ok-file-clause-stays
returns-in_ok-file-clause-stays g c =
    stays_with g.B.Geometry.shape g.L.Library.files c.args.self.now _ _ c.in_ok-file.file c.in_ok-file.ensures.stays refl refl refl
    (λ name files of. ap (table_in g.B.Geometry.shape name files) c.in_ok-file.ensures.pair ∙ agreed _ _ (c.in_ok-file.ensures.opened name files of))
    c.put.ensures.this c.put.ensures.others
