use Rattle.std.proofs.Common.{sym, ap, ◌∙◌}
use Rattle.morris_pairs.specs.Shelves.{first_missing}
use Rattle.morris_pairs.proofs.VerifyLaws.{verifies_lacking, verifies_judged}
use Rattle.morris_pairs.proofs.raw.Raw.verify.Goals as goal

pub returns-in-Err : goal.returns-in-Err
returns-in-Err g c =
    verifies_lacking g.row.B.Denot g.B.Geometry.shape g.B.Geometry.POINTS (first_missing c.args.shelf.now c.args.self.pair) c.args.self c.in-Err.needs
    (ap (first_missing c.args.shelf.now) (sym c.pair.ensures.value) ∙ c.in-Err.ensures.needs)

pub returns : goal.returns
returns g c =
    let judged = c.judge.ensures in
    verifies_judged g.row.B.Denot g.B.Geometry.shape g.B.Geometry.POINTS (first_missing c.args.shelf.now c.args.self.pair) c.args.self c.judge.result
    (ap (first_missing c.args.shelf.now) (sym c.pair.ensures.value) ∙ c.in-Ok.ensures.needs) judged.exact judged.value judged.differs judged.given_back judged.agreement
