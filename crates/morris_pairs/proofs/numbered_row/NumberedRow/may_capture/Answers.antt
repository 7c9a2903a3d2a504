use Rattle.std.proofs.Common.{not, sym, ap, ◌∙◌, inl, inr, arith}
use Rattle.std.proofs.lemmas.Bool.{cases_eq, ne_eqb, both_ways}
use Rattle.morris_pairs.proofs.NumberedLaws.{none_open}
use Rattle.morris_pairs.proofs.numbered_row.NumberedRow.may_capture.Goals as goal

pub returns : goal.returns
returns g c = λ none s at. elim (cases_eq c.difference-open.result 0) [
  | inl e ↦
      none_open g.B.Geometry.shape g.B.Geometry.POINTS g.met.B.Geometry.point_count (omega (arith, g.met.B.Geometry.few)) c.args.self.now c.requires.cache
      c.args.numbers s at c.difference-open.result c.difference-open.ensures e
  | inr d ↦ absurd (both_ways _ (sym c.ne.ensures ∙ none) (ap not (ne_eqb c.difference-open.result 0 d)))
]
