use Rattle.std.proofs.Common.{◌≡◌, ◌<◌, length, vec_len, refl, ap, subst, ◌∙◌, arith}
use Rattle.std.proofs.lemmas.Bool.{false≢true}
use Rattle.std.proofs.lemmas.Option.{MatchOption-at_none, MatchOption-at_some}
use Rattle.morris_pairs.specs.Entries.{entry_count}
use Rattle.morris_pairs.specs.Tables.{IsTable}
use Rattle.morris_pairs.proofs.AgreementLaws.{agreement_is}
use Rattle.morris_pairs.proofs.verify.judge.Goals as goal

pub new-requires : goal.new-requires
new-requires g c =
    let parts = c.into_parts-numbering.ensures in
    let codes = c.into_parts-numbering.result.1 in
    let len : vec_len codes ≡ length c.args.raw.codes = omega (arith, ap length parts.codes, codes.ok.0) in
    rw (parts.layout, parts.pair)
    (len ∙ (parts.raw.counted ∙ ap (λ n. entry_count g.B.Geometry.shape n c.args.raw.layout c.args.raw.pair) g.met.B.Geometry.point_count))

pub new-requires-in-None : goal.new-requires-in-None
new-requires-in-None g c =
    let exact : IsTable g.B.Geometry.shape c.args.raw =
    (agreement_is g.B.Geometry.shape g.met.B.Geometry.is_lawful g.met.B.Geometry.has_symmetries g.B.Geometry.POINTS g.met.B.Geometry.point_count c.args.raw c.into_parts-numbering.ensures.raw c.requires.values).0
    (MatchOption-at_none _ _ c.in-None.is c.requires.differing) in
    rw (c.into_parts-numbering.ensures.layout, c.into_parts-numbering.ensures.pair, c.into_parts-numbering.ensures.codes) exact

pub returns-in-Some-clause-exact : goal.returns-in-Some-clause-exact
returns-in-Some-clause-exact g c =
    let first = MatchOption-at_some _ _ c.in-Some.index c.in-Some.is c.requires.differing in
    let both = agreement_is g.B.Geometry.shape g.met.B.Geometry.is_lawful g.met.B.Geometry.has_symmetries g.B.Geometry.POINTS g.met.B.Geometry.point_count c.args.raw c.into_parts-numbering.ensures.raw c.requires.values in (
      λ never. absurd (false≢true never),
      λ exact. absurd (first.differs (both.1 exact c.in-Some.index (subst (λ n. c.in-Some.index < entry_count g.B.Geometry.shape n c.args.raw.layout c.args.raw.pair) g.met.B.Geometry.point_count first.inside))),
    )

pub returns-in-Some-clause-differs : goal.returns-in-Some-clause-differs
returns-in-Some-clause-differs g c = (refl, MatchOption-at_some _ _ c.in-Some.index c.in-Some.is c.requires.differing)

pub returns-in-Some-clause-given_back : goal.returns-in-Some-clause-given_back
returns-in-Some-clause-given_back g c =
    c.new.ensures ∙ rw (c.into_parts-numbering.ensures.layout, c.into_parts-numbering.ensures.pair, c.into_parts-numbering.ensures.codes) refl

pub returns-in-Some-clause-agreement : goal.returns-in-Some-clause-agreement
returns-in-Some-clause-agreement g c =
    agreement_is g.B.Geometry.shape g.met.B.Geometry.is_lawful g.met.B.Geometry.has_symmetries g.B.Geometry.POINTS g.met.B.Geometry.point_count c.args.raw c.into_parts-numbering.ensures.raw c.requires.values

pub returns-in-None-clause-exact : goal.returns-in-None-clause-exact
returns-in-None-clause-exact g c =
    let both = agreement_is g.B.Geometry.shape g.met.B.Geometry.is_lawful g.met.B.Geometry.has_symmetries g.B.Geometry.POINTS g.met.B.Geometry.point_count c.args.raw c.into_parts-numbering.ensures.raw c.requires.values in
    (λ _. both.0 (MatchOption-at_none _ _ c.in-None.is c.requires.differing), λ _. refl)

pub returns-in-None-clause-value : goal.returns-in-None-clause-value
returns-in-None-clause-value g c =
    c.new-in-None.ensures ∙ rw (c.into_parts-numbering.ensures.layout, c.into_parts-numbering.ensures.pair, c.into_parts-numbering.ensures.codes) refl

pub returns-in-None-clause-agreement : goal.returns-in-None-clause-agreement
returns-in-None-clause-agreement g c =
    agreement_is g.B.Geometry.shape g.met.B.Geometry.is_lawful g.met.B.Geometry.has_symmetries g.B.Geometry.POINTS g.met.B.Geometry.point_count c.args.raw c.into_parts-numbering.ensures.raw c.requires.values
