use Rattle.std.proofs.Common.{ℕ, List, length, slice_index_or, ap, subst, ◌∙◌, arith}
use Rattle.std.specs.List.{All}
use Rattle.std.proofs.lemmas.List.{take_all}
use Rattle.std.proofs.lemmas.List.Elements.{All-more}
use Rattle.morris_index.specs.Moves.{InPair}
use Rattle.morris_pairs.specs.OpponentGroups.{EntryAgrees}
use Rattle.morris_pairs.proofs.FaceLaws.{length-codes, codes-at}
use Rattle.morris_pairs.proofs.by_result.all_agree.Goals as goal

pub bounds-codes-place : goal.bounds-codes-place
bounds-codes-place g c = omega (arith, c.loop-place-test.true, ap length c.requires.codes, length-codes g.B.Geometry.shape c.args.raw.now c.args.group.now)

pub agree-requires-clause-code : goal.agree-requires-clause-code
agree-requires-clause-code g c =
    ap (λ (xs : List ℕ). slice_index_or xs c.loop-place.place 0) c.requires.codes
    ∙ codes-at g.B.Geometry.shape c.args.raw.now c.args.group.now c.loop-place.place c.index-group-place.result c.loop-place-test.true c.index-group-place.is

pub loop-place-preserved : goal.loop-place-preserved
loop-place-preserved g c =
    let P = EntryAgrees g.B.Geometry.shape c.args.raw.now in
    record {
      agreed = All-more P c.args.group.now c.loop-place.place c.index-group-place.result c.loop-place-test.true c.loop-place.invariant.agreed
          (subst P c.index-group-place.is (c.agree.ensures.agrees c.if-not-agree.false));
      cache = c.agree.ensures.cache;
    }

pub returns-clause-agree : goal.returns-clause-agree
returns-clause-agree g c = λ _.
    subst (λ (qs : List InPair). All (EntryAgrees g.B.Geometry.shape c.args.raw.now) qs)
    (take_all c.loop-place.place c.args.group.now (omega (arith, c.loop-place-test.false))) c.loop-place.invariant.agreed
