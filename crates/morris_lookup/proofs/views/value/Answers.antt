use Rattle.std.proofs.Common.{◌≤◌, ◌∙◌, sym, arith}
use Rattle.morris_probe.proofs.ProbingLaws.{lost_with_two}
use Rattle.morris_lookup.specs.Views.{contents}
use Rattle.morris_lookup.proofs.FoundLaws.{found}
use Rattle.morris_lookup.proofs.ViewLaws.{said-none, needs-none, said-no_file, said-file, needs-file, exact-file, ok_maps}
use Rattle.morris_lookup.proofs.ExactLaws.{exact_value}
use Rattle.morris_lookup.proofs.views.value.Goals as goal

pub value_of_file-requires-clause-named : goal.value_of_file-requires-clause-named
value_of_file-requires-clause-named g c =
    (found c.in-Some.pair (contents c.args.files.now) c.in-Some-file_of_pair.bytes.now (sym c.in-Some-file_of_pair.ensures)).0

pub returns-in-None-clause-said : goal.returns-in-None-clause-said
returns-in-None-clause-said g c = λ lists_fit. sym (said-none g.B.Geometry.shape (contents c.args.files.now) c.args.position.now c.in-None.ensures.pair)

pub returns-in-None-clause-exact : goal.returns-in-None-clause-exact
returns-in-None-clause-exact g c = λ lists_fit exact. lost_with_two g.B.Geometry.shape c.args.position.now (sym c.in-None.ensures.pair)

pub returns-in-None-clause-unready : goal.returns-in-None-clause-unready
returns-in-None-clause-unready g c = λ needs. absurd (needs-none g.B.Geometry.shape (contents c.args.files.now) c.args.position.now c.in-None.ensures.pair needs)

pub returns-in-None-file_of_pair-clause-said : goal.returns-in-None-file_of_pair-clause-said
returns-in-None-file_of_pair-clause-said g c = λ lists_fit.
    sym (said-no_file g.B.Geometry.shape (contents c.args.files.now) c.args.position.now c.in-Some.pair c.in-Some.ensures.pair c.in-None-file_of_pair.ensures)

pub returns-in-Some-file_of_pair-clause-said : goal.returns-in-Some-file_of_pair-clause-said
returns-in-Some-file_of_pair-clause-said g c = λ lists_fit.
    c.value_of_file.ensures.said
    (lists_fit c.in-Some-file_of_pair.bytes.now (found c.in-Some.pair (contents c.args.files.now) c.in-Some-file_of_pair.bytes.now (sym c.in-Some-file_of_pair.ensures)).1)
    ∙ sym (said-file g.B.Geometry.shape (contents c.args.files.now) c.args.position.now c.in-Some.pair c.in-Some.ensures.pair c.in-Some-file_of_pair.bytes.now
    c.in-Some-file_of_pair.ensures)

pub returns-in-Some-file_of_pair-clause-exact : goal.returns-in-Some-file_of_pair-clause-exact
returns-in-Some-file_of_pair-clause-exact g c = λ lists_fit exact.
    let few : g.B.Geometry.shape.points ≤ 24 = omega (arith, g.met.B.Geometry.few, g.met.B.Geometry.point_count) in
    let there = found c.in-Some.pair (contents c.args.files.now) c.in-Some-file_of_pair.bytes.now (sym c.in-Some-file_of_pair.ensures) in
    exact_value g.B.Geometry.shape few g.met.B.Geometry.has_symmetries c.args.position.now c.own.ensures.lawful c.in-Some.pair c.in-Some.ensures.counts
    c.in-Some-file_of_pair.bytes.now
    (exact-file g.B.Geometry.shape (contents c.args.files.now) c.args.position.now c.in-Some.pair c.in-Some.ensures.pair c.in-Some-file_of_pair.bytes.now
    c.in-Some-file_of_pair.ensures exact)
    there.0 c.value_of_file.result
    (c.value_of_file.ensures.said (lists_fit c.in-Some-file_of_pair.bytes.now there.1))

pub returns-in-Some-file_of_pair-clause-unready : goal.returns-in-Some-file_of_pair-clause-unready
returns-in-Some-file_of_pair-clause-unready g c =
    ok_maps c.value_of_file.result
    (λ looks needs. looks (sym (needs-file g.B.Geometry.shape (contents c.args.files.now) c.args.position.now c.in-Some.pair c.in-Some.ensures.pair c.in-Some-file_of_pair.bytes.now
    c.in-Some-file_of_pair.ensures) ∙ needs))
    c.value_of_file.ensures.unready
