use Rattle.std.proofs.Common.{◌≡◌, ◌<◌, ◌||◌, not, true, None, refl, sym, ap₂, subst, ◌∙◌}
use Rattle.std.proofs.lemmas.Bool.{or_from, not_from_false}
use Rattle.morris_board.specs.Sets.{has}
use Rattle.morris_moves.specs.Rules.{move, move_stone, result_of}
use Rattle.morris_moves.proofs.LegalLaws.{listed_move}
use Rattle.morris_index.specs.Pairs.{IsPair}
use Rattle.morris_index.specs.Moves.{InPair, move_sides}
use Rattle.morris_pairs.specs.Entries.{entry_count, entry_index}
use Rattle.morris_pairs.specs.EntryLaws.{laid}
use Rattle.morris_pairs.specs.NetLaws.{points_few, result-position}
use Rattle.morris_pairs.proofs.AgreementLaws.{stays}
use Rattle.morris_pairs.proofs.agreeing.entry_after.Goals as goal

pub entry-requires-clause-start : goal.entry-requires-clause-start
entry-requires-clause-start g c =
    let legal = listed_move g.B.Geometry.shape c.args.position.now (points_few g.B.Geometry.shape g.met.B.Geometry.is_lawful) c.own.ensures.lawful.stones
    (move c.args.from c.args.to None) c.requires.listed in
    subst (λ (q : InPair). has q.position.own c.args.from ≡ true) (sym c.requires.position) legal.from_own

pub entry-requires-clause-end : goal.entry-requires-clause-end
entry-requires-clause-end g c =
    let legal = listed_move g.B.Geometry.shape c.args.position.now (points_few g.B.Geometry.shape g.met.B.Geometry.is_lawful) c.own.ensures.lawful.stones
    (move c.args.from c.args.to None) c.requires.listed in
    subst (λ n. c.args.to < n) g.met.B.Geometry.point_count legal.to_within

pub entry-requires-clause-vacant : goal.entry-requires-clause-vacant
entry-requires-clause-vacant g c =
    let legal = listed_move g.B.Geometry.shape c.args.position.now (points_few g.B.Geometry.shape g.met.B.Geometry.is_lawful) c.own.ensures.lawful.stones
    (move c.args.from c.args.to None) c.requires.listed in
    subst (λ (q : InPair). not (has q.position.own c.args.to || has q.position.other c.args.to) ≡ true) (sym c.requires.position)
    (not_from_false (has c.args.position.now.own c.args.to || has c.args.position.now.other c.args.to)
    (or_from (has c.args.position.now.own c.args.to) (has c.args.position.now.other c.args.to) legal.to_not_own legal.to_not_other))

pub returns-clause-entry : goal.returns-clause-entry
unfolding result_of move_stone
returns-clause-entry g c =
    c.entry.ensures
    ∙ ap₂ (λ l (q : InPair). entry_index g.B.Geometry.shape g.B.Geometry.POINTS l q.pair (move_sides q.position c.args.from c.args.to)) c.requires.layout c.requires.position

pub returns-clause-inside : goal.returns-clause-inside
unfolding result_of move_stone
returns-clause-inside g c =
    let board = g.B.Geometry.shape in
    let few = points_few board g.met.B.Geometry.is_lawful in
    let t = c.args.raw.now in
    let pair : IsPair board.points t.pair = subst (λ n. IsPair n t.pair) (sym g.met.B.Geometry.point_count) c.pair.ensures.lawful in
    let there = result-position board few c.args.position.now c.own.ensures.lawful (move c.args.from c.args.to None) c.requires.listed in
    let belongs = stays board g.met.B.Geometry.is_lawful t.pair c.args.position.now c.own.ensures.lawful c.requires.counts
    (move c.args.from c.args.to None) c.requires.listed refl in
    subst (λ k. k < entry_count board g.B.Geometry.POINTS t.layout t.pair) (sym (returns-clause-entry g c))
    (subst (λ n. entry_index board n t.layout t.pair (move_sides c.args.position.now c.args.from c.args.to) < entry_count board n t.layout t.pair) g.met.B.Geometry.point_count
    ((laid board few g.met.B.Geometry.has_symmetries t.layout t.pair pair).below (result_of c.args.position.now (move c.args.from c.args.to None)) there belongs))
