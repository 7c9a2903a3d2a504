use Rattle.std.proofs.Common.{◌≤◌, ◌∙◌, refl, sym, ap, subst, inl, inr, arith}
use Rattle.morris_board.specs.Boards.{Shape}
use Rattle.morris_index.specs.Pairs.{IsPair}
use Rattle.morris_pairs.specs.Counting.{CodedEntries, table_of}
use Rattle.morris_pairs.specs.Entries.{entry_count}
use Rattle.morris_pairs.proofs.CountLaws.{for_some, on_ok, tallied_one}
use Rattle.morris_pairs.proofs.counting.Entries.count_into.Goals as goal

-- each position has an entry
pub returns-in-Full-clause-counted : goal.returns-in-Full-clause-counted
returns-in-Full-clause-counted g c =
    let board : Shape = g.B.Geometry.shape in
    let few : board.points ≤ 24 = omega (arith, g.met.B.Geometry.few, g.met.B.Geometry.point_count) in
    let entries : CodedEntries = c.args.self.now in
    let lawful : IsPair board.points entries.pair = rw (g.met.B.Geometry.point_count, ← c.self.view_is) c.pair.ensures.lawful in
    let inside : c.args.end ≤ entry_count board board.points entries.layout entries.pair =
    subst (λ n. c.args.end ≤ entry_count board n entries.layout entries.pair) (sym g.met.B.Geometry.point_count) c.requires.inside in
    on_ok _ _ c.count_chunk.result
    (λ counted. for_some entries.stated _ (λ known is.
    tallied_one board few g.met.B.Geometry.has_symmetries (table_of entries known) lawful c.args.all
    (inr (rw (← c.self.view_is, c.in-Full.is) refl)) c.args.first c.args.end inside c.args.tallies.now
    c.count_chunk.new.tallies c.requires.none
    (counted board (table_of entries known) c.args.all c.args.first (omega arith) (ap (λ (e : CodedEntries). e.stated) c.self.view_is ∙ is))))
    c.count_chunk.ensures.counted

-- all positions of an orbit are asked for
pub returns-in-Classes-clause-counted : goal.returns-in-Classes-clause-counted
returns-in-Classes-clause-counted g c =
    let board : Shape = g.B.Geometry.shape in
    let entries : CodedEntries = c.args.self.now in
    on_ok _ _ c.count_rows.result
    (λ counted. for_some entries.stated _ (λ known is.
    rw c.if-all.true
    (counted (table_of entries known) (rw (← c.self.view_is, c.in-Classes.is) refl) (rw (← c.self.view_is, c.in-Classes.is) refl)
    (ap (λ (e : CodedEntries). e.stated) c.self.view_is ∙ is))))
    c.count_rows.ensures.counted

-- only those are asked for that have an entry of their own
pub returns-in-Classes-2-clause-counted : goal.returns-in-Classes-2-clause-counted
returns-in-Classes-2-clause-counted g c =
    let board : Shape = g.B.Geometry.shape in
    let few : board.points ≤ 24 = omega (arith, g.met.B.Geometry.few, g.met.B.Geometry.point_count) in
    let entries : CodedEntries = c.args.self.now in
    let lawful : IsPair board.points entries.pair = rw (g.met.B.Geometry.point_count, ← c.self.view_is) c.pair.ensures.lawful in
    let inside : c.args.end ≤ entry_count board board.points entries.layout entries.pair =
    subst (λ n. c.args.end ≤ entry_count board n entries.layout entries.pair) (sym g.met.B.Geometry.point_count) c.requires.inside in
    on_ok _ _ c.count_chunk-in-Classes-2.result
    (λ counted. for_some entries.stated _ (λ known is.
    tallied_one board few g.met.B.Geometry.has_symmetries (table_of entries known) lawful c.args.all
    (inl c.if-all.false) c.args.first c.args.end inside c.args.tallies.now
    c.count_chunk-in-Classes-2.new.tallies c.requires.none
    (counted board (table_of entries known) c.args.all c.args.first (omega arith) (ap (λ (e : CodedEntries). e.stated) c.self.view_is ∙ is))))
    c.count_chunk-in-Classes-2.ensures.counted

-- 16 positions for each of 2 ^ 40 entries are few
pub returns-in-Full-clause-small : goal.returns-in-Full-clause-small
returns-in-Full-clause-small g c =
    on_ok _ _ c.count_chunk.result (λ small code. omega (arith, small code, c.count.ensures.few, c.count.ensures.value, rw (← c.self.view_is) at c.requires.inside)) c.count_chunk.ensures.small

pub returns-in-Classes-clause-small : goal.returns-in-Classes-clause-small
returns-in-Classes-clause-small g c =
    on_ok _ _ c.count_rows.result (λ small code. omega (arith, small code, c.count.ensures.few, c.count.ensures.value, rw (← c.self.view_is) at c.requires.inside)) c.count_rows.ensures.small

pub returns-in-Classes-2-clause-small : goal.returns-in-Classes-2-clause-small
returns-in-Classes-2-clause-small g c =
    on_ok _ _ c.count_chunk-in-Classes-2.result (λ small code. omega (arith, small code, c.count.ensures.few, c.count.ensures.value, rw (← c.self.view_is) at c.requires.inside))
    c.count_chunk-in-Classes-2.ensures.small
