-- The position of the entry that was found is a deepest one, as the table is exact.
use Rattle.std.proofs.Common.{◌≡◌, ℕ, ◌-◌, ◌≤◌, sym, subst, arith}
use Rattle.morris_board.specs.Boards.{Shape}
use Rattle.morris_pairs.specs.Entries.{entry_index}
use Rattle.morris_pairs.proofs.PositionLaws.{IsAtEntry}
use Rattle.morris_commands.specs.Deepest.{IsDeepestAt}
use Rattle.morris_commands.proofs.DeepLaws.{deepest_at, none_told}
use Rattle.morris_commands.proofs.deepest.find_deepest.Goals as goal

pub returns-in_default : goal.returns-in_default
returns-in_default g c =
    let board : Shape = g.B.Geometry.shape in
    let few : board.points ≤ 24 = omega (arith, g.met.B.Geometry.few, g.met.B.Geometry.point_count) in
    none_told board few g.met.B.Geometry.has_symmetries c.args.table.now c.pair.ensures.lawful c.args.outcome c.in_default.ensures

pub returns : goal.returns
returns g c =
    let board : Shape = g.B.Geometry.shape in
    let few : board.points ≤ 24 = omega (arith, g.met.B.Geometry.few, g.met.B.Geometry.point_count) in
    let t = c.args.table.now in
    let p = c.in_ok-position.position in
    let here : IsAtEntry board t.layout t.pair c.in-Some.entry p = record {
      position = c.in_ok-position.ensures.lawful;
      of = c.in_ok-position.ensures.counts;
      own = c.in_ok-position.ensures.own;
      entry = subst (λ n. entry_index board n t.layout t.pair p ≡ c.in-Some.entry) (sym g.met.B.Geometry.point_count) c.in_ok-position.ensures.entry;
    } in
    subst (λ (code : ℕ). IsDeepestAt board t.pair c.args.outcome p (code - 1)) (sym c.code-depth.ensures)
    (deepest_at board few g.met.B.Geometry.has_symmetries t c.pair.ensures.lawful c.args.outcome c.in-Some.entry c.in-Some.ensures p here)
