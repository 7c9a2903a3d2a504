use Rattle.std.proofs.Common.{◌≡◌, ◌⊎◌, ◌≤◌, [], ◌∷◌, false, sym, subst, inl, inr, arith}
use Rattle.morris_board.specs.Boards.{Shape}
use Rattle.morris_index.specs.Pairs.{IsPair}
use Rattle.morris_pairs.specs.declared.layout.Layout.TheVariants.{Full}
use Rattle.morris_pairs.specs.Entries.{entry_index}
use Rattle.morris_queries.proofs.FoundLaws.{own_listed, own_text, shared_listed}
use Rattle.morris_queries.proofs.find.put_entry.Goals as goal
use Rattle.morris_queries.proofs.find.put_entry.Goals.{in_default-via-in-Some+else-all, in_default-via-in_default}

-- the orbit of the entry
pub returns-in-Some : goal.returns-in-Some
returns-in-Some g c =
    let board : Shape = g.B.Geometry.shape in
    let entries = c.args.entries.now in
    record {
      positions = c.falls_on.result;
      each =
          shared_listed board g.B.Geometry.POINTS g.met.B.Geometry.point_count entries.layout entries.pair c.args.all c.if-all.true c.in-Some.ensures.0 c.args.entry
          c.falls_on.result (rw c.in-Some.ensures.1 at c.falls_on.ensures.listed);
      once = c.falls_on.ensures.once;
      few = omega (arith, c.falls_on.ensures.few, g.met.B.Geometry.few_symmetries);
      takes = c.put_orbit.ensures.takes;
      rest = c.put_orbit.ensures.left;
    }

-- its canonical form, or the one position that has it
pub returns-in_default : goal.returns-in_default
returns-in_default g c =
    let board : Shape = g.B.Geometry.shape in
    let few : board.points ≤ 24 = omega (arith, g.met.B.Geometry.few, g.met.B.Geometry.point_count) in
    let entries = c.args.entries.now in
    let p = c.position.result in
    let lawful : IsPair board.points entries.pair = rw g.met.B.Geometry.point_count c.count.ensures.lawful in
    let one : (c.args.all ≡ false) ⊎ (entries.layout ≡ Full) = elim c.in_default.branch [
      | in_default-via-in-Some+else-all w ↦ inl w.if-all.false
      | in_default-via-in_default w ↦ inr (rw w.in_default.is at c.classes.ensures)
    ] in
    record {
      positions = p ∷ [];
      each =
          own_listed board few g.met.B.Geometry.has_symmetries entries.layout entries.pair lawful c.args.all one p c.position.ensures.lawful
          c.position.ensures.counts c.position.ensures.own c.args.entry
          (subst (λ n. entry_index board n entries.layout entries.pair p ≡ c.args.entry) (sym g.met.B.Geometry.point_count) c.position.ensures.entry);
      once = λ i j d less within. absurd (omega arith);
      few = omega arith;
      takes = rw (own_text board c.args.most p c.requires.some) c.put_position.ensures;
      rest = omega arith;
    }
