use Rattle.std.proofs.Common.{◌≡◌, ℕ, arith, subst, true}
use Rattle.morris_index.specs.Pairs.{Counts}
use Rattle.morris_pairs.specs.Shelves.{has_place, table_on}
use Rattle.morris_pairs.proofs.TableSetLaws.{left_at, goes_on-let_go, goes_on-keep, let_go-last}
use Rattle.morris_pairs.proofs.table_set.TableSet.let_go.Goals as goal
use Rattle.morris_pairs.proofs.table_set.TableSet.let_go.Goals.{then-greater-lesser, else-greater-lesser}

pub loop-place-preserved : goal.loop-place-preserved
loop-place-preserved g c = elim c.if-greater-lesser.branch [
  | then-greater-lesser w ↦
      rw w.self-is
      (goes_on-let_go c.args.stones c.args.self.now c.loop-place.self c.loop-place.place c.loop-place.invariant _ (omega (arith, w.if-greater-lesser.true)) w.forget.ensures)
  | else-greater-lesser w ↦
      rw w.self-is
      (goes_on-keep c.args.stones c.args.self.now c.loop-place.self c.loop-place.place c.loop-place.invariant (omega (arith, w.if-greater-lesser.false)))
]

pub returns : goal.returns
returns g c =
    let last : c.loop-place.place ≡ 49 = omega arith in
    let_go-last c.args.stones c.args.self.now c.loop-place.self
    (subst (λ (n : ℕ). (d : Counts) → has_place d ≡ true → table_on c.loop-place.self d ≡ left_at c.args.stones c.args.self.now n d) last c.loop-place.invariant)
