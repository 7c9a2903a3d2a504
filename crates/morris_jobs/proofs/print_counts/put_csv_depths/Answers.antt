use Rattle.std.proofs.Common.{◌≡◌, ℕ, ◌%◌, List, [], ◌++◌, ◌∙◌, Some, length, slice_index, refl, sym, ap, subst, arith, append-nil}
use Rattle.std.specs.List.{flat_map, range_with_len}
use Rattle.std.specs.Prelude.{nat_eq, if◌then◌else◌}
use Rattle.std.proofs.lemmas.Bool.{eq-eqb, ne_eqb}
use Rattle.morris_board.specs.Printers.{Takes}
use Rattle.morris_board.proofs.PrinterLaws.{and_then_as}
use Rattle.morris_jobs.specs.Counted.{csv_depths, csv_line}
use Rattle.morris_jobs.proofs.LineLaws.{one_more}
use Rattle.morris_jobs.proofs.print_counts.put_csv_depths.Goals as goal

-- the line of a depth that is even, or odd
abbrev lines : ℕ → ℕ → List ℕ → ℕ → List ℕ → ℕ → List ℕ
lines own other field odd counts depth =
    if nat_eq (depth % 2) odd then csv_line own other field (Some depth) (slice_index counts depth) else []

pub loop-depth-preserved : goal.loop-depth-preserved
loop-depth-preserved g c =
    let all : ℕ → List ℕ = lines c.args.own c.args.other c.args.field.now c.args.odd c.args.counts.now in
    and_then_as (one_more all c.loop-depth.depth) c.loop-depth.invariant (rw (eq-eqb _ _ c.if-depth-odd.false) c.put_csv_line.ensures)

-- no line of another depth
pub loop-depth-preserved-then-depth-odd : goal.loop-depth-preserved-then-depth-odd
loop-depth-preserved-then-depth-odd g c =
    let all : ℕ → List ℕ = lines c.args.own c.args.other c.args.field.now c.args.odd c.args.counts.now in
    let none : all c.loop-depth.depth ≡ [] = rw (ne_eqb _ _ c.if-depth-odd.true) refl in
    subst (Takes g.S.Sink.contents g.S.Sink.failures c.args.out.now c.loop-depth.out)
    (sym (one_more all c.loop-depth.depth ∙ (ap (λ text. flat_map all (range_with_len 0 c.loop-depth.depth) ++ text) none ∙ append-nil _)))
    c.loop-depth.invariant

pub returns : goal.returns
unfolding csv_depths
returns g c =
    let counts = c.args.counts.now in
    let end : c.loop-depth.depth ≡ length counts = omega arith in
    subst (λ n. Takes g.S.Sink.contents g.S.Sink.failures c.args.out.now c.loop-depth.out
    (flat_map (lines c.args.own c.args.other c.args.field.now c.args.odd counts) (range_with_len 0 n))) end c.loop-depth.invariant
