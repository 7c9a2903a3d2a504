use Rattle.std.proofs.Common.{◌≡◌, ◌+◌, ◌-◌, ◌*◌, true, false, length, ◌∙◌, refl, sym, ap, subst, arith}
use Rattle.morris_board.specs.Sets.{is_subset}
use Rattle.morris_index.specs.Classes.{is_representative}
use Rattle.morris_lookup.specs.Representatives.{representatives_at, chunk_size, AreListed}
use Rattle.morris_lookup.proofs.ListLaws.{between, between-few, between-none, listed-yes, listed-no}
use Rattle.morris_lookup.proofs.StretchLaws.{first_within, within_last}
use Rattle.morris_lookup.proofs.representatives.list_chunk.Given.{Over}
use Rattle.morris_lookup.proofs.representatives.list_chunk.Goals as goal
use Rattle.morris_lookup.proofs.representatives.list_chunk.Goals.{then-is_representative, else-is_representative}

none : (g : Over) (c : goal.Then-is_passed_over g) → length (representatives_at g.B.Geometry.shape g.B.Geometry.POINTS c.args.count c.args.number) ≡ 0
unfolding representatives_at
none g c =
    let a = c.args.number * chunk_size g.B.Geometry.POINTS in
    let first : c.from_mask.result ≡ c.args.number * chunk_size g.B.Geometry.POINTS = c.from_mask.ensures ∙ c.chunk_start-first.ensures.value in
    let last : c.from_mask-2.result ≡ c.args.number * chunk_size g.B.Geometry.POINTS + (chunk_size g.B.Geometry.POINTS - 1) =
    omega (arith, c.from_mask-2.ensures, c.chunk_start-first.ensures.value, c.chunk_size.ensures.value, c.chunk_size.ensures.some) in
    ap length (between-none (is_representative g.B.Geometry.shape c.args.count) (c.args.number * chunk_size g.B.Geometry.POINTS) (chunk_size g.B.Geometry.POINTS) (λ i low.
    c.if-is_passed_over.ensures refl (c.args.number * chunk_size g.B.Geometry.POINTS + i)
    (omega (arith, c.chunk_start-first.ensures.value, c.chunk_start-first.ensures.within, low))
    (subst (λ s. is_subset s (c.args.number * chunk_size g.B.Geometry.POINTS + i) ≡ true) (sym first) (first_within c.args.number _ i low))
    (subst (λ s. is_subset (c.args.number * chunk_size g.B.Geometry.POINTS + i) s ≡ true) (sym last) (within_last c.args.number _ i low))))

pub returns-then-is_passed_over : goal.returns-then-is_passed_over
returns-then-is_passed_over g c = record {
  ends = omega (arith, none g c);
  listed = λ i h. absurd (omega (arith, h, none g c));
  before = λ i h. refl;
}

pub overflow_add-end : goal.overflow_add-end
overflow_add-end g c =
    let a = c.args.number * chunk_size g.B.Geometry.POINTS in
    omega (
      arith,
      c.requires.few,
      c.loop-mask.invariant.listed.ends,
      between-few (is_representative g.B.Geometry.shape c.args.count) (c.args.number * chunk_size g.B.Geometry.POINTS) (c.loop-mask.mask - c.args.number * chunk_size g.B.Geometry.POINTS),
    )

pub loop-mask-preserved : goal.loop-mask-preserved
loop-mask-preserved g c =
    let f = is_representative g.B.Geometry.shape c.args.count in
    let a = c.args.number * chunk_size g.B.Geometry.POINTS in
    elim c.if-is_representative.branch [
      | then-is_representative w ↦
          let own : f c.loop-mask.mask ≡ true = ap f (sym c.from_mask-in-loop-mask.ensures) ∙ sym c.is_representative.ensures ∙ w.if-is_representative.true in
          rw (w.words-is, w.end-is, w.put.ensures) (record {
            from = omega (arith, c.loop-mask.invariant.from);
            listed = listed-yes f a c.loop-mask.mask c.loop-mask.invariant.from c.args.start c.loop-mask.end c.loop-mask.words c.args.words.now c.loop-mask.invariant.listed own;
          })
      | else-is_representative w ↦
          let out : f c.loop-mask.mask ≡ false = ap f (sym c.from_mask-in-loop-mask.ensures) ∙ sym c.is_representative.ensures ∙ w.if-is_representative.false in
          rw (w.words-is, w.end-is) (record {
            from = omega (arith, c.loop-mask.invariant.from);
            listed = listed-no f a c.loop-mask.mask c.loop-mask.invariant.from c.args.start c.loop-mask.end c.loop-mask.words c.args.words.now c.loop-mask.invariant.listed out;
          })
    ]

pub returns : goal.returns
unfolding representatives_at
returns g c =
    let a = c.args.number * chunk_size g.B.Geometry.POINTS in
    let end : c.loop-mask.mask - a ≡ chunk_size g.B.Geometry.POINTS =
    omega (arith, c.chunk_start-first.ensures.value, c.chunk_size.ensures.value, c.loop-mask-test.false, c.loop-mask.auto.mask-end) in
    subst (λ n. AreListed (between (is_representative g.B.Geometry.shape c.args.count) a n) c.args.start c.loop-mask.end c.loop-mask.words c.args.words.now) end c.loop-mask.invariant.listed
