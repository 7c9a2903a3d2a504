use Rattle.std.proofs.Common.{◌≡◌, ◌-◌, ◌*◌, ◌/◌, ◌^◌, ◌<◌, ◌∙◌, sym, ap, subst, arith}
use Rattle.morris_index.specs.Classes.{is_representative}
use Rattle.morris_lookup.specs.Representatives.{representatives_of, representatives_at, chunk_size, AreListed}
use Rattle.morris_lookup.proofs.ListLaws.{between, between-few, listed-chunk, representatives-few}
use Rattle.morris_lookup.proofs.StretchLaws.{whole, next_chunk, chunk_within, few_masks}
use Rattle.morris_lookup.proofs.representatives.list.Goals as goal

pub list_chunk-end-requires-clause-few : goal.list_chunk-end-requires-clause-few
list_chunk-end-requires-clause-few g c =
    let low : c.loop-number.number < 2 ^ (g.B.Geometry.POINTS - g.B.Geometry.POINTS / 3) = omega (arith, c.loop-number-test.true, c.chunk_count-number-end.ensures.value) in
    omega (
      arith,
      c.requires,
      c.loop-number.invariant.ends,
      between-few (is_representative g.B.Geometry.shape c.args.count) 0 (c.loop-number.number * chunk_size g.B.Geometry.POINTS),
      chunk_within g.B.Geometry.POINTS c.loop-number.number low,
      few_masks g.B.Geometry.POINTS g.met.B.Geometry.few,
    )

pub loop-number-preserved : goal.loop-number-preserved
unfolding representatives_at
loop-number-preserved g c =
    let f = is_representative g.B.Geometry.shape c.args.count in
    subst (λ m. AreListed (between f 0 m) c.args.start c.list_chunk-end.result c.list_chunk-end.new.words c.args.words.now) (sym (next_chunk g.B.Geometry.POINTS c.loop-number.number))
    (listed-chunk f (c.loop-number.number * chunk_size g.B.Geometry.POINTS) (chunk_size g.B.Geometry.POINTS) c.args.start c.loop-number.end c.list_chunk-end.result c.list_chunk-end.new.words c.loop-number.words c.args.words.now
    c.list_chunk-end.auto.words c.loop-number.invariant c.list_chunk-end.ensures)

pub returns-clause-listed : goal.returns-clause-listed
unfolding representatives_of
returns-clause-listed g c =
    let count : c.loop-number.number ≡ 2 ^ (g.B.Geometry.POINTS - g.B.Geometry.POINTS / 3) =
    omega (arith, c.chunk_count-number-end.ensures.value, c.loop-number-test.false, c.loop-number.auto.number-end) in
    let end : c.loop-number.number * chunk_size g.B.Geometry.POINTS ≡ 2 ^ g.B.Geometry.shape.points =
    ap (λ k. k * chunk_size g.B.Geometry.POINTS) count ∙ whole g.B.Geometry.POINTS ∙ sym (ap (λ n. 2 ^ n) g.met.B.Geometry.point_count) in
    subst (λ m. AreListed (between (is_representative g.B.Geometry.shape c.args.count) 0 m) c.args.start c.loop-number.end c.loop-number.words c.args.words.now) end c.loop-number.invariant

pub returns-clause-few : goal.returns-clause-few
returns-clause-few g c =
    omega (
      arith,
      (returns-clause-listed g c).ends,
      representatives-few g.B.Geometry.shape c.args.count,
      ap (λ n. 2 ^ n) g.met.B.Geometry.point_count,
      few_masks g.B.Geometry.POINTS g.met.B.Geometry.few,
    )
