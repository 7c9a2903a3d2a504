use Rattle.std.proofs.Common.{◌∙◌, ℕ, ◌+◌, ◌<◌, length, get_or, set, arith, ap, length-set, refl}
use Rattle.std.proofs.lemmas.Grind.{get_or_default_zero}
use Rattle.std.proofs.lemmas.List.{take_all}
use Rattle.morris_wave.specs.Nets.{times}
use Rattle.morris_pairs.proofs.TallyLaws.{le_greatest, count_more, times_few, tallies-from_counts}
use Rattle.morris_pairs.proofs.exact.count_codes.Goals as goal

pub index_mut-requires : goal.index_mut-requires
index_mut-requires c = omega (arith, le_greatest c.args.codes.now c.loop-code.code-index c.loop-code-test.true, c.loop-code.invariant.room)

pub overflow_add-index_mut : goal.overflow_add-index_mut
overflow_add-index_mut c =
    let low : get_or c.args.codes.now c.loop-code.code-index 0 < length c.loop-code.tallies.items =
    omega (arith, le_greatest c.args.codes.now c.loop-code.code-index c.loop-code-test.true, c.loop-code.invariant.room) in
    omega (
      arith,
      c.index_mut.ensures.value ∙ get_or_default_zero _ _ _ low,
      c.loop-code.invariant.counted _ low,
      times_few c.args.codes.now c.loop-code.code-index (get_or c.args.codes.now c.loop-code.code-index 0),
    )

pub loop-code-preserved : goal.loop-code-preserved
loop-code-preserved c =
    let low : get_or c.args.codes.now c.loop-code.code-index 0 < length c.loop-code.tallies.items =
    omega (arith, le_greatest c.args.codes.now c.loop-code.code-index c.loop-code-test.true, c.loop-code.invariant.room) in
    record {
      room = length-set _ _ _ ∙ c.loop-code.invariant.room;
      counted = λ k l. ap (λ n. get_or (set c.loop-code.tallies.items (get_or c.args.codes.now c.loop-code.code-index 0) (n + 1)) k 0)
          (c.index_mut.ensures.value ∙ get_or_default_zero _ _ _ low)
          ∙ count_more c.args.codes.now c.loop-code.tallies.items c.loop-code.code-index (get_or c.args.codes.now c.loop-code.code-index 0) c.loop-code-test.true refl low
          c.loop-code.invariant.counted k (omega (arith, length-set {A = ℕ}));
    }

pub returns : goal.returns
returns c =
    tallies-from_counts c.args.codes.now _ c.loop-code.invariant.room
    (λ k l. c.loop-code.invariant.counted k l ∙ ap (times k) (take_all c.loop-code.code-index c.args.codes.now c.loop-code-test.false))
