use Rattle.std.proofs.Common.{◌≡◌, ◌<◌, ◌∙◌, false, true, length, refl, arith}
use Rattle.morris_pairs.proofs.CountLaws.{read_known, tallied_more, tallied_small}
use Rattle.morris_pairs.proofs.counting.count_chunk.Goals as goal

pub loop-entry-init : goal.loop-entry-init
loop-entry-init g c = record {
  stated = refl;
  unfailing = refl;
  many = refl;
  small = c.requires.small;
  counted = λ board t all start low known weights before. before;
}

pub loop-entry-preserved : goal.loop-entry-preserved
loop-entry-preserved g c =
    let fits : c.from.result < length c.loop-entry.tallies = omega (arith, c.from.ensures) in
    record {
      stated = c.in_ok-code.ensures.stays ∙ c.loop-entry.invariant.stated;
      unfailing = c.in_ok-code.ensures.as_sure ∙ c.loop-entry.invariant.unfailing;
      many = c.in_ok-code.ensures.as_many ∙ c.loop-entry.invariant.many;
      small = tallied_small c.loop-entry.tallies c.from.result c.args.orbit_size c.loop-entry.entry fits c.requires.orbit_size c.loop-entry.invariant.small;
      counted = λ board t all start low known weights before.
          tallied_more board t all start c.loop-entry.entry c.from.result c.args.orbit_size c.loop-entry.tallies
          (c.from.ensures ∙ read_known (g.C.Coded.stated c.loop-entry.codes) t.codes c.loop-entry.entry c.in_ok-code.code c.in_ok-code.ensures.read
          (c.loop-entry.invariant.stated ∙ known)) (omega (arith, low, c.loop-entry.auto.entry)) fits
          (weights c.loop-entry.entry c.loop-entry.auto.entry c.loop-entry-test.true)
          (c.loop-entry.invariant.counted board t all start low known weights before);
    }

-- where no call fails, each code is read
pub returns-in_err-code-clause-sure : goal.returns-in_err-code-clause-sure
returns-in_err-code-clause-sure g c = λ unfailing.
    let bad : false ≡ true = c.in_err-code.ensures.sure (c.loop-entry.invariant.unfailing ∙ unfailing) in
    cc
