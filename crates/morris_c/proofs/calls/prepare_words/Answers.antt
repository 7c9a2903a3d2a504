use Rattle.std.proofs.Common.{refl, arith}
use Rattle.morris_c.proofs.CallLaws.{not_done}
use Rattle.morris_c.proofs.calls.prepare_words.Goals as goal

pub returns-in-Some : goal.returns-in-Some
returns-in-Some g c = record {
  prepared = λ done. c.in-Some.ensures.prepared;
  room = λ enough. refl;
  short = λ less. absurd (omega (arith, less, c.in-Some.ensures.prepared.whole, c.prepare.auto.words));
}

pub returns-in-None : goal.returns-in-None
returns-in-None g c = record {
  prepared = λ done. absurd (not_done 7 (omega arith) _ refl done);
  room = λ enough. absurd (omega (arith, enough, c.in-None.ensures.room));
  short = λ less. refl;
}
