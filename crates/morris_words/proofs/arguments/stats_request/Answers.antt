use Rattle.std.proofs.Common.{◌≡◌, [], Some, arith, codes, refl}
use Rattle.clap.specs.Words.{found_of, rows_of}
use Rattle.morris_words.specs.Words.{clashes}
use Rattle.morris_words.proofs.ReadLaws.{clash_answered, free_of_clash, is_clash}
use Rattle.morris_words.proofs.arguments.stats_request.Goals as goal

pub number-requires : goal.number-requires
number-requires c = (1, 64, omega arith, c.requires.1.1.1.0)

pub number-requires-2 : goal.number-requires-2
number-requires-2 c = (1, 1024, omega arith, c.requires.1.1.1.1.0)

pub overflow_cast-result : goal.overflow_cast-result
overflow_cast-result c =
    let range = c.number.ensures.range 1 64 (omega arith) c.requires.1.1.1.0 in
    omega (arith, range.1)

pub returns-clause-request : goal.returns-clause-request
returns-clause-request c =
    let rows = rows_of (found_of c.args.found.now) in
    let free : clashes (Some (codes "stats", rows)) ≡ [] = free_of_clash (codes "stats") rows c.stats_clash.result c.in_default.is c.stats_clash.ensures in
    let workers = c.number.ensures.range 1 64 (omega arith) c.requires.1.1.1.0 in
    let blocks = c.number-2.ensures.range 1 1024 (omega arith) c.requires.1.1.1.1.0 in (
      free,
      (
        (
          refl,
          c.given.ensures,
          c.given-2.ensures,
          c.flag-classes.ensures,
          c.number.ensures.value,
          c.number-2.ensures.value,
          c.flag.ensures,
          c.optional.ensures,
          c.flag-2.ensures,
        ),
        c.flag-3.ensures,
      ),
      (workers, blocks),
    )

pub returns-in-Some-clause-refused : goal.returns-in-Some-clause-refused
returns-in-Some-clause-refused c =
    let rows = rows_of (found_of c.args.found.now) in
    clash_answered (codes "stats") rows c.clash.result (is_clash (codes "stats") rows c.stats_clash.result _ c.in-Some.is c.stats_clash.ensures) c.clash.ensures
