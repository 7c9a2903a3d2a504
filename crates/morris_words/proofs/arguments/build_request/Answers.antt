use Rattle.std.proofs.Common.{◌≡◌, ◌∙◌, [], Some, arith, codes, refl, rules, sym, true}
use Rattle.clap.specs.Takes.{is_given}
use Rattle.clap.specs.Words.{found_of, rows_of}
use Rattle.morris_words.specs.Words.{clashes, has_clash, is_on}
use Rattle.morris_words.proofs.ReadLaws.{clash_answered, flag_on}
use Rattle.morris_words.proofs.arguments.build_request.Goals as goal

pub number-requires : goal.number-requires
number-requires c = (1, 64, omega arith, c.requires.1.1.0)

pub number-requires-2 : goal.number-requires-2
number-requires-2 c = (1, 1024, omega arith, c.requires.1.1.1.0)

pub overflow_cast-result : goal.overflow_cast-result
overflow_cast-result c =
    let range = c.number.ensures.range 1 64 (omega arith) c.requires.1.1.0 in
    omega (arith, range.1)

pub returns-clause-request : goal.returns-clause-request
returns-clause-request c =
    let rows = rows_of (found_of c.args.found.now) in
    let free : clashes (Some (codes "build", rows)) ≡ [] = search rules in
    let workers = c.number.ensures.range 1 64 (omega arith) c.requires.1.1.0 in
    let blocks = c.number-2.ensures.range 1 1024 (omega arith) c.requires.1.1.1.0 in
    (free, ((refl, c.given.ensures, c.given-2.ensures, c.number.ensures.value, c.number-2.ensures.value, c.flag-all.ensures, c.optional-into.ensures, c.flag.ensures), c.flag-2.ensures), (workers, blocks))

pub returns-then-is_some-clause-refused : goal.returns-then-is_some-clause-refused
returns-then-is_some-clause-refused c =
    let rows = rows_of (found_of c.args.found.now) in
    let on : is_on (codes "all") rows ≡ true = flag_on (codes "all") rows c.flag-all.result c.flag-all.ensures ∙ c.if-all.true in
    let given : is_given (codes "into") rows ≡ true = c.optional-into.ensures.1 ∙ (sym c.is_some.ensures ∙ c.if-is_some.true) in
    let both : has_clash (codes "build") rows ≡ true = rw (on, given) refl in
    clash_answered (codes "build") rows c.clash.result both c.clash.ensures
