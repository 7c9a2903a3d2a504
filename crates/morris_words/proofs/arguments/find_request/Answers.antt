use Rattle.std.proofs.Common.{◌≡◌, ◌∙◌, [], Some, codes, refl, rules, sym, true}
use Rattle.clap.specs.Takes.{is_given}
use Rattle.clap.specs.Words.{found_of, rows_of}
use Rattle.morris_words.specs.Words.{clashes, has_clash, is_on}
use Rattle.morris_words.proofs.ReadLaws.{clash_answered, flag_on, limit_given}
use Rattle.morris_words.proofs.arguments.find_request.Goals as goal

pub returns-clause-request : goal.returns-clause-request
returns-clause-request c =
    let rows = rows_of (found_of c.args.found.now) in
    let free : clashes (Some (codes "find", rows)) ≡ [] = search rules in
    (free, ((refl, c.given.ensures, c.given-2.ensures, c.given-3.ensures, c.given-4.ensures, c.flag.ensures, c.limit_of-limit.ensures, c.flag-count.ensures), refl), tt)

pub returns-then-is_some-clause-refused : goal.returns-then-is_some-clause-refused
returns-then-is_some-clause-refused c =
    let rows = rows_of (found_of c.args.found.now) in
    let on : is_on (codes "count") rows ≡ true = flag_on (codes "count") rows c.flag-count.result c.flag-count.ensures ∙ c.if-count.true in
    let given : is_given (codes "limit") rows ≡ true = limit_given rows c.limit_of-limit.result (sym c.is_some.ensures ∙ c.if-is_some.true) c.limit_of-limit.ensures in
    let both : has_clash (codes "find") rows ≡ true = rw (on, given) refl in
    clash_answered (codes "find") rows c.clash.result both c.clash.ensures
