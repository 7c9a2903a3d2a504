use Rattle.std.proofs.Common.{◌≡◌, ◌∙◌, ◌≤◌, ℕ, ap, sym, subst, Option, Some, option_map}
use Rattle.std.specs.Str.Parse.{ParsesUnsigned, ExplainsUnsignedError, HasUnsignedDigitsIfOk}
use Rattle.clap.specs.Words.{found_of}
use Rattle.clap.proofs.WalkLemmas.{one_text-rows}
use Rattle.morris_words.specs.Words.{number_of}
use Rattle.morris_words.proofs.GivenLaws.{read_number}
use Rattle.morris_words.proofs.ReadLaws.{not_both}
use Rattle.morris_words.proofs.arguments.number.Goals as goal

same_number : (n m : ℕ) (r : Option ℕ) → r ≡ Some n → r ≡ Some m → n ≡ m
same_number n m r one two =
    let same : Some n ≡ Some m = sym one ∙ two in
    cc

pub unreachable-requires : goal.unreachable-requires
unreachable-requires c =
    let has = c.requires.3 in
    let read = read_number (λ bs r. ParsesUnsigned 16 10 bs r × ExplainsUnsignedError 10 bs r × HasUnsignedDigitsIfOk bs r) 16 c.requires.0 c.requires.1 has.text c.get_one.result
    (c.get_one.ensures.value _ (one_text-rows (found_of c.args.found.now) c.args.name.now ∙ has.read)) (λ u x g. g.0) c.requires.2 has.in_range in
    not_both c.get_one.result read.0 c.in_default.is read.1

pub returns-clause-value : goal.returns-clause-value
returns-clause-value c =
    let has = c.requires.3 in
    let read = read_number (λ bs r. ParsesUnsigned 16 10 bs r × ExplainsUnsignedError 10 bs r × HasUnsignedDigitsIfOk bs r) 16 c.requires.0 c.requires.1 has.text c.get_one.result
    (c.get_one.ensures.value _ (one_text-rows (found_of c.args.found.now) c.args.name.now ∙ has.read)) (λ u x g. g.0) c.requires.2 has.in_range in
    ap (option_map number_of) has.read ∙ (ap (λ n. Some n) read.4 ∙ (sym read.1 ∙ c.in-Some.is))

pub returns-clause-range : goal.returns-clause-range
returns-clause-range c = λ low high fits has.
    let read = read_number (λ bs r. ParsesUnsigned 16 10 bs r × ExplainsUnsignedError 10 bs r × HasUnsignedDigitsIfOk bs r) 16 low high has.text c.get_one.result
    (c.get_one.ensures.value _ (one_text-rows (found_of c.args.found.now) c.args.name.now ∙ has.read)) (λ u x g. g.0) fits has.in_range in
    let is = same_number read.0 _ c.get_one.result read.1 c.in-Some.is in
    (subst (λ n. low ≤ n) is read.2, subst (λ n. n ≤ high) is read.3)
