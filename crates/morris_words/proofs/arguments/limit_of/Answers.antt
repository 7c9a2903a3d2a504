use Rattle.std.proofs.Common.{◌≡◌, ◌∙◌, Some, None, ap, codes, inl, inr, sym, subst, option_map, arith}
use Rattle.std.proofs.lemmas.Bool.{cases_Bool}
use Rattle.std.specs.Str.Parse.{ParsesUnsigned, ExplainsUnsignedError, HasUnsignedDigitsIfOk}
use Rattle.clap.specs.Takes.{is_given}
use Rattle.clap.specs.Walk.{one_of}
use Rattle.clap.specs.Words.{found_of, rows_of}
use Rattle.clap.proofs.WalkLemmas.{one_text-rows}
use Rattle.morris_words.specs.Words.{IsLimit, number_of}
use Rattle.morris_words.proofs.GivenLaws.{read_number}
use Rattle.morris_words.proofs.ReadLaws.{no_text}
use Rattle.morris_words.proofs.arguments.limit_of.Goals as goal

pub returns : goal.returns
returns c =
    let found = found_of c.args.found.now in
    let rows = rows_of found in
    elim (cases_Bool (is_given (codes "limit") rows)) [
      | inl given ↦
          let has = c.requires.number given in
          let read = read_number (λ bs r. ParsesUnsigned 32 10 bs r × ExplainsUnsignedError 10 bs r × HasUnsignedDigitsIfOk bs r) 32 1 4294967295 has.text c.get_one.result
          (c.get_one.ensures.value _ (one_text-rows found (codes "limit") ∙ has.read)) (λ u x g. g.0) (omega arith) has.in_range in
          subst (IsLimit rows) (sym read.1) (given, ap (option_map number_of) has.read ∙ ap (λ n. Some n) read.4)
      | inr none ↦
          let nothing : one_of (codes "limit") rows ≡ None = no_text (codes "limit") rows (sym c.requires.there ∙ none) in
          subst (IsLimit rows) (sym (c.get_one.ensures.none (one_text-rows found (codes "limit") ∙ nothing))) none
    ]
