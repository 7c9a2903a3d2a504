-- Whether words gave an argument, by where its value came from, and which number they gave.
use Rattle.std.proofs.Common.{◌≡◌, ◌∙◌, ◌≤◌, ◌<◌, ◌^◌, ℕ, Bool, true, false, List, Option, Some, None, Result, refl, sym, subst, is_some}
use Rattle.std.specs.Option.{option_map_or}
use Rattle.std.specs.Prelude.{Ok, option_and_then, pos}
use Rattle.std.specs.Str.Parse.{ParsesUnsigned}
use Rattle.clap.specs.Facts.{explicit_source}
use Rattle.clap.specs.Matches.{matched_of}
use Rattle.clap.specs.Takes.{is_given}
use Rattle.clap.specs.Walk.{Text, rows_of}
use Rattle.clap.specs.Words.{IsSignedIn, ReadsOne, without_minus}
use Rattle.clap.specs.declared.parser.matches.Found.{Found}
use Rattle.clap.specs.declared.parser.matches.MatchedArg.{MatchedArg}
use Rattle.clap.specs.declared.parser.matches.ValueSource.{ValueSource}
use Rattle.clap.specs.declared.parser.matches.ValueSource.TheVariants.{CommandLine, DefaultValue}
use Rattle.clap.proofs.CallerReads.{signed_reads}
use Rattle.clap.proofs.TakesLemmas.{present_row}
use Rattle.morris_words.specs.Words.{number_of}

-- where it came from
abbrev source_of : Option MatchedArg → Option ValueSource
source_of found = option_and_then (λ (a : MatchedArg). a.source) found

-- whether words gave a value from there, where it is known whether there is one
abbrev given_from : Option ValueSource → Bool → Bool
given_from None there = there
given_from (Some DefaultValue) there = false
given_from (Some CommandLine) there = true

pub given_by : (f : Found) (name : Text) → given_from (source_of (matched_of f name)) (is_some (matched_of f name)) ≡ is_given name (rows_of f)
given_by f name = found (matched_of f name) ∙ present_row f name
  where
    there : (source : Option ValueSource) → given_from source true ≡ explicit_source source
    there None = refl
    there (Some DefaultValue) = refl
    there (Some CommandLine) = refl

    found : (o : Option MatchedArg) → given_from (source_of o) (is_some o) ≡ option_map_or (λ (a : MatchedArg). explicit_source a.source) o false
    found None = refl
    found (Some a) = there a.source

-- what is read of a text in a range, by a reader of numbers of so many bits
pub read_number : {E : Type 0} (G : List ℕ → Result ℕ E → Type 0) (bits low high : ℕ) (t : List ℕ) (r : Option ℕ)
    → ReadsOne G (without_minus t) r → ((u : List ℕ) (x : Result ℕ E) → G u x → ParsesUnsigned bits 10 u x) → high < 2 ^ bits
    → IsSignedIn (pos low) (pos high) t → (n : ℕ) × (r ≡ Some n) × (low ≤ n) × (n ≤ high) × (number_of (without_minus t) ≡ n)
read_number {E} G bits low high t r one only fits in_range =
    let got = signed_reads E G bits low high t r one only fits in_range in
    let reads : G (without_minus t) (Ok got.0) = subst (λ o. ReadsOne G (without_minus t) o) got.1 one in
    (got.0, got.1, got.2, got.3, sym (only (without_minus t) (Ok got.0) reads).1)
