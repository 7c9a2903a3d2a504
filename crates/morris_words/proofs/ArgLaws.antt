-- What an argument takes after each call that builds it.
use Rattle.std.proofs.Common.{◌≡◌, ◌∙◌, Bool, ap, ap₂, [], ◌∷◌, Option, Some, None}
use Rattle.std.specs.Prelude.{IsSomeAnd}
use Rattle.std.specs.Borrow.{Bor}
use Rattle.clap.specs.Walk.{Rule, Text, rule_of}
use Rattle.clap.specs.declared.builder.action.ArgAction.{ArgAction}
use Rattle.clap.specs.declared.builder.arg.Arg.{Arg}
use Rattle.clap.specs.declared.builder.range.ValueRange.{ValueRange}
use Rattle.clap.specs.declared.builder.texts.Texts.TheVariants.{One}
use Rattle.clap.specs.declared.builder.value_parser.ValueParser.{ValueParser}
use Rattle.morris_words.specs.Words.{IsArg}

-- what help says of it changes nothing
pub with_help : (old new : Arg) (r : Rule) (help : Option (Bor Text)) → new ≡ record old { help = help } → IsArg r old → IsArg r new
with_help old new r help is was = (ap rule_of is ∙ was.0, ap (λ (a : Arg). a.global) is ∙ was.1)

pub with_required : (old new : Arg) (r : Rule) (b : Bool) → new ≡ record old { required = b } → IsArg r old
    → IsArg (record r { required = b }) new
with_required old new r b is was =
    (ap rule_of is ∙ ap (λ (x : Rule). record x { required = b }) was.0, ap (λ (a : Arg). a.global) is ∙ was.1)

pub with_long : (old new : Arg) (r : Rule) (name : Bor Text) → new ≡ record old { long = Some name } → IsArg r old
    → IsArg (record r { long = Some name.now }) new
with_long old new r name is was =
    (ap rule_of is ∙ ap (λ (x : Rule). record x { long = Some name.now }) was.0, ap (λ (a : Arg). a.global) is ∙ was.1)

pub with_action : (old new : Arg) (r : Rule) (action : ArgAction) → new ≡ record old { action = Some action } → IsArg r old
    → IsArg (record r { action = Some action }) new
with_action old new r action is was =
    (ap rule_of is ∙ ap (λ (x : Rule). record x { action = Some action }) was.0, ap (λ (a : Arg). a.global) is ∙ was.1)

pub with_value_name : (old new : Arg) (r : Rule) (name : Bor Text) → new ≡ record old { val_names = One name } → IsArg r old
    → IsArg (record r { value_names = 1 }) new
with_value_name old new r name is was =
    (ap rule_of is ∙ ap (λ (x : Rule). record x { value_names = 1 }) was.0, ap (λ (a : Arg). a.global) is ∙ was.1)

pub with_default : (old new : Arg) (r : Rule) (value : Bor Text) → new ≡ record old { default_vals = One value } → IsArg r old
    → IsArg (record r { defaults = value.now ∷ [] }) new
with_default old new r value is was =
    (ap rule_of is ∙ ap (λ (x : Rule). record x { defaults = value.now ∷ [] }) was.0, ap (λ (a : Arg). a.global) is ∙ was.1)

the_range : (o : Option ValueRange) (range : ValueRange) → IsSomeAnd o (λ x. x ≡ range) → o ≡ Some range
the_range None range has = absurd has
the_range (Some x) range has = ap (λ y. Some y) has

pub with_range : (old new : Arg) (r : Rule) (range : ValueRange) → new ≡ record old { num_vals = new.num_vals }
    → IsSomeAnd new.num_vals (λ x. x ≡ range) → IsArg r old → IsArg (record r { range = Some range }) new
with_range old new r range is has was =
    let given = the_range new.num_vals range has in
    (ap rule_of is ∙ ap₂ (λ (x : Rule) (o : Option ValueRange). record x { range = o }) was.0 given, ap (λ (a : Arg). a.global) is ∙ was.1)

pub with_parser : (old new : Arg) (r : Rule) (parser : ValueParser) → new ≡ record old { value_parser = new.value_parser }
    → new.value_parser ≡ Some parser → IsArg r old → IsArg (record r { parser = Some parser }) new
with_parser old new r parser is has was =
    (ap rule_of is ∙ ap₂ (λ (x : Rule) (o : Option ValueParser). record x { parser = o }) was.0 has, ap (λ (a : Arg). a.global) is ∙ was.1)
