-- What a command takes, and what it reads of the values that its words gave.
use Rattle.std.proofs.Common.{◌≡◌, ◌∙◌, ◌||◌, ℕ, Bool, true, false, ap, ap₂, inl, refl, subst, sym, List, [], ◌∷◌, Option, Some, None, Result, codes, is_some, option_map}
use Rattle.std.specs.Option.{option_zip}
use Rattle.std.specs.Result.{result_ok}
use Rattle.std.specs.Prelude.{Err, IfOk, Ok}
use Rattle.std.specs.Prelude.{find, if◌then◌else◌, option_and_then, slice_get}
use Rattle.std.specs.Str.{bytes_eq}
use Rattle.clap.proofs.WalkLemmas.{one_text-rows}
use Rattle.clap.specs.Words.{AddsArg, AddsInTurn, AddsSubcommand, App, Rule, app_of, with_rule, with_subcommand}
use Rattle.clap.specs.declared.builder.arg.Arg.{Arg}
use Rattle.clap.specs.declared.builder.command.Command.{Command}
use Rattle.clap.specs.Matches.{one_text}
use Rattle.clap.specs.Takes.{is_given}
use Rattle.clap.specs.Values.{bool_text}
use Rattle.clap.specs.Values.{read_as}
use Rattle.clap.specs.declared.builder.value_parser.Reading.{Reading}
use Rattle.clap.specs.Walk.{Row, Text, first_of, one_of, row_text, rows_of}
use Rattle.clap.specs.declared.parser.matches.Found.{Found}
use Rattle.clap.specs.declared.error.kind.ErrorKind.TheVariants.{ArgumentConflict}
use Rattle.morris_words.specs.Words.{AreArgs, Is, IsAnswerTo, IsAnswerToOneOf, IsArg, IsLimit, clashes, has_clash, is_on, with_rules}
use Rattle.morris_words.specs.declared.arguments.Refusal.{Refusal}
use Rattle.morris_words.specs.declared.arguments.Refusal.TheVariants.{Memory, Help, Version, Wrong}

-- a command with one argument more
pub with_arg : (before : Command) (arg : Arg) (after : Command) (a : App) (r : Rule) → Is a before → IsArg r arg → AddsArg before arg after
    → Is (with_rule a r) after
with_arg before arg after a r was new adds =
    (adds.shape new.1 ∙ ap₂ with_rule was.0 new.0, adds.globals ∙ ap₂ (λ x y. x || y) was.1 new.1)

-- and with several, one after the other
pub with_args : (args : List Arg) (rules : List Rule) (before after : Command) (a : App) → Is a before → AreArgs rules args
    → AddsInTurn AddsArg before args after → Is (with_rules a rules) after
with_args [] [] before after a was are same = subst (Is a) same was
with_args [] (r ∷ rules) before after a was are same = absurd are
with_args (arg ∷ args) [] before after a was are adds = absurd are
with_args (arg ∷ args) (r ∷ rules) before after a was are adds =
    with_args args rules adds.0 after (with_rule a r) (with_arg before arg adds.0 a r was are.0 adds.1) are.1 adds.2

-- and with one subcommand more, where both are there
pub with_command : {E : Type 0} (program command : Result Command E) (p : Command × Command) (after : Command) (before added : App)
    → IfOk program (λ c. app_of c ≡ before) → IfOk command (Is added) → option_zip (result_ok program) (result_ok command) ≡ Some p
    → AddsSubcommand p.0 p.1 after → app_of after ≡ with_subcommand before added.top
with_command (Ok program) (Ok command) p after before added was is both adds =
    let same : (program, command) ≡ p = cc in
    let old : app_of p.0 ≡ before = subst (λ (q : Command × Command). app_of q.0 ≡ before) same was in
    let new : Is added p.1 = subst (λ (q : Command × Command). Is added q.1) same is in
    adds.shape new.1 ∙ ap₂ with_subcommand old (ap (λ (a : App). a.top) new.0)
with_command (Ok program) (Err refused) p after before added was is both adds = cc
with_command (Err refused) command p after before added was is both adds = cc

pub not_both : {X : Type 0} (r : Option X) (x : X) → r ≡ None → r ≡ Some x → ⊥
not_both r x none some =
    let bad : None ≡ Some x = sym none ∙ some in
    cc

pub not_there : {X : Type 0} (r : Option X) → r ≡ None → is_some r ≡ true → ⊥
not_there r none some =
    let bad : false ≡ true = sym (ap is_some none) ∙ some in
    cc

-- a flag whose value says true or false is read as what it says
pub flag_read : (found : Found) (id : Text) (b result : Bool) → one_of id (rows_of found) ≡ Some (bool_text b)
    → (one_text found id ≡ Some (codes "true") → result ≡ true) → (one_text found id ≡ Some (codes "false") → result ≡ false)
    → one_of id (rows_of found) ≡ Some (bool_text result)
flag_read found id true result is on off = is ∙ ap (λ b. Some (bool_text b)) (sym (on (one_text-rows found id ∙ is)))
flag_read found id false result is on off = is ∙ ap (λ b. Some (bool_text b)) (sym (off (one_text-rows found id ∙ is)))

-- a flag that says b is on where b is true
pub flag_on : (name : Text) (rows : List Row) (b : Bool) → one_of name rows ≡ Some (bool_text b) → is_on name rows ≡ b
flag_on name rows true is = rw is refl
flag_on name rows false is = rw is refl

-- what is made of a value is there where the value is
pub mapped_there : {X Y : Type 0} (f : X → Y) (o : Option X) → is_some (option_map f o) ≡ is_some o
mapped_there f None = refl
mapped_there f (Some x) = refl

-- the answer to two arguments that exclude each other
pub clash_answered : (name : Text) (rows : List Row) (r : Refusal) → has_clash name rows ≡ true → IsAnswerTo ArgumentConflict r
    → IsAnswerToOneOf (clashes (Some (name, rows))) r
clash_answered name rows r both answers =
    subst (λ (b : Bool). IsAnswerToOneOf (if b then ArgumentConflict ∷ [] else []) r) (sym both) (among r answers)
  where
    among : (r : Refusal) → IsAnswerTo ArgumentConflict r → IsAnswerToOneOf (ArgumentConflict ∷ []) r
    among Memory h = tt
    among (Help text) h = cc
    among (Version text) h = cc
    among (Wrong text) h = (ArgumentConflict, h.0, h.1, inl refl)

-- whether there is a clash, where it is known by what was looked for
pub is_clash : {X : Type 0} (name : Text) (rows : List Row) (o : Option X) (x : X) → o ≡ Some x → is_some o ≡ has_clash name rows → has_clash name rows ≡ true
is_clash name rows o x is same = sym same ∙ ap is_some is

pub free_of_clash : {X : Type 0} (name : Text) (rows : List Row) (o : Option X) → o ≡ None → is_some o ≡ has_clash name rows
    → clashes (Some (name, rows)) ≡ []
free_of_clash name rows o is same =
    let none : has_clash name rows ≡ false = sym same ∙ ap is_some is in
    rw none refl

-- a limit that is there was given
pub limit_given : (rows : List Row) (limit : Option ℕ) → is_some limit ≡ true → IsLimit rows limit → is_given (codes "limit") rows ≡ true
limit_given rows None some is =
    let bad : false ≡ true = some in
    cc
limit_given rows (Some most) some is = is.0

-- an argument without a first value has no text to read
pub no_text : (name : Text) (rows : List Row) → is_some (first_of name rows) ≡ false → one_of name rows ≡ None
no_text name rows none = go (find (λ (r : Row). bytes_eq r.id name) rows) none
  where
    empty : (reading : Reading) (values : List Text) → is_some (slice_get values 0) ≡ false → option_map (read_as reading) (slice_get values 0) ≡ None
    empty reading [] none = refl
    empty reading (value ∷ others) none =
        let bad : true ≡ false = none in
        cc

    go : (o : Option Row) → is_some (option_and_then (λ (r : Row). slice_get r.values 0) o) ≡ false → option_and_then row_text o ≡ None
    go None none = refl
    go (Some r) none = empty r.reading r.values none
