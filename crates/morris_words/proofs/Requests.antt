-- Where `clap` finds no mistake in the words, they name a command of the program, with the values
-- that its request wants.
use Rattle.std.proofs.Common.{◌≡◌, ◌∙◌, ◌++◌, ℕ, ◌&&◌, ◌||◌, ◌⊎◌, arith, Bool, true, false, not, refl, length, map, sym, ap, subst, inl, inr, List, [], ◌∷◌, Option, Some, None, is_some, codes}
use Rattle.std.specs.Prelude.{find, fold, nat_lt, option_map, pos}
use Rattle.std.specs.List.{list_all, list_any}
use Rattle.std.specs.Option.{option_map_or}
use Rattle.std.specs.Str.{bytes_eq}
use Rattle.std.proofs.lemmas.Bool.{ne_eqb}
use Rattle.std.proofs.lemmas.Slice.Eq.{bytes_eq-Decides}
use Rattle.clap.proofs.ValueTestLemmas.{accepts-Accepts}
use Rattle.clap.proofs.WalkLemmas.{both}
use Rattle.clap.specs.Faults.{built_fault, entered_fault, fault_of, level_fault}
use Rattle.clap.specs.Takes.{is_given}
use Rattle.clap.specs.ValueTests.{accepts}
use Rattle.clap.specs.Facts.{unwrap_or_range}
use Rattle.clap.specs.Values.{bool_text, is_request}
use Rattle.clap.specs.Walk.{Row, Rule, Text, action_of, answers_to, arg_by_id, finished, first_of, has_row, is_empty, nothing_held, rows_after, settled, stop_after, walk, with_default}
use Rattle.clap.specs.Simple.{App, Shape, argument_words, built, built_leaf, entered, help_rule, inherited, label_of, marked_built, names_of, new_shape, rows_at, with_leaf_noted, with_subcommand}
use Rattle.clap.specs.declared.builder.action.ArgAction.{ArgAction}
use Rattle.clap.specs.declared.builder.action.ArgAction.TheVariants.{Append, Set, SetTrue}
use Rattle.clap.specs.declared.builder.value_parser.ValueParser.{ValueParser}
use Rattle.clap.specs.declared.builder.value_parser.ValueParser.TheVariants as parser
use Rattle.morris_words.specs.Words.{HasFlag, HasNumber, HasValueBy, HasValues, NamesRequest, build_rules, command_app, commands, find_rules, look_rules, lookup_rules, morris_app, named_by, probe_rules, program, stats_rules, verify_rules}
use Rattle.morris_words.proofs.Parsed.{Each, Each-find, HasValue, IsNotHelp, IsPlainRule, Passing, arguments_there, default_fills, default_keeps, given_value, level_passes, row_value, subcommand_there, text_given}

-- ---- arguments that have a value where they are left out

-- no default takes a row away
defaults_keep : (id : Text) (rules : List Rule) (rows : List Row) → has_row id rows ≡ true → has_row id (fold with_default rows rules) ≡ true
defaults_keep id [] rows has = has
defaults_keep id (a ∷ rest) rows has = defaults_keep id rest (with_default rows a) (default_keeps id a rows has)

-- so an argument with a default has a row, whichever arguments come after it
default_stays : (a : Rule) (default : List Text) (rest : List Rule) (rows : List Row) → a.defaults ≡ default → is_empty default ≡ false
    → has_row a.id (fold with_default rows (a ∷ rest)) ≡ true
default_stays a [] rest rows is some =
    let bad : true ≡ false = some in
    cc
default_stays a (v ∷ vs) rest rows is some = defaults_keep a.id rest (with_default rows a) (default_fills a v vs rows is)

abbrev HasRow : List Row → Rule → Type 0
HasRow rows a = is_empty a.defaults ≡ false → has_row a.id rows ≡ true

have_rows : (rules : List Rule) (rows : List Row) → Each (HasRow (fold with_default rows rules)) rules
have_rows [] rows = tt
have_rows (a ∷ rest) rows = (default_stays a a.defaults rest rows refl, have_rows rest (with_default rows a))

-- ---- plain arguments

-- whether an argument takes a value at least, stands for one, or asks for help or for the version
abbrev is_plain : ArgAction → Rule → Bool
is_plain Set a = nat_lt 0 (unwrap_or_range a.range).start_inclusive
is_plain Append a = nat_lt 0 (unwrap_or_range a.range).start_inclusive
is_plain SetTrue a = nat_lt 0 (length a.missing)
is_plain x a = is_request x

plain_rule : (c : List Rule) (a : Rule) (x : ArgAction) → arg_by_id c a.id ≡ Some a → action_of a ≡ x → is_plain x a ≡ true → IsPlainRule c a
plain_rule c a Set known is plain = record { known = known; kind = inl (inl is, plain) }
plain_rule c a Append known is plain = record { known = known; kind = inl (inr is, plain) }
plain_rule c a SetTrue known is plain = record { known = known; kind = inr (inl (is, plain)) }
plain_rule c a _ known is plain = record { known = known; kind = inr (inr (ap is_request is ∙ plain)) }

all_plain : (c rules : List Rule) → map (λ a. arg_by_id c a.id) rules ≡ map (λ a. Some a) rules → list_all (λ a. is_plain (action_of a) a) rules ≡ true
    → Each (IsPlainRule c) rules
all_plain c [] known plain = tt
all_plain c (a ∷ rest) known plain =
    let here : arg_by_id c a.id ≡ Some a = cc in
    let later : map (λ x. arg_by_id c x.id) rest ≡ map (λ x. Some x) rest = cc in
    let kinds = both (is_plain (action_of a) a) (list_all (λ x. is_plain (action_of x) x) rest) plain in
    (plain_rule c a (action_of a) here refl kinds.0, all_plain c rest later kinds.1)

-- ---- what is known of each argument

-- It has a value where it has to be given, where it has a default, and where the words gave it; and
-- one without a default exactly there.
record IsServed (rows : List Row) (a : Rule) : Type 0 where
  when_required : a.required ≡ true → HasValue rows a
  when_left_out : is_empty a.defaults ≡ false → HasValue rows a
  when_given : is_given a.id rows ≡ true → HasValue rows a
  as_given : is_empty a.defaults ≡ true → is_given a.id rows ≡ is_some (first_of a.id rows)

either : (p q : Bool) → (p || q) ≡ false → (p ≡ false) × (q ≡ false)
either true q none = cc
either false q none = (refl, none)

given_where : (required given : Bool) → (required && not given) ≡ false → required ≡ true → given ≡ true
given_where true true none is = refl
given_where true false none is = cc
given_where false given none is = cc

all_served : (c : List Rule) (rows : List Row) → Passing c rows → (rules : List Rule) → Each (IsPlainRule c) rules
    → list_any (λ a. a.required && not (is_given a.id rows)) rules ≡ false → Each (HasRow rows) rules → Each (IsServed rows) rules
all_served c rows passes [] plain none has = tt
all_served c rows passes (a ∷ rest) plain none has =
    let parts = either (a.required && not (is_given a.id rows)) (list_any (λ x. x.required && not (is_given x.id rows)) rest) none in (
      record {
        when_required = λ is. given_value c rows a passes (given_where a.required (is_given a.id rows) parts.0 is) plain.0.known;
        when_left_out = λ some. row_value c rows a passes (has.0 some) plain.0.known;
        when_given = λ is. given_value c rows a passes is plain.0.known;
        as_given = λ empty. text_given c rows a passes plain.0.known empty;
      },
      all_served c rows passes rest plain.1 parts.1 has.1,
    )

unneeded : (negates lacks : Bool) → (not (negates && false) && lacks) ≡ false → lacks ≡ false
unneeded true lacks none = none
unneeded false lacks none = none

-- ---- what a request finds

-- a flag has a default that says true or false, and another argument with a default is a number
abbrev has_kind : Option ArgAction → Option ValueParser → List Text → Bool
has_kind (Some SetTrue) (Some parser.Bool) (v ∷ vs) = true
has_kind (Some SetTrue) _ _ = false
has_kind _ (Some (parser.Signed (pos low) (pos high))) _ = true
has_kind _ _ [] = true
has_kind _ _ (v ∷ vs) = false

-- a text that passed the parser of a flag says true or false
says_bool : (i : Bool) (t : Text) → accepts i parser.Bool t ≡ true → (b : Bool) × (t ≡ bool_text b)
says_bool i t pass = go (bytes_eq t (codes "true")) refl
  where
    go : (b : Bool) → bytes_eq t (codes "true") ≡ b → (b : Bool) × (t ≡ bool_text b)
    go true e = (true, (bytes_eq-Decides t (codes "true")).0 e)
    go false e = (false, (bytes_eq-Decides t (codes "false")).0 (rw e at pass))

module _ (rows : List Row) (a : Rule) (is : IsServed rows a) where
  some_default : (v : Text) (vs : List Text) → a.defaults ≡ v ∷ vs → is_empty a.defaults ≡ false
  some_default v vs e = ap is_empty e ∙ ne_eqb _ _ (λ same. omega arith)

  is_flag : a.parser ≡ Some parser.Bool → HasValue rows a → HasFlag a.id rows
  is_flag e value =
      let said = says_bool a.ignore_case value.first (rw e at value.passes) in
      (said.0, (rw e at value.read) ∙ ap (λ t. Some t) said.1)

  is_number : (low high : ℕ) → a.parser ≡ Some (parser.Signed (pos low) (pos high)) → HasValue rows a → HasNumber a.id low high rows
  is_number low high e value = record {
    text = value.first;
    read = rw e at value.read;
    in_range = accepts-Accepts a.ignore_case (parser.Signed (pos low) (pos high)) value.first (rw e at value.passes);
  }

  found_by : (required : Bool) (taken : Option ArgAction) (parsed : Option ValueParser) (default : List Text) → a.required ≡ required → a.parser ≡ parsed
      → a.defaults ≡ default → has_kind taken parsed default ≡ true → HasValueBy required taken parsed default a.id rows
  found_by true taken parsed default needed parses stands kind = ap is_some (is.when_required needed).is_first
  found_by false (Some SetTrue) (Some parser.Bool) (v ∷ vs) needed parses stands kind =
      is_flag parses (is.when_left_out (some_default v vs stands))
  found_by false (Some SetTrue) parsed default needed parses stands kind = cc
  found_by false taken (Some (parser.Signed (pos low) (pos high))) [] needed parses stands kind =
      record { there = is.as_given (ap is_empty stands); number = λ given. is_number low high parses (is.when_given given) }
  found_by false taken (Some (parser.Signed (pos low) (pos high))) (v ∷ vs) needed parses stands kind =
      is_number low high parses (is.when_left_out (some_default v vs stands))
  found_by false taken parsed [] needed parses stands kind = is.as_given (ap is_empty stands)
  found_by false taken parsed (v ∷ vs) needed parses stands kind = cc

all_found : (rows : List Row) (rules : List Rule) → Each (IsServed rows) rules → list_all (λ a. has_kind a.action a.parser a.defaults) rules ≡ true
    → HasValues rules rows
all_found rows [] is kinds = tt
all_found rows (a ∷ rest) is kinds =
    let parts = both (has_kind a.action a.parser a.defaults) (list_all (λ x. has_kind x.action x.parser x.defaults) rest) kinds in
    (found_by rows a is.0 a.required a.action a.parser a.defaults refl refl refl parts.0, all_found rows rest is.1 parts.1)

-- of a command in whose words there is no mistake
served : (s : Shape) (words : List Text) → map (λ a. arg_by_id s.rules a.id) s.rules ≡ map (λ a. Some a) s.rules
    → list_all (λ a. is_plain (action_of a) a) s.rules ≡ true → list_all (λ a. has_kind a.action a.parser a.defaults) s.rules ≡ true
    → level_fault s [] nothing_held words false [] ≡ [] → HasValues s.rules (rows_after s.rules [] words)
served s words known plain_kinds kinds none =
    let plain = all_plain s.rules s.rules known plain_kinds in
    let level = level_passes s [] words false [] plain none in
    let rows = rows_after s.rules [] words in
    let start = (settled s.rules (walk s.rules [] nothing_held words).held).rows in
    let needed = list_any (λ a. a.required && not (is_given a.id rows)) s.rules in
    all_found rows s.rules
    (all_served s.rules rows level.rows s.rules plain (unneeded s.subcommand_negates_reqs needed (arguments_there s rows false level.checked)) (have_rows s.rules start))
    kinds

-- the first of some arguments
front : (rules more : List Rule) (rows : List Row) → HasValues (rules ++ more) rows → HasValues rules rows
front [] more rows h = tt
front (r ∷ rules) more rows h = (h.0, front rules more rows h.1)

-- ---- the commands, as they are built

abbrev top_of : Text → List Rule → Shape
top_of name rules = record (new_shape name) { rules = rules }

abbrev with_tops : App → List (Text × List Rule) → App
with_tops a [] = a
with_tops a ((name, rules) ∷ rest) = with_tops (with_subcommand a (top_of name rules)) rest

abbrev whole : App
whole = with_tops program commands

abbrev built_of : Text → List Rule → Shape
built_of name rules = built_leaf (inherited (with_leaf_noted (marked_built whole.top)) (top_of name rules))

abbrev rows_of : Text → List Rule → List Text → List Row
rows_of name rules words = rows_after (built_of name rules).rules [] words

-- ---- the program

only_left : (b : Bool) → (b || false) ≡ true → b ≡ true
only_left true h = refl
only_left false h = h

-- a command of the program: its words make a request, or it is `help`, whose words always ask for
-- help
abbrev Serves : Shape → Type 0
Serves s = ((words : List Text) → level_fault s [] nothing_held words false [] ≡ [] → NamesRequest (Some (rows_at s words)))
    ⊎ ((s.name ≡ codes "help") × (s.aliases ≡ []))

all_serve : Each Serves (built whole).subs
all_serve = (
  inl (λ words none. front look_rules (help_rule ∷ []) (rows_of (codes "look") look_rules words) (served (built_of (codes "look") look_rules) words refl refl refl none)),
  (
    inl (λ words none. front stats_rules (help_rule ∷ []) (rows_of (codes "stats") stats_rules words) (served (built_of (codes "stats") stats_rules) words refl refl refl none)),
    (
      inl (λ words none. front build_rules (help_rule ∷ []) (rows_of (codes "build") build_rules words) (served (built_of (codes "build") build_rules) words refl refl refl none)),
      (
        inl (λ words none. front verify_rules (help_rule ∷ []) (rows_of (codes "verify") verify_rules words) (served (built_of (codes "verify") verify_rules) words refl refl refl none)),
        (
          inl (λ words none. front probe_rules (help_rule ∷ []) (rows_of (codes "probe") probe_rules words) (served (built_of (codes "probe") probe_rules) words refl refl refl none)),
          (
            inl (λ words none. front lookup_rules (help_rule ∷ []) (rows_of (codes "lookup") lookup_rules words) (served (built_of (codes "lookup") lookup_rules) words refl refl refl none)),
            (
              inl (λ words none. front find_rules (help_rule ∷ []) (rows_of (codes "find") find_rules words) (served (built_of (codes "find") find_rules) words refl refl refl none)),
              (inr (refl, refl), tt),
            ),
          ),
        ),
      ),
    ),
  ),
)

not_named_help : (s : Shape) (name : Text) → s.name ≡ codes "help" → s.aliases ≡ [] → answers_to name (label_of s) ≡ true
    → bytes_eq name (codes "help") ≡ false → ⊥
not_named_help s name is alone answers other =
    let here : (bytes_eq (codes "help") name || false) ≡ true = rw (is, alone) at answers in
    let same : codes "help" ≡ name = (bytes_eq-Decides (codes "help") name).0 (only_left (bytes_eq (codes "help") name) here) in
    let again : bytes_eq name (codes "help") ≡ true = (bytes_eq-Decides name (codes "help")).1 (sym same) in
    let bad : true ≡ false = sym again ∙ other in
    cc

found_named : (p : Text × List Text) (o : Option Shape) → ((s : Shape) → o ≡ Some s → Serves s × (answers_to p.0 (label_of s) ≡ true))
    → IsNotHelp (Some p) → option_map_or (λ s. level_fault s [] nothing_held p.1 false []) o [] ≡ []
    → is_some (option_map (λ s. rows_at s p.1) o) ≡ true → NamesRequest (option_map (λ s. rows_at s p.1) o)
found_named p None serves other none has = cc
found_named p (Some s) serves other none has =
    let at = serves s refl in
    elim at.0 [
      | inl fits ↦ fits p.1 none
      | inr named ↦ absurd (not_named_help s p.0 named.0 named.1 at.1 other)
    ]

entered_named : (a : App) (stop : Option (Text × List Text)) → Each Serves a.subs → IsNotHelp stop → entered_fault a stop ≡ []
    → is_some (entered a stop) ≡ true → NamesRequest (entered a stop)
entered_named a None serves other none has = cc
entered_named a (Some p) serves other none has =
    found_named p (find (λ s. answers_to p.0 (label_of s)) a.subs)
    (λ s e. Each-find Serves (λ x. answers_to p.0 (label_of x)) a.subs s serves e) other none has

there : (b : Bool) → (not b && true) ≡ false → b ≡ true
there true h = refl
there false h = cc

-- a program that wants a command, of which each serves
program_named : (a : App) (words : List Text) → Each (IsPlainRule a.top.rules) a.top.rules → Each Serves a.subs → a.top.subcommand_required ≡ true
    → a.top.disable_help_subcommand ≡ false → built_fault a nothing_held words ≡ []
    → NamesRequest (entered a (stop_after a.top.rules (names_of a) words))
program_named a words plain serves wants offers none =
    let stop = stop_after a.top.rules (names_of a) words in
    let has = is_some (entered a stop) in
    let level = level_passes a.top (names_of a) words has (entered_fault a stop) plain none in
    let rows = finished a.top.rules (walk a.top.rules (names_of a) nothing_held words).held in
    let wanted : (not has && true) ≡ false = subst (λ (b : Bool). (not has && b) ≡ false) wants (subcommand_there a.top rows has level.checked) in
    entered_named a stop serves (level.stopped offers) level.below_none (there has wanted)

pub named : (words : List Text) → fault_of morris_app words ≡ [] → NamesRequest (named_by words)
unfolding morris_app command_app
named words none = program_named (built whole) (argument_words whole words) (all_plain (built whole).top.rules (built whole).top.rules refl refl) all_serve refl refl none
