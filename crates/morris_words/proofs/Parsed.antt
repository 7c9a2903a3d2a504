-- What holds of the matches of a command in whose words `clap` finds no mistake: each row belongs
-- to an argument, and has values that passed that argument's parser.
use Rattle.std.proofs.Common.{◌≡◌, ◌∙◌, ◌<◌, ◌&&◌, ◌||◌, ◌⊎◌, ◌++◌, ℕ, Bool, true, false, not, zero, suc, refl, sym, ap, subst, inl, inr, arith, List, [], ◌∷◌, length, Option, Some, None, is_some, codes, length-append}
use Rattle.std.specs.Prelude.{⊤, ◌==◌, drop, encode_utf8, find, fold, if◌then◌else◌, slice_get, nat_lt}
use Rattle.std.specs.List.{list_all, list_any}
use Rattle.std.specs.Option.{option_map_or}
use Rattle.std.specs.Str.{bytes_eq, chars}
use Rattle.std.proofs.lemmas.List.Folds.{list_all-append}
use Rattle.std.proofs.lemmas.Slice.Eq.{bytes_eq-Decides}
use Rattle.std.proofs.lemmas.Bool.{ltb-true, ne_eqb}
use Rattle.clap.proofs.WalkLemmas.{both}
use Rattle.clap.specs.Lexer.{long_of, short_of}
use Rattle.clap.specs.ValueTests.{accepts}
use Rattle.clap.specs.Values.{is_request, read_as, refused_kind}
use Rattle.clap.specs.Facts.{explicit_source, unwrap_or_range, parser_of_value}
use Rattle.clap.specs.Kinds.{Kinds, check_kinds, or_else, range_kinds, request_kinds, value_kinds, values_kinds}
use Rattle.clap.specs.Takes.{is_given, value_passes, values_pass}
use Rattle.clap.specs.Walk.{Held, Names, Outcome, Row, Rule, Step, Text, Waiting, Walk, action_of, after_flag, after_step, arg_by_id, arg_by_index, arg_by_long, arg_by_short, at_row, attached_value, bundle, bundle_met, bundle_step, done, finished, first_of, flag_met, has_row, nothing_held, one_of, idle, is_empty, is_pending, long_met, long_or_other, more_values, next, option, option_met, option_word, plain, plain_word, positional, positional_held, reacted, reading_by, refused, settled, settled_rows, short_met, short_or_plain, stronger, subcommand, subcommand_met, subcommand_or_other, takes_several, takes_values, to_positional, trailing, used, used_as, used_by_id, value, values_or_missing, waits, walk, walk_from, walked, walked_from, with_default, default_rows, with_values, without, word_met}
use Rattle.clap.specs.Simple.{Shape}
use Rattle.clap.specs.Faults.{action_fault, given_default_fault, bundle_fault, bundle_step_fault, check_fault, default_fault, defaults_fault, flag_word_fault, flags_fault, level_fault, long_fault, option_fault, other_fault, positional_fault, react_fault, set_fault, settle_fault, short_fault, step_fault, stray_fault, turn_fault, use_fault, values_fault, walk_fault, word_fault}
use Rattle.clap.specs.declared.builder.action.ArgAction.{ArgAction}
use Rattle.clap.specs.declared.builder.action.ArgAction.TheVariants.{Set, SetTrue, SetFalse, Append, Count, Help, HelpShort, HelpLong, Version}
use Rattle.clap.specs.declared.builder.value_parser.Reading.{Reading}
use Rattle.clap.specs.declared.builder.value_parser.ValueParser.{ValueParser}
use Rattle.clap.specs.declared.error.kind.ErrorKind.TheVariants.{DisplayHelp, InvalidSubcommand, InvalidValue, TooManyValues}
use Rattle.clap.specs.declared.parser.matches.ValueSource.{ValueSource}
use Rattle.clap.specs.declared.parser.matches.ValueSource.TheVariants.{CommandLine, DefaultValue}

-- ---- lists

abbrev pub Each : {X : Type 0} → (X → Type 0) → List X → Type 0
Each P [] = ⊤
Each P (x ∷ xs) = P x × Each P xs

Each-append : {X : Type 0} (P : X → Type 0) (xs ys : List X) → Each P xs → Each P ys → Each P (xs ++ ys)
Each-append P [] ys h k = k
Each-append P (x ∷ xs) ys h k = (h.0, Each-append P xs ys h.1 k)

-- what holds of each element holds of the one that a search finds
pub Each-find : {X : Type 0} (P : X → Type 0) (p : X → Bool) (xs : List X) (x : X) → Each P xs → find p xs ≡ Some x → P x × (p x ≡ true)
Each-find P p [] x h e = cc
Each-find {X} P p (y ∷ ys) x h e = go (p y) refl (λ rest. Each-find P p ys x h.1 rest)
  where
    go : (b : Bool) → p y ≡ b → (find p ys ≡ Some x → P x × (p x ≡ true)) → P x × (p x ≡ true)
    go true t rec =
        let same : Some y ≡ Some x = rw t at e in
        let is : y ≡ x = cc in
        (subst P is h.0, subst (λ (z : X). p z ≡ true) is t)
    go false t rec = rec (rw t at e)

-- ---- kinds

pub first_none : (a b : Kinds) → or_else a b ≡ [] → a ≡ []
first_none [] b h = refl
first_none (k ∷ ks) b h = cc

pub then_none : (a b : Kinds) → or_else a b ≡ [] → b ≡ []
then_none [] b h = h
then_none (k ∷ ks) b h = cc

accepted : (i : Bool) (p : ValueParser) (t : Text) → value_kinds i p t ≡ [] → accepts i p t ≡ true
accepted i p t h = go (accepts i p t) refl
  where
    go : (b : Bool) → accepts i p t ≡ b → accepts i p t ≡ true
    go true e = e
    go false e =
        let bad : refused_kind p ∷ [] ≡ [] = rw e at h in
        cc

all_accepted : (i : Bool) (p : ValueParser) (vs : List Text) → values_kinds i p vs ≡ [] → list_all (accepts i p) vs ≡ true
all_accepted i p [] h = refl
all_accepted i p (v ∷ vs) h =
    let one = accepted i p v (first_none (value_kinds i p v) (values_kinds i p vs) h) in
    let rest = all_accepted i p vs (then_none (value_kinds i p v) (values_kinds i p vs) h) in
    rw (one, rest) refl

-- ---- rows

-- the row belongs to an argument, and has a value at least, each of which passed that argument's
-- parser; and the words gave it, if the argument has no default
pub record RowPasses (c : List Rule) (r : Row) : Type 0 where
  pub rule : Rule
  pub known : arg_by_id c r.id ≡ Some rule
  pub some : 0 < length r.values
  pub passes : values_pass rule r.values ≡ true
  pub reading : r.reading ≡ reading_by rule
  pub given : is_empty rule.defaults ≡ true → explicit_source r.source ≡ true

-- the argument is the one of its id, and takes a value at least, which replaces those before or
-- comes after them, or is a flag that stands for a value at least, or asks for help or for the
-- version
pub record IsPlainRule (c : List Rule) (a : Rule) : Type 0 where
  pub known : arg_by_id c a.id ≡ Some a
  pub kind : (((action_of a ≡ Set) ⊎ (action_of a ≡ Append)) × (nat_lt 0 (unwrap_or_range a.range).start_inclusive ≡ true))
      ⊎ (((action_of a ≡ SetTrue) × (nat_lt 0 (length a.missing) ≡ true)) ⊎ (is_request (action_of a) ≡ true))

at_row_each : (P : Row → Type 0) (id : Text) (change : Row → List Row) (missing rows : List Row)
    → ((r : Row) → bytes_eq r.id id ≡ true → P r → Each P (change r)) → Each P missing → Each P rows → Each P (at_row id change missing rows)
at_row_each P id change missing [] step m h = m
at_row_each P id change missing (r ∷ rs) step m h = go (bytes_eq r.id id) refl (at_row_each P id change missing rs step m h.1)
  where
    go : (b : Bool) → bytes_eq r.id id ≡ b → Each P (at_row id change missing rs) → Each P (at_row id change missing (r ∷ rs))
    go true t rec = rw t (Each-append P (change r) rs (step r t h.0) h.1)
    go false t rec = rw t (h.0, rec)

abbrev pub Passing : List Rule → List Row → Type 0
Passing c rows = Each (RowPasses c) rows

-- values come from the words, if their argument has no default
abbrev IsGiven : Rule → ValueSource → Type 0
IsGiven a source = is_empty a.defaults ≡ true → source ≡ CommandLine

words_outweigh : (o : Option ValueSource) → stronger o CommandLine ≡ CommandLine
words_outweigh None = refl
words_outweigh (Some CommandLine) = refl
words_outweigh (Some DefaultValue) = refl

-- the row of an argument, with more values of it
with_more : (c : List Rule) (a : Rule) (source : ValueSource) (vals : List Text) → arg_by_id c a.id ≡ Some a → values_pass a vals ≡ true
    → IsGiven a source → (r : Row) → bytes_eq r.id a.id ≡ true → RowPasses c r → Passing c (more_values source vals r)
with_more c a source vals known pass given r same h =
    let id : r.id ≡ a.id = (bytes_eq-Decides r.id a.id).0 same in
    let both : Some h.rule ≡ Some a = sym h.known ∙ (ap (λ t. arg_by_id c t) id ∙ known) in
    let is : h.rule ≡ a = cc in
    let more : values_pass h.rule vals ≡ true = subst (λ (x : Rule). values_pass x vals ≡ true) (sym is) pass in
    let all : values_pass h.rule (r.values ++ vals) ≡ true = list_all-append _ r.values vals ∙ rw (h.passes, more) refl in (
      record {
        rule = h.rule;
        known = h.known;
        some = omega (arith, h.some, length-append r.values vals);
        passes = all;
        reading = h.reading;
        given = λ none.
            let words : source ≡ CommandLine = given (subst (λ (x : Rule). is_empty x.defaults ≡ true) is none) in
            ap (λ x. explicit_source (Some x)) (ap (stronger r.source) words ∙ words_outweigh r.source);
      },
      tt,
    )

filled_rows : (c : List Rule) (a : Rule) (source : ValueSource) (vals : List Text) (rows : List Row) → arg_by_id c a.id ≡ Some a → 0 < length vals
    → values_pass a vals ≡ true → IsGiven a source → Passing c rows → Passing c (with_values a.id (reading_by a) source vals rows)
filled_rows c a source vals rows known some pass given h =
    at_row_each (RowPasses c) a.id (more_values source vals) _ rows (with_more c a source vals known pass given)
    (record { rule = a; known = known; some = some; passes = pass; reading = refl; given = λ none. ap (λ x. explicit_source (Some x)) (given none) }, tt) h

without_rows : (c : List Rule) (id : Text) (rows : List Row) → Passing c rows → Passing c (without id rows)
without_rows c id rows h = at_row_each (RowPasses c) id (λ _. []) [] rows (λ r same p. tt) tt h

-- ---- one use of an argument

some_values : (a : Rule) (values : List Text) (least most : ℕ) → range_kinds least most (length values) ≡ [] → nat_lt 0 least ≡ true
    → 0 < length (values_or_missing a values)
some_values a [] least most none some =
    let bad : InvalidValue ∷ [] ≡ [] = rw some at none in
    cc
some_values a (v ∷ vs) least most none some = omega arith

missing_values : (a : Rule) (values : List Text) → nat_lt 0 (length a.missing) ≡ true → 0 < length (values_or_missing a values)
missing_values a [] some = ltb-true 0 (length a.missing) some
missing_values a (v ∷ vs) some = omega arith

module _ (c : List Rule) (again : Bool) (plain_rules : Each (IsPlainRule c) c) where
  set_passes : (a : Rule) (vals : List Text) (rows : List Row) → IsPlainRule c a → 0 < length vals → set_fault again a vals rows ≡ [] → Passing c rows
      → Passing c (with_values a.id (reading_by a) CommandLine vals (without a.id rows))
  set_passes a vals rows p some none h =
      filled_rows c a CommandLine vals (without a.id rows) p.known some (all_accepted a.ignore_case (parser_of_value a.parser) vals (then_none _ _ none))
      (λ none. refl) (without_rows c a.id rows h)

  -- a request leaves the rows as they are
  request_keeps : (x : ArgAction) (id : Text) (how : Reading) (values : List Text) (rows : List Row) → is_request x ≡ true → Passing c rows
      → Passing c (used_as x id how values rows)
  request_keeps Set id how values rows asks h = cc
  request_keeps Append id how values rows asks h = cc
  request_keeps SetTrue id how values rows asks h = cc
  request_keeps SetFalse id how values rows asks h = cc
  request_keeps Count id how values rows asks h = cc
  request_keeps Help id how values rows asks h = h
  request_keeps HelpShort id how values rows asks h = h
  request_keeps HelpLong id how values rows asks h = h
  request_keeps Version id how values rows asks h = h

  used_passes : (a : Rule) (values : List Text) (rows : List Row) → IsPlainRule c a → use_fault again a values rows ≡ [] → Passing c rows
      → Passing c (used a values rows)
  used_passes a values rows p none h = elim p.kind [
    | inl (inl is, least) ↦
        let vals = values_or_missing a values in
        let act : action_fault (action_of a) again a vals rows ≡ [] = then_none _ _ none in
        let as_set : set_fault again a vals rows ≡ [] = subst (λ (x : ArgAction). action_fault x again a vals rows ≡ []) is act in
        subst (λ (x : ArgAction). Passing c (used_as x a.id (reading_by a) vals rows)) (sym is)
        (set_passes a vals rows p (some_values a values _ _ (first_none _ _ none) least) as_set h)
    | inl (inr is, least) ↦
        let vals = values_or_missing a values in
        let act : action_fault (action_of a) again a vals rows ≡ [] = then_none _ _ none in
        let as_more : values_fault a vals ≡ [] = subst (λ (x : ArgAction). action_fault x again a vals rows ≡ []) is act in
        subst (λ (x : ArgAction). Passing c (used_as x a.id (reading_by a) vals rows)) (sym is)
        (filled_rows c a CommandLine vals rows p.known (some_values a values _ _ (first_none _ _ none) least)
        (all_accepted a.ignore_case (parser_of_value a.parser) vals as_more) (λ none. refl) h)
    | inr (inl k) ↦
        let vals = values_or_missing a values in
        let act : action_fault (action_of a) again a vals rows ≡ [] = then_none _ _ none in
        let as_set : set_fault again a vals rows ≡ [] = subst (λ (x : ArgAction). action_fault x again a vals rows ≡ []) k.0 act in
        subst (λ (x : ArgAction). Passing c (used_as x a.id (reading_by a) vals rows)) (sym k.0)
        (set_passes a vals rows p (missing_values a values k.1) as_set h)
    | inr (inr k) ↦ request_keeps (action_of a) a.id (reading_by a) (values_or_missing a values) rows k h
  ]

  by_rule_passes : (o : Option Rule) (values : List Text) (rows : List Row) → ((a : Rule) → o ≡ Some a → IsPlainRule c a)
      → option_map_or (λ a. use_fault again a values rows) o [] ≡ [] → Passing c rows → Passing c (used_by_id o values rows)
  by_rule_passes None values rows known none h = h
  by_rule_passes (Some a) values rows known none h = used_passes a values rows (known a refl) none h

  rule_found : (p : Rule → Bool) (a : Rule) → find p c ≡ Some a → IsPlainRule c a
  rule_found p a e = (Each-find (IsPlainRule c) p c a plain_rules e).0

  settled_passes : (pending : Option (Text × List Text)) (rows : List Row)
      → option_map_or (λ p. option_map_or (λ a. use_fault again a p.1 rows) (arg_by_id c p.0) []) pending [] ≡ [] → Passing c rows
      → Passing c (settled_rows c pending rows)
  settled_passes None rows none h = h
  settled_passes (Some p) rows none h = by_rule_passes (arg_by_id c p.0) p.1 rows (λ a e. rule_found _ a e) none h

  reacted_passes : (a : Rule) (values : List Text) (h : Held) → IsPlainRule c a → react_fault c again a values h ≡ [] → Passing c h.rows
      → Passing c (reacted c a values h).rows
  reacted_passes a values h p none rows =
      used_passes a values (settled c h).rows p (then_none _ _ none) (settled_passes h.pending h.rows (first_none _ _ none) rows)

  -- ---- flags

  option_passes : (a : Rule) (v : Option Text) (h : Held) → IsPlainRule c a → option_fault c again a v h ≡ [] → Passing c h.rows
      → Passing c (option_met c a v h).0.rows
  option_passes a (Some v) h p none rows = reacted_passes a (v ∷ []) h p none rows
  option_passes a None h p none rows = settled_passes h.pending h.rows none rows

  flag_passes : (a : Rule) (v : Option Text) (h : Held) → IsPlainRule c a → (if is_some v then TooManyValues ∷ [] else react_fault c again a [] h) ≡ []
      → Passing c h.rows → Passing c (flag_met c a v h).0.rows
  flag_passes a (Some v) h p none rows = rows
  flag_passes a None h p none rows = reacted_passes a [] h p none rows

  long_passes : (o : Option Rule) (v : Option Text) (h : Held) → ((a : Rule) → o ≡ Some a → IsPlainRule c a) → long_fault c again o v h ≡ []
      → Passing c h.rows → Passing c (long_met c o v h).0.rows
  long_passes None v h known none rows = rows
  long_passes (Some a) v h known none rows = go (takes_values a) refl
    where
      go : (b : Bool) → takes_values a ≡ b → Passing c (long_met c (Some a) v h).0.rows
      go true t = rw t (option_passes a v h (known a refl) (rw t at none) rows)
      go false t = rw t (flag_passes a v h (known a refl) (rw t at none) rows)

  short_passes : (o : Option Rule) (rest : Text) (h : Held) (next_met : Held → Held × Outcome) (next_fault : Held → Kinds)
      → ((a : Rule) → o ≡ Some a → IsPlainRule c a)
      → ((k : Held) → next_fault k ≡ [] → Passing c k.rows → Passing c (next_met k).0.rows)
      → short_fault c again o rest h next_fault ≡ [] → Passing c h.rows → Passing c (short_met c o rest h next_met).0.rows
  short_passes None rest h next_met next_fault known after none rows = rows
  short_passes (Some a) rest h next_met next_fault known after none rows = go (takes_values a) refl
    where
      go : (b : Bool) → takes_values a ≡ b → Passing c (short_met c (Some a) rest h next_met).0.rows
      go true t = rw t (option_passes a (attached_value rest) h (known a refl) (rw t at none) rows)
      go false t =
          let faults : or_else (react_fault c again a [] h) (next_fault (reacted c a [] h)) ≡ [] = rw t at none in
          rw t (after (reacted c a [] h) (then_none (react_fault c again a [] h) _ faults)
          (reacted_passes a [] h (known a refl) (first_none (react_fault c again a [] h) _ faults) rows))

  step_passes : (o : Option ℕ) (flags : Text) (skip : ℕ) (so_far : Outcome) (h : Held) (met : Text → ℕ → Outcome → Held → Held × Outcome)
      (fault : Text → ℕ → Held → Kinds)
      → ((rest : Text) (n : ℕ) (u : Outcome) (k : Held) → fault rest n k ≡ [] → Passing c k.rows → Passing c (met rest n u k).0.rows)
      → bundle_step_fault c again o flags skip h fault ≡ [] → Passing c h.rows → Passing c (bundle_step c o flags skip so_far h met).0.rows
  step_passes None flags skip so_far h met fault after none rows = rows
  step_passes (Some x) flags zero so_far h met fault after none rows =
      let rest = drop (length (encode_utf8 x)) flags in
      short_passes (arg_by_short c x) rest h (met rest 0 done) (fault rest 0) (λ a e. rule_found _ a e) (λ k. after rest 0 done k) none rows
  step_passes (Some x) flags (suc skip) so_far h met fault after none rows = after (drop (length (encode_utf8 x)) flags) skip so_far h none rows

  bundle_passes : (k : ℕ) (flags : Text) (skip : ℕ) (so_far : Outcome) (h : Held) → flags_fault c again k flags skip h ≡ [] → Passing c h.rows
      → Passing c (bundle_met c k flags skip so_far h).0.rows
  unfolding flags_fault bundle_met
  bundle_passes zero flags skip so_far h none rows = rows
  bundle_passes (suc k) flags skip so_far h none rows =
      step_passes (slice_get (chars flags) 0) flags skip so_far h (bundle_met c k) (flags_fault c again k) (bundle_passes k) none rows

  -- ---- words

  option_kept : (o : Option Rule) (id word : Text) (h : Held) → Passing c h.rows → Passing c (option_word o id word h).0.rows
  option_kept None id word h rows = rows
  option_kept (Some a) id word h rows = rows

  plain_kept : (waiting : Waiting) (word : Text) (h : Held) → Passing c h.rows → Passing c (plain_word c waiting word h).0.rows
  plain_kept idle word h rows = rows
  plain_kept (option id) word h rows = option_kept (arg_by_id c id) id word h rows
  plain_kept positional word h rows = rows

  flag_kept : (waiting : Waiting) (word : Text) (h : Held) (o : Outcome) → Passing c h.rows → Passing c (after_flag c waiting word h o).0.rows
  flag_kept waiting word h done rows = rows
  flag_kept waiting word h (waits id) rows = rows
  flag_kept waiting word h plain rows = plain_kept waiting word h rows
  flag_kept waiting word h refused rows = plain_kept waiting word h rows

  dashed_passes : (long : Option (Text × Option Text)) (short : Option Text) (waiting : Waiting) (word : Text) (h : Held)
      → long ≡ long_of word → short ≡ short_of word
      → flag_word_fault c again long word h ≡ [] → Passing c h.rows → Passing c (long_or_other c waiting word long h).0.rows
  dashed_passes (Some p) short waiting word h is_long is_short none rows =
      let met = long_met c (arg_by_long c p.0) p.1 h in
      flag_kept waiting word met.0 met.1 (long_passes (arg_by_long c p.0) p.1 h (λ a e. rule_found _ a e) none rows)
  dashed_passes None short waiting word h is_long is_short none rows = go short is_short
    where
      go : (o : Option Text) → o ≡ short_of word → Passing c (short_or_plain c waiting word (short_of word) h).0.rows
      go (Some flags) e =
          let faults : bundle_fault c again flags h ≡ [] = rw (← e) at none in
          let met = bundle c flags h in
          rw (← e) (flag_kept waiting word met.0 met.1 (bundle_passes (length flags) flags h.skip plain (record h { skip = 0 }) faults rows))
      go None e = rw (← e) (plain_kept waiting word h rows)

-- the name at which a walk stopped is not `help`
abbrev pub IsNotHelp : Option (Text × List Text) → Type 0
IsNotHelp None = ⊤
IsNotHelp (Some p) = bytes_eq p.0 (codes "help") ≡ false

abbrev StepsNotToHelp : Step → Type 0
StepsNotToHelp (subcommand name) = bytes_eq name (codes "help") ≡ false
StepsNotToHelp _ = ⊤

plain_no_stop : (c : List Rule) (waiting : Waiting) (word : Text) (h : Held) → StepsNotToHelp (plain_word c waiting word h).1
plain_no_stop c idle word h = tt
plain_no_stop c (option id) word h = tt
plain_no_stop c positional word h = tt

flag_no_stop : (c : List Rule) (waiting : Waiting) (word : Text) (h : Held) (o : Outcome) → StepsNotToHelp (after_flag c waiting word h o).1
flag_no_stop c waiting word h done = tt
flag_no_stop c waiting word h (waits id) = tt
flag_no_stop c waiting word h plain = plain_no_stop c waiting word h
flag_no_stop c waiting word h refused = plain_no_stop c waiting word h

short_no_stop : (c : List Rule) (waiting : Waiting) (word : Text) (h : Held) (o : Option Text) → StepsNotToHelp (short_or_plain c waiting word o h).1
short_no_stop c waiting word h (Some flags) = flag_no_stop c waiting word (bundle c flags h).0 (bundle c flags h).1
short_no_stop c waiting word h None = plain_no_stop c waiting word h

dashed_no_stop : (c : List Rule) (waiting : Waiting) (word : Text) (h : Held) (o : Option (Text × Option Text))
    → StepsNotToHelp (long_or_other c waiting word o h).1
dashed_no_stop c waiting word h (Some p) =
    let met = long_met c (arg_by_long c p.0) p.1 h in
    flag_no_stop c waiting word met.0 met.1
dashed_no_stop c waiting word h None = short_no_stop c waiting word h (short_of word)

module _ (s : Shape) (names : Names) (plain_rules : Each (IsPlainRule s.rules) s.rules) where
  other_passes : (o : Option Text) (waiting : Waiting) (position : ℕ) (word : Text) (h : Held) → other_fault s o word h ≡ [] → Passing s.rules h.rows
      → Passing s.rules (subcommand_or_other s.rules o waiting position word h).0.rows
  other_passes (Some name) waiting position word h none rows = rows
  other_passes None waiting position word h none rows = go (bytes_eq word (45 ∷ 45 ∷ [])) refl
    where
      go : (b : Bool) → bytes_eq word (45 ∷ 45 ∷ []) ≡ b → Passing s.rules (subcommand_or_other s.rules None waiting position word h).0.rows
      go true t = rw t rows
      go false t =
          rw t (dashed_passes s.rules s.args_override_self plain_rules (long_of word) (short_of word) waiting word h refl refl (rw t at none) rows)

  other_no_help : (o : Option Text) (waiting : Waiting) (position : ℕ) (word : Text) (h : Held) → s.disable_help_subcommand ≡ false
      → other_fault s o word h ≡ [] → StepsNotToHelp (subcommand_or_other s.rules o waiting position word h).1
  other_no_help (Some name) waiting position word h offers none = go (bytes_eq name (codes "help")) refl
    where
      go : (b : Bool) → bytes_eq name (codes "help") ≡ b → bytes_eq name (codes "help") ≡ false
      go false t = t
      go true t =
          let bad : DisplayHelp ∷ InvalidSubcommand ∷ [] ≡ [] = rw (t, offers) at none in
          cc
  other_no_help None waiting position word h offers none = go (bytes_eq word (45 ∷ 45 ∷ [])) refl
    where
      go : (b : Bool) → bytes_eq word (45 ∷ 45 ∷ []) ≡ b → StepsNotToHelp (subcommand_or_other s.rules None waiting position word h).1
      go true t = rw t tt
      go false t = rw t (dashed_no_stop s.rules waiting word h (long_of word))

  word_passes : (is_trailing : Bool) (waiting : Waiting) (position : ℕ) (word : Text) (h : Held) → word_fault s names is_trailing waiting word h ≡ []
      → Passing s.rules h.rows → Passing s.rules (word_met s.rules names is_trailing waiting position word h).0.rows
  word_passes true waiting position word h none rows = rows
  word_passes false waiting position word h none rows = other_passes (subcommand_met names waiting word) waiting position word h none rows

  word_no_help : (is_trailing : Bool) (waiting : Waiting) (position : ℕ) (word : Text) (h : Held) → s.disable_help_subcommand ≡ false
      → word_fault s names is_trailing waiting word h ≡ [] → StepsNotToHelp (word_met s.rules names is_trailing waiting position word h).1
  word_no_help true waiting position word h offers none = tt
  word_no_help false waiting position word h offers none = other_no_help (subcommand_met names waiting word) waiting position word h offers none

  positional_passes : (o : Option Rule) (word : Text) (w : Walk) (h : Held)
      → option_map_or (λ a. positional_fault s.rules s.args_override_self a h) o (stray_fault s) ≡ [] → Passing s.rules h.rows
      → Passing s.rules (to_positional s.rules o word w h).held.rows
  positional_passes None word w h none rows = rows
  positional_passes (Some a) word w h none rows = go (is_pending a h.pending && takes_several a) refl
    where
      go : (b : Bool) → (is_pending a h.pending && takes_several a) ≡ b → Passing s.rules (positional_held s.rules a word h).rows
      go true t = rw t rows
      go false t = rw t (settled_passes s.rules s.args_override_self plain_rules h.pending h.rows (rw t at none) rows)

  after_step_passes : (word : Text) (w : Walk) (h : Held) (step : Step) → step_fault s w.position h step ≡ [] → Passing s.rules h.rows
      → Passing s.rules (after_step s.rules word w h step).held.rows
  after_step_passes word w h (next waiting) none rows = rows
  after_step_passes word w h (trailing position) none rows = rows
  after_step_passes word w h (subcommand name) none rows = rows
  after_step_passes word w h value none rows = positional_passes (arg_by_index s.rules w.position) word w h none rows

  positional_no_help : (o : Option Rule) (word : Text) (w : Walk) (h : Held) → IsNotHelp w.stopped → IsNotHelp (to_positional s.rules o word w h).stopped
  positional_no_help None word w h kept = kept
  positional_no_help (Some a) word w h kept = tt

  after_step_no_help : (word : Text) (w : Walk) (h : Held) (step : Step) → StepsNotToHelp step → IsNotHelp w.stopped
      → IsNotHelp (after_step s.rules word w h step).stopped
  after_step_no_help word w h (next waiting) other kept = kept
  after_step_no_help word w h (trailing position) other kept = kept
  after_step_no_help word w h (subcommand name) other kept = other
  after_step_no_help word w h value other kept = positional_no_help (arg_by_index s.rules w.position) word w h kept

  -- what the walk keeps from word to word
  abbrev Holds : Walk → Type 0
  Holds w = Passing s.rules w.held.rows × (s.disable_help_subcommand ≡ false → IsNotHelp w.stopped)

  turn_holds : (o : Option (Text × List Text)) (w : Walk) (word : Text) → o ≡ w.stopped
      → (if is_some o then [] else or_else (word_fault s names w.is_trailing w.waiting word w.held)
      (step_fault s w.position (word_met s.rules names w.is_trailing w.waiting w.position word w.held).0
      (word_met s.rules names w.is_trailing w.waiting w.position word w.held).1)) ≡ []
      → Holds w → Holds (walked_from s.rules names o w word)
  turn_holds (Some p) w word is none h = (h.0, λ offers. subst IsNotHelp (sym is) (h.1 offers))
  turn_holds None w word is none h =
      let met = word_met s.rules names w.is_trailing w.waiting w.position word w.held in
      let faults = word_fault s names w.is_trailing w.waiting word w.held in
      let word_none : faults ≡ [] = first_none faults (step_fault s w.position met.0 met.1) none in
      let step_none : step_fault s w.position met.0 met.1 ≡ [] = then_none faults (step_fault s w.position met.0 met.1) none in (
        after_step_passes word w met.0 met.1 step_none (word_passes w.is_trailing w.waiting w.position word w.held word_none h.0),
        λ offers. after_step_no_help word w met.0 met.1 (word_no_help w.is_trailing w.waiting w.position word w.held offers word_none) (h.1 offers),
      )

  walk_holds : (words : List Text) (w : Walk) → walk_fault s names w words ≡ [] → Holds w → Holds (fold (walked s.rules names) w words)
  unfolding walk_fault walked
  walk_holds [] w none h = h
  walk_holds (word ∷ rest) w none h =
      let turn = turn_fault s names w word in
      let after = walk_fault s names (walked s.rules names w word) rest in
      walk_holds rest (walked s.rules names w word) (then_none turn after none) (turn_holds w.stopped w word refl (first_none turn after none) h)

-- ---- defaults

given_default_passes : (c : List Rule) (a : Rule) (vs : List Text) (rows : List Row) → IsPlainRule c a → a.defaults ≡ vs
    → (if is_empty vs then [] else given_default_fault a vs) ≡ [] → Passing c rows → Passing c (default_rows a.id (reading_by a) vs rows)
given_default_passes c a [] rows p is none h = h
given_default_passes c a (v ∷ vs) rows p is none h =
    let some : (length (v ∷ vs) == 0) ≡ false = ne_eqb _ _ (λ e. omega arith) in
    let faults : given_default_fault a (v ∷ vs) ≡ [] = rw some at none in
    let values : values_fault a (v ∷ vs) ≡ [] = then_none (request_kinds (action_of a)) (values_fault a (v ∷ vs)) faults in
    let given : IsGiven a DefaultValue = λ empty.
    let bad : true ≡ false = sym empty ∙ (ap is_empty is ∙ some) in
    cc in
    filled_rows c a DefaultValue (v ∷ vs) rows p.known (omega arith) (all_accepted a.ignore_case (parser_of_value a.parser) (v ∷ vs) values) given h

default_passes : (c : List Rule) (a : Rule) (rows : List Row) → IsPlainRule c a → default_fault rows a ≡ [] → Passing c rows
    → Passing c (with_default rows a)
default_passes c a rows p none h = go (has_row a.id rows) refl
  where
    go : (b : Bool) → has_row a.id rows ≡ b → Passing c (with_default rows a)
    go true t = rw t h
    go false t = rw t (given_default_passes c a a.defaults rows p refl (rw t at none) h)

defaults_pass : (c : List Rule) (rules : List Rule) (rows : List Row) → Each (IsPlainRule c) rules → defaults_fault rows rules ≡ [] → Passing c rows
    → Passing c (fold with_default rows rules)
unfolding defaults_fault
defaults_pass c [] rows known none h = h
defaults_pass c (a ∷ rest) rows known none h =
    let here = default_fault rows a in
    let later = defaults_fault (with_default rows a) rest in
    defaults_pass c rest (with_default rows a) known.1 (then_none here later none) (default_passes c a rows known.0 (first_none here later none) h)

-- ---- a level

-- a level in whose words there is no mistake
pub record LevelPasses (s : Shape) (end : Walk) (has_subcommand : Bool) (below : Kinds) : Type 0 where
  pub rows : Passing s.rules (finished s.rules end.held)
  pub stopped : s.disable_help_subcommand ≡ false → IsNotHelp end.stopped
  pub below_none : below ≡ []
  pub checked : check_fault s (finished s.rules end.held) has_subcommand ≡ []

pub level_passes : (s : Shape) (names : Names) (words : List Text) (has_subcommand : Bool) (below : Kinds) → Each (IsPlainRule s.rules) s.rules
    → level_fault s names nothing_held words has_subcommand below ≡ [] → LevelPasses s (walk s.rules names nothing_held words) has_subcommand below
level_passes s names words has below known none =
    let start = walk_from nothing_held in
    let end = walk s.rules names nothing_held words in
    let walking = walk_fault s names start words in
    let settling = settle_fault s.rules s.args_override_self end.held in
    let filling = defaults_fault (settled s.rules end.held).rows s.rules in
    let checking = check_fault s (finished s.rules end.held) has in
    let after_walk = then_none walking (or_else below (or_else settling (or_else filling checking))) none in
    let after_below = then_none below (or_else settling (or_else filling checking)) after_walk in
    let after_settling = then_none settling (or_else filling checking) after_below in
    let walked_all = walk_holds s names known words start (first_none walking _ none) (tt, λ offers. tt) in
    let rows = settled_passes s.rules s.args_override_self known end.held.pending end.held.rows
    (first_none settling (or_else filling checking) after_below) walked_all.0 in
    record {
      rows = defaults_pass s.rules s.rules (settled s.rules end.held).rows known (first_none filling checking after_settling) rows;
      stopped = walked_all.1;
      below_none = first_none below _ after_walk;
      checked = then_none filling checking after_settling;
    }

check_none : (x y z : Bool) → check_kinds x y z ≡ [] → (x ≡ false) × (y ≡ false) × (z ≡ false)
check_none true y z h = cc
check_none false true z h = cc
check_none false false true h = cc
check_none false false false h = (refl, refl, refl)

module _ (s : Shape) (rows : List Row) (has_subcommand : Bool) (none : check_fault s rows has_subcommand ≡ []) where
  checks : ((not has_subcommand && (s.arg_required_else_help && not (list_any (λ r. explicit_source r.source) rows))) ≡ false)
      × ((not has_subcommand && s.subcommand_required) ≡ false)
      × ((not (s.subcommand_negates_reqs && has_subcommand) && list_any (λ a. a.required && not (is_given a.id rows)) s.rules) ≡ false)
  checks = check_none (not has_subcommand && (s.arg_required_else_help && not (list_any (λ r. explicit_source r.source) rows)))
      (not has_subcommand && s.subcommand_required)
      (not (s.subcommand_negates_reqs && has_subcommand) && list_any (λ a. a.required && not (is_given a.id rows)) s.rules) none

  -- a subcommand that is required is there
  pub subcommand_there : (not has_subcommand && s.subcommand_required) ≡ false
  subcommand_there = checks.1

  -- and so are the required arguments
  pub arguments_there : (not (s.subcommand_negates_reqs && has_subcommand) && list_any (λ a. a.required && not (is_given a.id rows)) s.rules) ≡ false
  arguments_there = checks.2

-- ---- the values of an argument

-- the first value of an argument passed its parser
pub record HasValue (rows : List Row) (a : Rule) : Type 0 where
  pub first : Text
  pub is_first : first_of a.id rows ≡ Some first
  pub read : one_of a.id rows ≡ Some (read_as (reading_by a) first)
  pub passes : value_passes a first ≡ true

first_values : (a : Rule) (vs : List Text) → 0 < length vs → values_pass a vs ≡ true
    → (v : Text) × (slice_get vs 0 ≡ Some v) × (value_passes a v ≡ true)
first_values a [] some pass = absurd (omega arith)
first_values a (v ∷ vs) some pass = (v, refl, (both (value_passes a v) (values_pass a vs) pass).0)

texts_at : (id : Text) (rows : List Row) (r : Row) (how : Reading) (v : Text) → find (λ x. bytes_eq x.id id) rows ≡ Some r → r.reading ≡ how
    → slice_get r.values 0 ≡ Some v → (first_of id rows ≡ Some v) × (one_of id rows ≡ Some (read_as how v))
texts_at id rows r how v found reading at = (
  rw found at,
  rw (found, at, reading) refl,
)

pub value_at : (c : List Rule) (rows : List Row) (a : Rule) (r : Row) → Passing c rows → find (λ x. bytes_eq x.id a.id) rows ≡ Some r
    → arg_by_id c a.id ≡ Some a → HasValue rows a
value_at c rows a r h found known =
    let got = Each-find (RowPasses c) (λ x. bytes_eq x.id a.id) rows r h found in
    let p = got.0 in
    let id : r.id ≡ a.id = (bytes_eq-Decides r.id a.id).0 got.1 in
    let same : Some p.rule ≡ Some a = sym p.known ∙ (ap (λ t. arg_by_id c t) id ∙ known) in
    let is : p.rule ≡ a = cc in
    let pass : values_pass a r.values ≡ true = subst (λ (x : Rule). values_pass x r.values ≡ true) is p.passes in
    let v = first_values a r.values p.some pass in
    let reading : r.reading ≡ reading_by a = p.reading ∙ ap reading_by is in
    let strings = texts_at a.id rows r (reading_by a) v.0 found reading v.1 in
    record {
      first = v.0;
      is_first = strings.0;
      read = strings.1;
      passes = v.2;
    }

row_given : (o : Option Row) → option_map_or (λ r. explicit_source r.source) o false ≡ true → (r : Row) × (o ≡ Some r)
row_given None h = cc
row_given (Some r) h = (r, refl)

-- an argument that was given has a value
pub given_value : (c : List Rule) (rows : List Row) (a : Rule) → Passing c rows → is_given a.id rows ≡ true → arg_by_id c a.id ≡ Some a → HasValue rows a
given_value c rows a h given known =
    let r = row_given (find (λ x. bytes_eq x.id a.id) rows) given in
    value_at c rows a r.0 h r.1 known

row_any : (p : Row → Bool) (rows : List Row) → list_any p rows ≡ true → (r : Row) × (find p rows ≡ Some r)
row_any p [] h = cc
row_any p (r ∷ rs) h = go (p r) refl (λ rest. row_any p rs rest)
  where
    go : (b : Bool) → p r ≡ b → (list_any p rs ≡ true → (x : Row) × (find p rs ≡ Some x)) → (x : Row) × (find p (r ∷ rs) ≡ Some x)
    go true t rec = (r, rw t refl)
    go false t rec =
        let rest = rec (rw t at h) in
        (rest.0, rw t rest.1)

-- and so has one with a row
pub row_value : (c : List Rule) (rows : List Row) (a : Rule) → Passing c rows → has_row a.id rows ≡ true → arg_by_id c a.id ≡ Some a → HasValue rows a
row_value c rows a h has known =
    let r = row_any (λ x. bytes_eq x.id a.id) rows has in
    value_at c rows a r.0 h r.1 known

-- an argument with no default has a value exactly where the words gave it
pub text_given : (c : List Rule) (rows : List Row) (a : Rule) → Passing c rows → arg_by_id c a.id ≡ Some a → is_empty a.defaults ≡ true
    → is_given a.id rows ≡ is_some (first_of a.id rows)
text_given c rows a h known none = go (find (λ x. bytes_eq x.id a.id) rows) refl
  where
    go : (o : Option Row) → find (λ x. bytes_eq x.id a.id) rows ≡ o → is_given a.id rows ≡ is_some (first_of a.id rows)
    go None e = rw e refl
    go (Some r) e =
        let value : HasValue rows a = value_at c rows a r h e known in
        let got = Each-find (RowPasses c) (λ x. bytes_eq x.id a.id) rows r h e in
        let p = got.0 in
        let id : r.id ≡ a.id = (bytes_eq-Decides r.id a.id).0 got.1 in
        let same : Some p.rule ≡ Some a = sym p.known ∙ (ap (λ t. arg_by_id c t) id ∙ known) in
        let is : p.rule ≡ a = cc in
        let words : explicit_source r.source ≡ true = p.given (subst (λ (x : Rule). is_empty x.defaults ≡ true) (sym is) none) in
        ap (λ o. option_map_or (λ x. explicit_source x.source) o false) e ∙ (words ∙ sym (ap is_some value.is_first))

at_row_new : (id : Text) (change : Row → List Row) (missing rows : List Row) → has_row id rows ≡ false → at_row id change missing rows ≡ rows ++ missing
at_row_new id change missing [] none = refl
at_row_new id change missing (r ∷ rs) none = go (bytes_eq r.id id) refl (λ rest. at_row_new id change missing rs rest)
  where
    go : (b : Bool) → bytes_eq r.id id ≡ b → (has_row id rs ≡ false → at_row id change missing rs ≡ rs ++ missing)
        → at_row id change missing (r ∷ rs) ≡ (r ∷ rs) ++ missing
    go true t rec =
        let bad : true ≡ false = rw t at none in
        cc
    go false t rec = rw t (ap (λ xs. r ∷ xs) (rec (rw t at none)))

has_row-append : (id : Text) (rows more : List Row) → has_row id (rows ++ more) ≡ (has_row id rows || has_row id more)
has_row-append id [] more = refl
has_row-append id (r ∷ rs) more = go (bytes_eq r.id id) refl (has_row-append id rs more)
  where
    go : (b : Bool) → bytes_eq r.id id ≡ b → has_row id (rs ++ more) ≡ (has_row id rs || has_row id more)
        → has_row id ((r ∷ rs) ++ more) ≡ (has_row id (r ∷ rs) || has_row id more)
    go true t rec = rw t refl
    go false t rec = rw t rec

filled_has : (id own : Text) (how : Reading) (vs : List Text) (rows : List Row) → has_row own rows ≡ false → has_row id rows ≡ true
    → has_row id (default_rows own how vs rows) ≡ true
filled_has id own how [] rows none has = has
filled_has id own how (v ∷ vs) rows none has =
    ap (has_row id) (at_row_new own (more_values DefaultValue (v ∷ vs)) _ rows none) ∙ (has_row-append id rows _ ∙ rw has refl)

-- a default takes no row away
pub default_keeps : (id : Text) (a : Rule) (rows : List Row) → has_row id rows ≡ true → has_row id (with_default rows a) ≡ true
default_keeps id a rows has = go (has_row a.id rows) refl
  where
    go : (b : Bool) → has_row a.id rows ≡ b → has_row id (with_default rows a) ≡ true
    go true t = rw t has
    go false t = rw t (filled_has id a.id (reading_by a) a.defaults rows t has)

-- and gives its argument one
pub default_fills : (a : Rule) (v : Text) (vs : List Text) (rows : List Row) → a.defaults ≡ v ∷ vs → has_row a.id (with_default rows a) ≡ true
default_fills a v vs rows is = go (has_row a.id rows) refl
  where
    go : (b : Bool) → has_row a.id rows ≡ b → has_row a.id (with_default rows a) ≡ true
    go true t = rw t t
    go false t =
        let self : bytes_eq a.id a.id ≡ true = (bytes_eq-Decides a.id a.id).1 refl in
        let filled : has_row a.id (default_rows a.id (reading_by a) (v ∷ vs) rows) ≡ true =
        ap (has_row a.id) (at_row_new a.id (more_values DefaultValue (v ∷ vs)) _ rows t) ∙ (has_row-append a.id rows _ ∙ rw (t, self) refl) in
        rw (t, is) filled
