-- The command line, as `clap` reads it, and what its words ask for.
use Rattle.std.specs.Prelude.{◌≡◌, ◌≢◌, ◌≤◌, ◌&&◌, ◌||◌, ⊤, ℕ, Bool, true, false, List, [], ◌∷◌, Option, Some, None}
use Rattle.std.specs.Prelude.{IsSomeAnd, codes, find, if◌then◌else◌, is_some, map, not, option_map, pos, unwrap_or}
use Rattle.std.specs.Borrow.{Bor}
use Rattle.std.specs.Option.{option_map_or}
use Rattle.std.specs.Str.{bytes_eq}
use Rattle.std.specs.Str.Parse.{digits_value, without_leading_plus}
use Rattle.clap.specs.Kinds.{or_else}
use Rattle.clap.specs.Lexer.{usize_max}
use Rattle.clap.specs.Takes.{is_given}
use Rattle.clap.specs.Words.{App, IsAmong, IsSignedIn, Kinds, Row, Rule, Text, all_of, app_of, fault_of, first_of, rule_of}
use Rattle.clap.specs.Words.{new_app, new_rule, one_of, subcommand_of, with_rule, with_subcommand}
use Rattle.clap.specs.Words.{without_minus}
use Rattle.clap.specs.Values.{bool_text}
use Rattle.clap.specs.declared.builder.action.ArgAction.{ArgAction}
use Rattle.clap.specs.declared.builder.action.ArgAction.TheVariants as action
use Rattle.clap.specs.declared.builder.arg.Arg.{Arg}
use Rattle.clap.specs.declared.builder.command.Command.{Command}
use Rattle.clap.specs.declared.builder.command.Command.TheViews.{out-Command}
use Rattle.clap.specs.declared.builder.value_parser.ValueParser.{ValueParser}
use Rattle.clap.specs.declared.builder.value_parser.ValueParser.TheVariants as parser
use Rattle.clap.specs.declared.error.kind.ErrorKind.{ErrorKind}
use Rattle.clap.specs.declared.error.kind.ErrorKind.TheVariants as kind
use Rattle.morris_words.specs.declared.request.Request.{Request}
use Rattle.morris_words.specs.declared.request.Show.{Show}
use Rattle.morris_words.specs.declared.request.Show.TheVariants.{Best, Moves, Line, Csv}
use Rattle.morris_words.specs.declared.request.Task.{Task}
use Rattle.morris_words.specs.declared.request.Task.TheVariants.{Look, Stats, Build, Verify, Probe, Lookup, Find}
use Rattle.morris_words.specs.declared.arguments.Refusal.{Refusal}
use Rattle.morris_words.specs.declared.arguments.Refusal.TheVariants.{Memory, Help, Version, Wrong}

-- ---- the commands

-- a command with these arguments more, one after the other
abbrev pub with_rules : App → List Rule → App
with_rules a [] = a
with_rules a (r ∷ rules) = with_rules (with_rule a r) rules

-- a command of this name with these arguments
unfoldable pub command_app : Text → List Rule → App
command_app name rules = with_rules (new_app name) rules

-- an argument that has to be given, in its place
abbrev pub required_rule : Text → Rule
required_rule name = record (new_rule name) { required = true }

-- an argument that may be left out, or given several times, in its place
abbrev pub several_rule : Text → Rule
several_rule name = record (new_rule name) { range = Some (record { start_inclusive = 1; end_inclusive = usize_max }) }

-- `--NAME`, a flag: its value is true where it is given, and false where it is left out
abbrev pub flag_rule : Text → Rule
flag_rule name = record (new_rule name) { long = Some name; action = Some action.SetTrue }

-- `--NAME VALUE`, an option that may be left out, and has no value then
abbrev pub option_rule : Text → Rule
option_rule name = record (new_rule name) { long = Some name; value_names = 1 }

-- `--NAME VALUE`, an option that has to be given
abbrev pub required_option_rule : Text → Rule
required_option_rule name = record (option_rule name) { required = true }

-- `--NAME N`, N a number from `low` to `high`, and the default, if there is one, where it is left
-- out
abbrev pub number_rule : Text → ℕ → ℕ → List Text → Rule
number_rule name low high default =
    record (option_rule name) { parser = Some (parser.Signed (pos low) (pos high)); defaults = default }

-- how many plies to look ahead, how many workers and blocks there are, and how many positions are
-- shown at most, a number of 32 bits
abbrev pub depth_rule : Rule
depth_rule = number_rule (codes "depth") 0 6 (codes "2" ∷ [])

abbrev pub workers_rule : Rule
workers_rule = number_rule (codes "workers") 1 64 (codes "2" ∷ [])

abbrev pub blocks_rule : Rule
blocks_rule = number_rule (codes "blocks") 1 1024 (codes "16" ∷ [])

abbrev pub limit_rule : Rule
limit_rule = number_rule (codes "limit") 1 4294967295 []

-- `look BOARD TEXT [--depth N]`
abbrev pub look_rules : List Rule
look_rules = required_rule (codes "BOARD") ∷ required_rule (codes "TEXT") ∷ depth_rule ∷ []

-- `stats BOARD PAIR [--classes] [--workers W] [--blocks K] [--deepest] [--from FOLDER] [--csv]
-- [--progress]`
abbrev pub stats_rules : List Rule
stats_rules =
    required_rule (codes "BOARD") ∷ required_rule (codes "PAIR") ∷ flag_rule (codes "classes") ∷ workers_rule ∷ blocks_rule
    ∷ flag_rule (codes "deepest") ∷ option_rule (codes "from") ∷ flag_rule (codes "csv") ∷ flag_rule (codes "progress") ∷ []

-- `build BOARD PAIR [--workers W] [--blocks K] [--all] [--into FOLDER] [--classes] [--progress]`
abbrev pub build_rules : List Rule
build_rules =
    required_rule (codes "BOARD") ∷ required_rule (codes "PAIR") ∷ workers_rule ∷ blocks_rule ∷ flag_rule (codes "all")
    ∷ option_rule (codes "into") ∷ flag_rule (codes "classes") ∷ flag_rule (codes "progress") ∷ []

-- `verify BOARD [--all] [--from FOLDER] [--workers W] [--progress]`
abbrev pub verify_rules : List Rule
verify_rules =
    required_rule (codes "BOARD") ∷ flag_rule (codes "all") ∷ option_rule (codes "from") ∷ workers_rule ∷ flag_rule (codes "progress") ∷ []

-- `probe BOARD TEXT [--progress]`
abbrev pub probe_rules : List Rule
probe_rules = required_rule (codes "BOARD") ∷ required_rule (codes "TEXT") ∷ flag_rule (codes "progress") ∷ []

-- `lookup BOARD --from FOLDER [--moves] [--line] [--csv] [TEXT]..`
abbrev pub lookup_rules : List Rule
lookup_rules =
    required_rule (codes "BOARD") ∷ required_option_rule (codes "from") ∷ flag_rule (codes "moves") ∷ flag_rule (codes "line")
    ∷ flag_rule (codes "csv") ∷ several_rule (codes "TEXT") ∷ []

-- `find BOARD PAIR VALUE --from FOLDER [--all] [--limit N] [--count]`
abbrev pub find_rules : List Rule
find_rules =
    required_rule (codes "BOARD") ∷ required_rule (codes "PAIR") ∷ required_rule (codes "VALUE") ∷ required_option_rule (codes "from")
    ∷ flag_rule (codes "all") ∷ limit_rule ∷ flag_rule (codes "count") ∷ []

-- a program that has a version to show and wants one of its commands
abbrev pub program : App
program = record (new_app (codes "morris")) {
  top = record (new_app (codes "morris")).top { has_version = true; subcommand_required = true };
}

-- a program with these commands more, one after the other
abbrev pub with_commands : App → List (Text × List Rule) → App
with_commands a [] = a
with_commands a ((name, rules) ∷ rest) = with_commands (with_subcommand a (command_app name rules).top) rest

-- the commands of `morris`, each with its arguments
abbrev pub commands : List (Text × List Rule)
commands =
    (codes "look", look_rules) ∷ (codes "stats", stats_rules) ∷ (codes "build", build_rules) ∷ (codes "verify", verify_rules)
    ∷ (codes "probe", probe_rules) ∷ (codes "lookup", lookup_rules) ∷ (codes "find", find_rules) ∷ []

-- the program `morris`
unfoldable pub morris_app : App
morris_app = with_commands program commands

-- the command takes what `a` says, and none of its arguments, or of those of its own commands, is
-- global
abbrev pub Is : App → Command → Type 0
Is a c = (app_of c ≡ a) × ((out-Command c).has_globals ≡ false)

-- the argument takes what the rule says, and isn't global
abbrev pub IsArg : Rule → Arg → Type 0
IsArg r a = (rule_of a ≡ r) × (a.global ≡ false)

-- so does each of these arguments, one rule for each
abbrev pub AreArgs : List Rule → List Arg → Type 0
AreArgs [] [] = ⊤
AreArgs (r ∷ rules) (a ∷ args) = IsArg r a × AreArgs rules args
AreArgs _ _ = ⊥

-- ---- what the words ask for

-- the command that the words name, with the values of its arguments
abbrev pub named_by : List Text → Option (Text × List Row)
named_by words = subcommand_of morris_app words

-- the flag of a name says true
abbrev pub is_on : Text → List Row → Bool
is_on name rows = option_map_or (λ t. bytes_eq t (codes "true")) (one_of name rows) false

-- an argument of `stats` doesn't go with a folder: the values aren't found, but read
abbrev pub finds_values : List Row → Bool
finds_values rows =
    is_on (codes "classes") rows
    || (is_given (codes "workers") rows || (is_given (codes "blocks") rows || (is_on (codes "deepest") rows || is_on (codes "progress") rows)))

-- two arguments of `stats` exclude each other: `--csv` and `--deepest`, or `--from` and one of
-- those that say how values are found
abbrev pub stats_clash : List Row → Bool
stats_clash rows = (is_on (codes "csv") rows && is_on (codes "deepest") rows) || (is_given (codes "from") rows && finds_values rows)

-- two arguments of `lookup` exclude each other, `--moves` and `--line`, or `--csv` has no `--moves`
abbrev pub lookup_clash : List Row → Bool
lookup_clash rows = (is_on (codes "moves") rows && is_on (codes "line") rows) || (is_on (codes "csv") rows && not (is_on (codes "moves") rows))

-- arguments of the command don't go together: those of `stats` or of `lookup`, `--all` and `--into`
-- of `build`, `--all` and `--from` of `verify`, or `--limit` and `--count` of `find`
abbrev pub has_clash : Text → List Row → Bool
has_clash name rows =
    (bytes_eq name (codes "build") && (is_on (codes "all") rows && is_given (codes "into") rows))
    || ((bytes_eq name (codes "verify") && (is_on (codes "all") rows && is_given (codes "from") rows))
    || ((bytes_eq name (codes "lookup") && lookup_clash rows)
    || ((bytes_eq name (codes "stats") && stats_clash rows)
    || (bytes_eq name (codes "find") && (is_on (codes "count") rows && is_given (codes "limit") rows)))))

-- the mistake of such a command
abbrev pub clashes : Option (Text × List Row) → Kinds
clashes None = []
clashes (Some (name, rows)) = if has_clash name rows then kind.ArgumentConflict ∷ [] else []

-- what there is against the words: the kinds of mistake that `clap` may find in them, or a request
-- for help or for the version; or else two arguments that exclude each other. Nothing where they
-- are taken.
abbrev pub faults_of : List Text → Kinds
faults_of words = or_else (fault_of morris_app words) (clashes (named_by words))

-- the number that a decimal text writes
abbrev pub number_of : Text → ℕ
number_of text = digits_value 10 (without_leading_plus text)

-- the text of an option: the one that was given, where it was given
abbrev pub IsOption : Text → List Row → Option (Bor Text) → Type 0
IsOption name rows text = (first_of name rows ≡ option_map (λ t. t.now) text) × (is_given name rows ≡ is_some text)

-- what `lookup` shows of a position, as its flags say
abbrev pub IsShown : List Row → Show → Type 0
IsShown rows Best = (is_on (codes "moves") rows ≡ false) × (is_on (codes "line") rows ≡ false) × (is_on (codes "csv") rows ≡ false)
IsShown rows Moves = (is_on (codes "moves") rows ≡ true) × (is_on (codes "line") rows ≡ false) × (is_on (codes "csv") rows ≡ false)
IsShown rows Line = (is_on (codes "moves") rows ≡ false) × (is_on (codes "line") rows ≡ true) × (is_on (codes "csv") rows ≡ false)
IsShown rows Csv = (is_on (codes "moves") rows ≡ true) × (is_on (codes "line") rows ≡ false) × (is_on (codes "csv") rows ≡ true)

-- how many positions `find` shows at most: the number that was given, where one was
abbrev pub IsLimit : List Row → Option ℕ → Type 0
IsLimit rows None = is_given (codes "limit") rows ≡ false
IsLimit rows (Some n) = (is_given (codes "limit") rows ≡ true) × (option_map number_of (one_of (codes "limit") rows) ≡ Some n)

-- the task is that of the command that was named, with the values of its arguments; the value of a
-- flag says whether it was given
abbrev pub AsksForTask : Text → List Row → Task → Type 0
AsksForTask name rows (Look asked) =
    (name ≡ codes "look") × (first_of (codes "BOARD") rows ≡ Some asked.board.now)
    × (first_of (codes "TEXT") rows ≡ Some asked.text.now)
    × (option_map number_of (one_of (codes "depth") rows) ≡ Some asked.depth)
AsksForTask name rows (Stats asked) =
    (name ≡ codes "stats") × (first_of (codes "BOARD") rows ≡ Some asked.board.now) × (first_of (codes "PAIR") rows ≡ Some asked.pair.now)
    × (one_of (codes "classes") rows ≡ Some (bool_text asked.classes))
    × (option_map number_of (one_of (codes "workers") rows) ≡ Some asked.workers)
    × (option_map number_of (one_of (codes "blocks") rows) ≡ Some asked.blocks)
    × (one_of (codes "deepest") rows ≡ Some (bool_text asked.deepest))
    × IsOption (codes "from") rows asked.from
    × (one_of (codes "csv") rows ≡ Some (bool_text asked.csv))
AsksForTask name rows (Build asked) =
    (name ≡ codes "build") × (first_of (codes "BOARD") rows ≡ Some asked.board.now) × (first_of (codes "PAIR") rows ≡ Some asked.pair.now)
    × (option_map number_of (one_of (codes "workers") rows) ≡ Some asked.workers)
    × (option_map number_of (one_of (codes "blocks") rows) ≡ Some asked.blocks)
    × (one_of (codes "all") rows ≡ Some (bool_text asked.all))
    × IsOption (codes "into") rows asked.into
    × (one_of (codes "classes") rows ≡ Some (bool_text asked.classes))
AsksForTask name rows (Verify asked) =
    (name ≡ codes "verify") × (first_of (codes "BOARD") rows ≡ Some asked.board.now)
    × (one_of (codes "all") rows ≡ Some (bool_text asked.all))
    × IsOption (codes "from") rows asked.from
    × (option_map number_of (one_of (codes "workers") rows) ≡ Some asked.workers)
AsksForTask name rows (Probe asked) =
    (name ≡ codes "probe") × (first_of (codes "BOARD") rows ≡ Some asked.board.now) × (first_of (codes "TEXT") rows ≡ Some asked.text.now)
AsksForTask name rows (Lookup asked) =
    (name ≡ codes "lookup") × (first_of (codes "BOARD") rows ≡ Some asked.board.now) × (first_of (codes "from") rows ≡ Some asked.from.now)
    × IsShown rows asked.show × (unwrap_or (all_of (codes "TEXT") rows) [] ≡ map (λ t. t.now) asked.strings.items)
AsksForTask name rows (Find asked) =
    (name ≡ codes "find") × (first_of (codes "BOARD") rows ≡ Some asked.board.now) × (first_of (codes "PAIR") rows ≡ Some asked.pair.now)
    × (first_of (codes "VALUE") rows ≡ Some asked.value.now) × (first_of (codes "from") rows ≡ Some asked.from.now)
    × (one_of (codes "all") rows ≡ Some (bool_text asked.all)) × IsLimit rows asked.limit × (one_of (codes "count") rows ≡ Some (bool_text asked.count))

-- progress is to be told where `--progress` was given, which `look`, `lookup` and `find` don't take
abbrev pub AsksToTell : Task → List Row → Bool → Type 0
AsksToTell (Look asked) rows progress = progress ≡ false
AsksToTell (Lookup asked) rows progress = progress ≡ false
AsksToTell (Find asked) rows progress = progress ≡ false
AsksToTell _ rows progress = one_of (codes "progress") rows ≡ Some (bool_text progress)

-- the request is for the command that was named, with the values of its arguments
abbrev pub AsksFor : Option (Text × List Row) → Request → Type 0
AsksFor None r = ⊥
AsksFor (Some (name, rows)) r = AsksForTask name rows r.task × AsksToTell r.task rows r.progress

-- a depth to look ahead is at most 6 plies; workers are 1 to 64, and blocks 1 to 1,024
abbrev pub IsInRange : Task → Type 0
IsInRange (Look asked) = asked.depth ≤ 6
IsInRange (Stats asked) = ((1 ≤ asked.workers) × (asked.workers ≤ 64)) × ((1 ≤ asked.blocks) × (asked.blocks ≤ 1024))
IsInRange (Build asked) = ((1 ≤ asked.workers) × (asked.workers ≤ 64)) × ((1 ≤ asked.blocks) × (asked.blocks ≤ 1024))
IsInRange (Verify asked) = (1 ≤ asked.workers) × (asked.workers ≤ 64)
IsInRange _ = ⊤

-- the request is what the named command asks for: no two of its arguments exclude each other, and
-- its numbers are in range
abbrev pub IsRequestOf : Option (Text × List Row) → Request → Type 0
IsRequestOf named r = (clashes named ≡ []) × AsksFor named r × IsInRange r.task

-- the argument of a name has a number from `low` to `high`
pub record HasNumber (name : Text) (low high : ℕ) (rows : List Row) : Type 0 where
  pub text : Text
  pub read : one_of name rows ≡ Some (without_minus text)
  pub in_range : IsSignedIn (pos low) (pos high) text

-- the flag of a name has a value
abbrev pub HasFlag : Text → List Row → Type 0
HasFlag name rows = (b : Bool) × (one_of name rows ≡ Some (bool_text b))

-- a text is there of the option of a name exactly where it was given
abbrev pub HasOption : Text → List Row → Type 0
HasOption name rows = is_given name rows ≡ is_some (first_of name rows)

-- a text is there of an option exactly where it was given, and then is a number from `low` to
-- `high`
pub record HasNumberIfGiven (name : Text) (low high : ℕ) (rows : List Row) : Type 0 where
  pub there : HasOption name rows
  pub number : is_given name rows ≡ true → HasNumber name low high rows

-- what a request finds of an argument, by what that takes: a text, where it has to be given; what a
-- flag says; a number in range, where one is given or stands for it; or an option's text
abbrev pub HasValueBy : Bool → Option ArgAction → Option ValueParser → List Text → Text → List Row → Type 0
HasValueBy true taken parsed default name rows = is_some (first_of name rows) ≡ true
HasValueBy false (Some action.SetTrue) parsed default name rows = HasFlag name rows
HasValueBy false taken (Some (parser.Signed (pos low) (pos high))) [] name rows = HasNumberIfGiven name low high rows
HasValueBy false taken (Some (parser.Signed (pos low) (pos high))) (one ∷ more) name rows = HasNumber name low high rows
HasValueBy false _ _ default name rows = HasOption name rows

-- so it does of each of these arguments
abbrev pub HasValues : List Rule → List Row → Type 0
HasValues [] rows = ⊤
HasValues (r ∷ rules) rows = HasValueBy r.required r.action r.parser r.defaults r.id rows × HasValues rules rows

-- a command of this name was named, with the values of which it makes its request
abbrev pub NamesCommand : Text × List Row → Type 0
NamesCommand (name, rows) = IsSomeAnd (find (λ c. bytes_eq name c.0) commands) (λ c. HasValues c.1 rows)

abbrev pub NamesRequest : Option (Text × List Row) → Type 0
NamesRequest named = IsSomeAnd named NamesCommand

-- how an error of a kind is answered: a request for help by help, one for the version by the
-- version, and a mistake by what is wrong. Memory may run out at any kind.
abbrev pub IsAnswerTo : ErrorKind → Refusal → Type 0
IsAnswerTo k Memory = ⊤
IsAnswerTo k (Help text) = k ≡ kind.DisplayHelp
IsAnswerTo k (Version text) = k ≡ kind.DisplayVersion
IsAnswerTo k (Wrong text) = (k ≢ kind.DisplayHelp) × (k ≢ kind.DisplayVersion) × (k ≢ kind.OutOfMemory)

-- the refusal answers one of these kinds
abbrev pub IsAnswerToOneOf : Kinds → Refusal → Type 0
IsAnswerToOneOf kinds Memory = ⊤
IsAnswerToOneOf kinds (Help text) = IsAmong kind.DisplayHelp kinds
IsAnswerToOneOf kinds (Version text) = IsAmong kind.DisplayVersion kinds
IsAnswerToOneOf kinds (Wrong text) = (k : ErrorKind) × (k ≢ kind.DisplayHelp) × (k ≢ kind.DisplayVersion) × IsAmong k kinds
