-- What is reported of the progress of a command.
use Rattle.std.specs.Prelude.{◌≡◌, ◌⊎◌, ⊤, ℕ, ◌+◌, ◌-◌, ◌*◌, ◌/◌, ◌%◌, ◌^◌, ◌<◌, ◌≤◌, nat_eq, nat_lt, if◌then◌else◌, max, Bool, true, false, List, [], ◌∷◌, ◌++◌, codes, Option, Result, is_ok}
use Rattle.std.specs.Borrow.{GName}
use Rattle.std.specs.Fmt.{decimal}
use Rattle.morris_board.specs.Streams.{CountsFailure}
use Rattle.morris_index.specs.Pairs.{Counts, counts}
use Rattle.morris_board.specs.Printers.{WentOut}
use Rattle.morris_jobs.specs.declared.progress_printer.ProgressEvent.{ProgressEvent}
use Rattle.morris_jobs.specs.declared.progress_printer.ProgressEvent.TheVariants as event
use Rattle.morris_jobs.specs.declared.progress_printer.SoFar.{SoFar}
use Rattle.morris_jobs.specs.declared.progress_printer.ProgressPrinter.{ProgressPrinter}
use Rattle.morris_jobs.specs.Faults.{ReportsText, stones_text}

-- ---- the lines

-- a label and a number
abbrev pub with_label : List ℕ → ℕ → List ℕ
with_label label number = label ++ decimal number

-- how many in a hundred are done, rounded down; all where there are none
abbrev pub percent_of : ℕ → ℕ → ℕ
percent_of done whole = if nat_lt done whole then 100 * done / whole else 100

-- `, about S s left`, and from two minutes up `, about M min left`, rounded; nothing at 0
abbrev pub left_text : ℕ → List ℕ
left_text seconds =
    if nat_eq seconds 0 then [] else (if nat_lt seconds 120 then with_label (codes ", about ") seconds ++ codes " s left"
    else with_label (codes ", about ") (seconds / 60 + seconds % 60 / 30) ++ codes " min left")

-- `, D of N entries (P %), S s`, where D of the N entries are done, P in a hundred, S seconds after
-- the start; and how much longer it takes
abbrev pub so_far_text : SoFar → List ℕ
so_far_text s =
    with_label (codes ", ") s.done ++ with_label (codes " of ") s.whole ++ with_label (codes " entries (") (percent_of s.done s.whole) ++ codes " %)"
    ++ with_label (codes ", ") s.seconds ++ codes " s" ++ left_text s.left

-- A progress event: how much there is to do, `progress: N entries, about M MB of memory`; the wave
-- of a pair that begins; how many entries are done in the midst of a pair; the pair that is done;
-- nothing, in place of what a terminal shows.
abbrev pub event_text : ProgressEvent → List ℕ
event_text (event.Whole entries megabytes) =
    with_label (codes "progress: ") entries ++ with_label (codes " entries, about ") megabytes ++ codes " MB of memory"
event_text (event.Wave greater lesser wave so_far) = codes "progress: " ++ stones_text greater lesser ++ with_label (codes " wave ") wave ++ so_far_text so_far
event_text (event.Part greater lesser so_far) = codes "progress: " ++ stones_text greater lesser ++ so_far_text so_far
event_text (event.Done greater lesser so_far) = codes "progress: " ++ stones_text greater lesser ++ codes " done" ++ so_far_text so_far
event_text event.Cleared = []

-- what a terminal shows only until something takes its place
abbrev pub is_passing : ProgressEvent → Bool
is_passing (event.Whole entries megabytes) = false
is_passing (event.Done greater lesser so_far) = false
is_passing _ = true

-- As a line: on a terminal it takes the place of the line before it, whose end is cleared, and has
-- no line feed where another line is to take its own place.
abbrev pub event_line : Bool → ProgressEvent → List ℕ
event_line false n = event_text n ++ (10 ∷ [])
event_line true n = (13 ∷ []) ++ event_text n ++ (27 ∷ codes "[K") ++ (if is_passing n then [] else 10 ∷ [])

-- ---- what was reported

-- Others follow a line only where no write of it failed, by the number of those that have failed
-- before and after it.
abbrev pub GoesOn : ℕ → ℕ → List ProgressEvent → Type 0
GoesOn old new [] = ⊤
GoesOn old new (n ∷ rest) = new ≡ old

module _ {E : Type 0} (contents : E → Option (List ℕ)) (failures : E → ℕ) (rewrites : Bool) where
  -- these lines were written, one after the other and nothing else; where a write failed, the first
  -- bytes of its line, which is the last
  unfoldable pub HasReported : E → E → List ProgressEvent → Type 0
  HasReported old new [] = new ≡ old
  HasReported old new (n ∷ rest) =
      (midway : E) × ReportsText contents failures old midway (event_line rewrites n) × GoesOn (failures old) (failures midway) rest × HasReported midway new rest

  -- some lines were written, and at most one write failed
  pub record Reports (old new : E) : Type 0 where
    pub lines : List ProgressEvent
    pub reported : HasReported old new lines
    pub once : failures new ≤ failures old + 1
    pub room : failures old < 2 ^ 64 - 1 → failures new < 2 ^ 64 - 1

-- how much there is to do is the first of some lines, if there are any
abbrev pub IsWholeFirst : List ProgressEvent → Type 0
IsWholeFirst [] = ⊤
IsWholeFirst (event.Whole entries megabytes ∷ rest) = ⊤
IsWholeFirst (n ∷ rest) = ⊥

-- such lines were written
abbrev pub ReportsInOrder : {E : Type 0} → (E → Option (List ℕ)) → (E → ℕ) → Bool → E → E → Type 0
ReportsInOrder contents failures rewrites old new = (reports : Reports contents failures rewrites old new) × IsWholeFirst reports.lines

-- ---- what reports them

-- by what name the proofs know the borrow of the sink that the lines go to
abbrev pub lent_of : {R E : Type 0} → ProgressPrinter R E → GName
lent_of p = p.errors.ghost_name

-- the sink that the lines go to
abbrev pub sink_of : {R E : Type 0} → ProgressPrinter R E → E
sink_of p = p.errors.now

-- whether anything is reported on it
abbrev pub reports_of : {R E : Type 0} → ProgressPrinter R E → Bool
reports_of p = p.reports

-- whether the lines go to a terminal, where each takes the place of the last
abbrev pub rewrites_of : {R E : Type 0} → ProgressPrinter R E → Bool
rewrites_of p = p.rewrites

-- whether it is known how much there is to do; how many entries that is, and how many are those of
-- the pairs that are done
abbrev pub has_begun_of : {R E : Type 0} → ProgressPrinter R E → Bool
has_begun_of p = p.has_begun

abbrev pub whole_of : {R E : Type 0} → ProgressPrinter R E → ℕ
whole_of p = p.whole

abbrev pub done_of : {R E : Type 0} → ProgressPrinter R E → ℕ
done_of p = p.done

-- the numbers of stones of the pair at work, and how many of its entries are done
abbrev pub at_work_of : {R E : Type 0} → ProgressPrinter R E → Counts
at_work_of p = counts p.greater p.lesser

abbrev pub part_of : {R E : Type 0} → ProgressPrinter R E → ℕ
part_of p = p.part

-- the state of a progress printer, as far as the sink and its lines show it
pub record ProgressState (E : Type 0) : Type 0 where
  pub lent : GName
  pub sink : E
  pub reports : Bool
  pub rewrites : Bool
  pub has_begun : Bool
  pub whole : ℕ

abbrev pub progress_state_of : {R E : Type 0} → ProgressPrinter R E → ProgressState E
progress_state_of p = record {
  lent = lent_of p;
  sink = sink_of p;
  reports = reports_of p;
  rewrites = rewrites_of p;
  has_begun = has_begun_of p;
  whole = whole_of p;
}

-- The lines of a progress printer that begins: first how much there is to do, of as many entries as
-- there are; none before that is known, or where nothing is reported any more.
abbrev pub BeginsWithWhole : Bool → Bool → ℕ → List ProgressEvent → Type 0
BeginsWithWhole has_begun reports whole [] = has_begun ≡ true → reports ≡ false
BeginsWithWhole has_begun reports whole (event.Whole entries megabytes ∷ rest) = (has_begun ≡ true) × (entries ≡ whole)
BeginsWithWhole has_begun reports whole (n ∷ rest) = ⊥

module _ {E : Type 0} (contents : E → Option (List ℕ)) (failures : E → ℕ) where
  -- What reporting does to the state: on the same sink, some lines were written, or nothing where
  -- nothing is reported. Nothing more is written after a write that failed, and nothing before how
  -- much there is to do, which stays what it is once it is known.
  pub record Continues (old new : ProgressState E) : Type 0 where
    pub same : new.lent ≡ old.lent
    pub silent : old.reports ≡ false → (new.reports ≡ false) × (new.sink ≡ old.sink)
    pub rewrites : new.rewrites ≡ old.rewrites
    pub reported : Reports contents failures old.rewrites old.sink new.sink
    pub unfailed : new.reports ≡ true → failures new.sink ≡ failures old.sink
    pub first : old.has_begun ≡ false → BeginsWithWhole new.has_begun new.reports new.whole reported.lines
    pub unchanged : old.has_begun ≡ true → (new.has_begun ≡ true) × (new.whole ≡ old.whole)

  abbrev pub Becomes : {R : Type 0} → ProgressPrinter R E → ProgressPrinter R E → Type 0
  Becomes old new = Continues (progress_state_of old) (progress_state_of new)

  -- What reporting one event does to the state: nothing, where nothing is reported or it isn't
  -- known how much there is to do. Else its line went out, or its first bytes up to the write that
  -- failed, and more is reported only where it went out; or nothing more is reported where the sink
  -- has no room to count one more failure.
  pub record Speaks (old new : ProgressState E) (n : ProgressEvent) : Type 0 where
    pub same : new.lent ≡ old.lent
    pub rewrites : new.rewrites ≡ old.rewrites
    pub begun : new.has_begun ≡ old.has_begun
    pub whole : new.whole ≡ old.whole
    pub silent : old.reports ≡ false → (new.reports ≡ false) × (new.sink ≡ old.sink)
    pub early : old.has_begun ≡ false → (new.reports ≡ old.reports) × (new.sink ≡ old.sink)
    pub cramped : old.reports ≡ true → old.has_begun ≡ true → 2 ^ 64 - 3 ≤ failures old.sink → (new.reports ≡ false) × (new.sink ≡ old.sink)
    pub said : old.reports ≡ true → old.has_begun ≡ true → failures old.sink < 2 ^ 64 - 3
        → (sent : Result (Unit {0}) ℕ) × WentOut (contents old.sink) (contents new.sink) (event_line old.rewrites n) sent
        × CountsFailure (failures old.sink) (failures new.sink) sent × (new.reports ≡ is_ok sent)

-- Where anything is reported, this line is written, or its first bytes up to the write that failed,
-- if the sink has room to count one more failure and another one after it.
abbrev pub ReportsLine : {R E : Type 0} → (E → Option (List ℕ)) → (E → ℕ) → ProgressPrinter R E → ProgressPrinter R E → ProgressEvent → Type 0
ReportsLine contents failures old new n =
    reports_of old ≡ true → failures (sink_of old) < 2 ^ 64 - 3 → ReportsText contents failures (sink_of old) (sink_of new) (event_line (rewrites_of old) n)

-- that line, or none
abbrev pub MayReport : {R E : Type 0} → (E → Option (List ℕ)) → (E → ℕ) → ProgressPrinter R E → ProgressPrinter R E → ProgressEvent → Type 0
MayReport contents failures old new n = (sink_of new ≡ sink_of old) ⊎ ReportsLine contents failures old new n

-- how far it is where n more entries are done, as far as 64 bits hold the number
abbrev pub CountsMore : {R E : Type 0} → ProgressPrinter R E → ℕ → SoFar → Type 0
CountsMore old n so_far =
    done_of old + n < 2 ^ 64 → (so_far.done ≡ done_of old + n) × (so_far.whole ≡ max (whole_of old) (done_of old + n))
