-- What goes through a printer: some bytes out of it, and the rest held back, until a write fails.
use Rattle.std.specs.Prelude.{◌≡◌, ℕ, ◌+◌, ◌^◌, ◌<◌, Bool, true, false, List, [], ◌++◌, length, take, Option, Result, Ok, Err, if◌then◌else◌}
use Rattle.std.specs.Borrow.{GName}
use Rattle.std.specs.Io.KnownBytes.{Appends}
use Rattle.morris_board.specs.declared.streams.printer.Printer.{Printer}

-- by what name the proofs know the borrow of the sink
abbrev pub lent_of : {S : Type 0} → Printer S → GName
lent_of p = p.sink.ghost_name

-- the sink behind the printer
abbrev pub sink_of : {S : Type 0} → Printer S → S
sink_of p = p.sink.now

-- the bytes that are held back
abbrev pub held_of : {S : Type 0} → Printer S → List ℕ
held_of p = p.held.items

-- how many bytes the sink has taken from the printer
abbrev pub sent_of : {S : Type 0} → Printer S → ℕ
sent_of p = p.sent

-- whether a write failed
abbrev pub has_failed_of : {S : Type 0} → Printer S → Bool
has_failed_of p = p.failed

-- what `finish` answers: how many bytes went out, as a refusal where a write failed
abbrev pub answer_of : {S : Type 0} → Printer S → Result ℕ ℕ
answer_of p = if has_failed_of p then Err (sent_of p) else Ok (sent_of p)

-- nothing was put in yet
pub record IsNew {S : Type 0} (p : Printer S) : Type 0 where
  pub empty : held_of p ≡ []
  pub none : sent_of p ≡ 0
  pub whole : has_failed_of p ≡ false

-- a count went up by so many, where 64 bits hold it then
abbrev pub CountsUp : ℕ → ℕ → ℕ → Type 0
CountsUp old more new = old + more < 2 ^ 64 → new ≡ old + more

-- a sink, how many bytes it has taken, and whether a write failed
pub record Outlet (S : Type 0) : Type 0 where
  pub sink : S
  pub sent : ℕ
  pub failed : Bool

abbrev pub outlet : {S : Type 0} → S → ℕ → Bool → Outlet S
outlet sink sent failed = record { sink = sink; sent = sent; failed = failed }

abbrev pub outlet_of : {S : Type 0} → Printer S → Outlet S
outlet_of p = outlet (sink_of p) (sent_of p) (has_failed_of p)

module _ {S : Type 0} (contents : S → Option (List ℕ)) (failures : S → ℕ) where
  -- of these bytes all went out that aren't still buffered
  pub record AllOut (old new : Outlet S) (bytes buffered : List ℕ) : Type 0 where
    pub out : List ℕ
    pub split : bytes ≡ out ++ buffered
    pub appended : Appends (contents old.sink) (contents new.sink) out
    pub count : CountsUp old.sent (length out) new.sent
    pub uncounted : failures new.sink ≡ failures old.sink

  -- a write failed: of these bytes a front went out, and not all
  pub record PartOut (old new : Outlet S) (bytes : List ℕ) : Type 0 where
    pub out : List ℕ
    pub rest : List ℕ
    pub split : bytes ≡ out ++ rest
    pub more : 0 < length rest
    pub appended : Appends (contents old.sink) (contents new.sink) out
    pub count : CountsUp old.sent (length out) new.sent
    pub counted : CountsUp (failures old.sink) 1 (failures new.sink)

  -- nothing went out
  pub record NoneOut (old new : Outlet S) : Type 0 where
    pub sink : new.sink ≡ old.sink
    pub count : new.sent ≡ old.sent

  -- by whether a write had failed before, and whether one has now: after it nothing goes out
  abbrev pub GoesOut : Bool → Bool → Outlet S → Outlet S → List ℕ → List ℕ → Type 0
  GoesOut false false old new bytes buffered = AllOut old new bytes buffered
  GoesOut false true old new bytes buffered = PartOut old new bytes
  GoesOut true false old new bytes buffered = ⊥
  GoesOut true true old new bytes buffered = NoneOut old new

  pub record LetsOut (old new : Outlet S) (bytes buffered : List ℕ) : Type 0 where
    pub goes : GoesOut old.failed new.failed old new bytes buffered

  -- a text was put in: what was held, and then the text, was let out but for what is held now
  pub record Takes (old new : Printer S) (text : List ℕ) : Type 0 where
    pub same : lent_of new ≡ lent_of old
    pub lets_out : LetsOut (outlet_of old) (outlet_of new) (held_of old ++ text) (held_of new)

-- what went out of a text: all of it, or its first bytes up to the write that failed
abbrev pub WentOut : {T : Type 0} → Option (List ℕ) → Option (List ℕ) → List ℕ → Result T ℕ → Type 0
WentOut old new text (Ok done) = Appends old new text
WentOut old new text (Err sent) = (sent < length text) × Appends old new (take sent text)
