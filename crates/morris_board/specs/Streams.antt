-- What the calls of a stream do, and how much of a text has gone out.
use Rattle.std.specs.Prelude.{◌≡◌, ℕ, ◌+◌, ◌-◌, ◌<◌, ◌≤◌, ◌&&◌, nat_eq, not, List, length, take, Option, Result, Ok, Err, MatchResult, if◌then◌else◌}
use Rattle.std.specs.Io.KnownBytes.{Appends}
use Rattle.morris_board.specs.declared.streams.Failed.{Failed}

-- a reader or writer, and how many of the calls on it have failed
pub record Counted (X : Type 0) : Type 0 where
  pub inner : X
  pub failures : ℕ

abbrev pub counted : {X : Type 0} → X → ℕ → Counted X
counted inner failures = record { inner = inner; failures = failures }

-- a call that fails is counted once, and one that succeeds isn't counted
abbrev pub CountsFailure : {T E : Type 0} → ℕ → ℕ → Result T E → Type 0
CountsFailure old new r = MatchResult r (λ _. new ≡ old) (λ _. new ≡ old + 1)

-- What a source answers where its reader answered this: as many bytes, or a failure for a fault,
-- whatever the fault is.
abbrev pub read_answer : {E : Type 0} → Result ℕ E → Result ℕ Failed
read_answer (Ok count) = Ok count
read_answer (Err fault) = Err (record {})

-- What a sink answers where its writer answered this to a write of so many bytes: as many, or a
-- failure for a fault, and for a write that took none of some bytes.
abbrev pub write_answer : {E : Type 0} → ℕ → Result ℕ E → Result ℕ Failed
write_answer length (Ok taken) = if nat_eq taken 0 && not (nat_eq length 0) then Err (record {}) else Ok taken
write_answer length (Err fault) = Err (record {})

-- the whole text went out; `now` counts its bytes and the `sent` bytes before it
pub record AllSent (old new : Option (List ℕ)) (sent now : ℕ) (text : List ℕ) : Type 0 where
  pub count : now ≡ sent + length text
  pub appended : Appends old new text

-- not the whole text went out, but its first `now - sent` bytes and nothing else
pub record PartSent (old new : Option (List ℕ)) (sent now : ℕ) (text : List ℕ) : Type 0 where
  pub more : sent ≤ now
  pub short : now < sent + length text
  pub appended : Appends old new (take (now - sent) text)

-- at `Ok(now)` the whole text went out, at `Err(now)` a part of it
abbrev pub HasSent : Option (List ℕ) → Option (List ℕ) → ℕ → List ℕ → Result ℕ ℕ → Type 0
HasSent old new sent text r = MatchResult r (λ now. AllSent old new sent now text) (λ now. PartSent old new sent now text)
