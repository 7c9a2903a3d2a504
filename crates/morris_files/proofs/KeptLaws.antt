-- What the reading of a file alone says of the bytes that the file has.
use Rattle.std.proofs.Common.{◌≡◌, ◌≢◌, ℕ, ◌+◌, true, false, not, ◌&&◌, nat_eq, List, [], ◌∷◌, ◌++◌, Option, Some, None, Result, Ok, Err, sym, ap, subst, ◌∙◌, append-nil, arith}
use Rattle.std.specs.Io.KnownBytes.{Consumes}
use Rattle.std.proofs.Math.Path.{ap₂}
use Rattle.std.proofs.lemmas.Bool.{and_parts, eq-eqb, eqb-true, not-false}
use Rattle.morris_board.specs.Boards.{Shape}
use Rattle.morris_index.specs.Pairs.{Counts, counts}
use Rattle.morris_pairs.specs.FileReading.{CountsRead, MayTakeRoom, Reads, and_then, is_end, only_file_in, unless}
use Rattle.morris_pairs.specs.Tables.{Table}
use Rattle.morris_pairs.specs.TableFiles.{file_of}
use Rattle.morris_pairs.specs.declared.file_faults.ReadFault.{ReadFault}
use Rattle.morris_pairs.specs.declared.file_faults.ReadFault.TheVariants as fault
use Rattle.morris_files.specs.Files.{Files, HasFailed, IsReaderOf}
use Rattle.morris_files.specs.Stored.{AreRefused, HasFile, IsUnopened}
use Rattle.morris_files.specs.Headers.{AnswersHeader}
use Rattle.morris_files.specs.declared.stored.StoredFault.{StoredFault}
use Rattle.morris_files.specs.declared.stored.StoredFault.TheVariants as stored

left_of : Result (Table × List ℕ) ReadFault → List ℕ
left_of (Ok found) = found.1
left_of (Err refusal) = []

-- nothing follows the file of a table that was read alone
none_left : (read : Result (Table × List ℕ) ReadFault) (t : Table) (left : List ℕ)
    → and_then read (λ found. unless (is_end found.1) fault.Trailing (Ok found)) ≡ Ok (t, left) → left ≡ []
unfolding left_of
none_left (Ok (u, [])) t left e = sym (ap left_of e)
none_left (Ok (u, byte ∷ bytes)) t left e = cc
none_left (Err refusal) t left e = cc

only_left : (board : Shape) (bytes left : List ℕ) (t : Table) → only_file_in board bytes ≡ Ok (t, left) → left ≡ []
unfolding only_file_in
only_left board bytes left t e = none_left _ t left e

-- so the bytes are the file of the table
read_alone : (board : Shape) (bytes : List ℕ) (new : Option (List ℕ)) (t : Table) → Reads (only_file_in board) (Some bytes) new (Ok t)
    → Consumes (Some bytes) new (file_of board t) → bytes ≡ file_of board t
read_alone board bytes new t read consumed =
    let none : read.0 ≡ [] = only_left board bytes read.0 t read.2 in
    let split : bytes ≡ file_of board t ++ read.0 = subst (λ n. Consumes (Some bytes) n (file_of board t)) read.1 consumed in
    split ∙ ap (λ left. file_of board t ++ left) none ∙ append-nil (file_of board t)

module _ (board : Shape) (name : List ℕ) where
  pub file_read : (files : Option Files) (old new : Option (List ℕ)) (t : Table) → IsReaderOf files name old → Reads (only_file_in board) old new (Ok t)
      → Consumes old new (file_of board t) → HasFile files name (λ bytes. bytes ≡ file_of board t)
  file_read None old new t is read consumed = tt
  file_read (Some files) old new t is read consumed = (
    is.0,
    is.1,
    read_alone board is.0 new t
        (subst (λ o. Reads (only_file_in board) o new (Ok t)) is.2 read) (subst (λ o. Consumes o new (file_of board t)) is.2 consumed),
  )

  -- what refuses bytes refuses them wherever the source then stands
  refused_anywhere : (bytes : List ℕ) (new : Option (List ℕ)) (refused : ReadFault) → Reads {A = Table} (only_file_in board) (Some bytes) new (Err refused)
      → Reads {A = Table} (only_file_in board) (Some bytes) (Some []) (Err refused)
  refused_anywhere bytes new fault.Memory read = tt
  refused_anywhere bytes new fault.Read read = tt
  refused_anywhere bytes new _ read = read

  pub file_refused : (files : Option Files) (old new : Option (List ℕ)) (refused : ReadFault) → IsReaderOf files name old
      → Reads {A = Table} (only_file_in board) old new (Err refused) → (refused ≡ fault.Memory → MayTakeRoom board old)
      → HasFile files name (AreRefused board refused)
  file_refused None old new refused is read room = tt
  file_refused (Some files) old new refused is read room = (
    is.0,
    is.1,
    (
      refused_anywhere is.0 new refused (subst (λ o. Reads {A = Table} (only_file_in board) o new (Err refused)) is.2 read),
      λ e. subst (MayTakeRoom board) is.2 (room e),
    ),
  )

-- a read that failed was one of a reader
pub read_failed : {S : Type 0} (failures : S → ℕ) (old new : S) (refused : ReadFault) → CountsRead {A = Table} (failures old) (failures new) (Err refused)
    → refused ≡ fault.Read → HasFailed failures
read_failed failures old new refused counted is =
    let once : failures new ≡ failures old + 1 = subst (λ f. CountsRead {A = Table} (failures old) (failures new) (Err f)) is counted in
    (new, omega (arith, once))

-- a file that isn't opened isn't read
pub unopened_unread : (refused : StoredFault) → IsUnopened refused → refused ≡ stored.Refused fault.Read → ⊥
unopened_unread stored.Memory unopened e = cc
unopened_unread stored.Unopened unopened e = cc
unopened_unread (stored.Refused refused) unopened e = unopened
unopened_unread stored.OtherPair unopened e = unopened

pub unopened_header : (board : Shape) (n : ℕ) (files : Option Files) (name : List ℕ) (c : Counts) (refused : StoredFault) → IsUnopened refused
    → AnswersHeader board n files name c (Err refused)
unopened_header board n files name c stored.Memory unopened = tt
unopened_header board n files name c stored.Unopened unopened = tt
unopened_header board n files name c (stored.Refused refused) unopened = absurd unopened
unopened_header board n files name c stored.OtherPair unopened = unopened

-- what a comparison of two pairs says
pub apart : (a b : Counts) → not (nat_eq a.greater b.greater && nat_eq a.lesser b.lesser) ≡ true → a ≢ b
apart a b differ same =
    let one : nat_eq a.greater b.greater ≡ true = eq-eqb _ _ (ap (λ (c : Counts). c.greater) same) in
    let two : nat_eq a.lesser b.lesser ≡ true = eq-eqb _ _ (ap (λ (c : Counts). c.lesser) same) in
    let bad : false ≡ true = rw (one, two) at differ in
    cc

pub alike : (a b : Counts) → not (nat_eq a.greater b.greater && nat_eq a.lesser b.lesser) ≡ false → a ≡ b
alike a b same =
    let both = and_parts _ _ (not-false _ same) in
    ap₂ counts (eqb-true _ _ both.0) (eqb-true _ _ both.1)
