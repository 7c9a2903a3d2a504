-- What calls answer, on one board: the status, and what they write where it is 0.
use Rattle.std.specs.Prelude.{◌≡◌, ◌≢◌, ℕ, ℤ, pos, true, false, ◌<◌, ◌≤◌, List, length, take, Result, Ok, Err}
use Rattle.morris_board.specs.Boards.{Shape}
use Rattle.morris_board.specs.Positions.{Sides, IsPosition}
use Rattle.morris_moves.specs.Rules.{moves_of}
use Rattle.morris_pairs.specs.declared.value.Value.{Value}
use Rattle.morris_pairs.specs.declared.file_faults.ReadFault.{ReadFault}
use Rattle.morris_pairs.specs.Codes.{IsValue}
use Rattle.morris_lookup.specs.declared.fault.ViewFault.{ViewFault}
use Rattle.morris_lookup.specs.declared.fault.MaskFault.{MaskFault}
use Rattle.morris_lookup.specs.declared.records.ValueRecord.{ValueRecord}
use Rattle.morris_lookup.specs.declared.records.MoveRecord.{MoveRecord}
use Rattle.morris_lookup.specs.declared.check.HeaderRecord.{HeaderRecord}
use Rattle.morris_lookup.specs.Masks.{IsMaskRefusal}
use Rattle.morris_lookup.specs.Records.{value_record}
use Rattle.morris_lookup.specs.Views.{HasWordsForAll, AreExactAfter, IsExactAt, value_said, needs_words}
use Rattle.morris_lookup.specs.Prepared.{looks_prepared, prepared_count, IsPrepared}
use Rattle.morris_lookup.specs.Listing.{outcomes_said, AreExactOutcomes}
use Rattle.morris_c.specs.Statuses.{mask_status, read_status, view_status}

-- a value is written, with status 0; or nothing, with that of the fault
abbrev pub WritesValue : Result Value ViewFault → ℤ → ValueRecord → ValueRecord → Type 0
WritesValue (Ok value) status old new = (status ≡ pos 0) × (new ≡ value_record value)
WritesValue (Err fault) status old new = (status ≡ pos (view_status fault)) × (new ≡ old)

-- What looking a position up answers. Masks that aren't one have the status of the fault, and
-- nothing is written. Where the words are those that the files need, it is what the files say; and
-- where the file of the position is exact, a value that is written is that of the game. From a file
-- by classes no value is written where the words don't look prepared.
pub record LooksUp (board : Shape) (words : List ℕ) (files : List (List ℕ)) (s : Sides) (status : ℤ) (old new : ValueRecord) : Type 0 where
  pub refused : (fault : MaskFault) → IsMaskRefusal board s fault → (status ≡ pos (mask_status fault)) × (new ≡ old)
  pub said : IsPosition board s → HasWordsForAll board words files → WritesValue (value_said board files s) status old new
  pub exact : IsPosition board s → HasWordsForAll board words files → IsExactAt board files s → status ≡ pos 0
      → (value : Value) × IsValue board s value × (new ≡ value_record value)
  pub unready : IsPosition board s → needs_words files s ≡ true → looks_prepared board words ≡ false → status ≢ pos 0

-- so many moves are written, with status 0; or it is that of the fault
abbrev pub WritesMoves : Result (List MoveRecord) ViewFault → ℤ → List MoveRecord → ℕ → Type 0
WritesMoves (Ok outcomes) status out count = (status ≡ pos 0) × (take count out ≡ outcomes)
WritesMoves (Err fault) status out count = status ≡ pos (view_status fault)

-- What listing the moves answers, in the same way. With status 0 the number of legal moves is
-- written, with each other status none.
pub record ListsMoves (board : Shape) (words : List ℕ) (files : List (List ℕ)) (s : Sides) (status : ℤ) (old new : List MoveRecord) (old_count new_count : ℕ) : Type 0 where
  pub refused : (fault : MaskFault) → IsMaskRefusal board s fault → (status ≡ pos (mask_status fault)) × (new ≡ old)
  pub room : IsPosition board s → length old < length (moves_of board s) → status ≡ pos 7
  pub said : IsPosition board s → HasWordsForAll board words files → length (moves_of board s) ≤ length old
      → WritesMoves (outcomes_said board files s (moves_of board s)) status new new_count
  pub exact : IsPosition board s → HasWordsForAll board words files → AreExactAfter board files s → status ≡ pos 0
      → AreExactOutcomes board s (moves_of board s) (take new_count new)
  pub counted : status ≡ pos 0 → new_count ≡ length (moves_of board s)
  pub uncounted : status ≢ pos 0 → new_count ≡ old_count

-- a header is written, with status 0; or nothing, with that of the fault
abbrev pub WritesHeader : Result HeaderRecord ReadFault → ℤ → HeaderRecord → HeaderRecord → Type 0
WritesHeader (Ok header) status old new = (status ≡ pos 0) × (new ≡ header)
WritesHeader (Err refusal) status old new = (status ≡ pos (read_status refusal)) × (new ≡ old)

-- What preparing words answers: status 0 where there is room for them, and then they are there; and
-- 7 where there is too little.
pub record Prepares (board : Shape) (status : ℤ) (old new : List ℕ) : Type 0 where
  pub prepared : status ≡ pos 0 → IsPrepared board new
  pub room : prepared_count board ≤ length old → status ≡ pos 0
  pub short : length old < prepared_count board → status ≡ pos 7
