-- The files of all tables are accepted: their steps find the table, and so an answer to them is the
-- table.
use Rattle.std.proofs.Common.{◌≡◌, ℕ, ◌^◌, ◌<◌, ◌≤◌, List, [], ◌++◌, length, Option, Some, Result, Ok, Err, refl, sym, ap, subst, ◌∙◌, inl, inr, arith, append-nil}
use Rattle.std.proofs.lemmas.Bool.{cases_eq}
use Rattle.sha2.specs.Sha256.{sha256}
use Rattle.morris_board.specs.Boards.{Shape}
use Rattle.morris_board.specs.Symmetries.{HasSymmetries}
use Rattle.morris_index.specs.Pairs.{Counts, IsPair, IsHalf}
use Rattle.morris_index.proofs.IndexLaws.{half_size-few, size-one, size-two}
use Rattle.morris_index.proofs.ClassCounts.{class_count-few}
use Rattle.morris_index.proofs.ClassPairLaws.{class_size-few, size-one as class_size-one, size-two as class_size-two}
use Rattle.morris_pairs.specs.declared.layout.Layout.{Layout}
use Rattle.morris_pairs.specs.declared.layout.Layout.TheVariants.{Full, Classes}
use Rattle.morris_pairs.specs.Entries.{entry_count}
use Rattle.morris_pairs.specs.Tables.{Table}
use Rattle.morris_pairs.specs.Raws.{IsRaw}
use Rattle.morris_pairs.specs.TableFiles.{header_of, code_bytes, content_of, file_of}
use Rattle.morris_pairs.specs.FileReading.{file_in, only_file_in, next_file_in, Reads, Accepts}
use Rattle.morris_pairs.proofs.FileLaws.{length-header_of, file_parts, file_in-file_of}
use Rattle.morris_pairs.proofs.ReadingLaws.{ok_same, next_file_in-ok}
use Rattle.morris_pairs.specs.declared.file_faults.ReadFault.{ReadFault}
use Rattle.morris_pairs.specs.declared.file_faults.ReadFault.TheVariants as fault

-- where the steps find x in the bytes, the answer to these bytes is x
module _ {A : Type 0} (found : List ℕ → Result (A × List ℕ) ReadFault) (x : A) (bytes left : List ℕ) (law : found bytes ≡ Ok (x, left)) where
  refused : (refusal : ReadFault) → found bytes ≡ Err refusal → ⊥
  refused refusal e = let l = law in cc

  found_same : (y : A) (rest : List ℕ) → found bytes ≡ Ok (y, rest) → y ≡ x
  found_same y rest e = ap (λ (p : A × List ℕ). p.0) (ok_same (found bytes) (y, rest) (x, left) e law)

  at_bytes : (new : Option (List ℕ)) (answer : Result A ReadFault) → Reads found (Some bytes) new answer → Accepts x answer
  at_bytes new (Ok y) read = found_same y read.0 read.2
  at_bytes new (Err fault.Memory) read = tt
  at_bytes new (Err fault.Read) read = tt
  at_bytes new (Err fault.Short) read = refused fault.Short read
  at_bytes new (Err fault.Magic) read = refused fault.Magic read
  at_bytes new (Err fault.Version) read = refused fault.Version read
  at_bytes new (Err fault.BoardId) read = refused fault.BoardId read
  at_bytes new (Err fault.Counts) read = refused fault.Counts read
  at_bytes new (Err fault.Crowded) read = refused fault.Crowded read
  at_bytes new (Err fault.Count) read = refused fault.Count read
  at_bytes new (Err fault.Digest) read = refused fault.Digest read
  at_bytes new (Err fault.Trailing) read = refused fault.Trailing read

  pub accepts_of : (old new : Option (List ℕ)) (answer : Result A ReadFault) → Reads found old new answer → old ≡ Some bytes → Accepts x answer
  accepts_of old new answer read known = at_bytes new answer (subst (λ b. Reads found b new answer) known read)

module _ (board : Shape) (low : board.points ≤ 24) (y : HasSymmetries board) where
  first_half : (c : Counts) → IsPair board.points c → IsHalf board.points c.greater c.lesser
  first_half c h = record {
    own_least = omega (arith, h.least, h.ordered);
    own_most = h.most;
    other_least = h.least;
    other_most = omega (arith, h.most, h.ordered);
    fits = h.fits;
  }

  second_half : (c : Counts) → IsPair board.points c → IsHalf board.points c.lesser c.greater
  second_half c h = record {
    own_least = h.least;
    own_most = omega (arith, h.most, h.ordered);
    other_least = omega (arith, h.least, h.ordered);
    other_most = h.most;
    fits = omega (arith, h.fits);
  }

  -- a header has room for the number of entries of each pair
  entries_few : (l : Layout) (c : Counts) → IsPair board.points c → entry_count board board.points l c < 2 ^ 64
  entries_few Full c h =
      let one = half_size-few board.points c.greater c.lesser low (first_half c h) in
      let two = half_size-few board.points c.lesser c.greater low (second_half c h) in
      elim (cases_eq c.greater c.lesser) [
        | inl e ↦ omega (arith, one, size-one board.points c e)
        | inr d ↦ omega (arith, one, two, size-two board.points c d)
      ]
  entries_few Classes c h =
      let one = class_size-few board board.points low refl y c.greater c.lesser (first_half c h) (class_count-few board board.points c.greater low refl) in
      let two = class_size-few board board.points low refl y c.lesser c.greater (second_half c h) (class_count-few board board.points c.lesser low refl) in
      elim (cases_eq c.greater c.lesser) [
        | inl e ↦ omega (arith, one, class_size-one board board.points low refl y c e)
        | inr d ↦ omega (arith, one, two, class_size-two board board.points low refl y c d)
      ]

  module _ (t : Table) (raw : IsRaw board t) where
    found_first : (after : List ℕ) → file_in board (file_of board t ++ after) ≡ Ok (t, after)
    found_first after = file_in-file_of board t after raw (omega (arith, raw.counted, entries_few t.layout t.pair raw.lawful))

    found_only : only_file_in board (file_of board t) ≡ Ok (t, [])
    unfolding only_file_in
    found_only =
        let read : file_in board (file_of board t) ≡ Ok (t, []) = ap (file_in board) (sym (append-nil (file_of board t))) ∙ found_first [] in
        rw read refl

    found_next : (after : List ℕ) → next_file_in board (file_of board t ++ after) ≡ Ok (Some t, after)
    found_next after =
        let header = header_of board t.layout t.pair (length t.codes) in
        let rest = code_bytes t.codes ++ (sha256 (content_of board t) ++ after) in
        ap (next_file_in board) (file_parts board t after)
        ∙ next_file_in-ok board header rest after t (length-header_of board t.layout t.pair (length t.codes))
        (ap (file_in board) (sym (file_parts board t after)) ∙ found_first after)

  -- what is answered of the file of a table alone, and of one that others may follow
  pub accepts_only : (old new : Option (List ℕ)) (answer : Result Table ReadFault) → Reads (only_file_in board) old new answer
      → (t : Table) → IsRaw board t → old ≡ Some (file_of board t) → Accepts t answer
  accepts_only old new answer read t raw known = accepts_of (only_file_in board) t (file_of board t) [] (found_only t raw) old new answer read known

  pub accepts_next : (old new : Option (List ℕ)) (answer : Result (Option Table) ReadFault) → Reads (next_file_in board) old new answer
      → (t : Table) (after : List ℕ) → IsRaw board t → old ≡ Some (file_of board t ++ after) → Accepts (Some t) answer
  accepts_next old new answer read t after raw known =
      accepts_of (next_file_in board) (Some t) (file_of board t ++ after) after (found_next t raw after) old new answer read known
