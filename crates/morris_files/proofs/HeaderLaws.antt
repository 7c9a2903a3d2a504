-- What the first bytes of a file say, by what was read of it.
use Rattle.std.proofs.Common.{◌≡◌, ℕ, ◌<◌, ◌≤◌, List, ◌++◌, length, take, Option, Some, None, Ok, sym, ap, subst, ◌∙◌, inl, inr, append-nil}
use Rattle.std.specs.Prelude.{⊤}
use Rattle.std.specs.Io.KnownBytes.{Consumes, IsAtEnd}
use Rattle.std.proofs.lemmas.Bool.{cases_lt}
use Rattle.std.proofs.lemmas.List.{take_all, take-append-le}
use Rattle.morris_board.specs.Boards.{Shape}
use Rattle.morris_index.specs.Pairs.{Counts}
use Rattle.morris_files.specs.Files.{Files, IsReaderOf}
use Rattle.morris_files.specs.Headers.{AnswersHeader, header_in}
use Rattle.morris_files.specs.Stored.{HasFile}
use Rattle.morris_files.specs.declared.header.Header.{Header}

-- a file of which a reader was opened is there
pub file_there : (name : List ℕ) (files : Option Files) (remaining : Option (List ℕ)) → IsReaderOf files name remaining → HasFile files name (λ bytes. ⊤)
file_there name None remaining is = tt
file_there name (Some files) remaining is = (is.0, is.1, tt)

module _ (front : List ℕ) (few : length front ≤ 16) where
  -- what was read is the first 16 bytes, or all where there are fewer
  first_bytes : (bytes : List ℕ) (new : Option (List ℕ)) → Consumes (Some bytes) new front → (length front < 16 → IsAtEnd new) → take 16 bytes ≡ front
  first_bytes bytes None read end = absurd read
  first_bytes bytes (Some left) read end = elim (cases_lt (length front) 16) [
    | inl short ↦ ap (take 16) (read ∙ ap (λ rest. front ++ rest) (end short) ∙ append-nil front) ∙ take_all 16 front few
    | inr full ↦ ap (take 16) read ∙ take-append-le 16 front left full ∙ take_all 16 front few
  ]

  -- so what it says the file says
  pub header_read : (board : Shape) (n : ℕ) (c : Counts) (name : List ℕ) (files : Option Files) (old new : Option (List ℕ)) (said : Option Header)
      → IsReaderOf files name old → Consumes old new front → (length front < 16 → IsAtEnd new) → said ≡ header_in board n c front
      → AnswersHeader board n files name c (Ok said)
  header_read board n c name None old new None is read end e = inl tt
  header_read board n c name None old new (Some header) is read end e = tt
  header_read board n c name (Some files) old new None is read end e =
      inr (is.0, is.1, ap (header_in board n c) (first_bytes is.0 new (subst (λ o. Consumes o new front) is.2 read) end) ∙ sym e)
  header_read board n c name (Some files) old new (Some header) is read end e =
      (is.0, is.1, ap (header_in board n c) (first_bytes is.0 new (subst (λ o. Consumes o new front) is.2 read) end) ∙ sym e)
