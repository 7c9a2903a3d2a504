-- Where files are those of exact tables, they say the values of the game.
use Rattle.std.proofs.Common.{◌≡◌, ℕ, ◌<◌, ◌≤◌, true, List, ◌++◌, length, get_or, Result, Ok, sym, ap, ap₂, subst, ◌∙◌, arith}
use Rattle.std.specs.Prelude.{nat_eq, nat_le, IfOk}
use Rattle.std.proofs.lemmas.Bool.{and_parts, eqb-true}
use Rattle.sha2.specs.Sha256.{sha256}
use Rattle.morris_board.specs.Boards.{Shape}
use Rattle.morris_board.specs.Positions.{Sides, IsPosition}
use Rattle.morris_board.specs.Symmetries.{HasSymmetries}
use Rattle.morris_index.specs.Pairs.{Counts, counts, is_of}
use Rattle.morris_pairs.specs.declared.value.Value.{Value}
use Rattle.morris_pairs.specs.Codes.{IsValue, value_in}
use Rattle.morris_pairs.specs.Entries.{entry_index}
use Rattle.morris_pairs.specs.EntryLaws.{laid}
use Rattle.morris_pairs.specs.Tables.{Table, IsTable}
use Rattle.morris_pairs.specs.TableFiles.{header_of, code_bytes, content_of, file_of}
use Rattle.morris_pairs.proofs.FileLaws.{file_of-parts, IsRaw-from_exact}
use Rattle.morris_lookup.proofs.OpeningLaws.{framed_file}
use Rattle.morris_lookup.proofs.FileLookups.{code_at-file}
use Rattle.morris_lookup.specs.declared.fault.ViewFault.{ViewFault}
use Rattle.morris_lookup.specs.Views.{names_pair, value_of_bytes, IsExactFile}
use Rattle.morris_lookup.proofs.ViewLaws.{said_by_kind}

-- the numbers of stones stand in the header of a table's file
numbers_stand : (board : Shape) (t : Table) → (get_or (file_of board t) 6 0 ≡ t.pair.greater) × (get_or (file_of board t) 7 0 ≡ t.pair.lesser)
unfolding header_of
numbers_stand board t =
    let parts : file_of board t ≡ header_of board t.layout t.pair (length t.codes) ++ code_bytes t.codes ++ sha256 (content_of board t) = file_of-parts board t in
    (ap (λ bytes. get_or bytes 6 0) parts, ap (λ bytes. get_or bytes 7 0) parts)

-- so a file that names a pair is that of a table of the pair
table_pair : (board : Shape) (t : Table) (c : Counts) → names_pair c (file_of board t) ≡ true → t.pair ≡ c
table_pair board t c named =
    let parts = and_parts (nat_eq (get_or (file_of board t) 6 0) c.greater) (nat_eq (get_or (file_of board t) 7 0) c.lesser)
    (and_parts (nat_le 16 (length (file_of board t))) _ named).1 in
    let stand = numbers_stand board t in
    ap₂ counts
    (sym stand.0 ∙ eqb-true (get_or (file_of board t) 6 0) c.greater parts.0)
    (sym stand.1 ∙ eqb-true (get_or (file_of board t) 7 0) c.lesser parts.1)

module _ (board : Shape) (low : board.points ≤ 24) (y : HasSymmetries board) (s : Sides) (position : IsPosition board s) (c : Counts) (of : is_of c s ≡ true) where
  module _ (t : Table) (exact : IsTable board t) (named : names_pair c (file_of board t) ≡ true) where
    abbrev entry : ℕ
    entry = entry_index board board.points t.layout t.pair s

    of_table : is_of t.pair s ≡ true
    of_table = subst (λ p. is_of p s ≡ true) (sym (table_pair board t c named)) of

    entry_low : entry < length t.codes
    entry_low = omega (arith, exact.counted, (laid board low y t.layout t.pair exact.lawful).below s position of_table)

    says : value_of_bytes board s (file_of board t) ≡ Ok (value_in (get_or t.codes entry 0))
    says =
        sym (said_by_kind board s (file_of board t) (Ok (t.layout, t.pair)) (framed_file board low y t (IsRaw-from_exact board t exact)))
        ∙ ap (λ code. Ok (value_in code)) (code_at-file board t entry exact.small entry_low)

    pub table_says : IfOk (value_of_bytes board s (file_of board t)) (IsValue board s)
    table_says = rw says (exact.exact s position of_table)

  -- what the file of an exact table says of a position is its value
  pub exact_value : (bytes : List ℕ) → IsExactFile board bytes → names_pair c bytes ≡ true → (r : Result Value ViewFault) → r ≡ value_of_bytes board s bytes
      → IfOk r (IsValue board s)
  exact_value bytes (t, exact, is) named r e = rw (e, is) (table_says t exact (subst (λ b. names_pair c b ≡ true) is named))
