-- The codes of an open file, chunk by chunk.
use Rattle.std.proofs.Common.{◌≡◌, ℕ, ◌+◌, ◌-◌, ◌*◌, ◌<◌, ◌≤◌, false, true, List, [], ◌∷◌, ◌++◌, length, take, drop, get_or, map, Option, None, Some, Ok, Err, option_map, sym, ap, ap₂, subst, ◌∙◌, zero-add, arith}
use Rattle.std.specs.Prelude.{IfSome, IsSome}
use Rattle.std.specs.Int.{w16, from_be_bytes}
use Rattle.std.specs.List.{range_with_len}
use Rattle.std.proofs.lemmas.List.{drop-drop, drop-take, drop_more, ext_get_or, take-take}
use Rattle.std.proofs.Math.Seq.{take-append_seam}
use Rattle.std.proofs.lemmas.List.FromFn.{get_or-map-range_with_len, length-map-range_with_len}
use Rattle.morris_board.specs.Boards.{Shape}
use Rattle.morris_board.specs.Symmetries.{HasSymmetries}
use Rattle.morris_index.specs.Pairs.{Counts}
use Rattle.morris_pairs.specs.declared.layout.Layout.{Layout}
use Rattle.morris_pairs.specs.Entries.{entry_count}
use Rattle.morris_pairs.specs.Tables.{IsTable, Table}
use Rattle.morris_pairs.specs.TableFiles.{file_of}
use Rattle.morris_pairs.proofs.FileLaws.{AreCodes, IsRaw-from_exact}
use Rattle.morris_lookup.specs.FileCodes.{IsChunk, codes_in_file, stated_codes}
use Rattle.morris_lookup.specs.Lookups.{code_at}
use Rattle.morris_lookup.specs.Opening.{IsOpen, OpenFile, check_file}
use Rattle.morris_lookup.specs.Storage.{LiesWithin, ReadsAt, bytes_at}
use Rattle.morris_lookup.proofs.FileLookups.{code_at-file}
use Rattle.morris_lookup.proofs.OpeningLaws.{at_bytes, kind_found, known_framed, size_of_framed}

-- two bytes that stand within the first ones
within_first : (xs : List ℕ) (place n : ℕ) → place + 2 ≤ n → bytes_at (take n xs) place 2 ≡ bytes_at xs place 2
within_first xs place n fits =
    let split : n ≡ place + (n - place) = omega arith in
    ap (λ m. take 2 (drop place (take m xs))) split
    ∙ (ap (take 2) (drop-take place (n - place) xs) ∙ take-take 2 (n - place) (drop place xs) (omega arith))

-- where a chunk begins with the bytes of so many codes, these are its codes
module _ (bytes out : List ℕ) (first many : ℕ) (read : take (2 * many) out ≡ bytes_at bytes (16 + 2 * first) (2 * many)) where
  in_chunk : (k : ℕ) → k < many → bytes_at out (2 * k) 2 ≡ bytes_at bytes (16 + 2 * (first + k)) 2
  in_chunk k low =
      let place : 16 + 2 * first + 2 * k ≡ 16 + 2 * (first + k) = omega arith in
      sym (within_first out (2 * k) (2 * many) (omega arith))
      ∙ (ap (λ xs. bytes_at xs (2 * k) 2) read
      ∙ (within_first (drop (16 + 2 * first) bytes) (2 * k) (2 * many) (omega arith)
      ∙ (ap (take 2) (drop-drop (2 * k) (16 + 2 * first) bytes) ∙ ap (λ p. bytes_at bytes p 2) place)))

  pub chunk_read : IsChunk bytes first (first + many) out
  unfolding code_at
  chunk_read = λ entry low less.
      let place : first + (entry - first) ≡ entry = omega arith in
      ap (from_be_bytes w16) (in_chunk (entry - first) (omega (arith, low, less)) ∙ ap (λ i. bytes_at bytes (16 + 2 * i) 2) place)

-- where a read filled the first bytes of a chunk with theirs
pub chunk_of : (o : Option (List ℕ)) (place first many : ℕ) (new rest : List ℕ) → place ≡ 16 + 2 * first → length new ≡ 2 * many
    → IfSome o (λ bytes. new ≡ bytes_at bytes place (length new)) → IfSome o (λ bytes. IsChunk bytes first (first + many) (new ++ rest))
chunk_of None place first many new rest at size read = tt
chunk_of (Some bytes) place first many new rest at size read =
    let front : take (2 * many) (new ++ rest) ≡ new = ap (λ n. take n (new ++ rest)) (sym size) ∙ take-append_seam new rest in
    chunk_read bytes (new ++ rest) first many (front ∙ (read ∙ ap₂ (bytes_at bytes) at size))

-- nothing is in a chunk before any code is read
pub none_read : (n : ℕ) (o : Option (List ℕ)) (chunk : List ℕ) → (0 ≤ 0) × (0 ≤ 32768) × (0 ≤ n) × IfSome o (λ bytes. IsChunk bytes 0 0 chunk)
none_read n None chunk = (omega arith, omega arith, omega arith, tt)
none_read n (Some bytes) chunk = (omega arith, omega arith, omega arith, λ entry low less. absurd (omega arith))

-- bytes that are known can be read
pub read_fails : {T E : Type 0} (o : Option (List ℕ)) (place : ℕ) (out : List ℕ) (failed : E) → ReadsAt {T = Unit {0}} o place out (Err failed) → IsSome o → T
read_fails None place out failed read some =
    let bad : false ≡ true = some in
    cc
read_fails (Some bytes) place out failed read some = absurd read

-- they stand in the file
pub chunk_there : (board : Shape) (n : ℕ) → board.points ≡ n → (o : Option (List ℕ)) (layout : Layout) (pair : Counts)
    → IfSome o (λ bytes. check_file board bytes ≡ Ok (layout, pair)) → (first many : ℕ) → first + many ≤ entry_count board n layout pair
    → LiesWithin o (16 + 2 * first) (2 * many)
chunk_there board n points None layout pair checked first many within = tt
chunk_there board n points (Some bytes) layout pair checked first many within =
    let size : length bytes ≡ 16 + 2 * entry_count board board.points layout pair + 32 = size_of_framed board bytes (layout, pair) checked in
    let here : first + many ≤ entry_count board board.points layout pair = subst (λ m. first + many ≤ entry_count board m layout pair) (sym points) within in
    omega (arith, size, here)

-- the codes that the file of a table states are the table's
pub stated_codes-file : (board : Shape) (t : Table) → AreCodes t.codes → stated_codes (length t.codes) (file_of board t) ≡ t.codes
unfolding stated_codes
stated_codes-file board t small =
    let many : length (map (code_at (file_of board t)) (range_with_len 0 (length t.codes))) ≡ length t.codes =
    length-map-range_with_len (code_at (file_of board t)) 0 (length t.codes) in
    ext_get_or 0 (map (code_at (file_of board t)) (range_with_len 0 (length t.codes))) t.codes many
    (λ i low.
    let inside : i < length t.codes = omega (arith, low, many) in
    get_or-map-range_with_len (code_at (file_of board t)) 0 (length t.codes) i i 0 inside (zero-add i) ∙ code_at-file board t i small inside)

-- the code that stands in a chunk at the place of an entry is the one that the bytes state
pub chunk_code : (bytes chunk : List ℕ) (first end n entry code : ℕ) → IsChunk bytes first end chunk → first ≤ entry → entry < end → end ≤ n
    → code ≡ from_be_bytes w16 (bytes_at chunk (2 * (entry - first)) 2) → code ≡ get_or (stated_codes n bytes) entry 0
unfolding stated_codes
chunk_code bytes chunk first end n entry code there low less within is =
    is ∙ (there entry low less ∙ sym (get_or-map-range_with_len (code_at bytes) 0 n entry entry 0 (omega (arith, less, within)) (zero-add entry)))

-- two bytes, one by one
pub two_at : (bytes : List ℕ) (place : ℕ) → place + 1 < length bytes → bytes_at bytes place 2 ≡ get_or bytes place 0 ∷ get_or bytes (place + 1) 0 ∷ []
two_at bytes place within =
    ap (take 2) (drop_more bytes place 0 (omega (arith, within)) ∙ ap (λ rest. get_or bytes place 0 ∷ rest) (drop_more bytes (place + 1) 0 within))

-- the code is the one that is known, where the bytes are
pub chunk_known : (o : Option (List ℕ)) (chunk : List ℕ) (first end n entry code : ℕ) → IfSome o (λ bytes. IsChunk bytes first end chunk)
    → first ≤ entry → entry < end → end ≤ n → code ≡ from_be_bytes w16 (bytes_at chunk (2 * (entry - first)) 2)
    → IfSome (option_map (stated_codes n) o) (λ known. code ≡ get_or known entry 0)
chunk_known None chunk first end n entry code there low less within is = tt
chunk_known (Some bytes) chunk first end n entry code there low less within is = chunk_code bytes chunk first end n entry code there low less within is

-- an open file that is the file of a table is of its layout and pair, and states its codes
module _ (board : Shape) (low : board.points ≤ 24) (y : HasSymmetries board) (file : OpenFile) (right : IsOpen board file) (t : Table) (exact : IsTable board t)
    (is : file.bytes ≡ Some (file_of board t)) where
  same_kind : ◌≡◌ {A = Layout × Counts} (file.layout, file.pair) (t.layout, t.pair)
  same_kind = kind_found board low y t (IsRaw-from_exact board t exact) file.bytes is (file.layout, file.pair) (known_framed board file right)

  pub layout_of_table : file.layout ≡ t.layout
  layout_of_table = ap (λ (k : Layout × Counts). k.0) same_kind

  pub pair_of_table : file.pair ≡ t.pair
  pair_of_table = ap (λ (k : Layout × Counts). k.1) same_kind

  pub codes_of_table : codes_in_file board file ≡ Some t.codes
  codes_of_table =
      let counts : entry_count board board.points file.layout file.pair ≡ length t.codes =
      ap₂ (entry_count board board.points) layout_of_table pair_of_table ∙ sym exact.counted in
      let held : file.held ≡ Some (file_of board t) = at_bytes (λ bytes. file.held ≡ Some bytes) file.bytes (file_of board t) is right.unchanged in
      ap (option_map (stated_codes (entry_count board board.points file.layout file.pair))) held
      ∙ ap (λ codes. Some codes) (ap (λ n. stated_codes n (file_of board t)) counts ∙ stated_codes-file board t exact.small)
