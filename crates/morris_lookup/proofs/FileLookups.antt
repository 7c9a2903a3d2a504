-- What is read in the file of a table is the table's.
use Rattle.std.proofs.Common.{◌≡◌, ℕ, ◌+◌, ◌*◌, ◌<◌, ◌≤◌, true, List, ◌++◌, length, take, drop, get_or, Option, Some, None, Result, Ok, sym, ap, ap₂, subst, ◌∙◌, arith, length-append, append-nil, append_assoc}
use Rattle.std.specs.Prelude.{IfSome}
use Rattle.std.specs.Int.{w16, to_be_bytes, from_be_bytes}
use Rattle.std.proofs.lemmas.List.{take_at, drop_at, length-take-le}
use Rattle.std.proofs.lemmas.Nat.{from_be_bytes-to_be_bytes_2}
use Rattle.std.proofs.Math.Seq.{drop-cons}
use Rattle.sha2.specs.Sha256.{sha256}
use Rattle.morris_board.specs.Boards.{Shape}
use Rattle.morris_board.specs.Symmetries.{HasSymmetries}
use Rattle.morris_board.specs.Positions.{Sides, IsPosition}
use Rattle.morris_index.specs.Pairs.{Counts, is_of}
use Rattle.morris_pairs.specs.declared.layout.Layout.{Layout}
use Rattle.morris_pairs.specs.Codes.{IsCodeOf}
use Rattle.morris_pairs.specs.Entries.{entry_count, entry_index}
use Rattle.morris_pairs.specs.Tables.{Table}
use Rattle.morris_pairs.specs.TableFiles.{header_of, code_bytes, content_of, file_of}
use Rattle.morris_pairs.proofs.FileLaws.{AreCodes, length-code_bytes, code_bytes-parts, file_of-parts, length-header_of, IsRaw-from_exact}
use Rattle.morris_lookup.specs.Storage.{bytes_at, ReadsAt}
use Rattle.morris_lookup.specs.Opening.{OpenFile, IsOpen}
use Rattle.morris_lookup.specs.Lookups.{code_at, code_for, IsExactFile}
use Rattle.morris_lookup.proofs.OpeningLaws.{at_bytes, kind_found, known_framed}

between : (front part rest : List ℕ) (place : ℕ) → length front ≡ place → length part ≡ 2 → bytes_at (front ++ (part ++ rest)) place 2 ≡ part
between front part rest place at two = ap (take 2) (drop_at front (part ++ rest) place at) ∙ take_at part rest 2 two

one_code : (codes : List ℕ) (i : ℕ) → i < length codes → code_bytes (take 1 (drop i codes)) ≡ to_be_bytes w16 (get_or codes i 0)
unfolding code_bytes
one_code codes i low = ap (λ rest. code_bytes (take 1 rest)) (drop-cons codes i 0 low) ∙ append-nil (to_be_bytes w16 (get_or codes i 0))

-- the code at entry i of the file of a table is the table's
pub code_at-file : (board : Shape) (t : Table) (i : ℕ) → AreCodes t.codes → i < length t.codes → code_at (file_of board t) i ≡ get_or t.codes i 0
unfolding code_at
code_at-file board t i small low =
    let header : List ℕ = header_of board t.layout t.pair (length t.codes) in
    let before : List ℕ = code_bytes (take i t.codes) in
    let part : List ℕ = code_bytes (take 1 (drop i t.codes)) in
    let after : List ℕ = code_bytes (drop (i + 1) t.codes) in
    let digest : List ℕ = sha256 (content_of board t) in
    let parts : file_of board t ≡ (header ++ before) ++ (part ++ (after ++ digest)) =
    file_of-parts board t
    ∙ ap (λ codes. header ++ codes ++ digest) (code_bytes-parts t.codes i 1)
    ∙ (simp append_assoc) in
    let place : length (header ++ before) ≡ 16 + 2 * i =
    omega (
      arith,
      length-append header before,
      length-header_of board t.layout t.pair (length t.codes),
      length-code_bytes (take i t.codes),
      length-take-le i t.codes (omega arith),
    ) in
    let two : length part ≡ 2 = ap length (one_code t.codes i low) in
    ap (λ bytes. from_be_bytes w16 (bytes_at bytes (16 + 2 * i) 2)) parts
    ∙ ap (from_be_bytes w16) (between (header ++ before) part (after ++ digest) (16 + 2 * i) place two ∙ one_code t.codes i low)
    ∙ from_be_bytes-to_be_bytes_2 (get_or t.codes i 0) (omega (arith, small i low))

-- ---- an open file that is the file of an exact table

module _ (board : Shape) (n : ℕ) (points : board.points ≡ n) (low : board.points ≤ 24) (y : HasSymmetries board) where
  module _ (file : OpenFile) (right : IsOpen board file) (s : Sides) (position : IsPosition board s) (of : is_of file.pair s ≡ true) where
    -- the code that is read for a position is the position's
    pub exact_code : (code : ℕ) → IfSome file.bytes (λ b. code ≡ code_for board file b s) → IsExactFile board file
        → entry_index board n file.layout file.pair s < entry_count board n file.layout file.pair → IsCodeOf board s code
    exact_code code is (t, exact, known) inside =
        let same : ◌≡◌ {A = Layout × Counts} (file.layout, file.pair) (t.layout, t.pair) =
        kind_found board low y t (IsRaw-from_exact board t exact) file.bytes known (file.layout, file.pair) (known_framed board file right) in
        let layouts : file.layout ≡ t.layout = ap (λ (k : Layout × Counts). k.0) same in
        let pairs : file.pair ≡ t.pair = ap (λ (k : Layout × Counts). k.1) same in
        let entry : ℕ = entry_index board board.points file.layout file.pair s in
        let entries : entry ≡ entry_index board board.points t.layout t.pair s = ap₂ (λ l c. entry_index board board.points l c s) layouts pairs in
        let counts : entry_count board board.points file.layout file.pair ≡ length t.codes =
        ap₂ (entry_count board board.points) layouts pairs ∙ sym exact.counted in
        let here : entry < entry_count board board.points file.layout file.pair =
        subst (λ m. entry_index board m file.layout file.pair s < entry_count board m file.layout file.pair) (sym points) inside in
        let code_is : code ≡ get_or t.codes (entry_index board board.points t.layout t.pair s) 0 =
        at_bytes (λ bytes. code ≡ code_for board file bytes s) file.bytes (file_of board t) known is
        ∙ code_at-file board t entry exact.small (omega (arith, here, counts))
        ∙ ap (λ i. get_or t.codes i 0) entries in
        subst (IsCodeOf board s) (sym code_is) (exact.exact s position (subst (λ c. is_of c s ≡ true) pairs of))

-- ---- two bytes that are read

-- where the bytes are known, what was read is the code of the entry
pub read_stated : (T E : Type 0) (board : Shape) (n : ℕ) → board.points ≡ n → (file : OpenFile) (s : Sides) (o : Option (List ℕ)) (place : ℕ) (out : List ℕ) (done : T)
    → place ≡ 16 + 2 * entry_index board n file.layout file.pair s → length out ≡ 2 → ReadsAt {T = T} {E = E} o place out (Ok done)
    → (code : ℕ) → code ≡ from_be_bytes w16 out → IfSome o (λ bytes. code ≡ code_for board file bytes s)
unfolding code_at
read_stated T E board n points file s None place out done at two read code is = tt
read_stated T E board n points file s (Some bytes) place out done at two read code is =
    let there : place ≡ 16 + 2 * entry_index board board.points file.layout file.pair s =
    at ∙ ap (λ m. 16 + 2 * entry_index board m file.layout file.pair s) (sym points) in
    is ∙ ap (from_be_bytes w16) (read ∙ ap₂ (λ p k. bytes_at bytes p k) there two)

-- and the answer is that code
pub read_answer : (E : Type 0) (board : Shape) (file : OpenFile) (s : Sides) (o : Option (List ℕ)) (code : ℕ) → IfSome o (λ bytes. code ≡ code_for board file bytes s)
    → IfSome o (λ bytes. ◌≡◌ {A = Result ℕ E} (Ok code) (Ok (code_for board file bytes s)))
read_answer E board file s None code h = tt
read_answer E board file s (Some bytes) code h = ap (λ n. Ok n) h
