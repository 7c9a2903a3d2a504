-- Laws of table files: how long their parts are, that reading a file gives back the table, and that
-- what was read is a file.
use Rattle.std.proofs.Common.{◌≡◌, ℕ, ◌+◌, ◌*◌, ◌^◌, ◌<◌, ◌≤◌, Bool, true, false, nat_eq, nat_le, List, [], ◌∷◌, ◌++◌, length, take, drop, get_or, Result, Ok, Err, refl, sym, ap, ap₂, ◌∙◌, inl, inr, arith, length-append, length-drop, append_assoc, append-nil}
use native.Mathlib.Numerals.{unary_clauses}
use Rattle.std.specs.Prelude.{slice_index}
use Rattle.std.specs.Int.{w16, w64, to_be_bytes, from_be_bytes}
use Rattle.std.specs.Str.{bytes_eq}
use Rattle.std.proofs.lemmas.Bool.{le-leb, lt-leb, eqb-true, eq-eqb, or_cases}
use Rattle.std.proofs.lemmas.Grind.{flat_map-append}
use Rattle.std.proofs.lemmas.List.{take_at, drop_at, take-append-drop, get_or-drop}
use Rattle.std.proofs.lemmas.Nat.{from_be_bytes-to_be_bytes_2, from_be_bytes-to_be_bytes_8, be_bytes_8}
use Rattle.std.proofs.lemmas.Slice.Eq.{bytes_eq-Decides}
use Rattle.std.proofs.Math.Seq.{drop-cons, take-add}
use Rattle.sha2.specs.Sha256.{sha256}
use Rattle.sha2.proofs.Facts256.{length-sha256}
use Rattle.morris_board.specs.Boards.{Shape}
use Rattle.morris_index.specs.Pairs.{Counts, counts, IsPair}
use Rattle.morris_pairs.specs.declared.layout.Layout.{Layout}
use Rattle.morris_pairs.specs.declared.layout.Layout.TheVariants.{Full, Classes}
use Rattle.morris_pairs.specs.Entries.{entry_count}
use Rattle.morris_pairs.specs.Tables.{Table, table, IsTable}
use Rattle.morris_pairs.specs.Raws.{IsRaw}
use Rattle.morris_pairs.specs.TableFiles.{magic, version_of, header_of, code_bytes, content_of, file_of}
use Rattle.morris_pairs.specs.FileReading.{unless, and_then, header_at, is_version, layout_in, are_counts, kind_in, check_count, check_header, header_in, codes_in, body_in, file_in}
use Rattle.morris_pairs.specs.declared.file_faults.ReadFault.{ReadFault}
use Rattle.morris_pairs.specs.declared.file_faults.ReadFault.TheVariants as fault

-- ---- codes as bytes

pub code_bytes-append : (xs ys : List ℕ) → code_bytes (xs ++ ys) ≡ code_bytes xs ++ code_bytes ys
unfolding code_bytes
code_bytes-append xs ys = flat_map-append (to_be_bytes w16) xs ys

pub length-code_bytes : (xs : List ℕ) → length (code_bytes xs) ≡ 2 * length xs
unfolding code_bytes
length-code_bytes [] = refl
length-code_bytes (x ∷ xs) = omega (arith, length-code_bytes xs)

-- one code more
pub code_bytes-more : (xs : List ℕ) (code : ℕ) → code_bytes (xs ++ code ∷ []) ≡ code_bytes xs ++ to_be_bytes w16 code
unfolding code_bytes
code_bytes-more xs code = flat_map-append (to_be_bytes w16) xs (code ∷ [])

-- the codes up to a place, and k more
pub code_bytes-chunk : (codes : List ℕ) (i k : ℕ) → code_bytes (take (i + k) codes) ≡ code_bytes (take i codes) ++ code_bytes (take k (drop i codes))
code_bytes-chunk codes i k = ap code_bytes (take-add i k codes) ∙ code_bytes-append (take i codes) (take k (drop i codes))

-- and those after them
pub code_bytes-parts : (codes : List ℕ) (i k : ℕ)
    → code_bytes codes ≡ code_bytes (take i codes) ++ code_bytes (take k (drop i codes)) ++ code_bytes (drop (i + k) codes)
code_bytes-parts codes i k =
    ap code_bytes (sym (take-append-drop (i + k) codes))
    ∙ code_bytes-append (take (i + k) codes) (drop (i + k) codes)
    ∙ ap (λ front. front ++ code_bytes (drop (i + k) codes)) (code_bytes-chunk codes i k)

-- codes of 16 bits
abbrev pub AreCodes : List ℕ → Type 0
AreCodes codes = (i : ℕ) → i < length codes → slice_index codes i ≤ 65535

pub codes_in-code_bytes : (codes : List ℕ) → AreCodes codes → codes_in (code_bytes codes) ≡ codes
unfolding code_bytes
codes_in-code_bytes [] small = refl
codes_in-code_bytes (code ∷ codes) small =
    let first : from_be_bytes w16 (to_be_bytes w16 code) ≡ code = from_be_bytes-to_be_bytes_2 code (omega (arith, small 0 (omega arith))) in
    let rest : codes_in (code_bytes codes) ≡ codes = codes_in-code_bytes codes (λ i h. simp unary_clauses at (small (i + 1) (omega arith))) in
    ap (λ n. n ∷ codes_in (code_bytes codes)) first ∙ ap (λ t. code ∷ t) rest

-- ---- steps that refuse

pub unless-true : {A : Type 0} (b : Bool) (refusal : ReadFault) (next : Result A ReadFault) → b ≡ true → unless b refusal next ≡ next
unless-true b refusal next h = rw h refl

pub unless-false : {A : Type 0} (b : Bool) (refusal : ReadFault) (next : Result A ReadFault) → b ≡ false → unless b refusal next ≡ Err refusal
unless-false b refusal next h = rw h refl

bytes_same : (xs : List ℕ) → bytes_eq xs xs ≡ true
bytes_same xs = (bytes_eq-Decides xs xs).1 refl

-- ---- a body, by its parts

pub body_in-parts : (kind : Layout × Counts) (n : ℕ) (header codes digest left : List ℕ) → length codes ≡ n → AreCodes codes → length digest ≡ 32
    → body_in kind n header (code_bytes codes ++ (digest ++ left))
    ≡ unless (bytes_eq digest (sha256 (header ++ code_bytes codes))) fault.Digest (Ok (table kind.0 kind.1 codes, left))
unfolding body_in
body_in-parts kind n header codes digest left counted small long =
    let stated = code_bytes codes in
    let size : length stated ≡ 2 * n = omega (arith, length-code_bytes codes) in
    let regrouped : stated ++ (digest ++ left) ≡ (stated ++ digest) ++ left = sym (append_assoc stated digest left) in
    let front : length (stated ++ digest) ≡ 2 * n + 32 = omega (arith, length-append stated digest) in
    let enough : nat_le (2 * n + 32) (length (stated ++ (digest ++ left))) ≡ true =
    le-leb _ _ (omega (arith, length-append stated (digest ++ left), length-append digest left)) in
    let left_is : drop (2 * n + 32) (stated ++ (digest ++ left)) ≡ left = ap (drop (2 * n + 32)) regrouped ∙ drop_at (stated ++ digest) left (2 * n + 32) front in
    let stated_is : take (2 * n) (stated ++ (digest ++ left)) ≡ stated = take_at stated (digest ++ left) (2 * n) size in
    let after : drop (2 * n) (stated ++ (digest ++ left)) ≡ digest ++ left = drop_at stated (digest ++ left) (2 * n) size in
    let digest_is : take 32 (digest ++ left) ≡ digest = take_at digest left 32 long in
    rw (enough, left_is, stated_is, after, digest_is, codes_in-code_bytes codes small) refl

pub body_in-short : (kind : Layout × Counts) (n : ℕ) (header bytes : List ℕ) → length bytes < 2 * n + 32 → body_in kind n header bytes ≡ Err fault.Short
unfolding body_in
body_in-short kind n header bytes short = unless-false _ _ _ (lt-leb _ _ short)

-- ---- a header

version_known : (l : Layout) → is_version (version_of l) ≡ true
version_known Full = refl
version_known Classes = refl

version_layout : (l : Layout) → layout_in (version_of l) ≡ l
version_layout Full = refl
version_layout Classes = refl

-- the fields of a header of a table are the table's
heading_fields : (board : Shape) (l : Layout) (c : Counts) (entries : ℕ) → IsPair board.points c → entries ≡ entry_count board board.points l c → entries < 2 ^ 64
    → check_header board (header_at (header_of board l c entries)) ≡ Ok (l, c)
unfolding check_header kind_in check_count header_of
heading_fields board l c entries lawful sized fits =
    let stated : from_be_bytes w64 (to_be_bytes w64 entries) ≡ entries = from_be_bytes-to_be_bytes_8 entries fits in
    let same : nat_eq (from_be_bytes w64 (to_be_bytes w64 entries)) (entry_count board board.points l c) ≡ true = eq-eqb _ _ (stated ∙ sized) in
    let of_board : nat_eq board.id board.id ≡ true = eq-eqb _ _ refl in
    let enough : nat_le (c.greater + c.lesser) board.points ≡ true = le-leb _ _ lawful.fits in
    let ordered : nat_le c.lesser c.greater ≡ true = le-leb _ _ lawful.ordered in
    let greater_least : nat_le 3 c.greater ≡ true = le-leb _ _ (omega arith) in
    let greater_most : nat_le c.greater 9 ≡ true = le-leb _ _ lawful.most in
    let lesser_least : nat_le 3 c.lesser ≡ true = le-leb _ _ lawful.least in
    let lesser_most : nat_le c.lesser 9 ≡ true = le-leb _ _ (omega arith) in
    rw (version_known l, version_layout l, of_board, greater_least, greater_most, lesser_least, lesser_most, ordered, enough, same) refl

-- a header of 16 bytes stands before what follows it
pub header_in-parts : (board : Shape) (header after : List ℕ) → length header ≡ 16 → header_in board (header ++ after) ≡ check_header board (header_at header)
unfolding header_in
header_in-parts board header after long =
    let enough : nat_le 16 (length (header ++ after)) ≡ true = le-leb _ _ (omega (arith, length-append header after)) in
    unless-true _ _ _ enough ∙ ap (λ bytes. check_header board (header_at bytes)) (take_at header after 16 long)

pub header_in-short : (board : Shape) (bytes : List ℕ) → length bytes < 16 → header_in board bytes ≡ Err fault.Short
unfolding header_in
header_in-short board bytes short = unless-false _ _ _ (lt-leb _ _ short)

-- a file with a lawful header is read on after it
pub file_in-parts : (board : Shape) (header after : List ℕ) (kind : Layout × Counts) → length header ≡ 16 → check_header board (header_at header) ≡ Ok kind
    → file_in board (header ++ after) ≡ body_in kind (entry_count board board.points kind.0 kind.1) header after
unfolding file_in
file_in-parts board header after kind long found =
    let named : header_in board (header ++ after) ≡ Ok kind = header_in-parts board header after long ∙ found in
    let front : take 16 (header ++ after) ≡ header = take_at header after 16 long in
    let rest : drop 16 (header ++ after) ≡ after = drop_at header after 16 long in
    rw (named, front, rest) refl

-- a header that is refused refuses the file
pub file_in-refused : (board : Shape) (bytes : List ℕ) (refusal : ReadFault) → header_in board bytes ≡ Err refusal → file_in board bytes ≡ Err refusal
unfolding file_in
file_in-refused board bytes refusal found = rw found refl

-- ---- the whole

pub length-header_of : (board : Shape) (l : Layout) (c : Counts) (entries : ℕ) → length (header_of board l c entries) ≡ 16
unfolding header_of
length-header_of board l c entries = refl

-- the parts of a file, and what follows it
pub file_parts : (board : Shape) (t : Table) (after : List ℕ)
    → file_of board t ++ after ≡ header_of board t.layout t.pair (length t.codes) ++ (code_bytes t.codes ++ (sha256 (content_of board t) ++ after))
unfolding file_of content_of
file_parts board t after =
    append_assoc (content_of board t) (sha256 (content_of board t)) after
    ∙ append_assoc (header_of board t.layout t.pair (length t.codes)) (code_bytes t.codes) (sha256 (content_of board t) ++ after)

-- reading the file of a table gives the table, whatever follows the file
pub file_in-file_of : (board : Shape) (t : Table) (after : List ℕ) → IsRaw board t → length t.codes < 2 ^ 64 → file_in board (file_of board t ++ after) ≡ Ok (t, after)
unfolding content_of
file_in-file_of board t after raw fits =
    let header = header_of board t.layout t.pair (length t.codes) in
    let digest = sha256 (content_of board t) in
    let kind : Layout × Counts = (t.layout, t.pair) in
    let named : check_header board (header_at header) ≡ Ok kind = heading_fields board t.layout t.pair (length t.codes) raw.lawful raw.counted fits in
    ap (file_in board) (file_parts board t after)
    ∙ file_in-parts board header (code_bytes t.codes ++ (digest ++ after)) kind (length-header_of board t.layout t.pair (length t.codes)) named
    ∙ body_in-parts kind (entry_count board board.points t.layout t.pair) header t.codes digest after raw.counted raw.small (length-sha256 (content_of board t))
    ∙ unless-true _ _ _ (bytes_same digest)

-- the three parts that a file is written in
pub file_of-parts : (board : Shape) (t : Table) → file_of board t ≡ header_of board t.layout t.pair (length t.codes) ++ code_bytes t.codes ++ sha256 (content_of board t)
unfolding file_of content_of
file_of-parts board t = refl

-- an exact table is one with a code of 16 bits for each entry
pub IsRaw-from_exact : (board : Shape) (t : Table) → IsTable board t → IsRaw board t
IsRaw-from_exact board t exact = record { lawful = exact.lawful; counted = exact.counted; small = exact.small }

-- the numbers of stones of a pair, and the layout, from the header of its files
same_pair : (board : Shape) (t u : Table) → file_of board t ≡ file_of board u → t.pair ≡ u.pair
unfolding file_of content_of header_of
same_pair board t u e =
    let greater : t.pair.greater ≡ u.pair.greater = ap (λ bytes. get_or bytes 6 0) e in
    let lesser : t.pair.lesser ≡ u.pair.lesser = ap (λ bytes. get_or bytes 7 0) e in
    ap (λ n. counts n t.pair.lesser) greater ∙ ap (counts u.pair.greater) lesser

same_layout : (board : Shape) (t u : Table) → file_of board t ≡ file_of board u → t.layout ≡ u.layout
unfolding file_of content_of header_of
same_layout board t u e =
    let version : version_of t.layout ≡ version_of u.layout = ap (λ bytes. get_or bytes 4 0) e in
    sym (version_layout t.layout) ∙ ap layout_in version ∙ version_layout u.layout

-- no two tables have one file
pub file_of-injective : (board : Shape) (t u : Table) → IsRaw board t → IsRaw board u → file_of board t ≡ file_of board u → t ≡ u
file_of-injective board t u of_t of_u e =
    let pairs : t.pair ≡ u.pair = same_pair board t u e in
    let layouts : t.layout ≡ u.layout = same_layout board t u e in
    let sizes : length t.codes ≡ length u.codes = of_t.counted ∙ ap₂ (entry_count board board.points) layouts pairs ∙ sym of_u.counted in
    let stated : (v : Table) → length v.codes ≡ length t.codes → take (2 * length t.codes) (drop 16 (file_of board v)) ≡ code_bytes v.codes = λ v same.
    ap (λ bytes. take (2 * length t.codes) (drop 16 bytes)) (sym (append-nil (file_of board v)) ∙ file_parts board v [])
    ∙ ap (take (2 * length t.codes)) (drop_at (header_of board v.layout v.pair (length v.codes)) _ 16 (length-header_of board v.layout v.pair (length v.codes)))
    ∙ take_at (code_bytes v.codes) _ (2 * length t.codes) (omega (arith, length-code_bytes v.codes, same))
    in
    let bytes : code_bytes t.codes ≡ code_bytes u.codes = sym (stated t refl) ∙ ap (λ all. take (2 * length t.codes) (drop 16 all)) e ∙ stated u (sym sizes) in
    let codes : t.codes ≡ u.codes = sym (codes_in-code_bytes t.codes of_t.small) ∙ ap codes_in bytes ∙ codes_in-code_bytes u.codes of_u.small in
    ap₂ (λ l pair. table l pair t.codes) layouts pairs ∙ ap (table u.layout u.pair) codes

-- ---- what was read is a file

-- six steps that were passed, the last of them by what the others find
passed_last : {A : Type 0} (b : Bool) (f : ReadFault) (x y : A) → unless b f (Ok x) ≡ Ok y → (b ≡ true) × (x ≡ y)
passed_last true f x y h = (refl, cc)
passed_last false f x y h = cc

passed_six : {A : Type 0} (b1 b2 b3 b4 b5 : Bool) (f1 f2 f3 f4 f5 f6 : ReadFault) (x y : A) (last : A → Bool)
    → and_then (unless b1 f1 (unless b2 f2 (unless b3 f3 (unless b4 f4 (unless b5 f5 (Ok x)))))) (λ z. unless (last z) f6 (Ok z)) ≡ Ok y
    → (b1 ≡ true) × (b2 ≡ true) × (b3 ≡ true) × (last x ≡ true) × (x ≡ y)
passed_six true true true true true f1 f2 f3 f4 f5 f6 x y last h = let w = passed_last (last x) f6 x y h in (refl, refl, refl, w.0, w.1)
passed_six false b2 b3 b4 b5 f1 f2 f3 f4 f5 f6 x y last h = cc
passed_six true false b3 b4 b5 f1 f2 f3 f4 f5 f6 x y last h = cc
passed_six true true false b4 b5 f1 f2 f3 f4 f5 f6 x y last h = cc
passed_six true true true false b5 f1 f2 f3 f4 f5 f6 x y last h = cc
passed_six true true true true false f1 f2 f3 f4 f5 f6 x y last h = cc

-- a known version is that of its layout
version_read : (v : ℕ) → is_version v ≡ true → v ≡ version_of (layout_in v)
version_read v known = elim (or_cases (nat_eq v 1) (nat_eq v 2) known) [
  | inl one ↦ let e : v ≡ 1 = eqb-true v 1 one in rw e refl
  | inr two ↦ let e : v ≡ 2 = eqb-true v 2 two in rw e refl
]

-- a header that names a table is the table's
header_of-read : (board : Shape) (header : List ℕ) (kind : Layout × Counts) → ((i : ℕ) → get_or header i 0 < 256) → length header ≡ 16
    → check_header board (header_at header) ≡ Ok kind → header ≡ header_of board kind.0 kind.1 (entry_count board board.points kind.0 kind.1)
unfolding check_header kind_in check_count header_of
header_of-read board header kind small long named =
    let greater = get_or header 6 0 in
    let lesser = get_or header 7 0 in
    let found : Layout × Counts = (layout_in (get_or header 4 0), counts greater lesser) in
    let unmoves = passed_six (bytes_eq (take 4 header) magic) (is_version (get_or header 4 0)) (nat_eq (get_or header 5 0) board.id) (are_counts greater lesser)
    (nat_le (greater + lesser) board.points)
    fault.Magic fault.Version fault.BoardId fault.Counts fault.Crowded fault.Count found kind
    (λ (k : Layout × Counts). nat_eq (from_be_bytes w64 (drop 8 header)) (entry_count board board.points k.0 k.1)) named in
    let kind_is : found ≡ kind = unmoves.4 in
    let magic_is : take 4 header ≡ magic = (bytes_eq-Decides (take 4 header) magic).0 unmoves.0 in
    let version_is : get_or header 4 0 ≡ version_of found.0 = version_read (get_or header 4 0) unmoves.1 in
    let board_is : get_or header 5 0 ≡ board.id = eqb-true _ _ unmoves.2 in
    let entries : from_be_bytes w64 (drop 8 header) ≡ entry_count board board.points found.0 found.1 = eqb-true _ _ unmoves.3 in
    let stated : drop 8 header ≡ to_be_bytes w64 (entry_count board board.points found.0 found.1) =
    sym (be_bytes_8 (drop 8 header) (entry_count board board.points found.0 found.1) (omega (arith, length-drop 8 header))
    (λ i. rw (get_or-drop 8 header i 0) (small (8 + i))) (sym entries)) in
    let four : drop 4 header ≡ get_or header 4 0 ∷ get_or header 5 0 ∷ get_or header 6 0 ∷ get_or header 7 0 ∷ drop 8 header =
    drop-cons header 4 0 (omega arith)
    ∙ ap (λ rest. get_or header 4 0 ∷ rest) (drop-cons header 5 0 (omega arith))
    ∙ ap (λ rest. get_or header 4 0 ∷ get_or header 5 0 ∷ rest) (drop-cons header 6 0 (omega arith))
    ∙ ap (λ rest. get_or header 4 0 ∷ get_or header 5 0 ∷ get_or header 6 0 ∷ rest) (drop-cons header 7 0 (omega arith)) in
    sym (take-append-drop 4 header)
    ∙ ap (λ front. front ++ drop 4 header) magic_is
    ∙ ap (λ rest. magic ++ rest) four
    ∙ ap (λ v. magic ++ v ∷ get_or header 5 0 ∷ get_or header 6 0 ∷ get_or header 7 0 ∷ drop 8 header) version_is
    ∙ ap (λ b. magic ++ version_of found.0 ∷ b ∷ get_or header 6 0 ∷ get_or header 7 0 ∷ drop 8 header) board_is
    ∙ ap (λ rest. magic ++ version_of found.0 ∷ board.id ∷ get_or header 6 0 ∷ get_or header 7 0 ∷ rest) stated
    ∙ ap (λ (k : Layout × Counts). header_of board k.0 k.1 (entry_count board board.points k.0 k.1)) kind_is

-- what was read is the file of the table: its header, its codes, and the digest of both
pub file_of-read : (board : Shape) (header digest codes : List ℕ) (kind : Layout × Counts) → ((i : ℕ) → get_or header i 0 < 256) → length header ≡ 16
    → check_header board (header_at header) ≡ Ok kind → length codes ≡ entry_count board board.points kind.0 kind.1
    → digest ≡ sha256 (header ++ code_bytes codes) → file_of board (table kind.0 kind.1 codes) ≡ header ++ (code_bytes codes ++ digest)
unfolding file_of content_of
file_of-read board header digest codes kind small long named counted right =
    let same : header_of board kind.0 kind.1 (length codes) ≡ header =
    ap (header_of board kind.0 kind.1) counted ∙ sym (header_of-read board header kind small long named) in
    ap (λ h. h ++ code_bytes codes ++ sha256 (h ++ code_bytes codes)) same
    ∙ ap (λ d. header ++ code_bytes codes ++ d) (sym right)
    ∙ append_assoc header (code_bytes codes) digest

-- how many bytes a file has: 16 before the codes, 2 for each code, and 32 after them
pub length-file_of : (board : Shape) (t : Table) → length (file_of board t) ≡ 16 + 2 * length t.codes + 32
unfolding file_of content_of
length-file_of board t =
    let header : List ℕ = header_of board t.layout t.pair (length t.codes) in
    let content : List ℕ = header ++ code_bytes t.codes in
    omega (
      arith,
      length-append content (sha256 content),
      length-append header (code_bytes t.codes),
      length-header_of board t.layout t.pair (length t.codes),
      length-code_bytes t.codes,
      length-sha256 content,
    )
