-- How what the steps of a reader took from a source makes up its answer, where the source's bytes
-- are known.
use Rattle.std.proofs.Common.{◌≡◌, ℕ, ◌+◌, ◌*◌, ◌<◌, ◌≤◌, List, [], ◌∷◌, ◌++◌, length, take, Option, Some, None, Result, Ok, Err, IsOk, refl, sym, ap, ◌∙◌, arith, length-append, append-nil, append_assoc}
use Rattle.std.proofs.lemmas.List.{take_at}
use Rattle.std.specs.Io.KnownBytes.{Consumes, IsAtEnd}
use Rattle.std.proofs.KnownBytes.{Consumes-nil}
use Rattle.std.specs.Str.{bytes_eq}
use Rattle.sha2.specs.Sha256.{sha256}
use Rattle.morris_board.specs.Boards.{Shape}
use Rattle.morris_index.specs.Pairs.{Counts}
use Rattle.morris_pairs.specs.declared.layout.Layout.{Layout}
use Rattle.morris_pairs.specs.declared.layout.Layout.TheVariants.{Full, Classes}
use Rattle.morris_pairs.specs.declared.header.Header.{Header}
use Rattle.morris_pairs.specs.Entries.{entry_count}
use Rattle.morris_pairs.specs.Tables.{Table, table}
use Rattle.morris_pairs.specs.TableFiles.{code_bytes}
use Rattle.morris_pairs.specs.FileReading.{unless, and_then, is_end, header_at, kind_in, check_count, check_header, before_room, roomless_in, header_in, file_in, only_file_in, next_file_in, Reads, MayTakeRoom, EndsEarly, CountsRead, IsHeaderRefusal}
use Rattle.morris_pairs.proofs.FileLaws.{AreCodes, body_in-parts, body_in-short, header_in-parts, header_in-short, file_in-parts, file_in-refused}
use Rattle.morris_pairs.specs.declared.file_faults.ReadFault.{ReadFault}
use Rattle.morris_pairs.specs.declared.file_faults.ReadFault.TheVariants as fault

-- ---- answers from what was read

module _ {A : Type 0} (found : List ℕ → Result (A × List ℕ) ReadFault) where
  -- bytes were read that the steps accept, whatever follows
  pub reads_ok : (old new : Option (List ℕ)) (front : List ℕ) (x : A) → Consumes old new front → ((left : List ℕ) → found (front ++ left) ≡ Ok (x, left))
      → Reads found old new (Ok x)
  reads_ok None new front x read accepted = tt
  reads_ok (Some bytes) None front x read accepted = absurd read
  reads_ok (Some bytes) (Some left) front x read accepted = (left, refl, ap found read ∙ accepted left)

  -- at all bytes there may be, the steps refuse
  pub reads_refused : (old new : Option (List ℕ)) (refusal : ReadFault) → ((bytes : List ℕ) → old ≡ Some bytes → found bytes ≡ Err refusal)
      → Reads found old new (Err refusal)
  reads_refused None new refusal refused = tt
  reads_refused (Some bytes) new fault.Short refused = refused bytes refl
  reads_refused (Some bytes) new fault.Magic refused = refused bytes refl
  reads_refused (Some bytes) new fault.Version refused = refused bytes refl
  reads_refused (Some bytes) new fault.BoardId refused = refused bytes refl
  reads_refused (Some bytes) new fault.Counts refused = refused bytes refl
  reads_refused (Some bytes) new fault.Crowded refused = refused bytes refl
  reads_refused (Some bytes) new fault.Count refused = refused bytes refl
  reads_refused (Some bytes) new fault.Digest refused = refused bytes refl
  reads_refused (Some bytes) new fault.Trailing refused = refused bytes refl
  reads_refused (Some bytes) new fault.Read refused = tt
  reads_refused (Some bytes) new fault.Memory refused = tt

  -- a read failed
  pub reads_failed : (old new : Option (List ℕ)) (refusal : ReadFault) → refusal ≡ fault.Read → Reads found old new (Err refusal)
  reads_failed None new refusal is = tt
  reads_failed (Some bytes) new refusal is = rw is tt

  -- bytes were read that the steps refuse, whatever follows
  pub reads_err : (old new : Option (List ℕ)) (front : List ℕ) (refusal : ReadFault) → Consumes old new front
      → ((left : List ℕ) → found (front ++ left) ≡ Err refusal) → Reads found old new (Err refusal)
  reads_err old new front refusal read refused = reads_refused old new refusal (at old new read)
    where
      at : (old new : Option (List ℕ)) → Consumes old new front → (bytes : List ℕ) → old ≡ Some bytes → found bytes ≡ Err refusal
      at None new read bytes e = cc
      at (Some known) None read bytes e = absurd read
      at (Some known) (Some left) read bytes e = let same : bytes ≡ known = cc in ap found (same ∙ read) ∙ refused left

  -- all bytes were read, and the steps refuse these
  pub reads_end : (old new : Option (List ℕ)) (front : List ℕ) (refusal : ReadFault) → Consumes old new front → IsAtEnd new → found front ≡ Err refusal
      → Reads found old new (Err refusal)
  reads_end old new front refusal read end refused = reads_refused old new refusal (at old new read end)
    where
      at : (old new : Option (List ℕ)) → Consumes old new front → IsAtEnd new → (bytes : List ℕ) → old ≡ Some bytes → found bytes ≡ Err refusal
      at None new read end bytes e = cc
      at (Some known) None read end bytes e = absurd read
      at (Some known) (Some left) read end bytes e =
          let same : bytes ≡ known = cc in
          ap found (same ∙ read ∙ ap (λ rest. front ++ rest) end ∙ append-nil front) ∙ refused

  -- reading ended early, and with so few bytes the steps find too few
  pub reads_early : (n : ℕ) (old new : Option (List ℕ)) (refusal : ReadFault) → EndsEarly n old refusal
      → ((bytes : List ℕ) → length bytes < n → found bytes ≡ Err fault.Short) → Reads found old new (Err refusal)
  reads_early n None new refusal early few = tt
  reads_early n (Some bytes) new fault.Short early few = few bytes early
  reads_early n (Some bytes) new fault.Memory early few = tt
  reads_early n (Some bytes) new fault.Read early few = tt
  reads_early n (Some bytes) new fault.Magic early few = absurd early
  reads_early n (Some bytes) new fault.Version early few = absurd early
  reads_early n (Some bytes) new fault.BoardId early few = absurd early
  reads_early n (Some bytes) new fault.Counts early few = absurd early
  reads_early n (Some bytes) new fault.Crowded early few = absurd early
  reads_early n (Some bytes) new fault.Count early few = absurd early
  reads_early n (Some bytes) new fault.Digest early few = absurd early
  reads_early n (Some bytes) new fault.Trailing early few = absurd early

-- fewer than n bytes were read up to the end
pub ends_short : (n : ℕ) (old new : Option (List ℕ)) (front : List ℕ) → Consumes old new front → IsAtEnd new → length front < n → EndsEarly n old fault.Short
ends_short n None new front read end few = tt
ends_short n (Some bytes) None front read end few = absurd read
ends_short n (Some bytes) (Some left) front read end few = omega (arith, ap length read, length-append front left, ap length end)

-- a read failed
pub ends_failed : (n : ℕ) (old : Option (List ℕ)) (refusal : ReadFault) → refusal ≡ fault.Read → EndsEarly n old refusal
ends_failed n old refusal is = rw is tt

-- reading so many bytes more ended early
pub early_after : (n m : ℕ) (front : List ℕ) (old mid : Option (List ℕ)) (refusal : ReadFault) → Consumes old mid front → length front + n ≤ m
    → EndsEarly n mid refusal → EndsEarly m old refusal
early_after n m front None mid fault.Short read few early = tt
early_after n m front (Some bytes) None fault.Short read few early = absurd read
early_after n m front (Some bytes) (Some left) fault.Short read few early = omega (arith, ap length read, length-append front left)
early_after n m front old mid fault.Magic read few early = absurd early
early_after n m front old mid fault.Version read few early = absurd early
early_after n m front old mid fault.BoardId read few early = absurd early
early_after n m front old mid fault.Counts read few early = absurd early
early_after n m front old mid fault.Crowded read few early = absurd early
early_after n m front old mid fault.Count read few early = absurd early
early_after n m front old mid fault.Digest read few early = absurd early
early_after n m front old mid fault.Trailing read few early = absurd early
early_after n m front old mid fault.Memory read few early = tt
early_after n m front old mid fault.Read read few early = tt

-- no read had failed before the step that refuses
pub counts_after : (old mid new : ℕ) (refusal : ReadFault) → mid ≡ old → CountsRead {A = ℕ} mid new (Err refusal)
    → CountsRead {A = ℕ} old new (Err refusal)
counts_after old mid new fault.Short none counted = counted ∙ none
counts_after old mid new fault.Magic none counted = counted ∙ none
counts_after old mid new fault.Version none counted = counted ∙ none
counts_after old mid new fault.BoardId none counted = counted ∙ none
counts_after old mid new fault.Counts none counted = counted ∙ none
counts_after old mid new fault.Crowded none counted = counted ∙ none
counts_after old mid new fault.Count none counted = counted ∙ none
counts_after old mid new fault.Digest none counted = counted ∙ none
counts_after old mid new fault.Trailing none counted = counted ∙ none
counts_after old mid new fault.Memory none counted = counted ∙ none
counts_after old mid new fault.Read none counted = counted ∙ ap (λ n. n + 1) none

-- a header was refused, for which nothing is read
pub counts_header : (board : Shape) (header : Header) (count : ℕ) (refusal : ReadFault) → IsHeaderRefusal board header refusal
    → CountsRead {A = ℕ} count count (Err refusal)
counts_header board header count fault.Short why = refl
counts_header board header count fault.Magic why = refl
counts_header board header count fault.Version why = refl
counts_header board header count fault.BoardId why = refl
counts_header board header count fault.Counts why = refl
counts_header board header count fault.Crowded why = refl
counts_header board header count fault.Count why = refl
counts_header board header count fault.Digest why = refl
counts_header board header count fault.Trailing why = refl
counts_header board header count fault.Memory why = refl
counts_header board header count fault.Read why = absurd why.1

-- a read failed, and none before it
pub counts_failed : (old mid new : ℕ) (refusal : ReadFault) → refusal ≡ fault.Read → mid ≡ old → new ≡ mid + 1
    → CountsRead {A = ℕ} old new (Err refusal)
counts_failed old mid new refusal is none counted = rw is (counted ∙ ap (λ n. n + 1) none)

-- ---- one step after another

-- what refuses the bytes after a front refuses the whole
pub reads_on_err : {A B : Type 0} (f : List ℕ → Result (A × List ℕ) ReadFault) (g : List ℕ → Result (B × List ℕ) ReadFault)
    (old mid new : Option (List ℕ)) (front : List ℕ) (refusal : ReadFault) → Consumes old mid front
    → ((bytes : List ℕ) → f bytes ≡ Err refusal → g (front ++ bytes) ≡ Err refusal) → Reads f mid new (Err refusal) → Reads g old new (Err refusal)
reads_on_err f g None mid new front refusal read lift answer = tt
reads_on_err f g (Some bytes) None new front refusal read lift answer = absurd read
reads_on_err f g (Some bytes) (Some left) new front fault.Short read lift answer = ap g read ∙ lift left answer
reads_on_err f g (Some bytes) (Some left) new front fault.Magic read lift answer = ap g read ∙ lift left answer
reads_on_err f g (Some bytes) (Some left) new front fault.Version read lift answer = ap g read ∙ lift left answer
reads_on_err f g (Some bytes) (Some left) new front fault.BoardId read lift answer = ap g read ∙ lift left answer
reads_on_err f g (Some bytes) (Some left) new front fault.Counts read lift answer = ap g read ∙ lift left answer
reads_on_err f g (Some bytes) (Some left) new front fault.Crowded read lift answer = ap g read ∙ lift left answer
reads_on_err f g (Some bytes) (Some left) new front fault.Count read lift answer = ap g read ∙ lift left answer
reads_on_err f g (Some bytes) (Some left) new front fault.Digest read lift answer = ap g read ∙ lift left answer
reads_on_err f g (Some bytes) (Some left) new front fault.Trailing read lift answer = ap g read ∙ lift left answer
reads_on_err f g (Some bytes) (Some left) new front fault.Memory read lift answer = tt
reads_on_err f g (Some bytes) (Some left) new front fault.Read read lift answer = tt

-- what accepts the bytes after a front accepts the whole
pub reads_on_ok : {A B : Type 0} (f : List ℕ → Result (A × List ℕ) ReadFault) (g : List ℕ → Result (B × List ℕ) ReadFault)
    (old mid new : Option (List ℕ)) (front : List ℕ) (x : A) (y : B) → Consumes old mid front
    → ((bytes left : List ℕ) → f bytes ≡ Ok (x, left) → g (front ++ bytes) ≡ Ok (y, left)) → Reads f mid new (Ok x) → Reads g old new (Ok y)
reads_on_ok f g None mid new front x y read lift answer = tt
reads_on_ok f g (Some bytes) None new front x y read lift answer = absurd read
reads_on_ok f g (Some bytes) (Some mid) new front x y read lift answer = (answer.0, answer.1, ap g read ∙ lift mid answer.0 answer.2)

-- ---- the steps before room is taken

before_room_ok : (board : Shape) (h : Header) (kind found : Layout × Counts) → check_count board h kind ≡ Ok found → IsOk (before_room board h kind)
before_room_ok board h (Full, pair) found passed = rw passed refl
before_room_ok board h (Classes, pair) found passed = refl

-- room is refused where a header isn't that of layout Full, after the steps before
pub room_refused : (board : Shape) (h : Header) (l : Layout) (pair : Counts) → Ok (l, pair) ≡ kind_in board h → (l ≡ Full → ⊥) → IsOk (roomless_in board h)
unfolding roomless_in
room_refused board h Full pair passed other = absurd (other refl)
room_refused board h Classes pair passed other = rw (← passed) refl

-- a header that is accepted passes the steps before room is taken
pub roomless_of : (board : Shape) (h : Header) (kind : Layout × Counts) → check_header board h ≡ Ok kind → IsOk (roomless_in board h)
unfolding check_header roomless_in
roomless_of board h kind named = from (kind_in board h) named
  where
    from : (r : Result (Layout × Counts) ReadFault) → and_then r (check_count board h) ≡ Ok kind → IsOk (and_then r (before_room board h))
    from (Ok x) passed = before_room_ok board h x kind passed
    from (Err refusal) passed = cc

-- ---- what stands after a header

module _ (board : Shape) (header : List ℕ) (long : length header ≡ 16) where
  pub header_in-is : header_in board header ≡ check_header board (header_at header)
  header_in-is = ap (header_in board) (sym (append-nil header)) ∙ header_in-parts board header [] long

  -- what the steps before room find in a front of known bytes, they find in all of them
  pub may_take : (old new : Option (List ℕ)) → Consumes old new header → IsOk (roomless_in board (header_at header)) → MayTakeRoom board old
  may_take None new read ok = tt
  may_take (Some bytes) None read ok = absurd read
  may_take (Some bytes) (Some left) read ok =
      let front : take 16 bytes ≡ header = ap (take 16) read ∙ take_at header left 16 long in (
        omega (arith, ap length read, length-append header left),
        rw front ok,
      )

  pub file_in-bad_header : (bytes : List ℕ) (refusal : ReadFault) → check_header board (header_at header) ≡ Err refusal → file_in board (header ++ bytes) ≡ Err refusal
  file_in-bad_header bytes refusal refused = file_in-refused board (header ++ bytes) refusal (header_in-parts board header bytes long ∙ refused)

  module _ (kind : Layout × Counts) (n : ℕ) (named : check_header board (header_at header) ≡ Ok kind) (sized : n ≡ entry_count board board.points kind.0 kind.1) where
    pub file_in-short_body : (bytes : List ℕ) → length bytes < 2 * n + 32 → file_in board (header ++ bytes) ≡ Err fault.Short
    file_in-short_body bytes few = file_in-parts board header bytes kind long named ∙ body_in-short kind (entry_count board board.points kind.0 kind.1) header bytes (omega arith)

    pub file_in-whole : (codes digest left : List ℕ) → length codes ≡ n → AreCodes codes → length digest ≡ 32
        → file_in board (header ++ ((code_bytes codes ++ digest) ++ left))
        ≡ unless (bytes_eq digest (sha256 (header ++ code_bytes codes))) fault.Digest (Ok (table kind.0 kind.1 codes, left))
    file_in-whole codes digest left counted small whole =
        ap (λ bytes. file_in board (header ++ bytes)) (append_assoc (code_bytes codes) digest left)
        ∙ file_in-parts board header (code_bytes codes ++ (digest ++ left)) kind long named
        ∙ body_in-parts kind (entry_count board board.points kind.0 kind.1) header codes digest left (counted ∙ sized) small whole

-- ---- files one after the other, and one alone

pub next_file_in-short : (board : Shape) (bytes : List ℕ) → 0 < length bytes → length bytes < 16 → next_file_in board bytes ≡ Err fault.Short
unfolding next_file_in
next_file_in-short board [] some few = absurd (omega arith)
next_file_in-short board (byte ∷ bytes) some few =
    let refused : file_in board (byte ∷ bytes) ≡ Err fault.Short = file_in-refused board (byte ∷ bytes) fault.Short (header_in-short board (byte ∷ bytes) few) in
    rw refused refl

pub next_file_in-err : (board : Shape) (header bytes : List ℕ) (refusal : ReadFault) → length header ≡ 16 → file_in board (header ++ bytes) ≡ Err refusal
    → next_file_in board (header ++ bytes) ≡ Err refusal
unfolding next_file_in
next_file_in-err board [] bytes refusal long refused = absurd (omega arith)
next_file_in-err board (byte ∷ header) bytes refusal long refused = rw refused refl

pub next_file_in-ok : (board : Shape) (header bytes left : List ℕ) (t : Table) → length header ≡ 16 → file_in board (header ++ bytes) ≡ Ok (t, left)
    → next_file_in board (header ++ bytes) ≡ Ok (Some t, left)
unfolding next_file_in
next_file_in-ok board [] bytes left t long read = absurd (omega arith)
next_file_in-ok board (byte ∷ header) bytes left t long read = rw read refl

-- a source at its end has no next file
pub reads_none : (board : Shape) (old new : Option (List ℕ)) → Consumes old new [] → IsAtEnd new → Reads (next_file_in board) old new (Ok None)
unfolding next_file_in
reads_none board None new read end = tt
reads_none board (Some bytes) None read end = absurd read
reads_none board (Some bytes) (Some left) read end = (left, refl, rw (read, end) refl)

value_or : {A : Type 0} → A → Result A ReadFault → A
value_or other (Ok x) = x
value_or other (Err refusal) = other

pub ok_same : {A : Type 0} (r : Result A ReadFault) (x y : A) → r ≡ Ok x → r ≡ Ok y → x ≡ y
unfolding value_or
ok_same r x y e h = ap (value_or x) (sym e ∙ h)

-- what the steps of the next file, and of one alone, make of what reading a file gives
abbrev as_next : Result (Table × List ℕ) ReadFault → Result (Option Table × List ℕ) ReadFault
as_next read = and_then {B = Option Table × List ℕ} read (λ found. Ok (Some found.0, found.1))

abbrev as_only : Result (Table × List ℕ) ReadFault → Result (Table × List ℕ) ReadFault
as_only read = and_then read (λ found. unless (is_end found.1) fault.Trailing (Ok found))

as_only-err : (read : Result (Table × List ℕ) ReadFault) (refusal : ReadFault) → as_next read ≡ Err refusal → as_only read ≡ Err refusal
as_only-err (Ok found) refusal e = cc
as_only-err (Err other) refusal e = let same : other ≡ refusal = cc in rw same refl

as_next-some : (read : Result (Table × List ℕ) ReadFault) (t : Table) (left : List ℕ) → as_next read ≡ Ok (Some t, left) → read ≡ Ok (t, left)
unfolding value_or
as_next-some (Ok found) t left e =
    let got : Option Table × List ℕ = (Some found.0, found.1) in
    let parts : got ≡ (Some t, left) = ap (value_or (Some t, left)) e in
    let of_table : Some found.0 ≡ Some t = ap (λ (p : Option Table × List ℕ). p.0) parts in
    let same : found.0 ≡ t = cc in
    ap (λ v. Ok (v, found.1)) same ∙ ap (λ rest. Ok (t, rest)) (ap (λ (p : Option Table × List ℕ). p.1) parts)
as_next-some (Err other) t left e = cc

as_next-none : (read : Result (Table × List ℕ) ReadFault) (left : List ℕ) → as_next read ≡ Ok (None, left) → ⊥
unfolding value_or
as_next-none (Ok found) left e =
    let got : Option Table × List ℕ = (Some found.0, found.1) in
    let parts : got ≡ (None, left) = ap (value_or (None, left)) e in
    let of_table : Some found.0 ≡ None = ap (λ (p : Option Table × List ℕ). p.0) parts in
    cc
as_next-none (Err other) left e = cc

only_in-err : (board : Shape) (bytes : List ℕ) (refusal : ReadFault) → next_file_in board bytes ≡ Err refusal → only_file_in board bytes ≡ Err refusal
unfolding next_file_in only_file_in
only_in-err board [] refusal refused = cc
only_in-err board (byte ∷ bytes) refusal refused = as_only-err (file_in board (byte ∷ bytes)) refusal refused

file_in_next : (board : Shape) (bytes left : List ℕ) (t : Table) → next_file_in board bytes ≡ Ok (Some t, left) → file_in board bytes ≡ Ok (t, left)
unfolding next_file_in value_or
file_in_next board [] left t read =
    let of_table : None ≡ Some t = ap (λ (p : Option Table × List ℕ). p.0) (ap (value_or (Some t, left)) read) in
    cc
file_in_next board (byte ∷ bytes) left t read = as_next-some (file_in board (byte ∷ bytes)) t left read

no_next : (board : Shape) (bytes left : List ℕ) → next_file_in board bytes ≡ Ok (None, left) → bytes ≡ []
unfolding next_file_in
no_next board [] left read = refl
no_next board (byte ∷ bytes) left read = absurd (as_next-none (file_in board (byte ∷ bytes)) left read)

-- what refuses the next file refuses one alone
pub reads_only_err : (board : Shape) (old new : Option (List ℕ)) (refusal : ReadFault) → Reads (next_file_in board) old new (Err refusal)
    → Reads (only_file_in board) old new (Err refusal)
reads_only_err board old new refusal answer =
    reads_on_err (next_file_in board) (only_file_in board) old old new [] refusal (Consumes-nil old) (λ bytes. only_in-err board bytes refusal) answer

-- no file at all is too short
pub reads_only_none : (board : Shape) (old new : Option (List ℕ)) → Reads (next_file_in board) old new (Ok None) → Reads (only_file_in board) old new (Err fault.Short)
unfolding only_file_in
reads_only_none board None new answer = tt
reads_only_none board (Some bytes) new answer =
    let none : bytes ≡ [] = no_next board bytes answer.0 answer.2 in
    let refused : file_in board [] ≡ Err fault.Short = file_in-refused board [] fault.Short (header_in-short board [] (omega arith)) in
    rw (none, refused) refl

-- a file that is followed by bytes
pub reads_only_trailing : (board : Shape) (old mid new : Option (List ℕ)) (t : Table) (more : List ℕ) → Reads (next_file_in board) old mid (Ok (Some t))
    → Consumes mid new more → 0 < length more → Reads (only_file_in board) old new (Err fault.Trailing)
unfolding only_file_in
reads_only_trailing board None mid new t more answer read some = tt
reads_only_trailing board (Some bytes) None new t more answer read some = let e = answer.1 in cc
reads_only_trailing board (Some bytes) (Some left) None t more answer read some = absurd read
reads_only_trailing board (Some bytes) (Some left) (Some rest) t [] answer read some = absurd (omega arith)
reads_only_trailing board (Some bytes) (Some left) (Some rest) t (byte ∷ more) answer read some =
    let e = answer.1 in
    let same : left ≡ answer.0 = cc in
    let found : file_in board bytes ≡ Ok (t, byte ∷ (more ++ rest)) =
    file_in_next board bytes answer.0 t answer.2 ∙ ap (λ b. Ok (t, b)) (sym same ∙ read) in
    rw found refl

-- a file that nothing follows
pub reads_only_ok : (board : Shape) (old mid new : Option (List ℕ)) (t : Table) → Reads (next_file_in board) old mid (Ok (Some t))
    → Consumes mid new [] → IsAtEnd new → Reads (only_file_in board) old new (Ok t)
unfolding only_file_in
reads_only_ok board None mid new t answer read end = tt
reads_only_ok board (Some bytes) None new t answer read end = let e = answer.1 in cc
reads_only_ok board (Some bytes) (Some left) None t answer read end = absurd read
reads_only_ok board (Some bytes) (Some left) (Some rest) t answer read end =
    let e = answer.1 in
    let same : left ≡ answer.0 = cc in
    let found : file_in board bytes ≡ Ok (t, []) = file_in_next board bytes answer.0 t answer.2 ∙ ap (λ b. Ok (t, b)) (sym same ∙ read ∙ end) in
    (rest, refl, rw (found, end) refl)
