-- Laws of opening: what the steps find in bytes of which the header and the number are known, and
-- that the file of each table is one.
use Rattle.std.proofs.Common.{◌≡◌, ◌≢◌, ℕ, ◌+◌, ◌*◌, ◌<◌, ◌≤◌, List, [], ◌++◌, length, take, drop, Option, Some, None, Result, Ok, Err, false, true, not, ◌&&◌, eqb, refl, sym, ap, ap₂, subst, ◌∙◌, inl, inr, arith, append-nil}
use Rattle.std.specs.Prelude.{nat_eq, nat_le, IfSome}
use Rattle.std.specs.Str.{bytes_eq}
use Rattle.std.proofs.lemmas.Bool.{and_from, and_parts, both_ways, cases_Bool, eq-eqb, eqb-true, le-leb, leb-true, not-false, not-true}
use Rattle.sha2.specs.Sha256.{sha256}
use Rattle.morris_board.specs.Boards.{Shape}
use Rattle.morris_board.specs.Symmetries.{HasSymmetries}
use Rattle.morris_index.specs.Pairs.{Counts, counts}
use Rattle.morris_pairs.specs.declared.layout.Layout.{Layout}
use Rattle.morris_pairs.specs.declared.layout.Layout.TheVariants.{Full}
use Rattle.morris_pairs.specs.Entries.{entry_count}
use Rattle.morris_pairs.specs.EntryLaws.{entries_few}
use Rattle.morris_pairs.specs.Orders.{order_of}
use Rattle.morris_pairs.specs.Tables.{Table, table}
use Rattle.morris_pairs.specs.Raws.{IsRaw}
use Rattle.morris_pairs.specs.TableFiles.{file_of}
use Rattle.morris_pairs.specs.declared.header.Header.{Header}
use Rattle.morris_pairs.specs.FileReading.{unless, and_then, header_at, kind_in, check_count, check_header, header_in, codes_in, body_in, file_in, IsOfBytes}
use Rattle.morris_pairs.specs.declared.file_faults.ReadFault.{ReadFault}
use Rattle.morris_pairs.specs.declared.file_faults.ReadFault.TheVariants as fault
use Rattle.morris_pairs.proofs.FileLaws.{header_in-short, file_in-file_of, length-file_of}
use Rattle.morris_pairs.proofs.ReadingLaws.{ok_same, room_refused}
use Rattle.morris_lookup.specs.declared.fault.OpenFault.TheVariants as opening
use Rattle.morris_lookup.specs.Storage.{bytes_at, CountsBytes}
use Rattle.morris_lookup.specs.Opening.{file_size, check_size, check_file, check_length, HasHeader, IsCheckRefusal, IsOpen, IsOpeningRefusal, OpenFile, Opens}

-- ---- bytes by their header and number

-- what the last steps leave of a layout and a pair
abbrev pub left_of : Layout × Counts → Result (Unit {0}) ReadFault → Result (Layout × Counts) ReadFault
left_of kind (Ok done) = Ok kind
left_of kind (Err refusal) = Err refusal

module _ (board : Shape) (bytes : List ℕ) where
  framed_short : length bytes < 16 → check_file board bytes ≡ Err fault.Short
  unfolding check_file
  framed_short short = rw (header_in-short board bytes short) refl

  framed_refused : 16 ≤ length bytes → (refusal : ReadFault) → Err refusal ≡ kind_in board (header_at (take 16 bytes)) → check_file board bytes ≡ Err refusal
  unfolding check_file header_in check_header
  framed_refused long refusal e = rw (le-leb 16 (length bytes) long, ← e) refl

  module _ (kind : Layout × Counts) (stated n : ℕ) (here : HasHeader board kind stated n bytes) where
    framed_here : check_file board bytes ≡ left_of kind (check_length (header_at (take 16 bytes)).entries (length bytes) (entry_count board board.points kind.0 kind.1))
    unfolding check_file header_in check_header check_count check_size check_length
    framed_here =
        let said : ℕ = (header_at (take 16 bytes)).entries in
        let count : ℕ = entry_count board board.points kind.0 kind.1 in
        let size : ℕ = 16 + 2 * count + 32 in
        elim (cases_Bool (nat_eq said count)) [
          | inl right ↦ elim (cases_Bool (nat_le size (length bytes))) [
            | inl enough ↦ elim (cases_Bool (nat_le (length bytes) size)) [
              | inl fit ↦ rw (le-leb 16 (length bytes) here.long, ← here.says, right, enough, fit) refl
              | inr more ↦ rw (le-leb 16 (length bytes) here.long, ← here.says, right, enough, more) refl
            ]
            | inr fewer ↦ rw (le-leb 16 (length bytes) here.long, ← here.says, right, fewer) refl
          ]
          | inr other ↦ rw (le-leb 16 (length bytes) here.long, ← here.says, other) refl
        ]

    module _ (m : ℕ) (points : board.points ≡ m) (count : ℕ) (counted : count ≡ entry_count board m kind.0 kind.1) where
      framed_counted : check_file board bytes ≡ left_of kind (check_length stated n count)
      framed_counted =
          let all : count ≡ entry_count board board.points kind.0 kind.1 = counted ∙ ap (λ p. entry_count board p kind.0 kind.1) (sym points) in
          rw (here.many, all, here.states) framed_here

      pub framed_not_borne : (refusal : ReadFault) → Err refusal ≡ check_length stated n count → check_file board bytes ≡ Err refusal
      framed_not_borne refusal e = framed_counted ∙ ap (left_of kind) (sym e)

      pub framed_found : (done : Unit {0}) → Ok done ≡ check_length stated n count → check_file board bytes ≡ Ok kind
      framed_found done e = framed_counted ∙ ap (left_of kind) (sym e)

of_bytes : (board : Shape) (bytes : List ℕ) (refusal : ReadFault) → check_file board bytes ≡ Err refusal → IsOfBytes refusal → IsCheckRefusal board bytes refusal
of_bytes board bytes fault.Memory e r = absurd r
of_bytes board bytes fault.Read e r = absurd r
of_bytes board bytes refusal e r = e

-- ---- the same where the bytes may be known

pub at_bytes : (P : List ℕ → Type 0) (o : Option (List ℕ)) (bytes : List ℕ) → o ≡ Some bytes → IfSome o P → P bytes
at_bytes P o bytes e h = subst (λ b. IfSome b P) e h

-- what holds of bytes that are known though reads may fail holds of those of which none fails
pub held_known : (o held : Option (List ℕ)) (P : List ℕ → Type 0) → IfSome o (λ bytes. held ≡ Some bytes) → IfSome held P → IfSome o P
held_known None held P same h = tt
held_known (Some bytes) held P same h = subst (λ o. IfSome o P) same h

pub known_framed : (board : Shape) (file : OpenFile) → IsOpen board file → IfSome file.bytes (λ bytes. check_file board bytes ≡ Ok (file.layout, file.pair))
known_framed board file right = held_known file.bytes file.held (λ bytes. check_file board bytes ≡ Ok (file.layout, file.pair)) right.unchanged right.checked

module _ (board : Shape) (o : Option (List ℕ)) where
  abbrev IsRefusedBy : ReadFault → Type 0
  IsRefusedBy refusal = IfSome o (λ bytes. IsCheckRefusal board bytes refusal)

pub frame_refused : (board : Shape) (o : Option (List ℕ)) (refusal : ReadFault) → IfSome o (λ bytes. (check_file board bytes ≡ Err refusal) × IsOfBytes refusal)
    → IsRefusedBy board o refusal
frame_refused board None refusal h = tt
frame_refused board (Some bytes) refusal h = of_bytes board bytes refusal h.0 h.1

module _ (board : Shape) (stated n : ℕ) where
  pub frame_roomless : (l : Layout) (c : Counts) (o : Option (List ℕ)) → IfSome o (HasHeader board (l, c) stated n) → (l ≡ Full → ⊥) → IsRefusedBy board o fault.Memory
  frame_roomless l c None here classes = tt
  frame_roomless l c (Some bytes) here classes = (here.long, room_refused board (header_at (take 16 bytes)) l c here.says classes)

  module _ (kind : Layout × Counts) (m : ℕ) (points : board.points ≡ m) (count : ℕ) (counted : count ≡ entry_count board m kind.0 kind.1) where
    pub frame_not_borne : (o : Option (List ℕ)) → IfSome o (HasHeader board kind stated n) → (refusal : ReadFault) → Err refusal ≡ check_length stated n count
        → IsOfBytes refusal → IsRefusedBy board o refusal
    frame_not_borne None here refusal e of = tt
    frame_not_borne (Some bytes) here refusal e of = of_bytes board bytes refusal (framed_not_borne board bytes kind stated n here m points count counted refusal e) of

    pub frame_found : (o : Option (List ℕ)) → IfSome o (HasHeader board kind stated n) → (done : Unit {0}) → Ok done ≡ check_length stated n count
        → IfSome o (λ bytes. check_file board bytes ≡ Ok kind)
    frame_found None here done e = tt
    frame_found (Some bytes) here done e = framed_found board bytes kind stated n here m points count counted done e

-- pairs that a test finds the same, or tells apart
pub alike : (c d : Counts) → not (eqb c.greater d.greater && eqb c.lesser d.lesser) ≡ false → c ≡ d
alike c d same = let both = and_parts _ _ (not-false _ same) in ap₂ counts (eqb-true _ _ both.0) (eqb-true _ _ both.1)

pub apart : (c d : Counts) → not (eqb c.greater d.greater && eqb c.lesser d.lesser) ≡ true → c ≢ d
apart c d differ = λ same.
    both_ways _ (not-true _ differ) (and_from _ _ (eq-eqb _ _ (ap (λ (x : Counts). x.greater) same)) (eq-eqb _ _ (ap (λ (x : Counts). x.lesser) same)))

-- the file of another pair is refused as such
pub other_pair : (board : Shape) (wanted : Counts) (o : Option (List ℕ)) (kind : Layout × Counts) → IfSome o (λ bytes. check_file board bytes ≡ Ok kind) → kind.1 ≢ wanted
    → IfSome o (λ bytes. IsOpeningRefusal board wanted bytes opening.Pair)
other_pair board wanted None kind checked other = tt
other_pair board wanted (Some bytes) kind checked other = (kind, checked, other)

-- what a reader found that counted the bytes and read the first of them
module _ (board : Shape) (n : ℕ) (front : List ℕ) (sized : length front ≡ 16) (enough : 16 ≤ n) (header : Header) (is : header ≡ header_at front) where
  same_header : (bytes : List ℕ) → front ≡ bytes_at bytes 0 (length front) → header ≡ header_at (take 16 bytes)
  same_header bytes read = is ∙ ap header_at (read ∙ ap (λ k. bytes_at bytes 0 k) sized)

  pub headed : (o : Option (List ℕ)) → IfSome o (λ bytes. n ≡ length bytes) → IfSome o (λ bytes. front ≡ bytes_at bytes 0 (length front))
      → (kind : Layout × Counts) → Ok kind ≡ kind_in board header → IfSome o (HasHeader board kind header.entries n)
  headed None counted read kind says = tt
  headed (Some bytes) counted read kind says = record {
    long = omega (arith, enough, counted);
    says = says ∙ ap (kind_in board) (same_header bytes read);
    states = ap (λ (h : Header). h.entries) (same_header bytes read);
    many = counted;
  }

  pub unheaded : (o : Option (List ℕ)) → IfSome o (λ bytes. n ≡ length bytes) → IfSome o (λ bytes. front ≡ bytes_at bytes 0 (length front))
      → (refusal : ReadFault) → Err refusal ≡ kind_in board header → IsOfBytes refusal → IfSome o (λ bytes. (check_file board bytes ≡ Err refusal) × IsOfBytes refusal)
  unheaded None counted read refusal e of = tt
  unheaded (Some bytes) counted read refusal e of =
      (framed_refused board bytes (omega (arith, enough, counted)) refusal (e ∙ ap (kind_in board) (same_header bytes read)), of)

pub too_short : (E : Type 0) (board : Shape) (o : Option (List ℕ)) (n : ℕ) → CountsBytes {E = E} o (Ok n) → n < 16
    → IfSome o (λ bytes. (check_file board bytes ≡ Err fault.Short) × IsOfBytes fault.Short)
too_short E board None n counted short = tt
too_short E board (Some bytes) n counted short = let all : n ≡ length bytes = cc in (framed_short board bytes (omega (arith, short, all)), tt)

-- bytes that no step refuses are as many as the file of the table has
pub size_of_framed : (board : Shape) (bytes : List ℕ) (kind : Layout × Counts) → check_file board bytes ≡ Ok kind
    → length bytes ≡ 16 + 2 * entry_count board board.points kind.0 kind.1 + 32
unfolding check_file check_size
size_of_framed board bytes kind e = from (header_in board bytes) e
  where
    no : (refusal : ReadFault) → Err refusal ≡ Ok kind → ⊥
    no refusal f = cc

    size : (found : Layout × Counts) → unless (nat_le (file_size board found) (length bytes)) fault.Short
        (unless (nat_le (length bytes) (file_size board found)) fault.Trailing (Ok found)) ≡ Ok kind → length bytes ≡ file_size board kind
    size found f = elim (cases_Bool (nat_le (file_size board found) (length bytes))) [
      | inl enough ↦ elim (cases_Bool (nat_le (length bytes) (file_size board found))) [
        | inl no_more ↦
            let same : found ≡ kind = ok_same {A = Layout × Counts} (Ok kind) found kind (sym (rw (enough, no_more) at f)) refl in
            let sizes : file_size board found ≡ file_size board kind = ap (file_size board) same in
            omega (arith, leb-true (file_size board found) (length bytes) enough, leb-true (length bytes) (file_size board found) no_more, sizes)
        | inr more ↦ absurd (no fault.Trailing (rw (enough, more) at f))
      ]
      | inr fewer ↦ absurd (no fault.Short (rw fewer at f))
    ]

    from : (r : Result (Layout × Counts) ReadFault) → and_then r (check_size board (length bytes)) ≡ Ok kind → length bytes ≡ file_size board kind
    from (Ok found) f = size found f
    from (Err refusal) f = absurd (no refusal f)

-- ---- the file of a table

never : (refusal : ReadFault) (x : Table × List ℕ) → Err refusal ≡ Ok x → ⊥
never refusal x e = cc

-- what stands in the header is what the steps find
header_read : (board : Shape) (bytes : List ℕ) (t : Table) (left : List ℕ) → file_in board bytes ≡ Ok (t, left) → header_in board bytes ≡ Ok (t.layout, t.pair)
unfolding file_in body_in
header_read board bytes t left e = from (header_in board bytes) e
  where
    body_kind : (kind : Layout × Counts) (n : ℕ) (header rest : List ℕ) → body_in kind n header rest ≡ Ok (t, left) → kind ≡ (t.layout, t.pair)
    body_kind kind n header rest e = elim (cases_Bool (nat_le (2 * n + 32) (length rest))) [
      | inl long ↦ elim (cases_Bool (bytes_eq (take 32 (drop (2 * n) rest)) (sha256 (header ++ take (2 * n) rest)))) [
        | inl right ↦
            let found : Ok (table kind.0 kind.1 (codes_in (take (2 * n) rest)), drop (2 * n + 32) rest) ≡ Ok (t, left) = rw (long, right) at e in
            let same : table kind.0 kind.1 (codes_in (take (2 * n) rest)) ≡ t =
            ap (λ (p : Table × List ℕ). p.0) (ok_same (Ok (t, left)) (table kind.0 kind.1 (codes_in (take (2 * n) rest)), drop (2 * n + 32) rest) (t, left) (sym found) refl) in
            ap (λ (u : Table). (u.layout, u.pair)) same
        | inr wrong ↦ absurd (never fault.Digest (t, left) (rw (long, wrong) at e))
      ]
      | inr short ↦ absurd (never fault.Short (t, left) (rw short at e))
    ]

    from : (r : Result (Layout × Counts) ReadFault)
        → and_then r (λ kind. body_in kind (entry_count board board.points kind.0 kind.1) (take 16 bytes) (drop 16 bytes)) ≡ Ok (t, left) → r ≡ Ok (t.layout, t.pair)
    from (Ok kind) e = ap (λ k. Ok k) (body_kind kind (entry_count board board.points kind.0 kind.1) (take 16 bytes) (drop 16 bytes) e)
    from (Err refusal) e = cc

module _ (board : Shape) (low : board.points ≤ 24) (y : HasSymmetries board) where
  -- the file of a table has the table's header and as many bytes as it says
  pub framed_file : (t : Table) → IsRaw board t → check_file board (file_of board t) ≡ Ok (t.layout, t.pair)
  unfolding check_file check_size
  framed_file t raw =
      let read : file_in board (file_of board t) ≡ Ok (t, []) =
      ap (file_in board) (sym (append-nil (file_of board t)))
      ∙ file_in-file_of board t [] raw (omega (arith, raw.counted, entries_few board low y t.pair raw.lawful (order_of t.layout))) in
      let size : length (file_of board t) ≡ 16 + 2 * entry_count board board.points t.layout t.pair + 32 =
      omega (arith, length-file_of board t, raw.counted) in
      rw (
        header_read board (file_of board t) t [] read,
        le-leb (16 + 2 * entry_count board board.points t.layout t.pair + 32) (length (file_of board t)) (omega (arith, size)),
        le-leb (length (file_of board t)) (16 + 2 * entry_count board board.points t.layout t.pair + 32) (omega (arith, size)),
      ) refl

  -- so it is a file of its pair, and no step refuses it
  no_refusal : (t : Table) → IsRaw board t → (refusal : ReadFault) → check_file board (file_of board t) ≡ Err refusal → ⊥
  no_refusal t raw refusal e = let l = framed_file t raw in cc

  module _ (t : Table) (raw : IsRaw board t) where
    opens_unless : (refusal : ReadFault) → IsCheckRefusal board (file_of board t) refusal → Opens t.layout (Err (opening.File refusal))
    opens_unless fault.Memory h = tt
    opens_unless fault.Read h = absurd h
    opens_unless refusal h = absurd (no_refusal t raw refusal h)

    pub opens_refused : (o : Option (List ℕ)) → o ≡ Some (file_of board t) → (refusal : ReadFault)
        → IfSome o (λ bytes. IsCheckRefusal board bytes refusal) → Opens t.layout (Err (opening.File refusal))
    opens_refused o known refusal h =
        opens_unless refusal (at_bytes (λ bytes. IsCheckRefusal board bytes refusal) o (file_of board t) known h)

    -- what was found is the table's layout and pair
    pub kind_found : (o : Option (List ℕ)) → o ≡ Some (file_of board t) → (kind : Layout × Counts)
        → IfSome o (λ bytes. check_file board bytes ≡ Ok kind) → kind ≡ (t.layout, t.pair)
    kind_found o known kind h =
        let named : check_file board (file_of board t) ≡ Ok kind = at_bytes (λ bytes. check_file board bytes ≡ Ok kind) o (file_of board t) known h in
        ok_same {A = Layout × Counts} (check_file board (file_of board t)) kind (t.layout, t.pair) named (framed_file t raw)
