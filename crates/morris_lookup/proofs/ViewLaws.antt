-- Laws of what files in memory say.
use Rattle.std.proofs.Common.{◌≡◌, ℕ, ◌+◌, Bool, true, false, List, length, take, get_or, Some, None, Result, Ok, Err, refl, sym, ap, ap₂, subst, ◌∙◌, inl, inr, arith}
use Rattle.std.specs.Prelude.{nat_eq, nat_le, IfOk}
use Rattle.std.specs.Str.{bytes_eq}
use Rattle.std.specs.Result.{result_map_both}
use Rattle.std.proofs.lemmas.Bool.{cases_Bool, eqb-true, and_parts, false≢true}
use Rattle.morris_board.specs.Boards.{Shape}
use Rattle.morris_board.specs.Positions.{Sides}
use Rattle.morris_index.specs.Pairs.{Counts, counts, pair_of}
use Rattle.morris_lookup.specs.Checking.{header_record, header_said}
use Rattle.morris_pairs.specs.declared.value.Value.TheVariants.{Lost}
use Rattle.morris_pairs.specs.declared.layout.Layout.{Layout}
use Rattle.morris_pairs.specs.declared.file_faults.ReadFault.{ReadFault}
use Rattle.morris_pairs.specs.declared.file_faults.ReadFault.TheVariants as fault
use Rattle.morris_pairs.specs.declared.layout.Layout.TheVariants.{Full, Classes}
use Rattle.morris_pairs.specs.Codes.{value_in}
use Rattle.morris_pairs.specs.Entries.{entry_index}
use Rattle.morris_pairs.specs.TableFiles.{magic}
use Rattle.morris_pairs.specs.declared.header.Header.{Header}
use Rattle.morris_pairs.specs.FileReading.{unless, are_counts, is_version, header_at, layout_in, kind_in}
use Rattle.morris_lookup.specs.Opening.{check_file, HasHeader}
use Rattle.morris_lookup.specs.declared.fault.ViewFault.TheVariants as view
use Rattle.morris_lookup.specs.Views.{is_by_classes, value_of_bytes, value_said, needs_words, names_pair, file_of_pair, IsExactAt, IsExactFile}
use Rattle.morris_lookup.specs.Lookups.{code_at}
use Rattle.std.proofs.lemmas.List.{get_or-take}

-- ---- what the header of a named file says

by_classes : (version : ℕ) → layout_in version ≡ Classes → nat_eq version 2 ≡ true
by_classes version e = elim (cases_Bool (nat_eq version 2)) [
  | inl y ↦ y
  | inr n ↦ absurd (other (rw n at e))
]
  where
    other : Full ≡ Classes → ⊥
    other h = cc

-- what no step of a header refuses is what its fields say
passed : {A : Type 0} (test : Bool) (refusal : ReadFault) (next : Result A ReadFault) (x : A) → Ok x ≡ unless test refusal next → Ok x ≡ next
passed true refusal next x e = e
passed false refusal next x e = cc

kind_says : (board : Shape) (h : Header) (kind : Layout × Counts) → Ok kind ≡ kind_in board h → kind ≡ (layout_in h.version, counts h.greater h.lesser)
unfolding kind_in
kind_says board h kind e =
    let all : ◌≡◌ {A = Result (Layout × Counts) ReadFault} (Ok kind) (Ok (layout_in h.version, counts h.greater h.lesser)) =
    passed (nat_le (h.greater + h.lesser) board.points) fault.Crowded _ kind (passed (are_counts h.greater h.lesser) fault.Counts _ kind
    (passed (nat_eq h.board board.id) fault.BoardId _ kind (passed (is_version h.version) fault.Version _ kind
    (passed (bytes_eq h.magic magic) fault.Magic _ kind e)))) in
    cc

module _ (board : Shape) (bytes : List ℕ) (found : Layout) (pair : Counts) (stated n : ℕ) (here : HasHeader board (found, pair) stated n bytes) where
  says : ◌≡◌ {A = Layout × Counts} (found, pair) (layout_in (get_or (take 16 bytes) 4 0), counts (get_or (take 16 bytes) 6 0) (get_or (take 16 bytes) 7 0))
  says = kind_says board (header_at (take 16 bytes)) (found, pair) here.says

  version_is : found ≡ layout_in (get_or bytes 4 0)
  version_is = ap (λ (k : Layout × Counts). k.0) says ∙ ap layout_in (get_or-take 16 bytes 4 0 (omega arith))

  pub read_by_classes : found ≡ Classes → is_by_classes bytes ≡ true
  read_by_classes classes = by_classes (get_or bytes 4 0) (sym version_is ∙ classes)

  pub laid_by_classes : is_by_classes bytes ≡ true → found ≡ Classes
  laid_by_classes y = version_is ∙ rw y refl

  -- the header is one of the pair that is named
  pub named_heading : (c : Counts) → names_pair c bytes ≡ true → HasHeader board (found, c) stated n bytes
  named_heading c named =
      let parts = and_parts (nat_eq (get_or bytes 6 0) c.greater) (nat_eq (get_or bytes 7 0) c.lesser) (and_parts (nat_le 16 (length bytes)) _ named).1 in
      let same : pair ≡ c =
      ap (λ (k : Layout × Counts). k.1) says
      ∙ ap₂ counts
      (get_or-take 16 bytes 6 0 (omega arith) ∙ eqb-true (get_or bytes 6 0) c.greater parts.0)
      (get_or-take 16 bytes 7 0 (omega arith) ∙ eqb-true (get_or bytes 7 0) c.lesser parts.1) in
      subst (λ p. HasHeader board (found, p) stated n bytes) same here

-- ---- answers

pub ok_maps : {X E A B : Type 0} (r : Result X E) → (A → B) → IfOk r (λ _. A) → IfOk r (λ _. B)
ok_maps (Ok x) f a = f a
ok_maps (Err refusal) f a = tt

-- ---- many files

module _ (board : Shape) (files : List (List ℕ)) (s : Sides) where
  pub said-none : None ≡ pair_of s → value_said board files s ≡ Ok (Lost 0)
  unfolding value_said
  said-none e = rw (← e) refl

  pub needs-none : None ≡ pair_of s → needs_words files s ≡ true → ⊥
  needs-none e h = let none : false ≡ true = rw (← e) at h in false≢true none

  module _ (c : Counts) (of : Some c ≡ pair_of s) where
    pub said-no_file : None ≡ file_of_pair files c → value_said board files s ≡ Err view.NoFile
    unfolding value_said
    said-no_file e = rw (← of, ← e) refl

    module _ (bytes : List ℕ) (there : Some bytes ≡ file_of_pair files c) where
      pub said-file : value_said board files s ≡ value_of_bytes board s bytes
      unfolding value_said
      said-file = rw (← of, ← there) refl

      pub needs-file : needs_words files s ≡ is_by_classes bytes
      needs-file = rw (← of, ← there) refl

      pub exact-file : IsExactAt board files s → IsExactFile board bytes
      exact-file exact = rw (← of, ← there) at exact

-- ---- what is said of bytes by the steps of opening

pub said_by_kind : (board : Shape) (s : Sides) (bytes : List ℕ) (found : Result (Layout × Counts) ReadFault) → check_file board bytes ≡ found
    → result_map_both (λ (kind : Layout × Counts). value_in (code_at bytes (entry_index board board.points kind.0 kind.1 s))) view.File found ≡ value_of_bytes board s bytes
unfolding value_of_bytes
said_by_kind board s bytes found e = rw e refl

pub header_by_kind : (board : Shape) (bytes : List ℕ) (found : Result (Layout × Counts) ReadFault) → check_file board bytes ≡ found
    → result_map_both (header_record board) (λ refusal. refusal) found ≡ header_said board bytes
unfolding header_said
header_by_kind board bytes found e = rw e refl
