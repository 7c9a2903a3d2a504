-- What is answered from the file of an exact table is the game's.
use Rattle.std.proofs.Common.{◌≡◌, ◌⊎◌, ◌≤◌, ℕ, Bool, true, false, List, Option, None, Some, is_some, Result, Err, ◌∙◌, sym, ap, ap₂, subst, inl, inr, slice_index}
use Rattle.std.specs.Prelude.{IfSome}
use Rattle.std.specs.Io.KnownBytes.{Keeps}
use Rattle.morris_board.specs.Boards.{Shape}
use Rattle.morris_board.specs.Positions.{Sides}
use Rattle.morris_board.specs.Symmetries.{HasSymmetries}
use Rattle.morris_index.specs.Pairs.{Counts}
use Rattle.morris_pairs.specs.declared.layout.Layout.{Layout}
use Rattle.morris_pairs.specs.Codes.{value_in}
use Rattle.morris_pairs.specs.Counting.{AreSoMany, CodedEntries, HasCode, coded_entries, is_shown}
use Rattle.morris_pairs.specs.Entries.{entry_index}
use Rattle.morris_pairs.specs.Tables.{IsTable, Table}
use Rattle.morris_pairs.specs.TableFiles.{file_of}
use Rattle.morris_probe.proofs.BestLaws.{one_value}
use Rattle.morris_pairs.proofs.CountLaws.{game_code, many_same, stated_code}
use Rattle.morris_lookup.specs.FileCodes.{codes_in_file}
use Rattle.morris_lookup.specs.Lookups.{IsExactFile}
use Rattle.morris_lookup.specs.Opening.{IsOpen, OpenFile}
use Rattle.morris_lookup.proofs.PieceLaws.{codes_of_table, layout_of_table, pair_of_table}
use Rattle.morris_jobs.specs.declared.fault.Fault.{Fault}
use Rattle.morris_jobs.specs.declared.fault.Fault.TheVariants as fault
use Rattle.morris_jobs.specs.Counted.{PrintsTallies}
use Rattle.morris_jobs.proofs.CountedLaws.{answers_game}
use Rattle.morris_queries.specs.declared.file_questions.Question.{Question}
use Rattle.morris_queries.specs.declared.file_questions.Question.TheVariants.{Counts as Counting, Positions}
use Rattle.morris_queries.specs.declared.find.Shown.{Shown}
use Rattle.morris_queries.specs.declared.find.Shown.TheVariants.{Count, Strings}
use Rattle.morris_queries.specs.declared.wanted.Kind.{Kind}
use Rattle.morris_queries.specs.declared.wanted.Wanted.{Wanted}
use Rattle.morris_queries.specs.declared.wanted.Wanted.TheVariants.{Deepest, Every}
use Rattle.morris_queries.specs.Asked.{AnswersFile, IsGameAnswer, entries_in}
use Rattle.morris_queries.specs.Found.{AnswersFind, AreFound, AreKinds, AreManyOfBoth, AreOf, AreOfBoth, IsInGame, IsStated, PrintsFound, has_shown}
use Rattle.morris_queries.specs.Wanted.{is_of_kind}

-- ---- where others are asked for that are the same positions

module _ (asked wanted : Kind → Sides → Type 0) (entry : Sides → ℕ) (there : (kind : Kind) (s : Sides) → asked kind s → wanted kind s)
    (back : (kind : Kind) (s : Sides) → wanted kind s → asked kind s) where
  found_same_asked : (kind : Kind) (most : ℕ) (ps : List Sides) → AreFound (asked kind) entry most ps → AreFound (wanted kind) entry most ps
  found_same_asked kind most ps h = record {
    each = λ s c. there kind s (h.each s c);
    in_order = h.in_order;
    few = h.few;
    whole = λ s w. h.whole s (back kind s w);
  }

  of_same : (kind : Option Kind) (most : ℕ) (ps : List Sides) → AreOf asked entry most kind ps → AreOf wanted entry most kind ps
  of_same None most ps h = h
  of_same (Some kind) most ps h = found_same_asked kind most ps h

  both_same : (kinds : Option Kind × Option Kind) (most : ℕ) (ps : List Sides) → AreOfBoth asked entry most kinds ps → AreOfBoth wanted entry most kinds ps
  both_same kinds most ps h = record {
    first = h.first;
    second = h.second;
    split = h.split;
    of_first = of_same kinds.0 most h.first h.of_first;
    of_second = of_same kinds.1 _ h.second h.of_second;
  }

  many_same_asked : (kind : Option Kind) (n : ℕ) → IfSome kind (λ k. AreSoMany (asked k) n) → IfSome kind (λ k. AreSoMany (wanted k) n)
  many_same_asked None n h = tt
  many_same_asked (Some kind) n h = many_same (asked kind) (wanted kind) n (there kind) (back kind) h

  many_both_same : (kinds : Option Kind × Option Kind) (n : ℕ) → AreManyOfBoth asked kinds n → AreManyOfBoth wanted kinds n
  many_both_same kinds n h = record {
    first = h.first;
    second = h.second;
    sum = h.sum;
    of_first = many_same_asked kinds.0 h.first h.of_first;
    of_second = many_same_asked kinds.1 h.second h.of_second;
    none_first = h.none_first;
    none_second = h.none_second;
  }

  module _ (says reported : Sides → ℕ → Type 0) (say : (s : Sides) (code : ℕ) → says s code → reported s code) (unsay : (s : Sides) (code : ℕ) → reported s code → says s code) where
    kinds_same : (w : Wanted) (kinds : Option Kind × Option Kind) → AreKinds says w kinds → AreKinds reported w kinds
    kinds_same (Every kind) kinds h = h
    kinds_same Deepest kinds h =
        (h.0, (λ code. many_same (λ s. says s code) (λ s. reported s code) _ (λ s a. say s code a) (λ s a. unsay s code a) (h.1 code)), h.2)

    pub prints_same : {T : Type 0} (board : Shape) (w : Wanted) (shown : Shown) (old new : Option (List ℕ)) (r : Result T Fault)
        → PrintsFound board says asked entry w shown old new r → PrintsFound board reported wanted entry w shown old new r
    prints_same board w (Strings most) old new r h =
        (h.0, h.1, h.2, kinds_same w h.0 h.3, h.4, h.5, both_same h.0 h.1 h.2 h.6, h.7)
    prints_same board w Count old new r h = (h.0, h.1, kinds_same w h.0 h.2, many_both_same h.0 h.1 h.3, h.4)

-- ---- what the codes of an exact table state is so in the game

module _ (board : Shape) (t : Table) (exact : IsTable board t) (all : Bool) where
  code_there : (s : Sides) (code : ℕ) → has_shown board t all s code → HasCode board t.pair s code × (is_shown board t.layout all s ≡ true)
  code_there s code h = (game_code board t exact s code h.0, h.1)

  code_back : (s : Sides) (code : ℕ) → HasCode board t.pair s code × (is_shown board t.layout all s ≡ true) → has_shown board t all s code
  code_back s code h = (stated_code board t exact s code h.0, h.1)

  -- the value of a position is the one that its code says
  kind_there : (kind : Kind) (s : Sides) → IsStated board t all kind s → IsInGame board t.layout t.pair all kind s
  kind_there kind s h = record {
    lawful = h.lawful;
    of = h.of;
    shown = h.shown;
    value = value_in (slice_index t.codes (entry_index board board.points t.layout t.pair s));
    valued = exact.exact s h.lawful h.of;
    asked = h.asked;
  }

  kind_back : (kind : Kind) (s : Sides) → IsInGame board t.layout t.pair all kind s → IsStated board t all kind s
  kind_back kind s h = record {
    lawful = h.lawful;
    of = h.of;
    shown = h.shown;
    asked =
        ap (is_of_kind kind) (one_value board s _ h.value (exact.exact s h.lawful h.of) h.valued) ∙ h.asked;
  }

  finds_game : {T : Type 0} (entries : CodedEntries) (same : entries ≡ coded_entries t.layout t.pair (Some t.codes) true) (wanted : Wanted) (shown : Shown)
      (old new : Option (List ℕ)) (r : Result T Fault) → AnswersFind board entries all wanted shown old new r
      → ((r ≡ Err fault.Memory) × Keeps old new) ⊎ PrintsFound board (λ s code. HasCode board t.pair s code × (is_shown board t.layout all s ≡ true))
      (λ kind s. IsInGame board t.layout t.pair all kind s) (entry_index board board.points t.layout t.pair) wanted shown old new r
  finds_game entries same wanted shown old new r h =
      elim (subst (λ (e : CodedEntries). AnswersFind board e all wanted shown old new r) same h) [
        | inl memory ↦ inl memory
        | inr (inl unread) ↦
            let bad : true ≡ false = unread.1 in
            cc
        | inr (inr found) ↦ inr (prints_same (λ kind s. IsStated board t all kind s) (λ kind s. IsInGame board t.layout t.pair all kind s)
            (entry_index board board.points t.layout t.pair) kind_there kind_back (has_shown board t all)
            (λ s code. HasCode board t.pair s code × (is_shown board t.layout all s ≡ true)) code_there code_back board wanted shown old new r found.1)
      ]

-- ---- what is answered of the file of an exact table

module _ (board : Shape) (low : board.points ≤ 24) (y : HasSymmetries board) (file : OpenFile) (right : IsOpen board file) where
  module _ (t : Table) (exact : IsTable board t) (is : file.bytes ≡ Some (file_of board t)) where
    layouts : file.layout ≡ t.layout
    layouts = layout_of_table board low y file right t exact is

    pairs : file.pair ≡ t.pair
    pairs = pair_of_table board low y file right t exact is

    same_entries : entries_in board file ≡ coded_entries t.layout t.pair (Some t.codes) true
    same_entries =
        ap (λ (l : Layout). coded_entries l file.pair (codes_in_file board file) (is_some file.bytes)) layouts
        ∙ (ap (λ (c : Counts). coded_entries t.layout c (codes_in_file board file) (is_some file.bytes)) pairs
        ∙ ap₂ (coded_entries t.layout t.pair) (codes_of_table board low y file right t exact is) (ap is_some is))

    game_answer : {T : Type 0} (question : Question) (old new : Option (List ℕ)) (r : Result T Fault) → AnswersFile board file question old new r
        → IsGameAnswer board file question old new r
    game_answer (Counting csv) old new r h =
        subst (λ (c : Counts). ((r ≡ Err fault.Memory) × Keeps old new) ⊎ PrintsTallies board c csv (HasCode board c) old new r) (sym pairs)
        (answers_game board t exact (entries_in board file) same_entries csv old new r h)
    game_answer (Positions search) old new r h =
        subst (λ (l : Layout). ((r ≡ Err fault.Memory) × Keeps old new) ⊎ PrintsFound board (λ s code. HasCode board file.pair s code × (is_shown board l search.all s ≡ true))
        (λ kind s. IsInGame board l file.pair search.all kind s) (entry_index board board.points l file.pair) search.wanted search.shown old new r) (sym layouts)
        (subst (λ (c : Counts). ((r ≡ Err fault.Memory) × Keeps old new) ⊎ PrintsFound board
        (λ s code. HasCode board c s code × (is_shown board t.layout search.all s ≡ true)) (λ kind s. IsInGame board t.layout c search.all kind s)
        (entry_index board board.points t.layout c) search.wanted search.shown old new r) (sym pairs)
        (finds_game board t exact search.all (entries_in board file) same_entries search.wanted search.shown old new r h))

  pub exact_answer : {T : Type 0} (question : Question) (old new : Option (List ℕ)) (r : Result T Fault) → AnswersFile board file question old new r
      → IsExactFile board file → IsGameAnswer board file question old new r
  exact_answer question old new r h exact = game_answer exact.0 exact.1 exact.2 question old new r h
