-- What is printed of the codes of an exact table is the game's.
use Rattle.std.proofs.Common.{◌≡◌, ◌⊎◌, ℕ, Bool, true, false, List, Option, Some, None, Result, Err, refl, ap, subst, inl, inr}
use Rattle.std.specs.Prelude.{IfSome}
use Rattle.std.specs.Io.KnownBytes.{Keeps}
use Rattle.std.proofs.KnownBytes.{Keeps-refl}
use Rattle.std.proofs.lemmas.Bool.{false_from_ne_true}
use Rattle.morris_board.specs.Boards.{Shape}
use Rattle.morris_pairs.specs.Counting.{AreTallies, CodedEntries, HasCode, HasStated, HasTallies, coded_entries, table_of}
use Rattle.morris_pairs.specs.Tables.{IsTable, Table}
use Rattle.morris_pairs.specs.declared.counting.CountFault.{CountFault}
use Rattle.morris_pairs.specs.declared.counting.CountFault.TheVariants as count
use Rattle.morris_pairs.proofs.CountLaws.{game_own, game_tallies}
use Rattle.morris_jobs.specs.declared.fault.Fault.{Fault}
use Rattle.morris_jobs.specs.declared.fault.Fault.TheVariants as fault
use Rattle.morris_jobs.specs.Counted.{AnswersStated, PrintsTallies}
use Rattle.morris_jobs.specs.Faults.{count_fault}

-- what follows for each value follows where there is one
pub some_map : {X : Type 0} (o : Option X) (P Q : X → Type 0) → ((x : X) → P x → Q x) → IfSome o P → IfSome o Q
some_map None P Q f h = tt
some_map (Some x) P Q f h = f x h

pub both_some : {X : Type 0} (o : Option X) (P Q R : X → Type 0) → ((x : X) → P x → Q x → R x) → IfSome o P → IfSome o Q → IfSome o R
both_some None P Q R f h k = tt
both_some (Some x) P Q R f h k = f x h k

-- why positions aren't counted: want of memory, or a code that can't be read
pub refused_stated : {T A : Type 0} (board : Shape) (entries : CodedEntries) (csv : Bool) (output : Option (List ℕ)) (r : Result T Fault) (refused : CountFault)
    → r ≡ Err (count_fault refused) → (entries.unfailing ≡ true → ◌≡◌ {A = Result A CountFault} (Err refused) (Err count.Read) → ⊥)
    → AnswersStated board entries csv output output r
refused_stated board entries csv output r count.Memory is sure = inl (is, Keeps-refl output)
refused_stated board entries csv output r count.Read is sure =
    inr (inl (is, false_from_ne_true entries.unfailing (λ unfailing. sure unfailing refl), Keeps-refl output))

module _ (board : Shape) (t : Table) (exact : IsTable board t) where
  pub prints_game : {T : Type 0} (csv : Bool) (old new : Option (List ℕ)) (r : Result T Fault) → PrintsTallies board t.pair csv (HasStated board t) old new r
      → PrintsTallies board t.pair csv (HasCode board t.pair) old new r
  prints_game false old new r h = (h.0, game_tallies board t exact h.0 h.1, h.2)
  prints_game true old new r h =
      (h.0, h.1, (λ less. game_own board t exact t.pair.lesser h.0 (h.2 less)), game_own board t exact t.pair.greater h.1 h.3, h.4)

  module _ (entries : CodedEntries) (same : entries ≡ coded_entries t.layout t.pair (Some t.codes) true) where
    pub tallies_known : (tallies : List ℕ) → IfSome entries.stated (λ known. AreTallies (HasStated board (table_of entries known)) tallies)
        → HasTallies board t.pair tallies
    tallies_known tallies h =
        game_tallies board t exact tallies
        (subst (λ (e : CodedEntries). IfSome e.stated (λ known. AreTallies (HasStated board (table_of e known)) tallies)) same h)

    pub answers_game : {T : Type 0} (csv : Bool) (old new : Option (List ℕ)) (r : Result T Fault) → AnswersStated board entries csv old new r
        → ((r ≡ Err fault.Memory) × Keeps old new) ⊎ PrintsTallies board t.pair csv (HasCode board t.pair) old new r
    answers_game csv old new r h =
        elim (subst (λ (e : CodedEntries). AnswersStated board e csv old new r) same h) [
          | inl memory ↦ inl memory
          | inr (inl read) ↦
              let bad : true ≡ false = read.1 in
              cc
          | inr (inr prints) ↦ inr (prints_game csv old new r prints.1)
        ]

-- where no call fails, want of memory alone is left
pub memory_alone : {T : Type 0} (entries : CodedEntries) (t : Table) → entries ≡ coded_entries t.layout t.pair (Some t.codes) true → (refused : CountFault)
    → (entries.unfailing ≡ true → ◌≡◌ {A = Result T CountFault} (Err refused) (Err count.Read) → ⊥) → count_fault refused ≡ fault.Memory
memory_alone entries t same count.Memory sure = refl
memory_alone entries t same count.Read sure =
    absurd (sure (ap (λ (e : CodedEntries). e.unfailing) same) refl)
