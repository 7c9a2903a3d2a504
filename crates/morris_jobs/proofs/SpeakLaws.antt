-- What reporting one event does to the state of a progress printer.
use Rattle.std.proofs.Common.{◌≡◌, ℕ, ◌-◌, ◌^◌, ◌<◌, Bool, true, false, List, [], ◌∷◌, Option, Result, Ok, Err, is_ok, inl, inr, refl, sym, ◌∙◌, arith}
use Rattle.std.proofs.lemmas.Bool.{cases_Bool, cases_lt}
use Rattle.morris_board.specs.Streams.{CountsFailure}
use Rattle.morris_board.specs.Printers.{WentOut}
use Rattle.morris_jobs.specs.declared.progress_printer.ProgressEvent.{ProgressEvent}
use Rattle.morris_jobs.specs.declared.progress_printer.ProgressPrinter.{ProgressPrinter}
use Rattle.morris_jobs.specs.Progress.{Becomes, BeginsWithWhole, Continues, MayReport, Speaks, ProgressState, Reports, HasReported, has_begun_of, event_line, progress_state_of, whole_of}
use Rattle.morris_jobs.specs.ProgressLaws.{Continues-silent, counts_up}

module _ {E : Type 0} (contents : E → Option (List ℕ)) (failures : E → ℕ) where
  -- one line was written
  Reports-line : (rewrites : Bool) (a b : E) (n : ProgressEvent) (sent : Result (Unit {0}) ℕ) → WentOut (contents a) (contents b) (event_line rewrites n) sent
      → CountsFailure (failures a) (failures b) sent → failures a < 2 ^ 64 - 3 → Reports contents failures rewrites a b
  unfolding HasReported
  Reports-line rewrites a b n sent out counted room =
      let most = (counts_up (failures a) (failures b) sent counted).1 in
      record {
        lines = n ∷ [];
        reported = (b, (sent, out, counted), tt, refl);
        once = most;
        room = λ h. omega (arith, room, most);
      }

  -- the state, where this is known of how much there is to do
  abbrev pub knowing : ProgressState E → Bool → ℕ → ProgressState E
  knowing a begun whole = record { lent = a.lent; sink = a.sink; reports = a.reports; rewrites = a.rewrites; has_begun = begun; whole = whole }

  -- Where an event is reported, before which it may become known how much there is to do, reporting
  -- goes on if its line went out.
  pub Continues-speaks : (a b : ProgressState E) (n : ProgressEvent) (begun : Bool) (whole : ℕ) → Speaks contents failures (knowing a begun whole) b n
      → (a.has_begun ≡ false → begun ≡ true → BeginsWithWhole b.has_begun b.reports b.whole (n ∷ []))
      → (a.has_begun ≡ true → (begun ≡ true) × (whole ≡ a.whole)) → Continues contents failures a b
  unfolding Reports-line
  Continues-speaks a b n begun whole speaks first unchanged = elim (cases_Bool a.reports) [
    | inr none ↦
        let s = speaks.silent none in
        Continues-silent contents failures a b speaks.same speaks.rewrites s.1 (λ e. s.0) (λ new known. s.0) keeps
    | inl reports ↦ elim (cases_Bool begun) [
      | inr early ↦
          let s = speaks.early early in
          Continues-silent contents failures a b speaks.same speaks.rewrites s.1 (λ e. s.0 ∙ e)
          (λ new known.
          let bad : true ≡ false = sym known ∙ (speaks.begun ∙ early) in
          cc)
          keeps
      | inl known ↦ elim (cases_lt (failures a.sink) (2 ^ 64 - 3)) [
        | inl room ↦
            let said = speaks.said reports known room in
            record {
              same = speaks.same;
              silent = λ none.
                  let bad : true ≡ false = sym reports ∙ none in
                  cc;
              rewrites = speaks.rewrites;
              reported = Reports-line a.rewrites a.sink b.sink n said.0 said.1 said.2 room;
              unfailed = λ still. uncounted said.0 said.2 (sym said.3 ∙ still);
              first = λ new. first new known;
              unchanged = keeps;
            }
        | inr full ↦
            let s = speaks.cramped reports known (omega (arith, full)) in
            Continues-silent contents failures a b speaks.same speaks.rewrites s.1 (λ e. s.0) (λ new known. s.0) keeps
      ]
    ]
  ]
    where
      keeps : a.has_begun ≡ true → (b.has_begun ≡ true) × (b.whole ≡ a.whole)
      keeps e = let same = unchanged e in (speaks.begun ∙ same.0, speaks.whole ∙ same.1)

      uncounted : (sent : Result (Unit {0}) ℕ) → CountsFailure (failures a.sink) (failures b.sink) sent → is_ok sent ≡ true → failures b.sink ≡ failures a.sink
      uncounted (Ok done) e h = e
      uncounted (Err part) e h = cc

  module _ {R : Type 0} where
    -- reporting one event
    pub Becomes-speaks : (p q : ProgressPrinter R E) (n : ProgressEvent) → Speaks contents failures (progress_state_of p) (progress_state_of q) n → Becomes contents failures p q
    Becomes-speaks p q n speaks =
        Continues-speaks (progress_state_of p) (progress_state_of q) n (has_begun_of p) (whole_of p) speaks
        (λ new known.
        let bad : true ≡ false = sym known ∙ new in
        cc)
        (λ known. (known, refl))

    -- its line, or none where it isn't known yet how much there is to do
    pub MayReport-speaks : (p q : ProgressPrinter R E) (n : ProgressEvent) → Speaks contents failures (progress_state_of p) (progress_state_of q) n → MayReport contents failures p q n
    MayReport-speaks p q n speaks = elim (cases_Bool (has_begun_of p)) [
      | inl known ↦ inr (λ reports room.
          let said = speaks.said reports known (omega (arith, room)) in
          (said.0, said.1, said.2))
      | inr early ↦ inl (speaks.early early).1
    ]
