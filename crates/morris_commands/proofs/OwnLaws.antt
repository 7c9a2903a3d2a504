-- A pair that comes after those below it: what is known of it once they and its own are done.
use Rattle.std.proofs.Common.{◌≡◌, ◌≢◌, ℕ, Bool, true, List, Option, Result, sym, subst, ◌∙◌, inl, inr}
use Rattle.std.specs.List.{Contains}
use Rattle.std.proofs.lemmas.List.Elements.{Contains-push}
use Rattle.morris_board.specs.Boards.{Shape}
use Rattle.morris_index.specs.Pairs.{Counts, EndsIn, below_of}
use Rattle.morris_pairs.specs.declared.layout.Layout.{Layout}
use Rattle.morris_pairs.specs.Known.{IsBeyondCodes}
use Rattle.morris_pairs.specs.Shelves.{Stored, table_on}
use Rattle.morris_pairs.proofs.ShelfLaws.{cases_pair}
use Rattle.morris_jobs.specs.declared.fault.Fault.{Fault}
use Rattle.morris_jobs.specs.declared.fault.Fault.TheVariants as fault
use Rattle.morris_commands.specs.Build.{HasExact, HasExactBut, HasTooDeep, IsUnbuiltBefore, IsUnbuiltFor, RestsOnTooDeep, pairs_written}
use Rattle.morris_jobs.specs.Building.{HasExactAt, IsUnbuiltAt}
use Rattle.morris_jobs.specs.declared.counts.Form.{Form}
use Rattle.morris_commands.specs.Stats.{AnswersCounts, AnswersPair}
use Rattle.morris_commands.proofs.BuildLaws.{written_exact}

-- a pair is the last of those below it
pub is_below_itself : (pair : Counts) → EndsIn (below_of pair) pair → Contains (below_of pair) pair
is_below_itself pair last = subst (λ cs. Contains cs pair) (sym last.1) (Contains-push last.0 pair)

-- codes suffice for those below the pair, and for the pair itself
pub none_too_deep : (board : Shape) (pair : Counts) → ¬ RestsOnTooDeep board pair → ¬ IsBeyondCodes board pair → ¬ HasTooDeep board pair
none_too_deep board pair below itself = λ deep.
    elim (cases_pair deep.0 pair) [
      | inl same ↦ itself (subst (λ (d : Counts). IsBeyondCodes board d) same deep.2)
      | inr other ↦ below (deep.0, deep.1, other, deep.2)
    ]

module _ (board : Shape) (pair : Counts) (blocks : ℕ) where
  -- why those below it aren't built, or the pair itself where those that it needs are there
  pub unbuilt_before : (e : Fault) → IsUnbuiltBefore board pair blocks e → IsUnbuiltFor board pair blocks e
  unbuilt_before fault.Memory h = tt
  unbuilt_before (fault.Missing number) h = h.1
  unbuilt_before fault.TooDeep h = (h.0, h.1, h.3)
  unbuilt_before _ h = absurd h

  pub unbuilt_itself : EndsIn (below_of pair) pair → (e : Fault) → IsUnbuiltAt board pair blocks e → IsUnbuiltFor board pair blocks e
  unbuilt_itself last fault.Memory h = tt
  unbuilt_itself last (fault.Missing number) h = h
  unbuilt_itself last fault.TooDeep h = (pair, is_below_itself pair last, h)
  unbuilt_itself last _ h = absurd h

-- all tables are there where all are retained, and the pair's own is
pub with_own : (board : Shape) (l : Layout) (all : Bool) (pair : Counts) (tables new : Stored) → (all ≡ true → HasExactBut board l tables pair (below_of pair))
    → HasExactAt board l new pair → ((d : Counts) → d ≢ pair → table_on new d ≡ table_on tables d) → HasExact board l new (pairs_written all pair)
with_own board l all pair tables new every here others =
    written_exact board l new pair all
    (λ kept d m. elim (cases_pair d pair) [
      | inl same ↦ subst (HasExactAt board l new) (sym same) here
      | inr apart ↦ let at = every kept d m apart in (at.0, others d apart ∙ at.1, at.2, at.3, at.4)
    ]) here

-- what `stats` answers of a pair, by what it answers over its table
pub answers_pair : {T : Type 0} (board : Shape) (pair : Counts) (blocks : ℕ) (form : Form) (old new : Option (List ℕ)) (r : Result T Fault)
    → ¬ HasTooDeep board pair → AnswersCounts board pair form old new r → AnswersPair board pair blocks form old new r
answers_pair board pair blocks form old new r within counts =
    elim counts [
      | inl lacks ↦ inl (fault.Memory, lacks.0, tt, lacks.1)
      | inr prints ↦ inr (within, prints)
    ]
