-- What comes of verifying a table: it is refused for want of another, or else judged.
use Rattle.std.proofs.Common.{◌≡◌, ℕ, ◌<◌, Option, Some, None, Result, Ok, Err, IfOk, IfErr, refl, sym, ◌∙◌}
use Rattle.std.specs.Prelude.{◌↔◌, IsTrue, is_ok, IfSome}
use Rattle.std.proofs.lemmas.Bool.{false≢true}
use Rattle.morris_board.specs.Boards.{Shape}
use Rattle.morris_index.specs.Pairs.{Counts}
use Rattle.morris_pairs.specs.Agreement.{Agrees, IsFirstToDiffer}
use Rattle.morris_pairs.specs.Entries.{entry_count}
use Rattle.morris_pairs.specs.Tables.{Table, IsTable}
use Rattle.morris_pairs.specs.Verifying.{missing_in, differing_in, Verifies}
use Rattle.morris_pairs.specs.declared.shelf.Needs.{Needs as Wanted}
use Rattle.morris_pairs.specs.declared.verify.VerifyFault.{VerifyFault}
use Rattle.morris_pairs.specs.declared.verify.VerifyFault.TheVariants.{Needs}

module _ (B : Type 0) (board : Shape) (n : ℕ) (missing : Option Counts) (t : Table) where
  pub verifies_lacking : (needs : Wanted B) → missing ≡ Some needs.0 → Verifies {B = B} board n missing t (Err (t, Needs needs))
  verifies_lacking needs is = record {
    needs = sym is;
    exact = (λ never. absurd (false≢true never), λ both. let none = both.0 in cc);
    value = tt;
    differs = tt;
    given_back = refl;
    agreement = λ none. cc;
  }

  pub verifies_judged : (result : Result Table (Table × VerifyFault B)) → missing ≡ None → (IsTrue (is_ok result) ↔ IsTable board t) → IfOk result (λ x. x ≡ t)
      → IfErr result (λ refused. (missing_in refused.1 ≡ None) × IfSome (differing_in refused.1) (IsFirstToDiffer board t))
      → IfErr result (λ refused. refused.0 ≡ t) → (((i : ℕ) → i < entry_count board n t.layout t.pair → Agrees board t i) ↔ IsTable board t)
      → Verifies {B = B} board n missing t result
  verifies_judged (Ok x) none exact value differs back agreement = record {
    needs = none;
    exact = (λ yes. (none, exact.0 yes), λ both. exact.1 both.1);
    value = value;
    differs = tt;
    given_back = tt;
    agreement = λ _. agreement;
  }
  verifies_judged (Err refused) none exact value differs back agreement = record {
    needs = differs.0 ∙ sym none;
    exact = (λ yes. (none, exact.0 yes), λ both. exact.1 both.1);
    value = tt;
    differs = differs.1;
    given_back = back;
    agreement = λ _. agreement;
  }
