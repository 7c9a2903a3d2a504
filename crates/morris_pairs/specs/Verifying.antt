-- When a table is believed, and why one wasn't.
use Rattle.std.specs.Prelude.{◌≡◌, ℕ, ◌<◌, ◌↔◌, Option, Some, None, Result, IsTrue, is_ok, IfOk, IfErr, IfSome, MatchResult}
use Rattle.morris_board.specs.Boards.{Shape}
use Rattle.morris_index.specs.Pairs.{Counts}
use Rattle.morris_pairs.specs.Agreement.{Agrees, IsFirstToDiffer}
use Rattle.morris_pairs.specs.Entries.{entry_count}
use Rattle.morris_pairs.specs.Tables.{Table, IsTable}
use Rattle.morris_pairs.specs.declared.verify.VerifyFault.{VerifyFault}
use Rattle.morris_pairs.specs.declared.verify.VerifyFault.TheVariants.{Needs, Differs}

-- the pair whose table is wanted, if that is the reason
abbrev pub missing_in : {B : Type 0} → VerifyFault B → Option Counts
missing_in (Needs needs) = Some needs.0
missing_in (Differs index) = None

-- the entry that doesn't agree, if that is the reason
abbrev pub differing_in : {B : Type 0} → VerifyFault B → Option ℕ
differing_in (Needs needs) = None
differing_in (Differs index) = Some index

-- What comes of verifying a table on n points, where `missing` is the first of the pairs that it
-- needs whose table isn't at hand, if there is one.
pub record Verifies {B : Type 0} (board : Shape) (n : ℕ) (missing : Option Counts) (t : Table) (result : Result Table (Table × VerifyFault B)) : Type 0 where
  -- it is refused for a missing table before all else, and this one is named
  pub needs : MatchResult result (λ _. missing ≡ None) (λ refused. missing_in refused.1 ≡ missing)
  -- it is believed exactly where none is missing and it is exact
  pub exact : IsTrue (is_ok result) ↔ ((missing ≡ None) × IsTable board t)
  pub value : IfOk result (λ exact. exact ≡ t)
  -- otherwise the first entry is named that doesn't agree
  pub differs : IfErr result (λ refused. IfSome (differing_in refused.1) (IsFirstToDiffer board t))
  pub given_back : IfErr result (λ refused. refused.0 ≡ t)
  -- a table is exact where all of its entries agree, and only there
  pub agreement : missing ≡ None → (((i : ℕ) → i < entry_count board n t.layout t.pair → Agrees board t i) ↔ IsTable board t)
